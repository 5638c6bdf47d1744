-- Walk and handing out, as far as each goes on without a halt: what the steps of document 01 do, all at once.
-- In order: Walk steps that move on; a Follow to a key in range and its Hand; how far a session gets. `made` steps are
-- made, and `more` may be made here.
-- That these are the steps, one after the other, is proved (crate several, proofs/Far.antt).
-- Not here: the steps (crate steps). Assumes nothing.
use Rattle.std.specs.Prelude.{ℕ, zero, suc, ◌+◌, ◌*◌, List, Bool, cond, ◌&&◌, length, ltb, leb}
use Rattle.std.specs.Prelude.{Option, Some, None, Result, Ok, Err}
use Rattle.table.specs.Table.{store_of}
use Rattle.bundle.specs.Bundle.{at_of}
use Rattle.bundle.specs.declared.Held.{Held}
use Rattle.nodes.specs.Nodes.{key_at, value_at, newest_at}
use Rattle.terms.specs.Terms.{sought_of, high_of, names_of}
use Rattle.terms.specs.declared.Op.{Op}
use Rattle.terms.specs.declared.Size.{Size}
use Rattle.steps.specs.declared.Phase.{Phase}
use Rattle.steps.specs.declared.Session.{Session}
use Rattle.steps.specs.Steps.{moves_on}
use Rattle.register.specs.Register.{fits}
use Rattle.onward.specs.declared.Walked.{Walked}
use Rattle.onward.specs.declared.Handing.{Handing}
use Rattle.onward.specs.declared.Far.{Far}

-- ---- Walk, as long as curr's key is below the key sought
abbrev pub walked_to : ℕ → ℕ → ℕ → Walked
walked_to pred curr made = record { pred = pred; curr = curr; made = made }

-- what comes where a node is found, and where none is
abbrev pub on_found : {A : Type 0} → Option ℕ → (ℕ → A) → A → A
on_found (Some to) next stay = next to
on_found None next stay = stay

unfoldable pub walk_on : ℕ → Size → List ℕ → ℕ → ℕ → ℕ → ℕ → Walked
walk_on zero z ns sought pred curr made = walked_to pred curr made
walk_on (suc more) z ns sought pred curr made =
    on_found (moves_on z ns sought curr) (λ next. walk_on more z ns sought curr next (made + 1))
    (walked_to pred curr made)

-- ---- the node in range that Follow leads to, if it does
unfoldable pub in_range : Size → List ℕ → ℕ → ℕ → ℕ → Option ℕ
in_range z ns low high to =
    cond (ltb to z.nodes && (leb low (key_at ns to) && leb (key_at ns to) high)) (Some to) None

abbrev pub on_taken : Size → List ℕ → ℕ → ℕ → Result ℕ Held → Option ℕ
on_taken z ns low high (Ok to) = in_range z ns low high to
on_taken z ns low high (Err held) = None

unfoldable pub followed_to : Size → List ℕ → List ℕ → ℕ → ℕ → ℕ → ℕ → Option ℕ
followed_to z ns es low high at snapshot =
    cond (ltb at z.nodes) (on_taken z ns low high (at_of z.entries es (newest_at ns at) snapshot)) None

-- ---- the lent pairs: key n stands at word 2n, its value after it; is there room for n of them and one more
unfoldable pub has_room : List ℕ → ℕ → Bool
has_room ps n = leb (n * 2 + 2) (length ps)

abbrev pub put_pair : List ℕ → ℕ → ℕ → ℕ → List ℕ
put_pair ps n key value = store_of 2 (store_of 2 ps n 0 key) n 1 value

-- ---- Follow and Hand, two steps a key, as long as a key in range follows and another finds room after it
pub data Handed : Type 0 where
  handed_to : List ℕ → Handing → Handed

abbrev pub handed_at : ℕ → ℕ → ℕ → ℕ → Handing
handed_at at handed count made = record { at = at; handed = handed; count = count; made = made }

-- the key that comes next, where it may be handed out and another finds room after it
unfoldable pub next_key : Size → List ℕ → List ℕ → List ℕ → ℕ → ℕ → ℕ → ℕ → ℕ → ℕ → Option ℕ
next_key z ns es ps low high snapshot at handed count =
    cond (ltb handed z.keys && has_room ps (count + 1)) (followed_to z ns es low high at snapshot) None

unfoldable pub hand_on : ℕ → Size → List ℕ → List ℕ → ℕ → ℕ → ℕ → List ℕ → ℕ → ℕ → ℕ → ℕ → Handed
hand_on zero z ns es low high snapshot ps at handed count made = handed_to ps (handed_at at handed count made)
hand_on (suc zero) z ns es low high snapshot ps at handed count made = handed_to ps (handed_at at handed count made)
hand_on (suc (suc more)) z ns es low high snapshot ps at handed count made =
    on_found (next_key z ns es ps low high snapshot at handed count)
    (λ to. hand_on more z ns es low high snapshot (put_pair ps count (key_at ns to) (value_at ns to)) to (handed + 1)
    (count + 1) (made + 2))
    (handed_to ps (handed_at at handed count made))

-- ---- how far a session gets: the pairs, and its record with how many pairs are filled and how many steps are made
pub data Reach : Type 0 where
  reached : List ℕ → Far → Reach

abbrev pub stays : List ℕ → Session → ℕ → ℕ → Reach
stays ps s count made = reached ps (record { session = s; count = count; made = made })

abbrev pub walk_far : Op → ℕ → Walked → Far
walk_far op count w =
    record { session = record { op = op; phase = Phase.Walk w.pred w.curr }; count = count; made = w.made }

abbrev pub hand_far : Op → ℕ → Handed → Reach
hand_far op snapshot (handed_to ps h) =
    stays ps (record { op = op; phase = Phase.Follow h.at snapshot h.handed }) h.count h.made

-- walking and handing out go on, and the other phases stay
abbrev pub on_course : Phase → ℕ → Size → List ℕ → List ℕ → List ℕ → Session → ℕ → ℕ → Reach
on_course (Phase.Walk pred curr) more z ns es ps s count made =
    reached ps (walk_far s.op count (walk_on more z ns (sought_of s.op) pred curr made))
on_course (Phase.Follow at snapshot handed) more z ns es ps s count made =
    hand_far s.op snapshot
    (hand_on more z ns es (sought_of s.op) (high_of s.op) snapshot ps at handed count made)
on_course phase more z ns es ps s count made = stays ps s count made

-- only where a step would be made: right lengths, a session of the sixteen, an operation
unfoldable pub far_of : ℕ → Size → List ℕ → List ℕ → List ℕ → ℕ → Session → ℕ → ℕ → Reach
far_of more z ns es ps who s count made =
    cond (fits z ns es && (ltb who 16 && names_of s.op))
    (on_course s.phase more z ns es ps s count made)
    (stays ps s count made)
