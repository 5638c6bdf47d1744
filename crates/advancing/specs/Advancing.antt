-- The short ways of an update: what is tested of its words and of the nodes, and the number of the phase that the step
-- then leads to, None where a test fails.
-- In order: an update's words; what is told; Walk that arrives; Lock; Check; Link; by the phase. `z` is the size, `ns`
-- are the nodes. Phases by their numbers: 1 Walk, 2 Lock, 3 LockCurr, 4 Check, 5 Prepare, 7 Link, 8 Finish.
-- Not here: that this is the step (proofs/Agrees.antt). Assumes nothing.
use Rattle.std.specs.Prelude.{ℕ, ◌+◌, List, Bool, true, false, cond, ◌&&◌, ltb, eqb, Option, Some, None}
use Rattle.nodes.specs.Nodes.{put_node, key_at, next_at, lock_at, removed_at}
use Rattle.terms.specs.declared.Size.{Size}
use Rattle.steps.specs.Steps.{free}
use Rattle.encoding.specs.declared.OpWords.{OpWords}
use Rattle.encoding.specs.declared.PhaseWords.{PhaseWords}
use Rattle.encoding.specs.Encoding.{same_three}

-- ---- an insert's words, or a remove's, which does not use the second
unfoldable pub updates_of : OpWords → Bool
updates_of o = cond (eqb o.kind 1) true (cond (eqb o.kind 2) (eqb o.second 0) false)

abbrev pub removing : OpWords → Bool
removing o = eqb o.kind 2

-- ---- what is told: the nodes, and the phase's number
pub data Advanced : Type 0 where
  advanced : List ℕ → Option ℕ → Advanced

abbrev pub still : List ℕ → Advanced
still ns = advanced ns None

-- ---- Walk that arrives
unfoldable pub arrive_ahead : Size → List ℕ → ℕ → ℕ → Option ℕ
arrive_ahead z ns sought curr = cond (ltb curr z.nodes) (cond (ltb (key_at ns curr) sought) None (Some 2)) None

-- ---- Lock: the node is free, and the phase then
unfoldable pub lock_ahead : Size → List ℕ → ℕ → ℕ → ℕ → Advanced
lock_ahead z ns who n then =
    cond (ltb n z.nodes)
    (cond (free who (lock_at ns n)) (advanced (put_node ns n 3 (who + 1)) (Some then)) (still ns))
    (still ns)

-- ---- Check: pred leads to curr; an insert's key is not there, a remove's is
unfoldable pub stands_of : Size → List ℕ → ℕ → ℕ → Bool
stands_of z ns pred curr =
    ltb pred z.nodes && (ltb curr z.nodes && (eqb (removed_at ns pred) 0 && eqb (next_at ns pred) curr))

unfoldable pub remove_ahead : List ℕ → ℕ → ℕ → Option ℕ
remove_ahead ns sought curr =
    cond (eqb (removed_at ns curr) 0) (cond (eqb (key_at ns curr) sought) (Some 5) None) None

unfoldable pub check_ahead : Size → List ℕ → Bool → ℕ → ℕ → ℕ → Option ℕ
check_ahead z ns removes sought pred curr =
    cond (stands_of z ns pred curr)
    (cond removes (remove_ahead ns sought curr) (cond (eqb (key_at ns curr) sought) None (Some 5)))
    None

-- ---- Link
unfoldable pub link_ahead : Size → List ℕ → Bool → ℕ → ℕ → Advanced
link_ahead z ns removes pred node =
    cond (ltb pred z.nodes)
    (cond removes
    (cond (ltb node z.nodes) (advanced (put_node (put_node ns node 4 1) pred 2 (next_at ns node)) (Some 8)) (still ns))
    (advanced (put_node ns pred 2 node) (Some 8)))
    (still ns)

-- ---- by the phase
unfoldable pub early_ahead : Size → List ℕ → ℕ → Bool → ℕ → ℕ → ℕ → ℕ → Advanced
early_ahead z ns who removes sought phase pred curr =
    cond (eqb phase 1) (advanced ns (arrive_ahead z ns sought curr))
    (cond (eqb phase 2) (lock_ahead z ns who pred (cond removes 3 4))
    (cond (eqb phase 3) (lock_ahead z ns who curr 4)
    (cond (eqb phase 4) (advanced ns (check_ahead z ns removes sought pred curr)) (still ns))))

-- the words that the first phases do not use are 0
abbrev pub early_zeros : PhaseWords → Bool
early_zeros p = same_three p.c p.d p.e 0 0 0

unfoldable pub advance_of : Size → List ℕ → ℕ → OpWords → PhaseWords → Advanced
advance_of z ns who o p =
    cond (updates_of o)
    (cond (eqb p.phase 7) (link_ahead z ns (removing o) p.a p.b)
    (cond (early_zeros p) (early_ahead z ns who (removing o) o.first p.phase p.a p.b) (still ns)))
    (still ns)
