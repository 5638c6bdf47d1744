-- What every refusal through the library has in common.
-- In order: a number that is returned is the register's refusal's; such an answer hands out no key and ends the call;
-- what the register keeps; what the calls check before they read a record. Assumes nothing.
use Prim.Native.Nat.{ℕ}
use mathlib.Core.Path.{◌≡◌, refl, ◌∙◌}
use mathlib.Core.Logic.{◌≢◌}
use mathlib.Core.Bool.{Bool, true, false, cond}
use mathlib.Core.List.{List}
use Rattle.terms.specs.Terms.{Refuses}
use Rattle.terms.specs.declared.Answer.{Answer}
use Rattle.steps.specs.declared.Session.{Session}
use Rattle.steps.specs.declared.Stepped.{Stepped}
use Rattle.steps.specs.Steps.{done}
use Rattle.demands.specs.Demands.{Kept}
use Rattle.std.specs.Prelude.{Ok}
use Rattle.encoding.specs.Encoding.{decode}
use Rattle.packing.specs.Packing.{counters_at, record_at, reply_of, number_of}
use Rattle.several.specs.Several.{handed, hand_out, goes_on}
use Rattle.calling.specs.Calling.{kept}
use Rattle.ffi.proofs.Kept.{words_kept}
use Rattle.driven.specs.Always.{Unchanged}

-- ---- the number that a call returns is its refusal's
pub refuses_number : (a : Answer) (n : ℕ) → n ≢ 0 → n ≡ number_of (reply_of a) → Refuses n a
unfolding number_of
refuses_number Answer.Started n some e = absurd (some e)
refuses_number Answer.Working n some e = absurd (some e)
refuses_number Answer.Waiting n some e = absurd (some e)
refuses_number (Answer.Key k v) n some e = absurd (some e)
refuses_number (Answer.Inserted m) n some e = absurd (some e)
refuses_number (Answer.Removed m) n some e = absurd (some e)
refuses_number Answer.Present n some e = absurd (some e)
refuses_number Answer.Absent n some e = absurd (some e)
refuses_number (Answer.End t m) n some e = absurd (some e)
refuses_number (Answer.Refused why) n some e = record { name = refl; values = rw e }

-- ---- and such an answer hands out no key, and ends the call
pub refused_hands : (a : Answer) (n : ℕ) → n ≢ 0 → n ≡ number_of (reply_of a)
    → (ps : List ℕ) (m : ℕ) → hand_out ps m a ≡ handed ps m
unfolding number_of
refused_hands (Answer.Key k v) n some e ps m = absurd (some e)
refused_hands a n some e ps m = refl

pub refused_ends : (a : Answer) (n : ℕ) → n ≢ 0 → n ≡ number_of (reply_of a)
    → (ps : List ℕ) (m : ℕ) → goes_on ps m a ≡ false
unfolding number_of
refused_ends Answer.Working n some e ps m = absurd (some e)
refused_ends (Answer.Key k v) n some e ps m = absurd (some e)
refused_ends a n some e ps m = refl

-- ---- what the register keeps, the slices keep: the words put back are those that were there
pub kept_unchanged : (ws : List ℕ) (who : ℕ) (s : Session) → decode (record_at ws who) ≡ Ok s
    → (ns es ns₁ es₁ ns' es' ws' : List ℕ) (r : Stepped) → Kept ns es (counters_at ws) s (done ns₁ es₁ r) → ns' ≡ ns₁
    → es' ≡ es₁ → ws' ≡ kept ws who r.counters r.session → Unchanged ns es ws ns' es' ws'
kept_unchanged ws who s read ns es ns₁ es₁ ns' es' ws' r K nodes entries words = record {
  nodes = nodes ∙ K.nodes;
  entries = entries ∙ K.entries;
  words = words ∙ rw (K.counters, K.session) (words_kept ws who s read);
}

-- ---- what the calls check first: all ways but the last leave everything
pub checked_by : {A : Type 0} (P : A → Type 0) (silent : A) (refused : ℕ → A) (goes : A) (a b c : Bool) → P silent
    → ((m : ℕ) → P (refused m)) → P goes → P (cond a (cond b (cond c goes (refused 1)) (refused 7)) silent)
checked_by P silent refused goes true true true s r g = g
checked_by P silent refused goes true true false s r g = r 1
checked_by P silent refused goes true false c s r g = r 7
checked_by P silent refused goes false b c s r g = s
