-- A register that is fresh or was read from a listing, and went on by starts and steps (demands 2 and 3), with its
-- history: for one read from a listing, the inserts of its keys are the updates so far, and no session has anything
-- under way.
-- In order: a listing's history; registers made; histories that tell the same of what is under way.
-- Not here: that each is a reached one with such a history (proofs/Made.antt). Assumes nothing.
use Rattle.std.specs.Prelude.{ℕ, ◌≡◌, ◌≢◌, List, [], Ok}
use Rattle.terms.specs.declared.Size.{Size}
use Rattle.terms.specs.declared.Counters.{Counters}
use Rattle.terms.specs.declared.Op.{Op}
use Rattle.steps.specs.Steps.{tables}
use Rattle.register.specs.Register.{fresh_of, opened}
use Rattle.sixteen.specs.declared.Call.{Call}
use Rattle.sixteen.specs.Sixteen.{fresh_register}
use Rattle.reached.specs.Reached.{State, go, Past, no_past, note, InWords}
use Rattle.loading.specs.Loading.{done, load_of}
use Rattle.loaded.specs.Calls.{inserts, keys_in, values_in}

abbrev pub listed_past : List ℕ → Past
listed_past s = record {
  updates = inserts (keys_in s) (values_in s);
  under = λ who. Op.None;
  since = λ who. 0;
  handed = λ who. [];
}

pub data Made (z : Size) : State → Past → Type 0 where
  fresh : (ns es ns' es' : List ℕ) (c : Counters) → fresh_of z ns es ≡ opened ns' es' (Ok c) →
      Made z (record { nodes = ns'; entries = es'; register = fresh_register c }) no_past
  loaded : (s ns es ns' es' : List ℕ) (c : Counters) →
      load_of z s ns es ≡ done (tables ns' es') (Ok c) →
      Made z (record { nodes = ns'; entries = es'; register = fresh_register c }) (listed_past s)
  on : {σ : State} {h : Past} → Made z σ h → (c : Call) → InWords c → Made z (go z σ c) (note z σ c h)

-- ---- the same updates and operations under way; and of those, the same stamps at the start and keys handed out
pub record Alike (h k : Past) : Type 0 where
  pub updates : h.updates ≡ k.updates
  pub under : h.under ≡ k.under
  pub since : (who : ℕ) → k.under who ≢ Op.None → h.since who ≡ k.since who
  pub handed : (who : ℕ) → k.under who ≢ Op.None → h.handed who ≡ k.handed who
