-- The beginning has what the list keeps of its own, whatever stamp and nodes with a history it begins with.
-- In order: plain links and rows agree; what the list keeps.
-- Not here: its history (crate order). Assumes nothing.
use mathlib.Core.Path.{◌≡◌, refl, ◌∙◌, ap}
use mathlib.Core.Logic.{inl, inr, ⊎_elim}
use mathlib.Core.Option.{none, some}
use mathlib.Core.List.Memᴰ
use mathlib.Core.List.{List, [], ◌∷◌, ◌++◌, Memᴰ}
use Prim.Native.Nat.{ℕ}
use native.Mathlib.Decide.{ℕ_discrete}
use native.Mathlib.Omega.{arith}
use borrow.Author.Tests.{eq-eqb, ne_eqb}
use Rattle.order.specs.Rows.{look}
use Rattle.order.specs.History.{head, tail, next, Start, stamp, members, History, linked, rows_from}
use Rattle.order.proofs.Rows.{none_some, look_take}
use Rattle.order.proofs.Keeps.{linked_out, link_rises}
use Rattle.order.proofs.Near.{link_target}
use Rattle.drawing.specs.Drawing.{plainly, final, beginning}
use Rattle.drawing.proofs.Change.{final_pending, final_same}
use Rattle.drawing.proofs.Inv.{On, Own}
use Rattle.drawing.proofs.Owes.{below_tail}

-- ---- each node's row has one pair, which leads where its plain link does
pub linked_plainly : (base p x : ℕ) (ns : List ℕ) → Memᴰ x (p ∷ ns) →
    linked base p (ns ++ (tail ∷ [])) x ≡ (base, plainly p (ns ++ (tail ∷ [])) x) ∷ []
unfolding linked plainly
linked_plainly base p x [] m = elim (ℕ_discrete x p) [
  | yes x≡p ↦ rw (eq-eqb x p x≡p)
  | no x≢p ↦ absurd (⊎_elim x≢p Memᴰ.not-nil (Memᴰ.cases_cons m))
]
linked_plainly base p x (n ∷ ns) m = elim (ℕ_discrete x p) [
  | yes x≡p ↦ rw (eq-eqb x p x≡p)
  | no x≢p ↦ rw (ne_eqb x p x≢p)
      (linked_plainly base n x ns (⊎_elim (λ e. absurd (x≢p e)) (λ k. k) (Memᴰ.cases_cons m)))
]

module _ (key val : ℕ → ℕ) (start : Start) (H : History key start (rows_from start) []) where
  -- a node that is given at the beginning is the head or a starting node
  begin_in : (x : ℕ) → On start (beginning start) x → Memᴰ x (head ∷ members key start [])
  unfolding beginning members
  begin_in x on =
      ⊎_elim Memᴰ.head (λ g. Memᴰ.tail (⊎_elim (λ l. l) (λ i. absurd (Memᴰ.not-nil i)) g)) on

  begin_leads : (x : ℕ) → Memᴰ x (head ∷ members key start []) →
      next (rows_from start) (stamp start []) x ≡ some (plainly head (start.loaded ++ (tail ∷ [])) x)
  unfolding members
  begin_leads x m = ap (look (stamp start [])) (linked_plainly start.base head x start.loaded m)
      ∙ look_take (stamp start []) start.base (plainly head (start.loaded ++ (tail ∷ [])) x) [] (omega arith)

  tail_out : ¬ Memᴰ tail (members key start [])
  tail_out m = omega (arith, below_tail key start (rows_from start) [] H tail (Memᴰ.tail m))

  tail_empty : rows_from start tail ≡ []
  unfolding members
  tail_empty = linked_out start.base head tail start.loaded (omega arith) tail_out

  -- ---- THE BEGINNING
  pub begin_own : Own key val start (beginning start)
  unfolding beginning members
  begin_own = record {
    once = tt;
    links = λ x on. let m = begin_in x on in let l = begin_leads x m in (
      link_rises key start (rows_from start) [] H x _ m l,
      ⊎_elim inr (λ k. inl (inr (inl k))) (link_target key start (rows_from start) [] H x _ m l),
    );
    free = λ x _ on _. let m = begin_in x on in (m, begin_leads x m);
    held = λ t x l. none_some none t refl l;
    settled = λ x r b. final_same b;
    owned = λ t x c g r b. final_pending _ t c g _ r refl b;
    ends = ap final tail_empty;
    begun = λ t. (omega arith, omega arith);
    facts = λ t. tt;
  }
