-- The trail of a snapshot: along links to the tail it is their nodes; from a removed node it is the head and all.
-- In order: one link; links to the tail; links by the head; members, keys.
-- Not here: which links there are. Assumes nothing.
use mathlib.Core.Path.{◌≡◌, refl, sym, ◌∙◌, ap}
use mathlib.Core.Logic.{◌≢◌, ⊎_elim}
use mathlib.Core.Bool.{cond}
use mathlib.Core.Option.{Option, some}
use mathlib.Core.List.Memᴰ
use mathlib.Core.List.{List, [], ◌∷◌, ◌++◌, Memᴰ}
use Prim.Native.Nat.{ℕ, zero, suc, ◌<◌}
use native.Mathlib.Omega.{arith}
use borrow.Author.Tests.{eq-eqb, ne_eqb}
use lib.Dec.{eqb}
use lib.ListN.{length}
use Rattle.fairness.specs.Weigh.{Rising}
use Rattle.fairness.specs.Trail.{Keyed, key_of, keyed, trail, Leads}

module _ (key : ℕ → ℕ) (f : ℕ → Option ℕ) (tail : ℕ) where
  -- ---- one link
  trail_some : (fuel p x : ℕ) → f p ≡ some x
      → trail key f tail (suc fuel) p ≡ cond (eqb x tail) [] ((x, key x) ∷ trail key f tail fuel x)
  unfolding trail
  trail_some fuel p x e = rw (e, trail)

  pub trail_end : (fuel p : ℕ) → f p ≡ some tail → trail key f tail (suc fuel) p ≡ []
  trail_end fuel p e = trail_some fuel p tail e ∙ rw (eq-eqb tail tail refl)

  pub trail_link : (fuel p x : ℕ) → f p ≡ some x → x ≢ tail
      → trail key f tail (suc fuel) p ≡ (x, key x) ∷ trail key f tail fuel x
  trail_link fuel p x e x≢tail = trail_some fuel p x e ∙ rw (ne_eqb x tail x≢tail)

  -- ---- links to the tail
  pub trail_leads : (ns : List ℕ) (p fuel : ℕ) → Leads f p (ns ++ (tail ∷ [])) → ¬ Memᴰ tail ns
      → length ns < fuel → trail key f tail fuel p ≡ keyed key ns
  trail_leads ns p zero c t h = absurd (omega arith)
  trail_leads [] p (suc fuel) c t h = trail_end fuel p c.0
  trail_leads (n ∷ ns) p (suc fuel) c t h =
      trail_link fuel p n c.0 (λ z. t (Memᴰ.head (sym z)))
      ∙ ap (λ l. (n, key n) ∷ l) (trail_leads ns n fuel c.1 (λ m. t (Memᴰ.tail m)) (omega arith))

  -- ---- links by the head, from a removed node
  pub trail_by_head : (head : ℕ) (ns : List ℕ) (p fuel : ℕ) → f p ≡ some head → head ≢ tail
      → Leads f head (ns ++ (tail ∷ [])) → ¬ Memᴰ tail ns → suc (length ns) < fuel
      → trail key f tail fuel p ≡ (head, key head) ∷ keyed key ns
  trail_by_head head ns p zero e d c t h = absurd (omega arith)
  trail_by_head head ns p (suc fuel) e d c t h =
      trail_link fuel p head e d ∙ ap (λ l. (head, key head) ∷ l) (trail_leads ns head fuel c t (omega arith))

-- ---- members and keys
module _ (key : ℕ → ℕ) where
  pub keyed_member : (x : Keyed) (ns : List ℕ) → Memᴰ x (keyed key ns) → Memᴰ x.0 ns
  keyed_member x [] m = absurd (Memᴰ.not-nil m)
  keyed_member x (n ∷ ns) m = ⊎_elim
      (λ e. Memᴰ.head (ap (λ (y : Keyed). y.0) e))
      (λ k. Memᴰ.tail (keyed_member x ns k))
      (Memᴰ.cases_cons m)

  pub keyed_rising : (ns : List ℕ) (p : ℕ) → Rising key p ns → Rising key_of p (keyed key ns)
  keyed_rising [] p r = tt
  keyed_rising (n ∷ ns) p r = (r.0, keyed_rising ns (key n) r.1)
