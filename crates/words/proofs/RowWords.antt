-- Rows in the words after each effect: a new node, an entry laid, an entry made final.
-- In order: falling entry numbers; a drawing with other bundles; rows that stay; a new node's; laying; finishing.
-- Not here: plain links, locks and marks (NodeWords). Assumes nothing.
use Prim.Native.Nat.{ℕ, ◌+◌, ◌*◌, ◌≤◌, ◌<◌}
use mathlib.Core.Path.{◌≡◌, refl, sym, ◌∙◌, ap, subst}
use mathlib.Core.Logic.{◌⊎◌, inl, inr, ⊎_elim, ◌≢◌}
use mathlib.Core.List.Memᴰ
use mathlib.Core.List.{List, [], ◌∷◌, Memᴰ}
use native.Mathlib.Decide.{ℕ_discrete}
use native.Mathlib.Omega.{arith}
use lib.ListN.{length}
use Rattle.table.proofs.Laws.{word_stored, word_else}
use Rattle.nodes.specs.Nodes.{put_node, newest_at}
use Rattle.order.specs.Rows.{Row}
use Rattle.bundle.specs.Bundle.{lay_of, finish_of}
use Rattle.bundle.specs.Shows.{Shows}
use Rattle.bundle.proofs.Promise.{lay_front, lay_other, finish_front, finish_other}
use Rattle.drawing.specs.Drawing.{change, Owned, final, pending, shown, Drawing}
use Rattle.drawing.proofs.Change.{change_cases, change_same, change_other}
use Rattle.words.proofs.Show.{Sinks, Rows, Newest}

-- ---- strictly falling entry numbers
pub sinks_below : (b : ℕ) (own : List ℕ) (e : ℕ) → Sinks b own → Memᴰ e own → e < b
sinks_below b [] e s i = absurd (Memᴰ.not-nil i)
sinks_below b (d ∷ own) e s i =
    ⊎_elim (λ z. omega (arith, z, s.0)) (λ j. omega (arith, s.0, sinks_below d own e s.1 j))
    (Memᴰ.cases_cons i)

pub sinks_more : (b b' : ℕ) (own : List ℕ) → b ≤ b' → Sinks b own → Sinks b' own
sinks_more b b' [] b≤b' s = tt
sinks_more b b' (e ∷ own) b≤b' s = (omega (arith, s.0), s.1)

-- a number from the bound on is not in the row
pub sinks_not : (b : ℕ) (own : List ℕ) → Sinks b own → ¬ Memᴰ b own
sinks_not b own s i = omega (arith, sinks_below b own b s i)

-- ---- a drawing with other bundles
abbrev pub bundled : Drawing → (ℕ → Owned) → Drawing
bundled m bundle = record {
  plain = m.plain;
  lock = m.lock;
  gone = m.gone;
  bundle = bundle;
  log = m.log;
  rows = m.rows;
  phase = m.phase;
  since = m.since;
}

shows_as : (size : ℕ) (es : List ℕ) (b b' : Owned) (own own' : List ℕ) (link link' : ℕ) → b' ≡ b → own' ≡ own
    → link' ≡ link → Shows size es (shown b) own link → Shows size es (shown b') own' link'
shows_as size es b b' own own' link link' same_b same_own same_link s = rw (same_b, same_own, same_link) s

module _ (size used laid : ℕ) (ns es : List ℕ) (own : ℕ → List ℕ) (m : Drawing)
    (R : Rows size used laid ns es own m) where
  -- ---- rows whose words stay
  pub rows_kept : (ns' : List ℕ) (m' : Drawing) → ((x : ℕ) → x < used → newest_at ns' x ≡ newest_at ns x)
      → ((x : ℕ) → m'.bundle x ≡ m.bundle x) → Rows size used laid ns' es own m'
  rows_kept ns' m' newest bundle = record {
    shows = λ x h. shows_as size es _ _ _ _ _ _ (bundle x) refl (newest x h) (R.shows x h);
    sinks = R.sinks;
    apart = R.apart;
    blank = λ x h. bundle x ∙ R.blank x h;
  }

  -- ---- one node more, with an empty row
  new_own : (x e : ℕ) → x < used + 1 → Memᴰ e (change own used [] x) → (x < used) × Memᴰ e (own x)
  new_own x e h = change_cases (λ o. Memᴰ e o → (x < used) × Memᴰ e (own x)) own used [] x
      (λ _ i. absurd (Memᴰ.not-nil i)) (λ d i. (omega arith, i))

  new_shows : (ns' : List ℕ) → newest_at ns' used ≡ 0 → ((x : ℕ) → x ≢ used → newest_at ns' x ≡ newest_at ns x)
      → (x : ℕ) → x < used + 1 → Shows size es (shown (m.bundle x)) (change own used [] x) (newest_at ns' x)
  new_shows ns' none_yet newest x h = elim (ℕ_discrete x used) [
    | yes e ↦ shows_as size es (final []) _ [] _ 0 _ (R.blank x (omega (arith, e)))
        (ap (change own used []) e ∙ change_same own used []) (ap (newest_at ns') e ∙ none_yet) refl
    | no d ↦ shows_as size es (m.bundle x) _ (own x) _ (newest_at ns x) _ refl (change_other own used [] x d)
        (newest x d) (R.shows x (omega arith))
  ]

  pub new_rows : (ns' : List ℕ) → newest_at ns' used ≡ 0 → ((x : ℕ) → x ≢ used → newest_at ns' x ≡ newest_at ns x)
      → Rows size (used + 1) laid ns' es (change own used []) m
  new_rows ns' none_yet newest = record {
    shows = new_shows ns' none_yet newest;
    sinks = λ x h. change_cases (λ o. Sinks laid o) own used [] x (λ _. tt) (λ d. R.sinks x (omega arith));
    apart = λ x y e hx hy i j. let a = new_own x e hx i in let b = new_own y e hy j in
        R.apart x y e a.0 b.0 a.1 b.1;
    blank = λ x h. R.blank x (omega arith);
  }

  -- ---- a pending entry laid in front of a row of final ones
  module _ (x t c g : ℕ) (r : Row) (x<used : x < used) (is_final : m.bundle x ≡ final r)
      (fits : used * 6 ≤ length ns) (whole : length es ≡ size * 4) (room : laid < size) where
    abbrev pub laid_own : ℕ → List ℕ
    laid_own = change own x (laid ∷ own x)

    unowned : (y : ℕ) → y < used → ¬ Memᴰ laid (own y)
    unowned y h = sinks_not laid (own y) (R.sinks y h)

    laid_own_lem : (y e : ℕ) → Memᴰ e (laid_own y) → ((e ≡ laid) × (y ≡ x)) ⊎ Memᴰ e (own y)
    laid_own_lem y e = change_cases (λ o. Memᴰ e o → ((e ≡ laid) × (y ≡ x)) ⊎ Memᴰ e (own y)) own x
        (laid ∷ own x) y
        (λ y≡x i. ⊎_elim (λ z. inl (z, y≡x)) (λ j. inr (rw y≡x j)) (Memᴰ.cases_cons i))
        (λ _ i. inr i)

    laid_apart : (y z e : ℕ) → y < used → z < used → Memᴰ e (laid_own y) → Memᴰ e (laid_own z) → y ≡ z
    laid_apart y z e hy hz i j = ⊎_elim
        (λ a. ⊎_elim (λ b. a.1 ∙ sym b.1)
        (λ b. absurd (unowned z hz (subst (λ d. Memᴰ d (own z)) a.0 b))) (laid_own_lem z e j))
        (λ a. ⊎_elim (λ b. absurd (unowned y hy (subst (λ d. Memᴰ d (own y)) b.0 a)))
        (λ b. R.apart y z e hy hz a b) (laid_own_lem z e j)) (laid_own_lem y e i)

    laid_shows : (y : ℕ) → y < used
        → Shows size (lay_of es laid g c (newest_at ns x)) (shown (change m.bundle x (pending t c g r) y))
        (laid_own y) (newest_at (put_node ns x 5 (laid + 1)) y)
    laid_shows y h = elim (ℕ_discrete y x) [
      | yes e ↦ shows_as size _ (pending t c g r) _ (laid ∷ own x) _ (laid + 1) _
          (ap (change m.bundle x (pending t c g r)) e ∙ change_same m.bundle x (pending t c g r))
          (ap laid_own e ∙ change_same own x (laid ∷ own x))
          (ap (newest_at (put_node ns x 5 (laid + 1))) e ∙ word_stored 6 ns x 5 (laid + 1) (omega arith))
          (lay_front size es laid g c (own x) r (newest_at ns x) whole room (unowned x x<used)
          (subst (λ b. Shows size es (shown b) (own x) (newest_at ns x)) is_final (R.shows x x<used)))
      | no d ↦ shows_as size _ (m.bundle y) _ (own y) _ (newest_at ns y) _
          (change_other m.bundle x (pending t c g r) y d) (change_other own x (laid ∷ own x) y d)
          (word_else 6 ns x 5 (laid + 1) y 5 (omega arith) (omega arith) (inl d))
          (lay_other size es laid g c (shown (m.bundle y)) (own y) (newest_at ns y) (newest_at ns x)
          (unowned y h) (R.shows y h))
    ]

    pub lay_rows : Rows size used (laid + 1) (put_node ns x 5 (laid + 1)) (lay_of es laid g c (newest_at ns x))
        laid_own
        (bundled m (change m.bundle x (pending t c g r)))
    lay_rows = record {
      shows = laid_shows;
      sinks = λ y h. change_cases (λ o. Sinks (laid + 1) o) own x (laid ∷ own x) y
          (λ _. (omega arith, R.sinks x x<used)) (λ _. sinks_more laid (laid + 1) (own y) (omega arith) (R.sinks y
          h));
      apart = laid_apart;
      blank = λ y h. change_other m.bundle x (pending t c g r) y (λ e. omega (arith, e)) ∙ R.blank y h;
    }

  -- ---- the newest entry of a row made final
  module _ (x e n t c g : ℕ) (r : Row) (x<used : x < used) (pends : m.bundle x ≡ pending t c g r)
      (whole : length es ≡ size * 4) (newest : Newest e (own x)) where
    mine : Memᴰ e (own x)
    mine = rw newest.1 (Memᴰ.head refl)

    alone : ¬ Memᴰ e newest.0
    alone = sinks_not e newest.0 (subst (λ o. Sinks laid o) newest.1 (R.sinks x x<used)).1

    finished_shows : (y : ℕ) → y < used → Shows size (finish_of es e n)
        (shown (change m.bundle x (final ((n, g) ∷ r)) y)) (own y) (newest_at ns y)
    finished_shows y h = elim (ℕ_discrete y x) [
      | yes z ↦ shows_as size _ (final ((n, g) ∷ r)) _ (e ∷ newest.0) _ (newest_at ns x) _
          (ap (change m.bundle x (final ((n, g) ∷ r))) z ∙ change_same m.bundle x (final ((n, g) ∷ r)))
          (ap own z ∙ newest.1) (ap (newest_at ns) z)
          (finish_front size es e n newest.0 c g r (newest_at ns x) whole alone
          (shows_as size es (m.bundle x) (pending t c g r) (own x) _ _ _ (sym pends) (sym newest.1) refl
          (R.shows x x<used)))
      | no d ↦ shows_as size _ (m.bundle y) _ (own y) _ (newest_at ns y) _
          (change_other m.bundle x (final ((n, g) ∷ r)) y d) refl refl
          (finish_other size es e n (shown (m.bundle y)) (own y) (newest_at ns y)
          (λ i. d (R.apart y x e h x<used i mine)) (R.shows y h))
    ]

    pub finish_rows : Rows size used laid ns (finish_of es e n) own
        (bundled m (change m.bundle x (final ((n, g) ∷ r))))
    finish_rows = record {
      shows = finished_shows;
      sinks = R.sinks;
      apart = R.apart;
      blank = λ y h. change_other m.bundle x (final ((n, g) ∷ r)) y (λ z. omega (arith, z)) ∙ R.blank y h;
    }
