-- Numbers written: what `digits` is, how long, stored straight to their places, and read back.
-- In order: one digit at a time; stores; the width; one digit to its place; reading back; writers of two parts.
-- Not here: that a number is written in one way (OneWay), lines and names (Back). Assumes nothing.
use Prim.Native.Nat.{ℕ, zero, suc, ◌+◌, ◌-◌, ◌*◌, ◌/◌, ◌%◌, ◌≤◌, ◌<◌, ◌^◌}
use mathlib.Core.Path.{◌≡◌, refl, sym, ◌∙◌, ap}
use mathlib.Core.List.{List, [], ◌∷◌, ◌++◌}
use mathlib.Core.Logic.{⊎_elim}
use mathlib.Core.Bool.{Bool, true, false, cond}
use native.Mathlib.Omega.{arith}
use native.Mathlib.Nat.{div-add-mod', mod-lt, pow-suc, add-zero}
use lib.ListN.{length, set, length-append}
use lib.Seq.{sets}
use lib.Dec.{ltb}
use Rattle.text.proofs.Basics.{impossible, split}
use borrow.Author.Tests.{lt-ltb, le-ltb, le-leb, ne_eqb, ltb-true, ltb-false}
use Rattle.std.specs.Option.{option_and_then}
use Rattle.text.specs.Text.{largest, class_of, with_digit, grow, grows, number_in, digits, digits_in}
use Rattle.text.specs.declared.Byte.{Byte}
use Rattle.std.specs.Prelude.{Option, Some, None}

-- ---- one digit, or the digits of n / 10 and one more

tenth : (f n : ℕ) → n < 10 ^ suc f → n / 10 < 10 ^ f
tenth f n h = let e : 10 ^ suc f ≡ 10 ^ f * 10 = pow-suc 10 f in omega (arith, div-add-mod' n 10)

tenth_le : (m n : ℕ) → m ≤ n → m / 10 ≤ n / 10
tenth_le m n h = omega (arith, div-add-mod' m 10, div-add-mod' n 10)

-- more fuel makes no difference where there is enough
enough : (f n : ℕ) → n < 10 ^ suc f → digits_in (suc (suc f)) n ≡ digits_in (suc f) n
unfolding digits_in
enough zero n h = let k : n < 10 = omega (arith, h) in rw (lt-ltb n 10 k)
enough (suc f) n h =
    ap (λ (d : List ℕ). cond (ltb n 10) ((48 + n % 10) ∷ []) (d ++ ((48 + n % 10) ∷ [])))
    (enough f (n / 10) (tenth (suc f) n h))

opened : (n : ℕ) → 10 ≤ n → digits_in 20 n ≡ digits_in 19 (n / 10) ++ ((48 + n % 10) ∷ [])
unfolding digits_in
opened n h = rw (le-ltb n 10 h)

pub one_digit : (n : ℕ) → n < 10 → digits n ≡ (48 + n % 10) ∷ []
unfolding digits digits_in
one_digit n h = rw (lt-ltb n 10 h)

pub more_digits : (n : ℕ) → 10 ≤ n → n < 18446744073709551616 → digits n ≡ digits (n / 10) ++ ((48 + n % 10) ∷ [])
unfolding digits
more_digits n h b =
    let k : n / 10 < 10 ^ 19 = omega (arith, div-add-mod' n 10) in
    opened n h ∙ ap (λ (d : List ℕ). d ++ ((48 + n % 10) ∷ [])) (sym (enough 18 (n / 10) k))

-- ---- stores

pub sets_append : (a b l : List ℕ) (i : ℕ) → sets l i (a ++ b) ≡ sets (sets l i a) (i + length a) b
sets_append [] b l i = rw add-zero
sets_append (x ∷ a) b l i =
    let e : i + suc (length a) ≡ suc i + length a = omega arith in rw (e, sets_append a b (set l i x) (suc i))

-- ---- the width

short_in : (f n : ℕ) → length (digits_in f n) ≤ f
unfolding digits_in
short_in zero n = omega arith
short_in (suc f) n = by (ltb n 10) (short_in f (n / 10))
  where
    by : (t : Bool) → length (digits_in f (n / 10)) ≤ f →
        length (cond t ((48 + n % 10) ∷ []) (digits_in f (n / 10) ++ ((48 + n % 10) ∷ []))) ≤ suc f
    by true ih = omega arith
    by false ih = simp length-append (omega arith)

pub short : (n : ℕ) → length (digits n) ≤ 20
unfolding digits
short n = short_in 20 n

-- a larger number is not shorter
short_mono : (f m n : ℕ) → m ≤ n → length (digits_in f m) ≤ length (digits_in f n)
unfolding digits_in
short_mono zero m n h = omega arith
short_mono (suc f) m n h = by (ltb m 10) (ltb n 10) refl refl (short_mono f (m / 10) (n / 10) (tenth_le m n h))
  where
    by : (t u : Bool) → ltb m 10 ≡ t → ltb n 10 ≡ u →
        length (digits_in f (m / 10)) ≤ length (digits_in f (n / 10)) →
        length (cond t ((48 + m % 10) ∷ []) (digits_in f (m / 10) ++ ((48 + m % 10) ∷ []))) ≤
        length (cond u ((48 + n % 10) ∷ []) (digits_in f (n / 10) ++ ((48 + n % 10) ∷ [])))
    by true true a b ih = omega arith
    by true false a b ih = simp length-append (omega arith)
    by false true a b ih = absurd (omega (arith, ltb-false m 10 a, ltb-true n 10 b))
    by false false a b ih = simp length-append (omega arith)

pub width_mono : (m n : ℕ) → m ≤ n → length (digits m) ≤ length (digits n)
unfolding digits
width_mono m n h = short_mono 20 m n h

largest_width : length (digits largest) ≡ 10
unfolding digits digits_in
largest_width = refl

pub width_ten : (n : ℕ) → n ≤ largest → length (digits n) ≤ 10
width_ten n h = omega (arith, width_mono n largest h, largest_width)

pub wide_one : (n : ℕ) → n < 10 → 1 ≡ length (digits n)
wide_one n h = rw (one_digit n h)

pub wide_more : (n r : ℕ) → 10 ≤ n → n < 18446744073709551616 → r ≡ length (digits (n / 10)) →
    r + 1 ≡ length (digits n)
wide_more n r h b e = rw (more_digits n h b, length-append, e)

pub count_fits : (n r : ℕ) → r ≡ length (digits n) → r + 1 < 18446744073709551616
count_fits n r e = omega (arith, short n)

-- ---- one digit straight to its place

pub room_one : (n p m : ℕ) → n < 10 → p + length (digits n) ≤ m → p < m
room_one n p m h k = omega (arith, wide_one n h)

pub room_more : (n p m : ℕ) → 10 ≤ n → n < 18446744073709551616 → p + length (digits n) ≤ m →
    p + length (digits (n / 10)) ≤ m
room_more n p m h b k = omega (arith, wide_more n (length (digits (n / 10))) h b refl)

pub room_last : (n p m r : ℕ) → 10 ≤ n → n < 18446744073709551616 → p + length (digits n) ≤ m →
    r ≡ p + length (digits (n / 10)) → (o : ℕ) → o ≡ m → r < o
room_last n p m r h b k e o z = omega (arith, wide_more n (length (digits (n / 10))) h b refl)

pub fits_last : (n p m r : ℕ) → 10 ≤ n → n < 18446744073709551616 → p + length (digits n) ≤ m →
    r ≡ p + length (digits (n / 10)) → m < 18446744073709551616 → r + 1 < 18446744073709551616
fits_last n p m r h b k e z = omega (arith, wide_more n (length (digits (n / 10))) h b refl)

pub put_one : (l : List ℕ) (p n : ℕ) → n < 10 → set l p (48 + n % 10) ≡ sets l p (digits n)
put_one l p n h = rw (one_digit n h)

pub after_one : (p n : ℕ) → n < 10 → p + 1 ≡ p + length (digits n)
after_one p n h = rw (one_digit n h)

pub put_more : (l m : List ℕ) (p n r : ℕ) → 10 ≤ n → n < 18446744073709551616 →
    r ≡ p + length (digits (n / 10)) → m ≡ sets l p (digits (n / 10)) → set m r (48 + n % 10) ≡ sets l p (digits n)
put_more l m p n r h b e k =
    rw (more_digits n h b, sets_append (digits (n / 10)) ((48 + n % 10) ∷ []) l p, ← k, ← e)

pub after_more : (p n r : ℕ) → 10 ≤ n → n < 18446744073709551616 → r ≡ p + length (digits (n / 10)) →
    r + 1 ≡ p + length (digits n)
after_more p n r h b e = omega (arith, wide_more n (length (digits (n / 10))) h b refl)

-- ---- reading back what was written

grows_append : (n : Option ℕ) (a b : List ℕ) (v : ℕ) → grows n a ≡ Some v → grows n (a ++ b) ≡ grows (Some v) b
unfolding grows
grows_append n [] b v h = rw h
grows_append n (x ∷ a) b v h = by (grow n x) (λ w k. grows_append (Some w) a b v k) h
  where
    by : (r : Option ℕ) → ((w : ℕ) → grows (Some w) a ≡ Some v → grows (Some w) (a ++ b) ≡ grows (Some v) b) →
        option_and_then (λ w. grows (Some w) a) r ≡ Some v →
        option_and_then (λ w. grows (Some w) (a ++ b)) r ≡ grows (Some v) b
    by (Some w) ih k = ih w k
    by None ih k = impossible (cc)

pub digit_class : (d : ℕ) → d < 10 → class_of (48 + d) ≡ Byte.Digit d
unfolding class_of
digit_class d h =
    let lo : 48 ≤ 48 + d = omega arith in
    let hi : 48 + d ≤ 57 = omega arith in
    let e : 48 + d - 48 ≡ d = omega arith in
    simp (le-leb 48 (48 + d) lo, le-leb (48 + d) 57 hi, e)

first_digit : (n : ℕ) → n < 10 → grows None (digits n) ≡ Some n
unfolding grows grow with_digit
first_digit n h =
    let e : n % 10 ≡ n = omega (arith, div-add-mod' n 10) in
    rw (one_digit n h, e, digit_class n h)

last_digit : (n : ℕ) → 10 ≤ n → n ≤ largest → grows None (digits (n / 10)) ≡ Some (n / 10) →
    grows None (digits n) ≡ Some n
unfolding grows grow with_digit
last_digit n h b ih =
    let w : n < 18446744073709551616 = omega arith in
    let small : n % 10 < 10 = mod-lt n (omega arith) in
    let some : (n / 10 ≡ 0 → ⊥) = λ z. omega (arith, div-add-mod' n 10) in
    let all : n / 10 * 10 + n % 10 ≡ n = div-add-mod' n 10 in
    let before = grows_append None (digits (n / 10)) ((48 + n % 10) ∷ []) (n / 10) ih in
    rw (more_digits n h w, before, digit_class (n % 10) small, ne_eqb (n / 10) 0 some)
    (rw (all, le-leb n largest b))

read_back_in : (f n : ℕ) → n < 10 ^ f → n ≤ largest → grows None (digits n) ≡ Some n
read_back_in zero n h b = first_digit n (omega (arith, h))
read_back_in (suc f) n h b =
    ⊎_elim (λ small. first_digit n small)
    (λ large. last_digit n large b (read_back_in f (n / 10) (tenth f n h) (omega (arith, div-add-mod' n 10))))
    (split n 10)

-- the law: what was written is read as the number
pub read_back : (n : ℕ) → n ≤ largest → number_in (digits n) ≡ Some n
unfolding number_in
read_back n b = read_back_in 10 n (omega (arith, b)) b

pub ruleset digits_put = (put_one, after_one, put_more, after_more, room_one, room_more, room_last, fits_last)

pub ruleset digits_wide = (wide_one, wide_more)

-- ---- two runs of bytes, one after the other: for any writer that is made of two

module _ (x y : List ℕ) (p : ℕ) where
  pub room_first : (m : ℕ) → p + length (x ++ y) ≤ m → p + length x ≤ m
  room_first m h = omega (arith, length-append x y)

  module _ (a : ℕ) (e : a ≡ p + length x) where
    pub room_second : (m o : ℕ) → p + length (x ++ y) ≤ m → o ≡ m → a + length y ≤ o
    room_second m o h z = omega (arith, length-append x y)

    pub after_both : (r : ℕ) → r ≡ a + length y → r ≡ p + length (x ++ y)
    after_both r h = omega (arith, length-append x y)

    pub put_both : (o l m : List ℕ) → l ≡ sets o p x → m ≡ sets l a y → m ≡ sets o p (x ++ y)
    put_both o l m el em = rw (sets_append x y o p, ← el, ← e, em)

pub ruleset two_parts = (room_first, room_second, after_both, put_both)
