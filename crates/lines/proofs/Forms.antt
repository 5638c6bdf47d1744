-- A line is a call exactly when it is written as one: `insert=S,K,V`, `remove=S,K`, `has=S,K`, `range=S,L,H` or
-- `step=S`, with numbers of at most 4,294,967,295 written in the one way. Every other line is bad.
-- In order: lines cut at a comma; what a call's line must be; that it reads back; both together. Assumes nothing.
use Prim.Native.Nat.{ℕ, zero, suc, ◌+◌, ◌/◌, ◌%◌, ◌≤◌, ◌<◌}
use mathlib.Core.Path.{◌≡◌, refl, sym, ◌∙◌, ap}
use mathlib.Core.List.{List, [], ◌∷◌, ◌++◌}
use mathlib.Core.Bool.{Bool, true, false, cond}
use native.Mathlib.Omega.{arith}
use native.Mathlib.Numerals.{add-one}
use lib.ListN.{length, take, drop, length-append}
use lib.Dec.{ltb, eqb}
use borrow.Author.Tests.{lt-ltb, le-ltb, ne_eqb, ltb-true, eqb-true}
use Rattle.text.specs.Text.{largest, number_in, field_in, starts_with, digits, digits_in}
use Rattle.std.specs.Prelude.{Option, Some, None}
use Rattle.text.proofs.Basics.{impossible}
use Rattle.text.proofs.Write.{read_back}
use Rattle.text.proofs.Back.{field_back}
use Rattle.text.proofs.OneWay.{number_only, field_only}
use Rattle.terms.specs.declared.Op.{Op}
use Rattle.sixteen.specs.declared.Call.{Call}
use Rattle.lines.specs.Lines.{insert_name, remove_name, has_name, range_name, step_name, one_of, more}
use Rattle.lines.specs.Lines.{call_line, Written}
use Rattle.lines.specs.Lines.{comma_in, both, two_in, or_one, or_two, keyed, paired, start_in, line_in}

-- ---- lines cut at a comma

comma_cut : (l : List ℕ) → comma_in l < length l → take (comma_in l) l ++ (44 ∷ drop (comma_in l + 1) l) ≡ l
unfolding comma_in
comma_cut [] h = absurd (omega arith)
comma_cut (b ∷ s) h = by (eqb b 44) refl (λ k. comma_cut s k) h
  where
    by : (t : Bool) → eqb b 44 ≡ t →
        (comma_in s < length s → take (comma_in s) s ++ (44 ∷ drop (comma_in s + 1) s) ≡ s) →
        cond t 0 (suc (comma_in s)) < suc (length s) →
        take (cond t 0 (suc (comma_in s))) (b ∷ s) ++ (44 ∷ drop (cond t 0 (suc (comma_in s)) + 1) (b ∷ s)) ≡ b ∷ s
    by true e ih k = ap (λ (x : ℕ). x ∷ s) (sym (eqb-true b 44 e))
    by false e ih k =
        let p : suc (comma_in s) + 1 ≡ suc (comma_in s + 1) = omega arith in
        rw p (ap (λ (x : List ℕ). b ∷ x) (ih (omega arith)))

-- ---- what a call's line must be

two_only : (s : List ℕ) (a b : ℕ) → two_in s ≡ Some (a, b) → s ≡ digits a ++ (44 ∷ digits b)
unfolding two_in
two_only s a b =
    by (ltb (comma_in s) (length s)) refl (number_in (take (comma_in s) s)) (number_in (drop (comma_in s + 1) s))
    refl refl
  where
    by : (t : Bool) → ltb (comma_in s) (length s) ≡ t → (n m : Option ℕ) → number_in (take (comma_in s) s) ≡ n →
        number_in (drop (comma_in s + 1) s) ≡ m → cond t (both n m) None ≡ Some (a, b) →
        s ≡ digits a ++ (44 ∷ digits b)
    by true h (Some x) (Some y) ex ey e =
        let same : ◌≡◌ {A = ℕ × ℕ} (x, y) (a, b) = cc in
        let ea : x ≡ a = ap (λ (p : ℕ × ℕ). p.0) same in
        let eb : y ≡ b = ap (λ (p : ℕ × ℕ). p.1) same in
        sym (comma_cut s (ltb-true _ _ h)) ∙
        rw ((number_only _ x ex).0, (number_only _ y ey).0, ea, eb)
    by true h (Some x) None ex ey e = impossible (cc)
    by true h None m ex ey e = impossible (cc)
    by false h n m ex ey e = impossible (cc)

keyed_only : (head : List ℕ) (k : ℕ) (call : Call) → keyed head k ≡ Some call →
    head ++ (44 ∷ digits k) ≡ call_line call
unfolding keyed more one_of
keyed_only head k call = by (field_in remove_name head) (field_in has_name head) refl refl
  where
    by : (n m : Option ℕ) → field_in remove_name head ≡ n → field_in has_name head ≡ m →
        or_one n (λ s. Some (Call.Start s (Op.Remove k))) (or_one m (λ s. Some (Call.Start s (Op.Has k)))
        None) ≡
        Some call → head ++ (44 ∷ digits k) ≡ call_line call
    by (Some s) m er eh e =
        let is : Call.Start s (Op.Remove k) ≡ call = cc in
        rw (← is, (field_only remove_name head s er).0)
    by None (Some s) er eh e =
        let is : Call.Start s (Op.Has k) ≡ call = cc in
        rw (← is, (field_only has_name head s eh).0)
    by None None er eh e = impossible (cc)

paired_only : (head : List ℕ) (a b : ℕ) (call : Call) → paired head a b ≡ Some call →
    head ++ (44 ∷ (digits a ++ (44 ∷ digits b))) ≡ call_line call
unfolding paired more one_of
paired_only head a b call = by (field_in insert_name head) (field_in range_name head) refl refl
  where
    by : (n m : Option ℕ) → field_in insert_name head ≡ n → field_in range_name head ≡ m →
        or_one n (λ s. Some (Call.Start s (Op.Insert a b)))
        (or_one m (λ s. Some (Call.Start s (Op.Range a b))) None) ≡ Some call →
        head ++ (44 ∷ (digits a ++ (44 ∷ digits b))) ≡ call_line call
    by (Some s) m ei er e =
        let is : Call.Start s (Op.Insert a b) ≡ call = cc in
        rw (← is, (field_only insert_name head s ei).0)
    by None (Some s) ei er e =
        let is : Call.Start s (Op.Range a b) ≡ call = cc in
        rw (← is, (field_only range_name head s er).0)
    by None None ei er e = impossible (cc)

start_only : (head tail : List ℕ) (call : Call) → start_in head tail ≡ Some call →
    head ++ (44 ∷ tail) ≡ call_line call
unfolding start_in
start_only head tail call = by (number_in tail) (two_in tail) refl refl
  where
    by : (n : Option ℕ) (t : Option (ℕ × ℕ)) → number_in tail ≡ n → two_in tail ≡ t →
        or_one n (keyed head) (or_two t (paired head) None) ≡ Some call → head ++ (44 ∷ tail) ≡ call_line call
    by (Some k) t en et e = rw (number_only tail k en).0 (keyed_only head k call e)
    by None (Some (a, b)) en et e = rw (two_only tail a b et) (paired_only head a b call e)
    by None None en et e = impossible (cc)

step_only : (l : List ℕ) (call : Call) (n : Option ℕ) → field_in step_name l ≡ n →
    or_one n (λ s. Some (Call.Step s)) None ≡ Some call → l ≡ call_line call
unfolding more one_of
step_only l call (Some s) f e =
    let is : Call.Step s ≡ call = cc in
    rw (← is, (field_only step_name l s f).0)
step_only l call None f e = impossible (cc)

pub call_only : (l : List ℕ) (call : Call) → line_in l ≡ Some call → l ≡ call_line call
unfolding line_in
call_only l call = by (ltb (comma_in l) (length l)) refl
  where
    by : (t : Bool) → ltb (comma_in l) (length l) ≡ t →
        cond t (start_in (take (comma_in l) l) (drop (comma_in l + 1) l))
        (or_one (field_in step_name l) (λ s. Some (Call.Step s)) None) ≡ Some call → l ≡ call_line call
    by true h e = sym (comma_cut l (ltb-true _ _ h)) ∙ start_only _ _ call e
    by false h e = step_only l call (field_in step_name l) refl e

-- ---- that it reads back

-- a list has no comma where `comma_in` is its length
comma_past : (a r : List ℕ) → comma_in a ≡ length a → comma_in (a ++ r) ≡ length a + comma_in r
unfolding comma_in
comma_past [] r h = omega arith
comma_past (b ∷ a) r h = by (eqb b 44) (λ k. comma_past a r k) h
  where
    by : (t : Bool) → (comma_in a ≡ length a → comma_in (a ++ r) ≡ length a + comma_in r) →
        cond t 0 (suc (comma_in a)) ≡ suc (length a) →
        cond t 0 (suc (comma_in (a ++ r))) ≡ suc (length a) + comma_in r
    by true ih k = absurd (omega arith)
    by false ih k = omega (arith, ih (omega arith))

empty_no_comma : comma_in [] ≡ 0
unfolding comma_in
empty_no_comma = refl

digit_no_comma : (d : ℕ) → comma_in ((48 + d) ∷ []) ≡ 1
unfolding comma_in
digit_no_comma d = rw (ne_eqb (48 + d) 44 (λ e. omega arith))

digits_in_no_comma : (f n : ℕ) → comma_in (digits_in f n) ≡ length (digits_in f n)
unfolding digits_in
digits_in_no_comma zero n = empty_no_comma
digits_in_no_comma (suc f) n = by (ltb n 10) (digits_in_no_comma f (n / 10))
  where
    by : (t : Bool) → comma_in (digits_in f (n / 10)) ≡ length (digits_in f (n / 10)) →
        comma_in (cond t ((48 + n % 10) ∷ []) (digits_in f (n / 10) ++ ((48 + n % 10) ∷ []))) ≡
        length (cond t ((48 + n % 10) ∷ []) (digits_in f (n / 10) ++ ((48 + n % 10) ∷ [])))
    by true ih = digit_no_comma (n % 10)
    by false ih =
        comma_past (digits_in f (n / 10)) _ ih ∙
        omega (arith, digit_no_comma (n % 10), length-append (digits_in f (n / 10)) ((48 + n % 10) ∷ []))

digits_no_comma : (n : ℕ) → comma_in (digits n) ≡ length (digits n)
unfolding digits
digits_no_comma n = digits_in_no_comma 20 n

-- a name and a number have none
head_no_comma : (name : List ℕ) (s : ℕ) → comma_in name ≡ length name →
    comma_in (name ++ digits s) ≡ length (name ++ digits s)
head_no_comma name s h =
    comma_past name (digits s) h ∙ omega (arith, digits_no_comma s, length-append name (digits s))

take_back : (a r : List ℕ) → take (length a) (a ++ r) ≡ a
take_back [] r = refl
take_back (b ∷ a) r = ap (λ (x : List ℕ). b ∷ x) (take_back a r)

drop_back : (a r : List ℕ) (x : ℕ) → drop (suc (length a)) (a ++ (x ∷ r)) ≡ r
drop_back [] r x = refl
drop_back (b ∷ a) r x = drop_back a r x

module _ (head tail : List ℕ) (h : comma_in head ≡ length head) where
  comma_at : comma_in (head ++ (44 ∷ tail)) ≡ length head
  unfolding comma_in
  comma_at = comma_past head (44 ∷ tail) h ∙ omega arith

  comma_in_lem : length head < length (head ++ (44 ∷ tail))
  comma_in_lem = omega (arith, length-append head (44 ∷ tail))

  cut_back : line_in (head ++ (44 ∷ tail)) ≡ start_in head tail
  unfolding line_in
  cut_back =
      rw (comma_at, lt-ltb _ _ comma_in_lem, add-one, take_back head (44 ∷ tail), drop_back head tail 44)

two_back : (a b : ℕ) → a ≤ largest → b ≤ largest → two_in (digits a ++ (44 ∷ digits b)) ≡ Some (a, b)
unfolding two_in
two_back a b la lb =
    let h = digits_no_comma a in
    rw (
      comma_at (digits a) (digits b) h,
      lt-ltb _ _ (comma_in_lem (digits a) (digits b) h),
      add-one,
      take_back (digits a) (44 ∷ digits b),
      drop_back (digits a) (digits b) 44,
      read_back a la,
      read_back b lb,
    )

-- two numbers are not one
not_one : (a : ℕ) (r : List ℕ) → number_in (digits a ++ (44 ∷ r)) ≡ None
not_one a r = by (number_in (digits a ++ (44 ∷ r))) refl
  where
    by : (n : Option ℕ) → number_in (digits a ++ (44 ∷ r)) ≡ n → n ≡ None
    by (Some n) e =
        let is = (number_only _ n e).0 in
        absurd (omega (
          arith,
          ap comma_in is,
          ap length is,
          digits_no_comma n,
          comma_at (digits a) r (digits_no_comma a),
          comma_in_lem (digits a) r (digits_no_comma a),
        ))
    by None e = refl

module _ (name : List ℕ) (s : ℕ) (named : comma_in name ≡ length name) where
  one_back : (k : ℕ) → k ≤ largest → line_in ((name ++ digits s) ++ (44 ∷ digits k)) ≡ keyed (name ++ digits s) k
  unfolding start_in
  one_back k lk = cut_back (name ++ digits s) (digits k) (head_no_comma name s named) ∙ rw (read_back k lk)

  pair_back : (a b : ℕ) → a ≤ largest → b ≤ largest →
      line_in ((name ++ digits s) ++ (44 ∷ (digits a ++ (44 ∷ digits b)))) ≡ paired (name ++ digits s) a b
  unfolding start_in
  pair_back a b la lb =
      cut_back (name ++ digits s) (digits a ++ (44 ∷ digits b)) (head_no_comma name s named) ∙
      rw (not_one a (digits b), two_back a b la lb)

-- no name has a comma
no_insert : comma_in insert_name ≡ length insert_name
unfolding comma_in
no_insert = refl

no_remove : comma_in remove_name ≡ length remove_name
unfolding comma_in
no_remove = refl

no_has : comma_in has_name ≡ length has_name
unfolding comma_in
no_has = refl

no_range : comma_in range_name ≡ length range_name
unfolding comma_in
no_range = refl

no_step : comma_in step_name ≡ length step_name
unfolding comma_in
no_step = refl

-- each name begins in its own way
other_has : (s : ℕ) → field_in remove_name (has_name ++ digits s) ≡ None
unfolding field_in starts_with
other_has s = refl

other_range : (s : ℕ) → field_in insert_name (range_name ++ digits s) ≡ None
unfolding field_in starts_with
other_range s = refl

remove_back : (s k : ℕ) → s ≤ largest → keyed (remove_name ++ digits s) k ≡ Some (Call.Start s (Op.Remove k))
unfolding keyed
remove_back s k ls = rw (field_back remove_name s ls)

has_back : (s k : ℕ) → s ≤ largest → keyed (has_name ++ digits s) k ≡ Some (Call.Start s (Op.Has k))
unfolding keyed
has_back s k ls = rw (other_has s, field_back has_name s ls)

insert_back : (s a b : ℕ) → s ≤ largest →
    paired (insert_name ++ digits s) a b ≡ Some (Call.Start s (Op.Insert a b))
unfolding paired
insert_back s a b ls = rw (field_back insert_name s ls)

range_back : (s a b : ℕ) → s ≤ largest → paired (range_name ++ digits s) a b ≡ Some (Call.Start s (Op.Range a b))
unfolding paired
range_back s a b ls = rw (other_range s, field_back range_name s ls)

step_back : (s : ℕ) → s ≤ largest → line_in (step_name ++ digits s) ≡ Some (Call.Step s)
unfolding line_in
step_back s ls =
    let none : length (step_name ++ digits s) ≤ comma_in (step_name ++ digits s) =
    omega (arith, head_no_comma step_name s no_step) in
    rw (le-ltb _ _ none, field_back step_name s ls)

pub call_back : (call : Call) → Written call → line_in (call_line call) ≡ Some call
unfolding more one_of
call_back (Call.Start s Op.None) w = absurd w
call_back (Call.Start s (Op.Insert a b)) w =
    pair_back insert_name s no_insert a b w.1 w.2 ∙ insert_back s a b w.0
call_back (Call.Start s (Op.Remove k)) w = one_back remove_name s no_remove k w.1 ∙ remove_back s k w.0
call_back (Call.Start s (Op.Has k)) w = one_back has_name s no_has k w.1 ∙ has_back s k w.0
call_back (Call.Start s (Op.Range a b)) w =
    pair_back range_name s no_range a b w.1 w.2 ∙ range_back s a b w.0
call_back (Call.Step s) w = step_back s w

-- ---- both together: a bad line is written as no call

pub bad_line_is_no_call : (l : List ℕ) → line_in l ≡ None → (call : Call) → Written call → l ≡ call_line call → ⊥
bad_line_is_no_call l bad call w e =
    let is : None ≡ Some call = sym bad ∙ ap line_in e ∙ call_back call w in
    impossible (cc)

pub no_call_is_bad : (l : List ℕ) → ((call : Call) → l ≡ call_line call → ⊥) → line_in l ≡ None
no_call_is_bad l none = by (line_in l) refl
  where
    by : (r : Option Call) → line_in l ≡ r → r ≡ None
    by (Some call) e = absurd (none call (call_only l call e))
    by None e = refl
