-- Each way out of `load`, over plain values; and what reading hands to it.
-- In order: the keys and values that reading gave; a register, or a refusal of the listing.
-- Not here: the tables' words (Words). Assumes nothing.
use Prim.Native.Nat.{ℕ, ◌+◌, ◌≤◌, ◌<◌}
use mathlib.Core.Path.{◌≡◌, sym, ◌∙◌}
use mathlib.Core.List.{List}
use native.Mathlib.Omega.{arith}
use lib.ListN.{length, take}
use lib.Seq.{sets, sets-eq, take-append_seam, length-sets, length-take-le}
use mathlib.Core.Bool.{true}
use Rattle.std.specs.Prelude.{Result, Ok, Err}
use Rattle.terms.specs.Terms.{small}
use Rattle.terms.specs.declared.Size.{Size}
use Rattle.terms.specs.declared.Counters.{Counters}
use Rattle.steps.specs.Steps.{Tables, tables}
use Rattle.register.specs.Register.{fits}
use Rattle.text.specs.Text.{lines_of}
use Rattle.listing.specs.Listing.{key_name, value_name}
use Rattle.scanning.specs.Reading.{numbers_in, read_of}
use Rattle.scanning.specs.Reading.{done as read_done}
use Rattle.scanning.specs.declared.Whole.{Whole}
use Rattle.scanning.specs.declared.Unread.{Unread}
use Rattle.scanning.proofs.OneWay.{Handed, handed}
use Rattle.scanning.proofs.Refusals.{read_checks}
use Rattle.loading.specs.Refused.{unloaded}
use Rattle.loading.specs.Filing.{used, filed_all, fresh_tables}
use Rattle.loading.specs.Loading.{done, loaded_tables, load_of}
use Rattle.loading.specs.declared.Unloaded.{Unloaded}

-- ---- the keys and values that reading gave

-- numbers stored from the start of a list, and taken from there again
taken : (l x : List ℕ) (n : ℕ) → length x ≡ n → n ≤ length l → take n (sets l 0 x) ≡ x
taken l x n e h =
    let room : 0 + length x ≤ length l = omega arith in
    rw (← e, sets-eq x l 0 room, take-append_seam)

module _ (most : ℕ) (s ko vo ks vs : List ℕ) (r : Result Whole Unread)
    (told : read_done ks vs r ≡ read_of most s ko vo)
    (w : Whole) (answer : r ≡ Ok w) where
  all_handed : Handed most s w.count
  all_handed = handed most s w.stamp w.count (sym (read_checks most s ko vo ks vs r told) ∙ answer)

  pub count_room : w.count ≤ most
  count_room = all_handed.few

  stored : read_done ks vs r ≡
      read_done (sets ko 0 (numbers_in key_name (lines_of s))) (sets vo 0 (numbers_in value_name (lines_of s)))
      (Ok w)
  unfolding read_of
  stored = rw (sym (read_checks most s ko vo ks vs r told) ∙ answer) at told

  keys_stored : ks ≡ sets ko 0 (numbers_in key_name (lines_of s))
  keys_stored = let all = stored in cc

  values_stored : vs ≡ sets vo 0 (numbers_in value_name (lines_of s))
  values_stored = let all = stored in cc

  pub keys_room : length ko ≡ most → w.count ≤ length ks
  keys_room e =
      let few = count_room in
      rw (keys_stored, length-sets ko 0 (numbers_in key_name (lines_of s))) (omega arith)

  pub values_room : length vo ≡ most → w.count ≤ length vs
  values_room e =
      let few = count_room in
      rw (values_stored, length-sets vo 0 (numbers_in value_name (lines_of s))) (omega arith)

  pub keys_count : length ko ≡ most → w.count ≡ length (take w.count ks)
  keys_count e = sym (length-take-le w.count ks (keys_room e))

  pub values_count : length vo ≡ most → w.count ≡ length (take w.count vs)
  values_count e = sym (length-take-le w.count vs (values_room e))

  pub count_small : most ≤ 65535 → w.count < 65536
  count_small h = let few = count_room in omega arith

  pub few_count : length ko ≡ most → most ≤ 65535 → length (take w.count ks) < 65536
  few_count e h = let few = count_room in omega (arith, keys_count e)

  keys_taken : length ko ≡ most → take w.count ks ≡ numbers_in key_name (lines_of s)
  keys_taken e =
      let h = all_handed in
      rw keys_stored (taken ko (numbers_in key_name (lines_of s)) w.count h.keys (omega arith))

  values_taken : length vo ≡ most → take w.count vs ≡ numbers_in value_name (lines_of s)
  values_taken e =
      let h = all_handed in
      rw values_stored (taken vo (numbers_in value_name (lines_of s)) w.count h.values (omega arith))

-- document 01's number of keys
pub keys_few : small.keys ≤ 65535
keys_few = omega arith

pub ruleset handing = (
  keys_room,
  values_room,
  keys_count,
  values_count,
  few_count,
  count_small,
  keys_few,
)

-- ---- a register, or a refusal of the listing

module _ (z : Size) (s ns es : List ℕ) (fit : fits z ns es ≡ true) (ko vo ks vs : List ℕ) (r : Result Whole Unread)
    (told : read_done ks vs r ≡ read_of z.keys s ko vo) where
  pub load_whole : (w : Whole) → r ≡ Ok w → length ko ≡ z.keys → length vo ≡ z.keys →
      (c : Counters) → c ≡ used w.count → (t : Tables) →
      t ≡ filed_all 0 (take w.count ks) (take w.count vs) (fresh_tables ns es) →
      done t (Ok c) ≡ load_of z s ns es
  unfolding load_of loaded_tables
  load_whole w whole ek ev c used_up t e =
      let answer = sym (read_checks z.keys s ko vo ks vs r told) ∙ whole in
      rw (fit, answer, e, used_up)
      (rw (keys_taken z.keys s ko vo ks vs r told w whole ek)
      (rw (values_taken z.keys s ko vo ks vs r told w whole ev)))

  pub load_refused : (e : Unread) (u : Unloaded) → r ≡ Err e → u ≡ unloaded e →
      done (tables ns es) (Err u) ≡ load_of z s ns es
  unfolding load_of
  load_refused e u h k = let answer = sym (read_checks z.keys s ko vo ks vs r told) ∙ h in rw (fit, answer, k)

pub ruleset loads = (load_whole, load_refused)
