-- The set of keys that were inserted in rising order: the pairs themselves.
-- In order: a pair above all others; updates after updates; the set. Assumes nothing.
use Prim.Native.Nat.{ℕ, ◌≤◌, ◌<◌}
use mathlib.Core.Path.{◌≡◌, refl, sym, ◌∙◌, ap}
use mathlib.Core.Bool.{true}
use mathlib.Core.List.{List, [], ◌∷◌, ◌++◌, append_assoc, append-nil}
use native.Mathlib.Omega.{arith}
use lib.ListN.{length}
use borrow.Author.Tests.{le-ltb, ne_eqb}
use Rattle.order.specs.Set.{Pair, key_of, put, Update, insert, apply, set_after}
use Rattle.listing.specs.Listing.{rising}
use Rattle.listing.proofs.Pairs.{rising_on}
use Rattle.loaded.specs.Calls.{inserts, pairs_of}

-- ---- a pair above all others goes to the end
abbrev Under : ℕ → List Pair → Type 0
Under b [] = Unit {0}
Under b (x ∷ l) = (key_of x ≤ b) × Under b l

put_above : (b k v : ℕ) (l : List Pair) → b < k → Under b l → put key_of (k, v) l ≡ l ++ ((k, v) ∷ [])
unfolding put
put_above b k v [] above under = refl
put_above b k v (x ∷ l) above under =
    let low = under.0 in
    rw (le-ltb k x.0 (omega arith), ne_eqb k x.0 (λ e. omega arith), put_above b k v l above under.1)

under_more : (b k v : ℕ) (l : List Pair) → b < k → Under b l → Under k (l ++ ((k, v) ∷ []))
under_more b k v [] above under = (omega arith, tt)
under_more b k v (x ∷ l) above under = (omega (arith, under.0), under_more b k v l above under.1)

-- ---- updates after updates
set_more : (l : List Pair) (us ws : List Update) → set_after l (us ++ ws) ≡ set_after (set_after l ws) us
unfolding set_after
set_more l [] ws = refl
set_more l (u ∷ us) ws = ap (apply u) (set_more l us ws)

set_one : (l : List Pair) (k v : ℕ) → set_after l (insert k v ∷ []) ≡ put key_of (k, v) l
unfolding set_after
set_one l k v = refl

-- ---- the set, from one whose keys are below
set_inserts : (ks vs : List ℕ) (b : ℕ) (l : List Pair) → rising b ks ≡ true → length ks ≡ length vs → Under b l →
    set_after l (inserts ks vs) ≡ l ++ pairs_of ks vs
unfolding inserts pairs_of set_after
set_inserts [] vs b l up same under = sym (append-nil l)
set_inserts (k ∷ ks) [] b l up same under = absurd (omega arith)
set_inserts (k ∷ ks) (v ∷ vs) b l up same under =
    let on = rising_on b k ks up in
    rw (set_more l (inserts ks vs) (insert k v ∷ []), put_above b k v l on.0 under)
    (set_inserts ks vs k (l ++ ((k, v) ∷ [])) on.2 (omega arith) (under_more b k v l on.0 under) ∙
    append_assoc l ((k, v) ∷ []) (pairs_of ks vs))

pub inserts_set : (ks vs : List ℕ) → rising 0 ks ≡ true → length ks ≡ length vs →
    set_after [] (inserts ks vs) ≡ pairs_of ks vs
inserts_set ks vs up same = set_inserts ks vs 0 [] up same tt
