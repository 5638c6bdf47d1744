-- What the history does not depend on: the keys of nodes that were not given.
-- In order: the log's first updates are in the log; a node of the set was given; two key functions that agree.
-- Not here: values, which the history does not speak of. Assumes nothing.
use mathlib.Core.Path.{◌≡◌, refl, sym, ◌∙◌, ap}
use mathlib.Core.Logic.{◌⊎◌, inl, inr, ⊎_elim, ⊎_map}
use mathlib.Core.Option.{Option}
use mathlib.Core.List.Memᴰ
use mathlib.Core.List.{List, [], ◌∷◌, ◌++◌, Memᴰ}
use Prim.Native.Nat.{ℕ, zero, suc, ◌-◌}
use native.Mathlib.Omega.{arith}
use lib.ListN.{length, drop}
use Rattle.order.specs.Set.{put, cut, first}
use Rattle.order.specs.Rows.{Row}
use Rattle.order.specs.History.{head, tail, next, Logged, ins, rem, Log, Removed, Start, up_to, Given, Chain}
use Rattle.order.specs.History.{members, Snap, History}
use Rattle.order.proofs.Sets.{put_mem, cut_mem}
use Rattle.order.proofs.Steps.{given_more}

-- ---- the first updates are in the log
pub drop_mem : {A : Type 0} (u : A) (n : ℕ) (l : List A) → Memᴰ u (drop n l) → Memᴰ u l
drop_mem u zero l m = m
drop_mem u (suc n) [] m = m
drop_mem u (suc n) (x ∷ l) m = Memᴰ.tail (drop_mem u n l m)

pub first_mem : {A : Type 0} (u : A) (n : ℕ) (l : List A) → Memᴰ u (first n l) → Memᴰ u l
first_mem u n l m = drop_mem u (length l - n) l m

pub given_first : (start : Start) (x n : ℕ) (log : Log) → Given start x (first n log) → Given start x log
given_first start x n log given = ⊎_map (λ m. m) (first_mem (ins x) n log) given

-- ---- a node of the set was given
pub members_given : (key : ℕ → ℕ) (start : Start) (x : ℕ) (log : Log) → Memᴰ x (members key start log) →
    Given start x log
unfolding members
members_given key start x [] m = inl m
members_given key start x (ins y ∷ log) m = ⊎_elim
    (λ e. inr (Memᴰ.head (ap ins e)))
    (λ k. given_more start x y log (ins y) (members_given key start x log k))
    (put_mem key x y (members key start log) m)
members_given key start x (rem y ∷ log) m =
    given_more start x y log (rem y) (members_given key start x log (cut_mem key x (key y) (members key start log) m))

-- ---- two key functions that agree
abbrev pub Agree : (ℕ → ℕ) → (ℕ → ℕ) → List ℕ → Type 0
Agree key key' l = (x : ℕ) → Memᴰ x l → key' x ≡ key x

-- on every node that the log names
abbrev pub AgreeOn : (ℕ → ℕ) → (ℕ → ℕ) → Start → Log → Type 0
AgreeOn key key' start log = (x : ℕ) → Given start x log ⊎ Removed x log → key' x ≡ key x

module _ (key key' : ℕ → ℕ) where
  put_agree : (x : ℕ) (l : List ℕ) → key' x ≡ key x → Agree key key' l → put key' x l ≡ put key x l
  unfolding put
  put_agree x [] e agree = refl
  put_agree x (y ∷ l) e agree =
      rw (e, agree y (Memᴰ.head refl), put_agree x l e (λ z m. agree z (Memᴰ.tail m)))

  cut_agree : (k : ℕ) (l : List ℕ) → Agree key key' l → cut key' k l ≡ cut key k l
  unfolding cut
  cut_agree k [] agree = refl
  cut_agree k (y ∷ l) agree =
      rw (agree y (Memᴰ.head refl), cut_agree k l (λ z m. agree z (Memᴰ.tail m)))

  chain_agree : (f : ℕ → Option ℕ) (p : ℕ) (ns : List ℕ) → key' p ≡ key p → Agree key key' ns →
      Chain key f p ns → Chain key' f p ns
  chain_agree f p [] e agree c = tt
  chain_agree f p (n ∷ ns) e agree c = (
    c.0,
    omega (arith, e, agree n (Memᴰ.head refl)),
    chain_agree f n ns (agree n (Memᴰ.head refl)) (λ z m. agree z (Memᴰ.tail m)) c.2,
  )

  module _ (start : Start) where
    agree_less : (u : Logged) (log : Log) → AgreeOn key key' start (u ∷ log) → AgreeOn key key' start log
    agree_less u log agree x named = agree x (⊎_map (given_more start x x log u) Memᴰ.tail named)

    agree_members : (log : Log) → AgreeOn key key' start log → Agree key key' (members key start log)
    agree_members log agree x m = agree x (inl (members_given key start x log m))

    pub members_agree : (log : Log) → AgreeOn key key' start log → members key' start log ≡ members key start log
    unfolding members
    members_agree [] agree = refl
    members_agree (ins x ∷ log) agree =
        let less = agree_less (ins x) log agree in
        rw (members_agree log less)
        (put_agree x (members key start log) (agree x (inl (inr (Memᴰ.head refl)))) (agree_members log less))
    members_agree (rem x ∷ log) agree =
        let less = agree_less (rem x) log agree in
        rw (members_agree log less, agree x (inr (Memᴰ.head refl)))
        (cut_agree (key x) (members key start log) (agree_members log less))

    module _ (same_head : key' head ≡ key head) (same_tail : key' tail ≡ key tail) where
      agree_walk : (log : Log) → AgreeOn key key' start log → Agree key key' (members key start log ++ (tail ∷ []))
      agree_walk log agree x m = ⊎_elim
          (agree_members log agree x)
          (λ b. let z : x ≡ tail = Memᴰ.eq_of_singleton b in ap key' z ∙ same_tail ∙ ap key (sym z))
          (Memᴰ.append_cases (members key start log) m)

      pub snap_agree : (f : ℕ → Option ℕ) (log : Log) → AgreeOn key key' start log →
          Snap key start f log → Snap key' start f log
      snap_agree f log agree snap = record {
        walk = rw (members_agree log agree)
            (chain_agree f head (members key start log ++ (tail ∷ [])) same_head (agree_walk log agree) snap.walk);
        gone = snap.gone;
        kept = rw (members_agree log agree) snap.kept;
        fresh = snap.fresh;
      }

      agree_first : (n : ℕ) (log : Log) → AgreeOn key key' start log → AgreeOn key key' start (first n log)
      agree_first n log agree x named = agree x (⊎_map (given_first start x n log) (first_mem (rem x) n log) named)

      -- the keys of nodes that the log does not name may change
      pub history_agree : (rows : ℕ → Row) (log : Log) → AgreeOn key key' start log →
          History key start rows log → History key' start rows log
      history_agree rows log agree H = record {
        snap = λ s base≤s s≤stamp. snap_agree (next rows s) (up_to start s log)
            (agree_first (s - start.base) log agree) (H.snap s base≤s s≤stamp);
        under = H.under;
      }
