-- One snapshot more: links that differ at two nodes show the log with one update more.
-- In order: which nodes a longer log gives; an insert; a remove.
-- Not here: rows. The links before are `f`, the links after are `g`. Assumes nothing.
use mathlib.Core.Path.{◌≡◌, refl, sym, ◌∙◌, ap}
use mathlib.Core.Logic.{◌⊎◌, inl, inr, ⊎_elim}
use mathlib.Core.Option.{Option, none, some}
use mathlib.Core.List.Memᴰ
use mathlib.Core.List.{List, [], ◌∷◌, ◌++◌, append_assoc, Memᴰ}
use Prim.Native.Nat.{ℕ, ◌<◌}
use native.Mathlib.Decide.{ℕ_discrete}
use native.Mathlib.Omega.{arith}
use Rattle.order.specs.History.{head, tail, Logged, ins, rem, Log, Removed, Start, Given, Chain, members, Snap}
use Rattle.order.proofs.Rows.{none_some, some_same, Relinked}
use Rattle.order.proofs.Chains.{Around, from_head, chain_split, chain_join, chain_over, agree_above}
use Rattle.order.proofs.Chains.{agree_below, put_at, cut_at}

-- ---- which nodes a longer log gives, and which it removes
pub ins_same : {x y : ℕ} → ins x ≡ ins y → x ≡ y
ins_same e = cc

pub rem_same : {x y : ℕ} → rem x ≡ rem y → x ≡ y
rem_same e = cc

ins_rem : {P : Type 0} (x y : ℕ) → ins x ≡ rem y → P
ins_rem x y e = let w : ◌≡◌ {A = ℕ} 0 1 = cc in absurd (omega arith)

module _ (start : Start) (x y : ℕ) (log : Log) where
  pub given_more : (u : Logged) → Given start x log → Given start x (u ∷ log)
  given_more u (inl loaded) = inl loaded
  given_more u (inr m) = inr (Memᴰ.tail m)

  pub given_ins : Given start x (ins y ∷ log) → (x ≡ y) ⊎ Given start x log
  given_ins (inl loaded) = inr (inl loaded)
  given_ins (inr m) = ⊎_elim (λ e. inl (ins_same e)) (λ k. inr (inr k)) (Memᴰ.cases_cons m)

  pub given_rem : Given start x (rem y ∷ log) → Given start x log
  given_rem (inl loaded) = inl loaded
  given_rem (inr m) = inr (⊎_elim (ins_rem x y) (λ k. k) (Memᴰ.cases_cons m))

  pub removed_ins : Removed x (ins y ∷ log) → Removed x log
  removed_ins m = ⊎_elim (λ e. ins_rem y x (sym e)) (λ k. k) (Memᴰ.cases_cons m)

  pub removed_rem : Removed x (rem y ∷ log) → (x ≡ y) ⊎ Removed x log
  removed_rem m = ⊎_elim (λ e. inl (rem_same e)) inr (Memᴰ.cases_cons m)

-- ---- an insert of `new` between `pred` and `curr`
module _ (key : ℕ → ℕ) (start : Start) (f g : ℕ → Option ℕ) (log : Log) (snap : Snap key start f log)
    (pred curr new : ℕ) (a : Around key f (members key start log) pred) (link : f pred ≡ some curr)
    (pred<new : key pred < key new) (new<curr : key new < key curr) (free : f new ≡ none)
    (r : Relinked f g pred new new curr) where
  relink : (n : ℕ) (D : List ℕ) → Chain key f pred (n ∷ D) → Chain key g new (n ∷ D)
  relink n D c =
      let curr≡n : curr ≡ n = some_same link c.0 in
      let new<n : key new < key n = omega (arith, ap key curr≡n) in (
        r.two ∙ ap some curr≡n,
        new<n,
        agree_above key f g n D
            (λ x k. r.rest x (λ y. omega (arith, ap key y)) (λ y. omega (arith, ap key y))) c.2,
      )

  relinks : (C : List ℕ) → Chain key f pred (C ++ (tail ∷ [])) → Chain key g new (C ++ (tail ∷ []))
  relinks [] c = relink tail [] c
  relinks (n ∷ C) c = relink n (C ++ (tail ∷ [])) c

  insert_front : Chain key g head a.front
  insert_front = agree_below key f g head a.front
      (λ x h. r.rest x (λ z. omega (arith, ap key z, ap key a.ends))
      (λ z. omega (arith, ap key z, ap key a.ends)))
      a.before

  insert_back : Chain key g new (a.back ++ (tail ∷ []))
  insert_back = relinks a.back a.behind

  insert_fits : members key start (ins new ∷ log) ≡ a.front ++ new ∷ a.back
  unfolding members
  insert_fits = rw a.whole (put_at key f new head a.front a.back a.before (rw a.ends pred<new)
      (chain_over key g new a.back (chain_split key g new a.back (tail ∷ []) insert_back).0))

  insert_walk : Chain key g head (members key start (ins new ∷ log) ++ (tail ∷ []))
  insert_walk = rw (insert_fits, append_assoc)
      (chain_join key g head a.front (new ∷ (a.back ++ (tail ∷ []))) insert_front
      (rw a.ends (r.one, pred<new, insert_back)))

  insert_gone : (x : ℕ) → Removed x log → g x ≡ some head
  insert_gone x m = r.rest x
      (λ z. let w : curr ≡ head = some_same link (ap f (sym z) ∙ snap.gone x m) in
      omega (arith, ap key w, from_head key f pred (members key start log) a))
      (λ z. none_some (f new) head free (ap f (sym z) ∙ snap.gone x m))
      ∙ snap.gone x m

  insert_stays : (x : ℕ) → Memᴰ x (members key start log) → Memᴰ x (members key start (ins new ∷ log))
  insert_stays x m = rw insert_fits (⊎_elim
      (λ i. Memᴰ.append_left (new ∷ a.back) i) (λ i. Memᴰ.append_right a.front (Memᴰ.tail i))
      (Memᴰ.append_cases a.front (rw a.whole at m)))

  insert_there : Memᴰ new (members key start (ins new ∷ log))
  insert_there = rw insert_fits (Memᴰ.append_right a.front (Memᴰ.head refl))

  pub snap_insert : Snap key start g (ins new ∷ log)
  snap_insert = record {
    walk = insert_walk;
    gone = λ x m. insert_gone x (removed_ins start x new log m);
    kept = λ x given. ⊎_elim
        (λ z. inl (rw z insert_there))
        (λ k. ⊎_elim (λ m. inl (insert_stays x m)) (λ m. inr (Memᴰ.tail m)) (snap.kept x k))
        (given_ins start x new log given);
    fresh = λ x x≢head out.
        let was : f x ≡ none = snap.fresh x x≢head (λ i. out (given_more start x new log (ins new) i)) in
        r.rest x (λ z. none_some (f x) curr was (ap f z ∙ link)) (λ z. out (inr (Memᴰ.head (ap ins z)))) ∙ was;
  }

-- ---- a remove of `curr`, between `pred` and `succ`
module _ (key : ℕ → ℕ) (start : Start) (f g : ℕ → Option ℕ) (log : Log) (snap : Snap key start f log)
    (pred curr succ : ℕ) (a : Around key f (members key start log) pred) (B : List ℕ) (back : a.back ≡ curr ∷ B)
    (link : f pred ≡ some curr) (link₂ : f curr ≡ some succ) (r : Relinked f g pred succ curr head) where
  whole : members key start log ≡ a.front ++ curr ∷ B
  whole = a.whole ∙ ap (λ l. a.front ++ l) back

  behind : Chain key f pred (curr ∷ (B ++ (tail ∷ [])))
  behind = rw back at a.behind

  unlink : (n : ℕ) (D : List ℕ) → Chain key f curr (n ∷ D) → Chain key g pred (n ∷ D)
  unlink n D c = (
    r.one ∙ sym link₂ ∙ c.0,
    omega (arith, behind.1),
    agree_above key f g n D
        (λ x k. r.rest x (λ y. omega (arith, ap key y, behind.1)) (λ y. omega (arith, ap key y))) c.2,
  )

  unlinks : (C : List ℕ) → Chain key f curr (C ++ (tail ∷ [])) → Chain key g pred (C ++ (tail ∷ []))
  unlinks [] c = unlink tail [] c
  unlinks (n ∷ C) c = unlink n (C ++ (tail ∷ [])) c

  remove_front : Chain key g head a.front
  remove_front = agree_below key f g head a.front
      (λ x h. r.rest x (λ z. omega (arith, ap key z, ap key a.ends))
      (λ z. omega (arith, ap key z, ap key a.ends, behind.1)))
      a.before

  remove_fits : members key start (rem curr ∷ log) ≡ a.front ++ B
  unfolding members
  remove_fits = rw whole (cut_at key f curr head a.front B a.before (rw a.ends behind.1))

  remove_walk : Chain key g head (members key start (rem curr ∷ log) ++ (tail ∷ []))
  remove_walk = rw (remove_fits, append_assoc)
      (chain_join key g head a.front (B ++ (tail ∷ [])) remove_front (rw a.ends (unlinks B behind.2)))

  remove_gone : (x : ℕ) → Removed x log → g x ≡ some head
  remove_gone x m = elim (ℕ_discrete x curr) [
    | yes z ↦ ap g z ∙ r.two
    | no x≢curr ↦ r.rest x
        (λ z. let w : curr ≡ head = some_same link (ap f (sym z) ∙ snap.gone x m) in
        omega (arith, ap key w, from_head key f pred (members key start log) a, behind.1))
        x≢curr ∙ snap.gone x m
  ]

  remove_stays : (x : ℕ) → Memᴰ x (members key start log) →
      Memᴰ x (members key start (rem curr ∷ log)) ⊎ Removed x (rem curr ∷ log)
  remove_stays x m = rw remove_fits (⊎_elim
      (λ i. inl (Memᴰ.append_left B i))
      (λ i. ⊎_elim (λ z. inr (Memᴰ.head (ap rem z))) (λ k. inl (Memᴰ.append_right a.front k))
      (Memᴰ.cases_cons i))
      (Memᴰ.append_cases a.front (rw whole at m)))

  pub snap_remove : Snap key start g (rem curr ∷ log)
  snap_remove = record {
    walk = remove_walk;
    gone = λ x m. ⊎_elim (λ z. ap g z ∙ r.two) (remove_gone x) (removed_rem start x curr log m);
    kept = λ x i. ⊎_elim (remove_stays x) (λ m. inr (Memᴰ.tail m)) (snap.kept x (given_rem start x curr log i));
    fresh = λ x x≢head out.
        let was : f x ≡ none = snap.fresh x x≢head (λ i. out (given_more start x curr log (rem curr) i)) in
        r.rest x (λ z. none_some (f x) curr was (ap f z ∙ link))
        (λ z. none_some (f x) succ was (ap f z ∙ link₂)) ∙ was;
  }
