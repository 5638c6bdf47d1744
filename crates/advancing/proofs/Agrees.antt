-- What a short way of an update tells is the outcome of the step of the record that the words stand for.
-- In order: an update's words; a phase that leads to another; Walk; Lock; Check; Link; the call; where nothing is told
-- the nodes stay.
-- Not here: that storing the phase's number stores the record (crate stepping). Assumes nothing.
use Prim.Native.Nat.{ℕ, ◌+◌, ◌≤◌, ◌<◌}
use mathlib.Core.Path.{◌≡◌, refl, sym, ap, ◌∙◌}
use mathlib.Core.List.{List}
use mathlib.Core.Bool.{Bool, true, false, cond, ◌&&◌}
use Rattle.std.specs.Prelude.{Option, Some, None, Ok}
use native.Mathlib.Omega.{arith}
use lib.Dec.{ltb, eqb}
use borrow.Author.Tests.{ltb-true, eqb-true, eq-eqb, ne_eqb}
use Rattle.order.proofs.Tests.{cond_cases, ltb_cases, eqb_cases}
use Rattle.nodes.specs.Nodes.{put_node, key_at, next_at, lock_at, removed_at}
use Rattle.terms.specs.Terms.{sought_of, removes_of, names_of}
use Rattle.terms.specs.declared.Size.{Size}
use Rattle.terms.specs.declared.Counters.{Counters}
use Rattle.terms.specs.declared.Op.{Op}
use Rattle.terms.specs.declared.Answer.{Answer}
use Rattle.steps.specs.declared.Phase.{Phase}
use Rattle.steps.specs.Steps.{done, moved, over, under_way, gives, works, arrived_of, free, linked_of, lock_step}
use Rattle.steps.specs.Steps.{check_step, link_step, act_step}
use Rattle.reading.proofs.Ways.{walk_arrives}
use Rattle.locking.proofs.Ways as locking
use Rattle.finishing.proofs.Ways as finishing
use Rattle.encoding.specs.declared.OpWords.{OpWords}
use Rattle.encoding.specs.declared.PhaseWords.{PhaseWords}
use Rattle.encoding.specs.declared.Words.{Words}
use Rattle.encoding.specs.Encoding.{phase_with, phase_words, phase_from, session_from, op_right, decode}
use Rattle.encoding.proofs.Ways.{is_insert, is_remove, is_walk, is_lock, is_lock_curr, is_check, is_link}
use Rattle.encoding.proofs.Ways.{is_walking, is_updating, right_insert, right_key}
use Rattle.encoding.proofs.Ways.{front_all, back_walks, back_all}
use Rattle.encoding.proofs.Trip.{and_first, and_second, three_same, right_decodes}
use Rattle.packing.specs.Packing.{number_of}
use Rattle.shortly.specs.Told.{named, led_to}
use Rattle.shortly.proofs.Agrees.{agrees}
use Rattle.advancing.specs.Advancing.{updates_of, removing, Advanced, advanced, still, arrive_ahead, lock_ahead}
use Rattle.advancing.specs.Advancing.{stands_of, remove_ahead, check_ahead, link_ahead, early_ahead, early_zeros}
use Rattle.advancing.specs.Advancing.{advance_of}
use Rattle.advancing.specs.Told.{AdvanceTold}

-- ---- an update's words, and the operation that they stand for
pub record Update (w : Words) : Type 0 where
  pub right : op_right w.op ≡ true
  pub names : names_of (named w) ≡ true
  pub sought : sought_of (named w) ≡ w.op.first
  pub removes : removing w.op ≡ removes_of (named w)
  pub arrives : (pred curr : ℕ) → arrived_of (named w) pred curr ≡ Phase.Lock pred curr

module _ (w : Words) where
  insert_words : w.op.kind ≡ 1 → Update w
  insert_words one =
      let e : Op.Insert w.op.first w.op.second ≡ named w = is_insert _ _ _ one in record {
        right = sym (right_insert w.op one);
        names = sym (ap names_of e);
        sought = sym (ap sought_of e);
        removes = ne_eqb w.op.kind 2 (λ two. absurd (omega (arith, one, two))) ∙ ap removes_of e;
        arrives = λ pred curr. sym (ap (λ op. arrived_of op pred curr) e);
      }

  remove_words : w.op.kind ≡ 2 → eqb w.op.second 0 ≡ true → Update w
  remove_words two unused =
      let e : Op.Remove w.op.first ≡ named w = is_remove _ _ _ two in record {
        right = sym (right_key w.op (omega arith) (omega arith) (omega arith)) ∙ unused;
        names = sym (ap names_of e);
        sought = sym (ap sought_of e);
        removes = eq-eqb w.op.kind 2 two ∙ ap removes_of e;
        arrives = λ pred curr. sym (ap (λ op. arrived_of op pred curr) e);
      }

  pub update_words : updates_of w.op ≡ true → Update w
  unfolding updates_of
  update_words =
      eqb_cases Right w.op.kind 1 _ _ (λ one _. insert_words one) (λ _.
      eqb_cases Right w.op.kind 2 _ _ remove_words
      (λ _ no. let z : ◌≡◌ {A = ℕ} 0 1 = cc in absurd (omega (arith, z))))
    where
      Right : Bool → Type 0
      Right b = b ≡ true → Update w

and_four : (p q r s : Bool) → (p && (q && (r && s))) ≡ true → (p ≡ true) × (q ≡ true) × (r ≡ true) × (s ≡ true)
and_four p q r s h =
    let rest = and_second p (q && (r && s)) h in
    let last = and_second q (r && s) rest in
    (and_first p (q && (r && s)) h, and_first q (r && s) rest, and_first r s last, and_second r s last)

stands_facts : (z : Size) (ns : List ℕ) (pred curr : ℕ) → stands_of z ns pred curr ≡ true
    → (pred < z.nodes) × (curr < z.nodes) × (removed_at ns pred ≡ 0) × (next_at ns pred ≡ curr)
unfolding stands_of
stands_facts z ns pred curr h =
    let f = and_four _ _ _ _ h in
    (ltb-true _ _ f.0, ltb-true _ _ f.1, eqb-true _ _ f.2, eqb-true _ _ f.3)

module _ (z : Size) (ns es : List ℕ) (who : ℕ) (w : Words) where
  -- ---- every way out tells nothing, or agrees
  abbrev Told : Advanced → Type 0
  Told = AdvanceTold z ns es who w

  tells_none : (ns' : List ℕ) → Told (advanced ns' None)
  tells_none ns' = tt

  held : (t : Bool) (x : Advanced) → (t ≡ true → Told x) → Told (cond t x (still ns))
  held t x f = cond_cases Told t x (still ns) f (λ _. tells_none ns)

  abbrev Leads : Option ℕ → Type 0
  Leads f = Told (advanced ns f)

  kept : (t : Bool) (f : Option ℕ) → (t ≡ true → Leads f) → Leads (cond t f None)
  kept t f g = cond_cases Leads t f None g (λ _. tells_none ns)

  module _ (u : Update w) where
    -- ---- a phase that leads to another, of the first four
    module _ (some : w.phase.phase ≡ 0 → ⊥) (first : w.phase.phase ≤ 4) (unused : early_zeros w.phase ≡ true)
      where
        early_read : decode w ≡ Ok (session_from w)
        early_read =
            right_decodes w u.right (sym (front_all w.phase some (omega arith)))
            (sym (back_walks w.phase true (omega arith) (sym unused)))

        early_words : (f : ℕ) → phase_with f w.phase.a w.phase.b 0 0 0 ≡ led_to w.phase f w.phase.a
        early_words f = let zeros = three_same _ _ _ _ _ _ unused in cc

        early_agrees : (ns' : List ℕ) (here then : Phase) (f : ℕ) → here ≡ phase_from w.phase
            → under_way here ≡ true → phase_words then ≡ phase_with f w.phase.a w.phase.b 0 0 0
            → ((c : Counters) → act_step z ns es c who (named w) here
            ≡ done ns' es (gives c (named w) then Answer.Working))
            → Told (advanced ns' (Some f))
        unfolding number_of
        early_agrees ns' here then f at way words acts =
            agrees z ns es who w ns' here then Answer.Working _ early_read at u.names way
            (words ∙ early_words f) refl acts

    -- ---- Walk that arrives
    walk_told : w.phase.phase ≡ 1 → early_zeros w.phase ≡ true
        → Leads (arrive_ahead z ns w.op.first w.phase.b)
    unfolding arrive_ahead
    walk_told one unused =
        kept _ _ (λ known. ltb_cases Leads (key_at ns w.phase.b) w.op.first None (Some 2) (λ _. tells_none ns)
        (λ reached. early_agrees (omega arith) (omega arith) unused ns _ (Phase.Lock w.phase.a w.phase.b) 2
        (is_walking w.phase _ (omega arith) (omega arith) (is_walk _ _ _ one)) refl refl
        (λ c. ap (done ns es) (sym (walk_arrives _ _ _ _ _ _ _ _ _ _ (ltb-true _ _ known) refl (sym u.sought)
        reached (sym (u.arrives _ _)) refl)))))

    -- ---- Lock
    lock_told : (node f : ℕ) (here then : Phase) → (w.phase.phase ≡ 0 → ⊥) → w.phase.phase ≤ 4
        → early_zeros w.phase ≡ true → here ≡ phase_from w.phase → under_way here ≡ true
        → phase_words then ≡ phase_with f w.phase.a w.phase.b 0 0 0
        → ((c : Counters) → act_step z ns es c who (named w) here
        ≡ over es (lock_step z ns c who (named w) node here then))
        → Told (lock_ahead z ns who node f)
    unfolding lock_ahead
    lock_told node f here then some first unused at way words acts =
        held _ _ (λ known. held _ _ (λ none.
        early_agrees some first unused (put_node ns node 3 (who + 1)) here then f at way words
        (λ c. acts c ∙ ap (over es)
        (sym (locking.lock_takes _ _ _ _ _ _ _ _ _ _ _ (ltb-true _ _ known) refl refl _ none refl refl)))))

    locked_words : (b : Bool) → phase_words (cond b (Phase.LockCurr w.phase.a w.phase.b)
        (Phase.Check w.phase.a w.phase.b)) ≡ phase_with (cond b 3 4) w.phase.a w.phase.b 0 0 0
    locked_words true = refl
    locked_words false = refl

    -- ---- Check
    module _ (four : w.phase.phase ≡ 4) (unused : early_zeros w.phase ≡ true)
        (pred_in : w.phase.a < z.nodes) (curr_in : w.phase.b < z.nodes)
        (stays : removed_at ns w.phase.a ≡ 0) (next : next_at ns w.phase.a ≡ w.phase.b)
      where
        check_agrees : ((c : Counters) → moved ns (works c (named w) (Phase.Prepare w.phase.a w.phase.b))
            ≡ check_step z ns c (named w) w.phase.a w.phase.b)
            → Leads (Some 5)
        check_agrees acts =
            early_agrees (omega arith) (omega arith) unused ns (Phase.Check w.phase.a w.phase.b)
            (Phase.Prepare w.phase.a w.phase.b) 5
            (is_walking w.phase _ (omega arith) (omega arith) (is_check _ _ _ four)) refl refl
            (λ c. ap (over es) (sym (acts c)))

        linked : removed_at ns w.phase.b ≡ 0 → linked_of ns w.phase.a w.phase.b ≡ true
        unfolding linked_of
        linked stays' =
            rw (eq-eqb (removed_at ns w.phase.a) 0 stays, eq-eqb (removed_at ns w.phase.b) 0 stays')
            (eq-eqb (next_at ns w.phase.a) w.phase.b next)

        remove_told : removing w.op ≡ true → Leads (remove_ahead ns w.op.first w.phase.b)
        unfolding remove_ahead
        remove_told h =
            kept _ _ (λ stays'. kept _ _ (λ same. check_agrees (λ c.
            locking.check_remove _ _ _ _ _ _ _ u.removes _ h
            (locking.remove_goes _ _ _ _ _ _ _ pred_in curr_in refl _ _ (linked (eqb-true _ _ stays')) refl
            (sym u.sought) _ (eqb-true _ _ same) refl))))

        insert_told : removing w.op ≡ false → Leads (cond (eqb (key_at ns w.phase.b) w.op.first) None (Some 5))
        insert_told h =
            eqb_cases Leads (key_at ns w.phase.b) w.op.first None (Some 5) (λ _. tells_none ns)
            (λ other. check_agrees (λ c.
            locking.check_insert _ _ _ _ _ _ _ u.removes _ h
            (locking.insert_stands _ _ _ _ _ _ _ pred_in refl _ stays refl _ next
            (locking.meet_goes _ _ _ _ _ _ _ _ curr_in refl (sym u.sought) _ other refl))))

    check_told : w.phase.phase ≡ 4 → early_zeros w.phase ≡ true
        → Leads (check_ahead z ns (removing w.op) w.op.first w.phase.a w.phase.b)
    unfolding check_ahead
    check_told four unused =
        kept _ _ (λ stands. let f = stands_facts z ns _ _ stands in
        cond_cases Leads (removing w.op) _ _ (remove_told four unused f.0 f.1 f.2 f.3)
        (insert_told four unused f.0 f.1 f.2 f.3))

    -- ---- Link
    module _ (seven : w.phase.phase ≡ 7) where
      link_read : decode w ≡ Ok (session_from w)
      link_read =
          right_decodes w u.right (sym (front_all w.phase (omega arith) (omega arith)))
          (sym (back_all w.phase (omega arith) (omega arith) (omega arith)))

      link_agrees : (ns' : List ℕ) → ((c : Counters)
          → moved ns' (works c (named w)
          (Phase.Finish w.phase.a w.phase.b w.phase.c w.phase.d w.phase.e))
          ≡ link_step z ns c (named w) w.phase.a w.phase.b w.phase.c w.phase.d w.phase.e)
          → Told (advanced ns' (Some 8))
      unfolding number_of
      link_agrees ns' acts =
          agrees z ns es who w ns'
          (Phase.Link w.phase.a w.phase.b w.phase.c w.phase.d w.phase.e)
          (Phase.Finish w.phase.a w.phase.b w.phase.c w.phase.d w.phase.e)
          Answer.Working _ link_read
          (is_updating w.phase _ (omega arith) (omega arith) (omega arith) (is_link _ _ _ _ _ _ seven)) u.names
          refl refl refl (λ c. ap (over es) (sym (acts c)))

      link_told : Told (link_ahead z ns (removing w.op) w.phase.a w.phase.b)
      unfolding link_ahead
      link_told =
          held _ _ (λ known. cond_cases Told (removing w.op) _ _
          (λ h. held _ _ (λ node_in. link_agrees _ (λ c.
          finishing.link_remove _ _ _ _ _ _ _ _ _ _ u.removes _ h
          (finishing.remove_links _ _ _ _ _ _ _ _ _ _ _ _ _ (ltb-true _ _ known) (ltb-true _ _ node_in) refl refl refl
          refl))))
          (λ h. link_agrees _ (λ c.
          finishing.link_insert _ _ _ _ _ _ _ _ _ _ u.removes _ h
          (finishing.insert_links _ _ _ _ _ _ _ _ _ _ _ (ltb-true _ _ known) refl refl))))

    -- ---- by the phase
    early_told : early_zeros w.phase ≡ true
        → Told (early_ahead z ns who (removing w.op) w.op.first w.phase.phase w.phase.a w.phase.b)
    unfolding early_ahead
    early_told unused =
        eqb_cases Told w.phase.phase 1 _ _ (λ one. walk_told one unused) (λ _.
        eqb_cases Told w.phase.phase 2 _ _ (λ two.
        lock_told w.phase.a _ (Phase.Lock w.phase.a w.phase.b) _ (omega arith) (omega arith) unused
        (is_walking w.phase _ (omega arith) (omega arith) (is_lock _ _ _ two)) refl
        (rw (← u.removes) (locked_words (removing w.op))) (λ c. refl)) (λ _.
        eqb_cases Told w.phase.phase 3 _ _ (λ three.
        lock_told w.phase.b 4 (Phase.LockCurr w.phase.a w.phase.b) _ (omega arith) (omega arith) unused
        (is_walking w.phase _ (omega arith) (omega arith) (is_lock_curr _ _ _ three)) refl refl (λ c. refl)) (λ _.
        eqb_cases Told w.phase.phase 4 _ _ (λ four. check_told four unused) (λ _. tells_none ns))))

  -- ---- the call
  pub advance_is_step : AdvanceTold z ns es who w (advance_of z ns who w.op w.phase)
  unfolding advance_of
  advance_is_step =
      held _ _ (λ updates. let u = update_words w updates in
      eqb_cases Told w.phase.phase 7 _ _ (link_told u) (λ _. held _ _ (early_told u)))

-- ---- where nothing is told, the nodes stay
module _ (z : Size) (ns : List ℕ) where
  unfoldable Keeps : Advanced → Type 0
  Keeps (advanced ns' f) = f ≡ None → ns' ≡ ns

  same_keeps : (f : Option ℕ) → Keeps (advanced ns f)
  unfolding Keeps
  same_keeps f h = refl

  leads_keeps : (ns' : List ℕ) (f : ℕ) → Keeps (advanced ns' (Some f))
  unfolding Keeps
  leads_keeps ns' f h = cc

  lock_keeps : (who n then : ℕ) → Keeps (lock_ahead z ns who n then)
  unfolding lock_ahead
  lock_keeps who n then =
      ltb_cases Keeps n z.nodes _ _
      (λ _. cond_cases Keeps (free who (lock_at ns n)) _ _ (λ _. leads_keeps _ then) (λ _. same_keeps None))
      (λ _. same_keeps None)

  link_keeps : (removes : Bool) (pred node : ℕ) → Keeps (link_ahead z ns removes pred node)
  unfolding link_ahead
  link_keeps removes pred node =
      ltb_cases Keeps pred z.nodes _ _
      (λ _. cond_cases Keeps removes _ _
      (λ _. ltb_cases Keeps node z.nodes _ _ (λ _. leads_keeps _ 8) (λ _. same_keeps None))
      (λ _. leads_keeps _ 8))
      (λ _. same_keeps None)

  early_keeps : (who : ℕ) (removes : Bool) (sought phase pred curr : ℕ)
      → Keeps (early_ahead z ns who removes sought phase pred curr)
  unfolding early_ahead
  early_keeps who removes sought phase pred curr =
      eqb_cases Keeps phase 1 _ _ (λ _. same_keeps _) (λ _.
      eqb_cases Keeps phase 2 _ _ (λ _. lock_keeps _ _ _) (λ _.
      eqb_cases Keeps phase 3 _ _ (λ _. lock_keeps _ _ 4) (λ _.
      eqb_cases Keeps phase 4 _ _ (λ _. same_keeps _) (λ _. same_keeps None))))

  advance_keeps : (who : ℕ) (o : OpWords) (p : PhaseWords) → Keeps (advance_of z ns who o p)
  unfolding advance_of
  advance_keeps who o p =
      cond_cases Keeps (updates_of o) _ _
      (λ _. eqb_cases Keeps p.phase 7 _ _ (λ _. link_keeps _ _ _)
      (λ _. cond_cases Keeps (early_zeros p) _ _ (λ _. early_keeps _ _ _ _ _ _) (λ _. same_keeps None)))
      (λ _. same_keeps None)

  pub advance_none : (who : ℕ) (o : OpWords) (p : PhaseWords) (ns' : List ℕ) (f : Option ℕ)
      → advanced ns' f ≡ advance_of z ns who o p → f ≡ None → ns' ≡ ns
  unfolding Keeps
  advance_none who o p ns' f e = rw (← e) at (advance_keeps who o p)
