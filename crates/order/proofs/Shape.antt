-- Whatever a shape reaches has the history: every snapshot up to its stamp shows its set.
-- In order: what is numbered keeps it; the beginning; one step; all that is reached.
-- That an insert and a remove keep it (Keeps) is used here alone. Assumes nothing.
use Prim.Native.Nat.{ℕ}
use Rattle.order.specs.Rows.{Row}
use Rattle.order.specs.History.{Log, Start, InOrder, History}
use Rattle.order.specs.Shape.{Numbers, nothing, an_insert, a_remove, Shape, Holds, ReachedBy, at_beginning}
use Rattle.order.specs.Shape.{gone_on}
use Rattle.order.proofs.Keeps.{history_begins, history_insert, history_remove}

pub numbers_keep : {key : ℕ → ℕ} {start : Start} {rows : ℕ → Row} {log : Log} {rows' : ℕ → Row} {log' : Log}
    → History key start rows log → Numbers key start rows log rows' log' → History key start rows' log'
numbers_keep H nothing = H
numbers_keep {key} {start} {rows} {log} {rows'} {log'} H (an_insert pred curr new may) =
    history_insert key start rows log H pred curr new may.pred_in may.leads may.above_pred may.below_curr
    may.unlinked
numbers_keep {key} {start} {rows} {log} {rows'} {log'} H (a_remove pred curr succ may) =
    history_remove key start rows log H pred curr succ may.pred_in may.leads may.curr_in may.leads_on

-- ---- the history is carried on here and nowhere else
module _ {key : ℕ → ℕ} {start : Start} (S : Shape key start) where
  pub shape_begins : InOrder key start → {σ : S.State} → S.Begins σ → Holds S σ
  shape_begins order {σ} b =
      let d = S.begins σ b in
      let H : History key start (S.rows σ) (S.log σ) = rw (d.0, d.1) (history_begins key start order) in
      record { hist = H; own = S.own_begins σ b H }

  pub shape_goes : {σ τ : S.State} → Holds S σ → S.Goes σ τ → Holds S τ
  shape_goes {σ} {τ} K g = record { hist = numbers_keep K.hist (S.numbers σ τ g K); own = S.keeps σ τ g K }

  pub shape_history : InOrder key start → {σ : S.State} → ReachedBy S σ → Holds S σ
  shape_history order (at_beginning b) = shape_begins order b
  shape_history order (gone_on r g) = shape_goes (shape_history order r) g
