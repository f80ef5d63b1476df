use Rattle.std.proofs.Common.{ℕ, rules, refl, subst}
use Rattle.sqlite.specs.State.{Survives}
use Rattle.sqlite.specs.Held.{state}
use Rattle.ledger_rows.specs.Steps.{RemarksRow}
use Rattle.ledger_tables.specs.Held.{ledger_of, ledger_in}
use Rattle.ledger_tables.specs.Failing.{FailsToRemark}
use Rattle.ledger_shift.proofs.Served.{ok_done, on_done, origin_is}
use Rattle.ledger_shift.proofs.serving.serve_remark.Goals as goal

pub returns-in-Err-clause-failed : goal.returns-in-Err-clause-failed
returns-in-Err-clause-failed g c clean =
    subst (λ o. FailsToRemark c.args.asked.now o (state g.S.Store c.args.conn.now) (state g.S.Store c.remark.new.conn) c.in-Err.error) (origin_is c.args.origin.now _ _ _ c.station.ensures c.operator.ensures c.time.ensures)
    (c.in-Err.ensures.failed clean)

pub returns-in-Err-clause-survives : goal.returns-in-Err-clause-survives
returns-in-Err-clause-survives g c =
    subst (λ o. Survives (state g.S.Store c.args.conn.now) (state g.S.Store c.remark.new.conn) (λ left. (counter : ℕ) × RemarksRow c.args.asked.now o counter (ledger_in (state g.S.Store c.args.conn.now)) (ledger_of (left 0)))) (origin_is c.args.origin.now _ _ _ c.station.ensures c.operator.ensures c.time.ensures) c.remark.ensures.crash

pub returns-in-Ok-Err-clause-survives : goal.returns-in-Ok-Err-clause-survives
returns-in-Ok-Err-clause-survives g c =
    subst (λ o. Survives (state g.S.Store c.args.conn.now) (state g.S.Store c.remark.new.conn) (λ left. (counter : ℕ) × RemarksRow c.args.asked.now o counter (ledger_in (state g.S.Store c.args.conn.now)) (ledger_of (left 0)))) (origin_is c.args.origin.now _ _ _ c.station.ensures c.operator.ensures c.time.ensures) c.remark.ensures.crash

pub returns-in-Ok-Ok-clause-survives : goal.returns-in-Ok-Ok-clause-survives
returns-in-Ok-Ok-clause-survives g c =
    subst (λ o. Survives (state g.S.Store c.args.conn.now) (state g.S.Store c.remark.new.conn) (λ left. (counter : ℕ) × RemarksRow c.args.asked.now o counter (ledger_in (state g.S.Store c.args.conn.now)) (ledger_of (left 0)))) (origin_is c.args.origin.now _ _ _ c.station.ensures c.operator.ensures c.time.ensures) c.remark.ensures.crash

pub returns-in-Ok-Ok-clause-answers : goal.returns-in-Ok-Ok-clause-answers
returns-in-Ok-Ok-clause-answers g c clean = (
  refl,
  subst (λ o. RemarksRow c.args.asked.now o c.in-Ok-Ok.counter (ledger_in (state g.S.Store c.args.conn.now)) (ledger_in (state g.S.Store c.remark.new.conn)))
      (origin_is c.args.origin.now _ _ _ c.station.ensures c.operator.ensures c.time.ensures) (ok_done _ c.in-Ok-Ok.field-0 c.in-Ok-Ok.counter (search rules) (c.in-Ok-Ok.ensures.remarked clean)),
  on_done _ c.in-Ok-Ok.field-0 c.in-Ok-Ok.counter (search rules) (c.in-Ok-Ok.ensures.kept clean),
)
