use Rattle.std.proofs.Common.{ℕ, subst}
use Rattle.sqlite.specs.State.{Survives}
use Rattle.sqlite.specs.Held.{state}
use Rattle.ledger_rows.specs.Steps.{IssuesRow}
use Rattle.ledger_tables.specs.Held.{ledger_of, ledger_in}
use Rattle.ledger_tables.specs.Failing.{FailsToIssue}
use Rattle.ledger_shift.proofs.Served.{origin_is}
use Rattle.ledger_shift.proofs.serving.serve_issue.Goals as goal

pub returns-in-Err-clause-failed : goal.returns-in-Err-clause-failed
returns-in-Err-clause-failed g c clean =
    subst (λ o. FailsToIssue c.args.asked.now o (state g.S.Store c.args.conn.now) (state g.S.Store c.issue.new.conn) c.in-Err.error) (origin_is c.args.origin.now _ _ _ c.station.ensures c.operator.ensures c.time.ensures)
    (c.in-Err.ensures.failed clean)

pub returns-in-Err-clause-survives : goal.returns-in-Err-clause-survives
returns-in-Err-clause-survives g c =
    subst (λ o. Survives (state g.S.Store c.args.conn.now) (state g.S.Store c.issue.new.conn) (λ left. (counter : ℕ) × IssuesRow c.args.asked.now o counter (ledger_in (state g.S.Store c.args.conn.now)) (ledger_of (left 0)))) (origin_is c.args.origin.now _ _ _ c.station.ensures c.operator.ensures c.time.ensures) c.issue.ensures.crash
