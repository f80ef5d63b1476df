use Rattle.std.proofs.Common.{inl, inr, ◌≡◌, subst, arith}
use Rattle.std.proofs.lemmas.List.Sorted.{IsPermutation-sym}
use Rattle.std.proofs.lemmas.Result.{err_from_is_err_and}
use Rattle.sqlite.specs.State.{HasCleanDisk}
use Rattle.sqlite.specs.Held.{state}
use Rattle.ledger_rows.specs.Rows.{slot_rows}
use Rattle.ledger_rows.specs.Steps.{MayRemark, RefusesRemark, remarked_row}
use Rattle.ledger_rows.proofs.CallerLemmas.{refuses_remark_permuted}
use Rattle.ledger_tables.specs.Held.{ledger_of, ledger_in}
use Rattle.ledger_tables.specs.Adding.{origin_by}
use Rattle.ledger_tables.proofs.Stated.{on_err}
use Rattle.ledger_tables.proofs.Failed.{looked_fails, looked_undone}
use Rattle.ledger_tables.proofs.Deciding.{remarks, from_old, looked_then}
use Rattle.ledger_tables.proofs.verbs.remark.Goals as goal

pub returns-in-Err-clause-refused : goal.returns-in-Err-clause-refused
returns-in-Err-clause-refused g c clean =
    let r = c.args.remark.now in
    let all = slot_rows r.uid r.id (ledger_in (state g.S.Store c.args.conn.now)) in
    let read = c.in_ok-rows.rows.items in
    refuses_remark_permuted r.kind r.counter read all (IsPermutation-sym all read (c.in_ok-rows.ensures.rows clean)) c.in-Err.why
    (subst (λ xs. RefusesRemark r.kind r.counter xs c.in-Err.why) c.as_slice.ensures.value c.in-Err.ensures.refused)

pub returns-in_err-add-clause-crash : goal.returns-in_err-add-clause-crash
returns-in_err-add-clause-crash g c =
    let r = c.args.remark.now in
    let origin = origin_by c.args.station.now c.args.operator.now c.args.time.now in
    let old = state g.S.Store c.args.conn.now in
    let mid = state g.S.Store c.rows_for.new.conn in
    let new = state g.S.Store c.add.new.conn in
    let may = subst (λ xs. MayRemark r.kind r.counter xs) c.as_slice.ensures.value c.in-Ok.ensures.may in
    looked_then old mid new (remarked_row r origin) _ (λ clean. c.in_ok-rows.ensures.same clean) c.rows_for.ensures.survives (rw c.row_kind.ensures at c.add.ensures.crash)
    (λ clean left adds. (c.in-Ok.counter, remarks r origin c.in-Ok.counter (ledger_in old) (ledger_of (left 0)) c.in_ok-rows.rows.items (c.in_ok-rows.ensures.rows (omega (arith, c.add.ensures.crash.clean))) c.in-Ok.ensures.is may adds))

pub returns-clause-remarked : goal.returns-clause-remarked
returns-clause-remarked g c clean =
    let r = c.args.remark.now in
    let origin = origin_by c.args.station.now c.args.operator.now c.args.time.now in
    let old = state g.S.Store c.args.conn.now in
    let mid = state g.S.Store c.rows_for.new.conn in
    let new = state g.S.Store c.add.new.conn in
    let early : HasCleanDisk mid = omega (arith, c.add.ensures.crash.clean) in
    let may = subst (λ xs. MayRemark r.kind r.counter xs) c.as_slice.ensures.value c.in-Ok.ensures.may in
    remarks r origin c.in-Ok.counter (ledger_in old) (ledger_in new) c.in_ok-rows.rows.items (c.in_ok-rows.ensures.rows early) c.in-Ok.ensures.is may
    (from_old old mid (remarked_row r origin) (ledger_in new) (c.in_ok-rows.ensures.same early) (rw c.row_kind.ensures at (c.in_ok-add.ensures.adds clean)))

pub returns-clause-crash : goal.returns-clause-crash
returns-clause-crash g c =
    let r = c.args.remark.now in
    let origin = origin_by c.args.station.now c.args.operator.now c.args.time.now in
    let old = state g.S.Store c.args.conn.now in
    let mid = state g.S.Store c.rows_for.new.conn in
    let new = state g.S.Store c.add.new.conn in
    let may = subst (λ xs. MayRemark r.kind r.counter xs) c.as_slice.ensures.value c.in-Ok.ensures.may in
    looked_then old mid new (remarked_row r origin) _ (λ clean. c.in_ok-rows.ensures.same clean) c.rows_for.ensures.survives (rw c.row_kind.ensures at c.add.ensures.crash)
    (λ clean left adds. (c.in-Ok.counter, remarks r origin c.in-Ok.counter (ledger_in old) (ledger_of (left 0)) c.in_ok-rows.rows.items (c.in_ok-rows.ensures.rows (omega (arith, c.add.ensures.crash.clean))) c.in-Ok.ensures.is may adds))

pub returns-in_err-rows-clause-failed : goal.returns-in_err-rows-clause-failed
returns-in_err-rows-clause-failed g c clean =
    let p = err_from_is_err_and c.from_residual.result c.from_residual.ensures.1 in
    rw (p.1, p.2) (inl (c.in_err-rows.ensures.failed clean))

pub returns-in_err-rows-clause-undone : goal.returns-in_err-rows-clause-undone
returns-in_err-rows-clause-undone g c clean = on_err c.from_residual.result (c.in_err-rows.ensures.undone clean)

pub returns-in_err-add-clause-failed : goal.returns-in_err-add-clause-failed
returns-in_err-add-clause-failed g c clean =
    let r = c.args.remark.now in
    let origin = origin_by c.args.station.now c.args.operator.now c.args.time.now in
    let old = state g.S.Store c.args.conn.now in
    let mid = state g.S.Store c.rows_for.new.conn in
    let new = state g.S.Store c.add.new.conn in
    let early : HasCleanDisk mid = omega (arith, c.add.ensures.crash.clean) in
    let p = err_from_is_err_and c.from_residual-in_err-add.result c.from_residual-in_err-add.ensures.1 in
    rw (p.1, p.2) (inr (looked_fails old mid new (remarked_row r origin) c.in_err-add.field-0.0 (c.in_ok-rows.ensures.same early) c.rows_for.ensures.survives.counts c.rows_for.ensures.survives.limit
    (rw c.row_kind.ensures at (c.in_err-add.ensures.failed clean))))

pub returns-in_err-add-clause-undone : goal.returns-in_err-add-clause-undone
returns-in_err-add-clause-undone g c clean =
    let old = state g.S.Store c.args.conn.now in
    let mid = state g.S.Store c.rows_for.new.conn in
    let new = state g.S.Store c.add.new.conn in
    let early : HasCleanDisk mid = omega (arith, c.add.ensures.crash.clean) in
    on_err c.from_residual-in_err-add.result (looked_undone old mid new (c.in_ok-rows.ensures.same early) (c.in_err-add.ensures.undone clean))
