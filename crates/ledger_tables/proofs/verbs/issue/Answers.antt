use Rattle.std.proofs.Common.{inl, inr, ◌≡◌, ◌+◌, ◌≤◌, ap, sym, subst, ◌∙◌, true, false, arith}
use Rattle.key_slots.specs.Authority.{is_pair}
use Rattle.key_slots.proofs.CallerLemmas.{answer_is_pair}
use Rattle.key_campaign.specs.Entries.{greatest_counter}
use Rattle.sqlite.specs.State.{HasCleanDisk}
use Rattle.sqlite.specs.Held.{state}
use Rattle.ledger_rows.specs.Rows.{slot_rows, greatest_in}
use Rattle.ledger_rows.specs.Steps.{issued_row}
use Rattle.ledger_rows.proofs.CallerLemmas.{greatest_permuted}
use Rattle.ledger_tables.specs.Held.{ledger_of, ledger_in}
use Rattle.ledger_tables.specs.Adding.{origin_by}
use Rattle.std.proofs.lemmas.Result.{err_from_is_err_and}
use Rattle.ledger_tables.proofs.Stated.{on_err}
use Rattle.ledger_tables.proofs.Failed.{looked_fails, looked_undone}
use Rattle.ledger_tables.proofs.Deciding.{issues, from_old, looked_then}
use Rattle.ledger_tables.proofs.verbs.issue.Goals as goal

pub returns-then-not-may_authorise-clause-refused : goal.returns-then-not-may_authorise-clause-refused
returns-then-not-may_authorise-clause-refused g c clean = sym (answer_is_pair false c.args.issue.now.id c.args.issue.now.auth c.if-not-may_authorise.ensures)

pub returns-in_default-clause-refused : goal.returns-in_default-clause-refused
returns-in_default-clause-refused g c clean =
    let i = c.args.issue.now in
    let spent : greatest_counter ≤ greatest_in c.in_ok-rows.rows.items = subst (λ xs. greatest_counter ≤ greatest_in xs) c.as_slice.ensures.value c.in_default.ensures.spent in
    let same = greatest_permuted (slot_rows i.uid i.id (ledger_in (state g.S.Store c.args.conn.now))) c.in_ok-rows.rows.items (c.in_ok-rows.ensures.rows clean) in
    (sym (answer_is_pair true i.id i.auth c.if-not-may_authorise.ensures), subst (λ n. greatest_counter ≤ n) (sym same) spent)

pub returns-in_err-add-clause-crash : goal.returns-in_err-add-clause-crash
returns-in_err-add-clause-crash g c =
    let i = c.args.issue.now in
    let origin = origin_by c.args.station.now c.args.operator.now c.args.time.now in
    let old = state g.S.Store c.args.conn.now in
    let mid = state g.S.Store c.rows_for.new.conn in
    let new = state g.S.Store c.add.new.conn in
    let pair : is_pair i.id i.auth ≡ true = sym (answer_is_pair true i.id i.auth c.if-not-may_authorise.ensures) in
    let next : c.in-Some.counter ≡ greatest_in c.in_ok-rows.rows.items + 1 = c.in-Some.ensures.next ∙ ap (λ xs. greatest_in xs + 1) c.as_slice.ensures.value in
    looked_then old mid new (issued_row i origin c.in-Some.counter) _ (λ clean. c.in_ok-rows.ensures.same clean) c.rows_for.ensures.survives (rw c.check_value.ensures at c.add.ensures.crash)
    (λ clean left adds. (c.in-Some.counter, issues i origin c.in-Some.counter (ledger_in old) (ledger_of (left 0)) c.in_ok-rows.rows.items pair (c.in_ok-rows.ensures.rows (omega (arith, c.add.ensures.crash.clean))) next c.in-Some.ensures.fits adds))

pub returns-clause-issued : goal.returns-clause-issued
returns-clause-issued g c clean =
    let i = c.args.issue.now in
    let origin = origin_by c.args.station.now c.args.operator.now c.args.time.now in
    let old = state g.S.Store c.args.conn.now in
    let mid = state g.S.Store c.rows_for.new.conn in
    let new = state g.S.Store c.add.new.conn in
    let early : HasCleanDisk mid = omega (arith, c.add.ensures.crash.clean) in
    let pair : is_pair i.id i.auth ≡ true = sym (answer_is_pair true i.id i.auth c.if-not-may_authorise.ensures) in
    let next : c.in-Some.counter ≡ greatest_in c.in_ok-rows.rows.items + 1 = c.in-Some.ensures.next ∙ ap (λ xs. greatest_in xs + 1) c.as_slice.ensures.value in
    issues i origin c.in-Some.counter (ledger_in old) (ledger_in new) c.in_ok-rows.rows.items pair (c.in_ok-rows.ensures.rows early) next c.in-Some.ensures.fits
    (from_old old mid (issued_row i origin c.in-Some.counter) (ledger_in new) (c.in_ok-rows.ensures.same early) (rw c.check_value.ensures at (c.in_ok-add.ensures.adds clean)))

pub returns-clause-crash : goal.returns-clause-crash
returns-clause-crash g c =
    let i = c.args.issue.now in
    let origin = origin_by c.args.station.now c.args.operator.now c.args.time.now in
    let old = state g.S.Store c.args.conn.now in
    let mid = state g.S.Store c.rows_for.new.conn in
    let new = state g.S.Store c.add.new.conn in
    let pair : is_pair i.id i.auth ≡ true = sym (answer_is_pair true i.id i.auth c.if-not-may_authorise.ensures) in
    let next : c.in-Some.counter ≡ greatest_in c.in_ok-rows.rows.items + 1 = c.in-Some.ensures.next ∙ ap (λ xs. greatest_in xs + 1) c.as_slice.ensures.value in
    looked_then old mid new (issued_row i origin c.in-Some.counter) _ (λ clean. c.in_ok-rows.ensures.same clean) c.rows_for.ensures.survives (rw c.check_value.ensures at c.add.ensures.crash)
    (λ clean left adds. (c.in-Some.counter, issues i origin c.in-Some.counter (ledger_in old) (ledger_of (left 0)) c.in_ok-rows.rows.items pair (c.in_ok-rows.ensures.rows (omega (arith, c.add.ensures.crash.clean))) next c.in-Some.ensures.fits adds))

pub returns-in_err-rows-clause-failed : goal.returns-in_err-rows-clause-failed
returns-in_err-rows-clause-failed g c clean =
    let p = err_from_is_err_and c.from_residual.result c.from_residual.ensures.1 in
    rw (p.1, p.2) (inl (c.in_err-rows.ensures.failed clean))

pub returns-in_err-rows-clause-undone : goal.returns-in_err-rows-clause-undone
returns-in_err-rows-clause-undone g c clean = on_err c.from_residual.result (c.in_err-rows.ensures.undone clean)

pub returns-in_err-add-clause-failed : goal.returns-in_err-add-clause-failed
returns-in_err-add-clause-failed g c clean =
    let i = c.args.issue.now in
    let origin = origin_by c.args.station.now c.args.operator.now c.args.time.now in
    let old = state g.S.Store c.args.conn.now in
    let mid = state g.S.Store c.rows_for.new.conn in
    let new = state g.S.Store c.add.new.conn in
    let early : HasCleanDisk mid = omega (arith, c.add.ensures.crash.clean) in
    let p = err_from_is_err_and c.from_residual-in_err-add.result c.from_residual-in_err-add.ensures.1 in
    rw (p.1, p.2) (inr (
      c.in-Some.counter,
      looked_fails old mid new (issued_row i origin c.in-Some.counter) c.in_err-add.field-0.0 (c.in_ok-rows.ensures.same early) c.rows_for.ensures.survives.counts c.rows_for.ensures.survives.limit
          (rw c.check_value.ensures at (c.in_err-add.ensures.failed clean)),
    ))

pub returns-in_err-add-clause-undone : goal.returns-in_err-add-clause-undone
returns-in_err-add-clause-undone g c clean =
    let old = state g.S.Store c.args.conn.now in
    let mid = state g.S.Store c.rows_for.new.conn in
    let new = state g.S.Store c.add.new.conn in
    let early : HasCleanDisk mid = omega (arith, c.add.ensures.crash.clean) in
    on_err c.from_residual-in_err-add.result (looked_undone old mid new (c.in_ok-rows.ensures.same early) (c.in_err-add.ensures.undone clean))
