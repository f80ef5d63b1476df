use Rattle.std.proofs.Common.{map, sym, ap, subst, inl, inr, Any, ◌∙◌, arith}
use Rattle.std.proofs.lemmas.Result.{IfOk-weaker, IfErr-weaker, err_from_is_err_and}
use Rattle.sqlite.specs.State.{HasCleanDisk}
use Rattle.sqlite.specs.Held.{state}
use Rattle.sqlite_trees.specs.declared.error.StoreError.TheVariants.{OutOfMemory}
use Rattle.ledger_tables.specs.Reading.{shown_slot_row, IsShownWhole}
use Rattle.ledger_tables.proofs.Texts.{slot_text, slot_plain}
use Rattle.ledger_tables.proofs.Matching.{reads}
use Rattle.ledger_tables.proofs.Failed.{look_fails, undone_same}
use Rattle.ledger_tables.proofs.Damaged.{damaged}
use Rattle.ledger_tables.proofs.Stated.{quiet, shown_same, plain_at, on_ok, on_err}
use Rattle.ledger_tables.proofs.reading.rows_for.Goals as goal

pub returns-in_err-rows-clause-survives : goal.returns-in_err-rows-clause-survives
returns-in_err-rows-clause-survives g c = quiet slot_text _ _ _ slot_plain c.requires c.query_all.ensures.survives

pub returns-clause-rows : goal.returns-clause-rows
returns-clause-rows g c clean =
    let early : HasCleanDisk (state g.S.Store c.args.conn.now) = omega (arith, c.query_all.ensures.survives.clean) in
    let shown = rw (c.params-to_sql.ensures, c.params-to_sql-2.ensures, c.from.ensures, c.as_slice.ensures.value, c.number.ensures.value) at (c.in_ok-rows.ensures.ok clean) in
    IfOk-weaker c.each_slot_row.result _ _ (λ read each. reads c.args.uid.now c.args.id (state g.S.Store c.args.conn.now) (state g.S.Store c.query_all.new.self) c.in_ok-rows.rows.items read.items (c.requires early).schema shown (sym (ap (map shown_slot_row) c.as_slice-2.ensures.value) ∙ each)) c.each_slot_row.ensures.read

pub returns-clause-same : goal.returns-clause-same
returns-clause-same g c clean =
    let early : HasCleanDisk (state g.S.Store c.args.conn.now) = omega (arith, c.query_all.ensures.survives.clean) in
    on_ok c.each_slot_row.result (shown_same slot_text _ _ _ _ (plain_at slot_text _ (c.requires early).schema slot_plain) (c.in_ok-rows.ensures.ok clean))

pub returns-clause-survives : goal.returns-clause-survives
returns-clause-survives g c = quiet slot_text _ _ _ slot_plain c.requires c.query_all.ensures.survives

pub returns-in_err-rows-clause-failed : goal.returns-in_err-rows-clause-failed
returns-in_err-rows-clause-failed g c clean =
    let early : HasCleanDisk (state g.S.Store c.args.conn.now) = omega (arith, c.query_all.ensures.survives.clean) in
    let p = err_from_is_err_and c.from_residual.result c.from_residual.ensures.1 in
    let fails = rw (c.params-to_sql.ensures, c.params-to_sql-2.ensures, c.from.ensures, c.as_slice.ensures.value, c.number.ensures.value) at (c.in_err-rows.ensures.err clean) in
    rw (p.1, p.2) ((look_fails c.args.uid.now c.args.id (state g.S.Store c.args.conn.now) (state g.S.Store c.query_all.new.self) c.in_err-rows.field-0.0 (c.requires early) fails).0)

pub returns-in_err-rows-clause-undone : goal.returns-in_err-rows-clause-undone
returns-in_err-rows-clause-undone g c clean =
    let early : HasCleanDisk (state g.S.Store c.args.conn.now) = omega (arith, c.query_all.ensures.survives.clean) in
    let fails = rw (c.params-to_sql.ensures, c.params-to_sql-2.ensures, c.from.ensures, c.as_slice.ensures.value, c.number.ensures.value) at (c.in_err-rows.ensures.err clean) in
    on_err c.from_residual.result (look_fails c.args.uid.now c.args.id (state g.S.Store c.args.conn.now) (state g.S.Store c.query_all.new.self) c.in_err-rows.field-0.0 (c.requires early) fails).1

pub returns-clause-failed : goal.returns-clause-failed
returns-clause-failed g c clean =
    let early : HasCleanDisk (state g.S.Store c.args.conn.now) = omega (arith, c.query_all.ensures.survives.clean) in
    let shown = rw (c.params-to_sql.ensures, c.params-to_sql-2.ensures, c.from.ensures, c.as_slice.ensures.value, c.number.ensures.value) at (c.in_ok-rows.ensures.ok clean) in
    IfErr-weaker c.each_slot_row.result _ _ (λ e why. elim why [
      | inl none ↦ inl (OutOfMemory, none, tt)
      | inr both ↦ inr (inr (
        both.0,
        damaged c.args.uid.now c.args.id (state g.S.Store c.args.conn.now) (state g.S.Store c.query_all.new.self) c.in_ok-rows.rows.items (c.requires early).schema shown
            (subst (Any (λ row. ¬ IsShownWhole row)) c.as_slice-2.ensures.value both.1),
      ))
    ]) c.each_slot_row.ensures.failed

pub returns-clause-undone : goal.returns-clause-undone
returns-clause-undone g c clean =
    let early : HasCleanDisk (state g.S.Store c.args.conn.now) = omega (arith, c.query_all.ensures.survives.clean) in
    on_err c.each_slot_row.result (undone_same _ _ (c.requires early) (shown_same slot_text _ _ _ _ (plain_at slot_text _ (c.requires early).schema slot_plain) (c.in_ok-rows.ensures.ok clean)))
