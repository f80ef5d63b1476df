use Rattle.std.proofs.Common.{inl, arith}
use Rattle.std.proofs.lemmas.Result.{IfOk-weaker, IfErr-weaker}
use Rattle.sqlite.specs.State.{HasCleanDisk}
use Rattle.sqlite.specs.Held.{state}
use Rattle.sqlite_trees.specs.declared.error.StoreError.TheVariants.{OutOfMemory}
use Rattle.ledger_rows.specs.Rows.{slot_rows}
use Rattle.ledger_rows.proofs.CallerLemmas.{lists_permuted}
use Rattle.ledger_tables.specs.Held.{ledger_in}
use Rattle.ledger_tables.proofs.Stated.{on_ok, on_err}
use Rattle.ledger_tables.proofs.Failed.{undone_same}
use Rattle.ledger_tables.proofs.verbs.list.Goals as goal

pub returns-clause-lists : goal.returns-clause-lists
returns-clause-lists g c clean =
    let all = slot_rows c.args.uid.now c.args.id (ledger_in (state g.S.Store c.args.conn.now)) in
    IfOk-weaker c.listed.result _ _ (λ it lists. lists_permuted c.args.kind all c.in_ok-rows.rows.items it.items (c.in_ok-rows.ensures.rows clean) lists) c.listed.ensures.lists

pub returns-clause-same : goal.returns-clause-same
returns-clause-same g c clean = on_ok c.listed.result (c.in_ok-rows.ensures.same clean)

pub returns-clause-failed : goal.returns-clause-failed
returns-clause-failed g c clean = IfErr-weaker c.listed.result _ _ (λ e none. inl (OutOfMemory, none, tt)) c.listed.ensures.failed

pub returns-clause-undone : goal.returns-clause-undone
returns-clause-undone g c clean =
    let early : HasCleanDisk (state g.S.Store c.args.conn.now) = omega (arith, c.rows_for.ensures.survives.clean) in
    on_err c.listed.result (undone_same _ _ (c.requires early) (c.in_ok-rows.ensures.same clean))
