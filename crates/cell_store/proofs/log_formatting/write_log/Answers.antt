-- A blank, both banks, and then the header.
use Rattle.std.proofs.Common.{◌+◌, ◌*◌, None, arith, length}
use Rattle.std.proofs.lemmas.Result.{on_ok_weaker, on_err_weaker}
use Rattle.cut_disk.proofs.CallerLemmas.{runs_join, runs_more, grows_then, grows_after}
use Rattle.cell_store.specs.Layout.{log_layout}
use Rattle.cell_store.proofs.FreshStands.{length-fresh_log, log-rest, fresh_stands}
use Rattle.cell_store.proofs.FormatLaws.{formatted, unformed-blank, unformed-cells, unformed-header, lasts_same, lasts_at, tears_sized, tears_at}
use Rattle.cell_store.proofs.Results.{OnOk-from, OnErr-from}
use Rattle.cell_store.proofs.log_formatting.write_log.Goals as goal

pub returns-in_err-write_and_sync-clause-runs : goal.returns-in_err-write_and_sync-clause-runs
returns-in_err-write_and_sync-clause-runs g c = runs_more _ (omega arith) c.write_and_sync.ensures.runs

pub returns-in_err-write_banks-clause-runs : goal.returns-in_err-write_banks-clause-runs
returns-in_err-write_banks-clause-runs g c = runs_more _ (omega arith) (runs_join c.write_and_sync.ensures.runs c.write_banks.ensures.runs)

pub returns-clause-runs : goal.returns-clause-runs
returns-clause-runs g c = runs_more _ (omega arith) (runs_join (runs_join c.write_and_sync.ensures.runs c.write_banks.ensures.runs) c.write_and_sync-2.ensures.runs)

pub returns-clause-grows : goal.returns-clause-grows
returns-clause-grows g c =
    OnOk-from c.write_and_sync-2.result
    (grows_then (grows_after c.write_and_sync.ensures.runs c.in_ok-write_banks.ensures.grows) c.write_and_sync-2.ensures.runs)

pub returns-clause-fresh : goal.returns-clause-fresh
returns-clause-fresh g c =
    on_ok_weaker c.write_and_sync-2.result
    (λ last. formatted (log_layout c.args.version) c.args.cells.now (4484 + 64 * length c.args.cells.now) (length-fresh_log c.args.cells.now c.told-cells) (log-rest _) _ _ _ _
    (λ t is. let sized = (g.met.D.Disk.is_disk c.args.disk.now).bytes_sized t is in omega (arith, sized, c.requires.room))
    (λ x y room fresh. fresh_stands (log_layout c.args.version) c.args.cells.now x y c.requires.few room c.told-cells fresh)
    (lasts_at c.base-base.result _ _ _ _ c.base-base.ensures c.in_ok-write_and_sync.ensures.lasts)
    c.in_ok-write_banks.ensures.banks
    (lasts_same _ _ _ _ _ c.header-head.ensures (lasts_at c.base-base.result _ _ _ _ c.base-base.ensures last)))
    c.write_and_sync-2.ensures.lasts

pub returns-in_err-write_and_sync-clause-unformed : goal.returns-in_err-write_and_sync-clause-unformed
returns-in_err-write_and_sync-clause-unformed g c =
    OnErr-from c.from_residual.result (unformed-blank (log_layout c.args.version) c.args.cells.now (4484 + 64 * length c.args.cells.now) (length-fresh_log c.args.cells.now c.told-cells) (log-rest _) _ _ None None
    (λ t is. let sized = (g.met.D.Disk.is_disk c.args.disk.now).bytes_sized t is in omega (arith, sized, c.requires.room))
    (tears_at c.base-base.result _ _ _ _ c.base-base.ensures c.in_err-write_and_sync.ensures.torn))

pub returns-in_err-write_banks-clause-unformed : goal.returns-in_err-write_banks-clause-unformed
returns-in_err-write_banks-clause-unformed g c =
    OnErr-from c.from_residual-in_err-write_banks.result (unformed-cells (log_layout c.args.version) c.args.cells.now (4484 + 64 * length c.args.cells.now) (length-fresh_log c.args.cells.now c.told-cells) (log-rest _) _ _ _ None
    (λ t is. let sized = (g.met.D.Disk.is_disk c.args.disk.now).bytes_sized t is in omega (arith, sized, c.requires.room))
    (lasts_at c.base-base.result _ _ _ _ c.base-base.ensures c.in_ok-write_and_sync.ensures.lasts) c.in_err-write_banks.ensures.torn)

pub returns-clause-unformed : goal.returns-clause-unformed
returns-clause-unformed g c =
    on_err_weaker c.write_and_sync-2.result
    (λ tears. unformed-header (log_layout c.args.version) c.args.cells.now (4484 + 64 * length c.args.cells.now) (length-fresh_log c.args.cells.now c.told-cells) (log-rest _) _ _ _ _
    (λ t is. let sized = (g.met.D.Disk.is_disk c.args.disk.now).bytes_sized t is in omega (arith, sized, c.requires.room))
    (lasts_at c.base-base.result _ _ _ _ c.base-base.ensures c.in_ok-write_and_sync.ensures.lasts)
    c.in_ok-write_banks.ensures.banks
    (tears_sized _ (length c.header-head.result) 32 _ _ (omega arith) (tears_at c.base-base.result _ _ _ _ c.base-base.ensures tears)))
    c.write_and_sync-2.ensures.torn
