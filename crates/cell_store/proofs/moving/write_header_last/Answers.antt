-- All behind the header, and then the header.
use Rattle.std.proofs.Common.{None, length, arith}
use Rattle.std.proofs.lemmas.Result.{on_ok_weaker, on_err_weaker}
use Rattle.cut_disk.proofs.CallerLemmas.{runs_join, runs_more, grows_then}
use Rattle.cell_store.proofs.FormatLaws.{lasts_same, lasts_at, tears_sized, tears_at}
use Rattle.cell_store.proofs.Results.{OnOk-from, OnErr-from}
use Rattle.cell_store.proofs.MovingLaws.{last-fresh, last-behind, last-header}
use Rattle.cell_store.proofs.moving.write_header_last.Goals as goal

pub returns-in_err-write_behind-clause-runs : goal.returns-in_err-write_behind-clause-runs
returns-in_err-write_behind-clause-runs g c = runs_more _ (omega arith) c.write_behind.ensures.runs

pub returns-clause-runs : goal.returns-clause-runs
returns-clause-runs g c = runs_join c.write_behind.ensures.runs c.write_and_sync.ensures.runs

pub returns-clause-grows : goal.returns-clause-grows
returns-clause-grows g c = OnOk-from c.write_and_sync.result (grows_then c.in_ok-write_behind.ensures.grows c.write_and_sync.ensures.runs)

pub returns-clause-fresh : goal.returns-clause-fresh
returns-clause-fresh g c =
    on_ok_weaker c.write_and_sync.result
    (λ last. last-fresh c.args.kind c.args.version c.args.cells.now c.told-cells c.requires.few _ _ _
    (λ t is. let sized = (g.met.D.Disk.is_disk c.args.disk.now).bytes_sized t is in omega (arith, sized, c.requires.room))
    c.in_ok-write_behind.ensures.firm
    (lasts_same _ _ _ _ _ c.header-head.ensures (lasts_at c.base.result _ _ _ _ c.base.ensures last)))
    c.write_and_sync.ensures.lasts

pub returns-in_err-write_behind-clause-torn : goal.returns-in_err-write_behind-clause-torn
returns-in_err-write_behind-clause-torn g c =
    OnErr-from c.from_residual.result (last-behind c.args.kind c.args.version c.args.cells.now c.told-cells c.requires.few _ _ None
    (λ t is. let sized = (g.met.D.Disk.is_disk c.args.disk.now).bytes_sized t is in omega (arith, sized, c.requires.room))
    c.in_err-write_behind.ensures.torn)

pub returns-clause-torn : goal.returns-clause-torn
returns-clause-torn g c =
    on_err_weaker c.write_and_sync.result
    (λ tears. last-header c.args.kind c.args.version c.args.cells.now c.told-cells c.requires.few _ _ _
    (λ t is. let sized = (g.met.D.Disk.is_disk c.args.disk.now).bytes_sized t is in omega (arith, sized, c.requires.room))
    c.in_ok-write_behind.ensures.firm
    (tears_sized _ (length c.header-head.result) 32 _ _ (omega arith) (tears_at c.base.result _ _ _ _ c.base.ensures tears)))
    c.write_and_sync.ensures.torn

pub returns-in_err-write_behind-clause-sized : goal.returns-in_err-write_behind-clause-sized
returns-in_err-write_behind-clause-sized g c = c.told-cells

pub returns-clause-sized : goal.returns-clause-sized
returns-clause-sized g c = c.told-cells
