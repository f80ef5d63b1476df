use Rattle.std.proofs.Common.{length, arith}
use Rattle.cell_store.proofs.LogKeptLaws.{append-gate, append-images, append-done, append-besides}
use Rattle.cell_store.proofs.Results.{OnErr-from}
use Rattle.cell_store.proofs.appending.append.Goals as goal

pub write_gated-requires-clause-gate : goal.write_gated-requires-clause-gate
write_gated-requires-clause-gate g c =
    append-gate c.args.version (length c.args.cells.now) c.args.cells.now c.args.bank c.args.cell c.args.payload.now _ (g.D.Disk.state c.args.disk.now).told c.requires.few c.requires.free c.requires.below _ (omega (arith, c.base.ensures, c.place_address.ensures.is)) c.record_of.result c.record_of.ensures (omega arith) c.requires.keeps

pub returns-in_err-write_gated-clause-images : goal.returns-in_err-write_gated-clause-images
returns-in_err-write_gated-clause-images g c =
    OnErr-from c.from_residual.result
    (append-images c.args.version (length c.args.cells.now) c.args.cells.now c.args.bank c.args.cell c.args.payload.now _ _ c.requires.few c.requires.free c.requires.below _ (omega (arith, c.base.ensures, c.place_address.ensures.is)) c.record_of.result c.record_of.ensures (omega arith) c.requires.keeps c.in_err-write_gated.ensures.torn)

pub returns-clause-done : goal.returns-clause-done
returns-clause-done g c =
    append-done c.args.version (length c.args.cells.now) c.args.cells.now c.args.bank c.args.cell c.args.payload.now _ _ c.requires.few c.requires.free c.requires.below _ (omega (arith, c.base.ensures, c.place_address.ensures.is)) c.record_of.result c.record_of.ensures (omega arith) c.requires.keeps c.in_ok-write_gated.ensures.written

pub returns-in_err-write_gated-clause-besides : goal.returns-in_err-write_gated-clause-besides
returns-in_err-write_gated-clause-besides g c =
    append-besides c.args.version (length c.args.cells.now) c.args.bank.side c.args.bank.used _ c.record_of.result _ _ (omega (arith, c.base.ensures, c.place_address.ensures.is)) (omega arith) c.requires.free c.write_gated.ensures.outside

pub returns-clause-besides : goal.returns-clause-besides
returns-clause-besides g c =
    append-besides c.args.version (length c.args.cells.now) c.args.bank.side c.args.bank.used _ c.record_of.result _ _ (omega (arith, c.base.ensures, c.place_address.ensures.is)) (omega arith) c.requires.free c.write_gated.ensures.outside
