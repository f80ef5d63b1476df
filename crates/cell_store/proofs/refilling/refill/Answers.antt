use Rattle.std.proofs.Common.{length, set, arith, ap, refl, ◌∙◌}
use Rattle.cut_disk.proofs.CallerLemmas.{runs_more}
use Rattle.cell_store.specs.Copies.{other}
use Rattle.cell_store.specs.Log.{bank_at, bank_rest}
use Rattle.cell_store.proofs.GateLaws.{most-any}
use Rattle.cell_store.proofs.RefillKept.{refill-gate, refill-images, refill-done, refill-besides}
use Rattle.cell_store.proofs.Results.{OnErr-from}
use Rattle.cell_store.proofs.refilling.refill.Goals as goal

pub write_gated-requires-clause-gate : goal.write_gated-requires-clause-gate
write_gated-requires-clause-gate g c =
    refill-gate c.args.version (length c.args.cells.now) c.args.cells.now c.args.bank c.args.cell c.args.payload.now _ (g.D.Disk.state c.args.disk.now).told c.requires.few c.requires.full _ (omega (arith, c.base.ensures, c.bank_address.ensures.is ∙ ap (bank_at (length c.args.cells.now)) c.other-side.ensures)) c.fill_bank.new.room (c.fill_bank.ensures ∙ ap (λ m. bank_rest m (set c.args.cells.now c.args.cell c.args.payload.now)) c.next-mark.ensures) c.told-cells (omega arith) refl c.requires.keeps

pub returns-in_err-write_gated-clause-runs : goal.returns-in_err-write_gated-clause-runs
returns-in_err-write_gated-clause-runs g c = runs_more 6 (most-any c.args.bank.spare_is_live) c.write_gated.ensures.runs

pub returns-clause-runs : goal.returns-clause-runs
returns-clause-runs g c = runs_more 6 (most-any c.args.bank.spare_is_live) c.write_gated.ensures.runs

pub returns-in_err-write_gated-clause-images : goal.returns-in_err-write_gated-clause-images
returns-in_err-write_gated-clause-images g c =
    OnErr-from c.from_residual.result
    (refill-images c.args.version (length c.args.cells.now) c.args.cells.now c.args.bank c.args.cell c.args.payload.now _ _ c.requires.few c.requires.full _ (omega (arith, c.base.ensures, c.bank_address.ensures.is ∙ ap (bank_at (length c.args.cells.now)) c.other-side.ensures)) c.fill_bank.new.room (c.fill_bank.ensures ∙ ap (λ m. bank_rest m (set c.args.cells.now c.args.cell c.args.payload.now)) c.next-mark.ensures) c.told-cells (omega arith) refl c.requires.keeps c.in_err-write_gated.ensures.torn)

pub returns-clause-done : goal.returns-clause-done
returns-clause-done g c =
    rw (c.other-side.ensures, c.next-mark.ensures)
    (refill-done c.args.version (length c.args.cells.now) c.args.cells.now c.args.bank c.args.cell c.args.payload.now _ _ c.requires.few c.requires.full _ (omega (arith, c.base.ensures, c.bank_address.ensures.is ∙ ap (bank_at (length c.args.cells.now)) c.other-side.ensures)) c.fill_bank.new.room (c.fill_bank.ensures ∙ ap (λ m. bank_rest m (set c.args.cells.now c.args.cell c.args.payload.now)) c.next-mark.ensures) c.told-cells (omega arith) refl c.requires.keeps c.in_ok-write_gated.ensures.written)

pub returns-in_err-write_gated-clause-besides : goal.returns-in_err-write_gated-clause-besides
returns-in_err-write_gated-clause-besides g c =
    refill-besides c.args.version (length c.args.cells.now) (other c.args.bank.side) _ c.fill_bank.new.room _ _ (omega (arith, c.base.ensures, c.bank_address.ensures.is ∙ ap (bank_at (length c.args.cells.now)) c.other-side.ensures)) (omega arith) c.write_gated.ensures.outside

pub returns-clause-besides : goal.returns-clause-besides
returns-clause-besides g c =
    refill-besides c.args.version (length c.args.cells.now) (other c.args.bank.side) _ c.fill_bank.new.room _ _ (omega (arith, c.base.ensures, c.bank_address.ensures.is ∙ ap (bank_at (length c.args.cells.now)) c.other-side.ensures)) (omega arith) c.write_gated.ensures.outside
