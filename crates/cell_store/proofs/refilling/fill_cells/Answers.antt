use Rattle.std.proofs.Common.{set, sym, ◌∙◌, arith}
use Rattle.std.proofs.lemmas.List.{length-set}
use Rattle.cell_store.proofs.BankLaws.{Sized-set}
use Rattle.cell_store.proofs.Slices.{splice-none, fill-step}
use Rattle.cell_store.proofs.refilling.fill_cells.Goals as goal

pub loop-i-init : goal.loop-i-init
loop-i-init c = sym (splice-none 1 c.args.room.now)

pub loop-i-preserved : goal.loop-i-preserved
loop-i-preserved c =
    let n = length-set c.args.cells.now c.args.cell c.args.payload.now in
    fill-step c.loop-i.room c.args.room.now (set c.args.cells.now c.args.cell c.args.payload.now) c.loop-i.i _ c.copy_from_slice.new.self
    (Sized-set c.args.cells.now c.args.cell c.args.payload.now c.told-cells (omega arith)) (omega arith) (omega (arith, c.requires)) c.loop-i.invariant (omega arith) (c.copy_from_slice.ensures.after ∙ c.cell_with.ensures)
