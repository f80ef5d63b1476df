use Rattle.std.proofs.Common.{◌≡◌, ℕ, ◌+◌, ◌*◌, length, set, ◌∙◌, arith, replicate, ap}
use Rattle.std.proofs.lemmas.List.{length-set}
use Rattle.cell_store.proofs.BankLaws.{Sized-set}
use Rattle.cell_store.proofs.Slices.{fill-whole, mid-length}
use Rattle.cell_store.proofs.refilling.fill_bank.Goals as goal

pub returns : goal.returns
returns c =
    let n = length-set c.args.cells.now c.args.cell c.args.payload.now in
    let e : length (set c.args.cells.now c.args.cell c.args.payload.now) ≡ length c.args.cells.now = n in
    fill-whole c.args.room.now c.fill_cells.new.room c.args.mark _ (set c.args.cells.now c.args.cell c.args.payload.now) c.fill.new.self
    (Sized-set c.args.cells.now c.args.cell c.args.payload.now c.told-cells (omega arith)) (omega (arith, c.requires)) c.fill_cells.ensures (let r = c.requires in let s = length-set c.args.room.now 0 c.args.mark in omega arith) (let filled : c.fill.new.self ≡ replicate 2240 0 = c.fill.ensures.after (λ y same. same) ∙ ap (λ k. replicate {A = ℕ} k 0) (let r = c.requires in let l = c.fill_cells.auto.room in let s = length-set c.args.room.now 0 c.args.mark in mid-length (1 + 32 * length c.args.cells.now) 2240 c.fill_cells.new.room (omega arith)) in filled) (length c.args.cells.now) e
