-- One slot more.
use Rattle.std.proofs.Common.{◌≡◌, ◌+◌, [], get_or, set, take, map, sym, ap, ◌∙◌, arith, rules, subst}
use Rattle.key_slots.specs.declared.memory.Slot.{Slot}
use Rattle.slot_disk.specs.Cell.{slot_cell, HoldsSlot}
use Rattle.slot_disk.proofs.SlotsSoFar.{one_more}
use Rattle.slot_disk.proofs.slots.read_slots.Goals as goal
use borrow.Author.Count.{below_more}

pub loop-number-preserved : goal.loop-number-preserved
loop-number-preserved g c =
    let cells = (g.C.Cells.state c.args.cells.now).cells in
    let slots = c.loop-number.slots in
    let n = c.loop-number.number in
    let here : c.unwrap-id.result ≡ c.loop-number.number = search rules in
    let got : c.get.new.out ≡ get_or (g.C.Cells.state c.args.cells.now).cells c.loop-number.number [] = c.get.ensures ∙ ap (λ k. get_or cells k []) c.from.ensures in
    let holds = subst (λ cell. HoldsSlot cell c.in-Some.slot) got c.in-Some.ensures in
    let value : c.set.new.self ≡ set c.loop-number.slots c.loop-number.number c.in-Some.slot = c.set.ensures.value ∙ ap (λ k. set slots k c.in-Some.slot) here in
    record {
      are_slots = c.set.ensures.whole;
      cells_are = subst (λ now. take (n + 1) cells ≡ map slot_cell (take (n + 1) now)) (sym value)
          (one_more cells slots n c.in-Some.slot (omega arith) (omega (arith, c.loop-number.invariant.are_slots.size)) c.loop-number.invariant.cells_are holds.cell_is);
      before = below_more (λ i. (slot : Slot) × HoldsSlot (get_or cells i []) slot) n c.loop-number.invariant.before (c.in-Some.slot, holds);
    }
