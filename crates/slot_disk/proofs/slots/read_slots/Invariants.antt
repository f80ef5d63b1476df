-- The slots so far are those of as many cells.
use Rattle.std.proofs.Common.{◌≡◌, ◌<◌, ℕ, [], take, map, slice_index_or}
use Rattle.key_slots.specs.declared.memory.Slot.{Slot}
use Rattle.key_slots.specs.Slots.{IsSlots}
use Rattle.slot_disk.specs.Cell.{slot_cell, HoldsSlot}
use Rattle.slot_disk.proofs.slots.read_slots.Given as goal

abbrev pub invariant-loop-number : goal.invariant-loop-number
invariant-loop-number g l = record {
  are_slots : IsSlots l.slots;
  cells_are : take l.number (g.C.Cells.state l.cells).cells ≡ map slot_cell (take l.number l.slots);
  before : (i : ℕ) → i < l.number → (slot : Slot) × HoldsSlot (slice_index_or (g.C.Cells.state l.cells).cells i []) slot;
}
