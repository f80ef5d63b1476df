-- The bytes that the slot makes are those of the cell.
use Rattle.std.proofs.Common.{sym, ◌∙◌}
use Rattle.std.specs.Cmp.Lexicographic.{same_text}
use Rattle.slot_disk.proofs.cell.slot_in.Goals as goal

pub returns-then-eq : goal.returns-then-eq
returns-then-eq c = record {
  is_slot = c.in_ok-slot.ensures.slot;
  cell_is = sym (same_text _ _ c.if-eq.ensures) ∙ c.slot_bytes.ensures;
}
