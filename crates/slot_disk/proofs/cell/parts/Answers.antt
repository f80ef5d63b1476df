-- The first byte of a cell tells whether its slot is filled.
use Rattle.std.proofs.Common.{refl, arith}
use Rattle.key_slots.specs.declared.memory.Slot.TheVariants.{Empty, Filled}
use Rattle.slot_disk.proofs.Parts.{first_is}
use Rattle.slot_disk.proofs.cell.parts.Goals as goal

pub returns-in-0-clause-whole : goal.returns-in-0-clause-whole
returns-in-0-clause-whole c Empty h = refl
returns-in-0-clause-whole c (Filled key counter flags) h = absurd (omega (arith, first_is _ _ h.cell_is, c.in-0.is))

pub returns-in-1-clause-whole : goal.returns-in-1-clause-whole
returns-in-1-clause-whole c Empty h = absurd (omega (arith, first_is _ _ h.cell_is, c.in-1.is))
returns-in-1-clause-whole c (Filled key counter flags) h = c.filled_parts.ensures.whole key counter flags h

pub returns-in_default-clause-whole : goal.returns-in_default-clause-whole
returns-in_default-clause-whole c Empty h = absurd (omega (arith, first_is _ _ h.cell_is))
returns-in_default-clause-whole c (Filled key counter flags) h = absurd (omega (arith, first_is _ _ h.cell_is))
