-- What a part in memory means.
use Rattle.seal_parts.specs.declared.mem_part.MemPart.{MemPart}
use Rattle.seal_parts.specs.Memory.{part_in}
use Rattle.seal_parts.specs.State.{PartState}

abbrev pub memory_part : MemPart → PartState
memory_part m = record {
  flash = part_in m.places m.erased m.held.items;
  class = m.class;
  banks = m.banks;
  places = m.places;
  faults = m.faults;
}
