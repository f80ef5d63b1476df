-- The round keys so far are those of as many slots.
use Rattle.std.proofs.Common.{◌≡◌, length, take, map}
use Rattle.key_slots.specs.Slots.{key_of}
use Rattle.she_engine.proofs.memory.KeyMemory.of.Given as goal

abbrev pub invariant-loop-number : goal.invariant-loop-number
invariant-loop-number l = (take l.number l.schedules ≡ map key_of (take l.number l.slots)) × (length l.schedules ≡ 14)
