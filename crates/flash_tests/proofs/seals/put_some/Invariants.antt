-- The store stands on its part.
use Rattle.std.proofs.Common.{◌≡◌}
use Rattle.seal_parts.specs.MemPart.{memory_part}
use Rattle.seal_store.specs.Lived.{StandsOn}
use Rattle.flash_tests.proofs.seals.put_some.Given as goal

abbrev pub invariant-loop-i : goal.invariant-loop-i
invariant-loop-i l = record { stands : StandsOn (memory_part l.part) l.store l.cells; sizes : l.store.sizes ≡ l.fn.store.sizes }
