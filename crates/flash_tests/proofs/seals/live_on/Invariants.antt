-- The part has a store.
use Rattle.seal_parts.specs.MemPart.{memory_part}
use Rattle.seal_store.specs.Lived.{HasSealStore}
use Rattle.flash_tests.specs.declared.seals.TheConstants.{SIZES}
use Rattle.flash_tests.proofs.seals.live_on.Given as goal

abbrev pub invariant-loop : goal.invariant-loop
invariant-loop l = record { has : HasSealStore (memory_part l.part) SIZES }
