-- The store stays one of this flash.
use Rattle.std.proofs.Common.{◌≡◌, length}
use Rattle.flash_places.specs.MemFlash.{memory_state}
use Rattle.flash_log.specs.Stores.{IsStoreOf}
use Rattle.flash_tests.proofs.histories.put_some.Given as goal

abbrev pub invariant-loop-k : goal.invariant-loop-k
invariant-loop-k l = record {
  store : IsStoreOf l.store (length l.cells) (memory_state l.flash);
  places : (memory_state l.flash).places ≡ (memory_state l.initial.flash).places;
}
