-- A bank has six places.
use Rattle.std.proofs.Common.{◌≡◌}
use Rattle.flash_places.specs.MemFlash.{memory_state}
use Rattle.flash_tests.proofs.plans.is_whole.Given as goal

abbrev pub invariant-loop-life : goal.invariant-loop-life
invariant-loop-life l = (memory_state l.flash).places ≡ 6
