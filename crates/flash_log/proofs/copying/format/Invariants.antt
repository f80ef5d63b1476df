-- The banks from 1 to before this one are blank.
use Rattle.std.proofs.Common.{◌≡◌, ℕ, ◌<◌}
use Rattle.flash_places.specs.Places.{blank_place}
use Rattle.flash_places.specs.State.{FlashRuns}
use Rattle.flash_log.proofs.copying.format.Given as goal

abbrev pub invariant-loop-bank : goal.invariant-loop-bank
invariant-loop-bank g l = record {
  runs : FlashRuns (g.D.FlashDevice.state l.initial.device) (g.D.FlashDevice.state l.device);
  count : (g.D.FlashDevice.state l.device).faults ≡ (g.D.FlashDevice.state l.initial.device).faults;
  blank : (x : ℕ) → 0 < x → x < l.bank → (g.D.FlashDevice.state l.device).flash x 0 ≡ blank_place;
}
