-- The places before this one are blank, and nothing was changed.
use Rattle.std.proofs.Common.{◌≡◌, ℕ, ◌<◌, ◌≤◌}
use Rattle.flash_places.specs.Places.{SameFlash, blank_place}
use Rattle.flash_places.specs.State.{FlashRuns}
use Rattle.flash_log.proofs.reading.read_free.Given as goal

abbrev pub invariant-loop-place : goal.invariant-loop-place
invariant-loop-place g l = record {
  runs : FlashRuns (g.D.FlashDevice.state l.initial.device) (g.D.FlashDevice.state l.device);
  count : (g.D.FlashDevice.state l.device).faults ≡ (g.D.FlashDevice.state l.initial.device).faults;
  same : SameFlash (g.D.FlashDevice.state l.initial.device).flash (g.D.FlashDevice.state l.device).flash;
  blank : (k : ℕ) → l.fn.end.next ≤ k → k < l.place → (g.D.FlashDevice.state l.device).flash l.bank k ≡ blank_place;
}
