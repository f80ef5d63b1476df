-- The places before this one hold puts, and are made.
use Rattle.std.proofs.Common.{◌≡◌, ℕ, ◌≤◌, length}
use Rattle.flash_places.specs.Places.{SameOthers}
use Rattle.flash_places.specs.State.{FlashRuns}
use Rattle.flash_log.specs.Taking.{TakesTo}
use Rattle.flash_log.proofs.reading.read_puts.Given as goal

abbrev pub invariant-loop-place : goal.invariant-loop-place
invariant-loop-place g l = record {
  runs : FlashRuns (g.D.FlashDevice.state l.initial.device) (g.D.FlashDevice.state l.device);
  count : (g.D.FlashDevice.state l.device).faults ≡ (g.D.FlashDevice.state l.initial.device).faults;
  before : (k : ℕ) → k ≤ length l.initial.cells → (g.D.FlashDevice.state l.device).flash l.bank k ≡ (g.D.FlashDevice.state l.initial.device).flash l.bank k;
  others : SameOthers l.bank (g.D.FlashDevice.state l.initial.device).flash (g.D.FlashDevice.state l.device).flash;
  to : TakesTo (length l.initial.cells) l.place l.bank (g.D.FlashDevice.state l.initial.device).flash (g.D.FlashDevice.state l.device).flash l.initial.cells l.cells;
}
