-- The places before i hold the copy of the cells before i.
use Rattle.std.proofs.Common.{◌≡◌, take}
use Rattle.flash_places.specs.Places.{SameOthers}
use Rattle.flash_places.specs.State.{FlashRuns}
use Rattle.flash_laws.specs.Logs.{copy_lines}
use Rattle.flash_log.specs.Taking.{places_behind, Taken}
use Rattle.flash_log.proofs.reading.read_copy.Given as goal

abbrev pub invariant-loop-i : goal.invariant-loop-i
invariant-loop-i g l = record {
  runs : FlashRuns (g.D.FlashDevice.state l.initial.device) (g.D.FlashDevice.state l.device);
  count : (g.D.FlashDevice.state l.device).faults ≡ (g.D.FlashDevice.state l.initial.device).faults;
  head : (g.D.FlashDevice.state l.device).flash l.bank 0 ≡ (g.D.FlashDevice.state l.initial.device).flash l.bank 0;
  others : SameOthers l.bank (g.D.FlashDevice.state l.initial.device).flash (g.D.FlashDevice.state l.device).flash;
  taken : Taken (places_behind ((g.D.FlashDevice.state l.initial.device).flash l.bank)) (places_behind ((g.D.FlashDevice.state l.device).flash l.bank)) (copy_lines 0 (take l.i l.cells));
}
