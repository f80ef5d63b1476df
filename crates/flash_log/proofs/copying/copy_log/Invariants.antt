-- The cells before i are copied, and the rest of the bank is blank.
use Rattle.std.proofs.Common.{◌≡◌, ℕ, suc, ◌<◌, ◌≤◌, [], get_or, length}
use Rattle.flash_places.specs.declared.FlashLine.TheVariants.{Entry}
use Rattle.flash_places.specs.Places.{SameOthers, blank_place, whole_place}
use Rattle.flash_places.specs.State.{FlashRuns}
use Rattle.flash_log.specs.Going.{Copying, layout_on}
use Rattle.flash_log.proofs.copying.copy_log.Given as goal

abbrev pub invariant-loop-i : goal.invariant-loop-i
invariant-loop-i g l = record {
  runs : FlashRuns (g.D.FlashDevice.state l.initial.device) (g.D.FlashDevice.state l.device);
  count : (g.D.FlashDevice.state l.device).faults ≡ (g.D.FlashDevice.state l.initial.device).faults;
  others : SameOthers l.spare (g.D.FlashDevice.state l.initial.device).flash (g.D.FlashDevice.state l.device).flash;
  goes : Copying (layout_on (g.D.FlashDevice.state l.initial.device) (length l.cells)) l.bank l.generation l.cells l.i
      (g.D.FlashDevice.state l.initial.device).flash (g.D.FlashDevice.state l.device).flash;
  head : (g.D.FlashDevice.state l.device).flash l.spare 0 ≡ blank_place;
  copied : (j : ℕ) → j < l.i → (g.D.FlashDevice.state l.device).flash l.spare (suc j) ≡ whole_place (Entry j (get_or l.cells j []));
  free : (k : ℕ) → l.i ≤ k → (g.D.FlashDevice.state l.device).flash l.spare (suc k) ≡ blank_place;
}
