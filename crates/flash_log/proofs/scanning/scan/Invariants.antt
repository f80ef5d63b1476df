-- The banks below this one were read, and this is the best of them.
use Rattle.std.proofs.Common.{◌≡◌, true, length}
use Rattle.flash_places.specs.State.{FlashRuns}
use Rattle.flash_log.specs.Scanned.{ScannedTo, FreeBest, ToldBest, NoLaterHeads, NotesHeads}
use Rattle.flash_log.proofs.scanning.scan.Given as goal

abbrev pub invariant-loop-bank : goal.invariant-loop-bank
invariant-loop-bank g l = record {
  runs : FlashRuns (g.D.FlashDevice.state l.initial.device) (g.D.FlashDevice.state l.device);
  count : (g.D.FlashDevice.state l.device).faults ≡ (g.D.FlashDevice.state l.initial.device).faults;
  scanned : ScannedTo (length l.initial.cells) l.bank (g.D.FlashDevice.state l.initial.device).flash (g.D.FlashDevice.state l.device).flash l.best l.cells;
  free : FreeBest (g.D.FlashDevice.state l.device).flash l.best;
  latest : NoLaterHeads (g.D.FlashDevice.state l.device).flash l.bank l.latest;
  told : (g.D.FlashDevice.state l.initial.device).tells_blank ≡ true → ToldBest (g.D.FlashDevice.state l.device).flash l.best;
  noted : (g.D.FlashDevice.state l.initial.device).tells_blank ≡ true → NotesHeads (g.D.FlashDevice.state l.device).flash l.bank l.latest;
}
