-- The places of the banks before this one are read.
use Rattle.std.proofs.Common.{◌≡◌, ◌<◌, ℕ}
use Rattle.seal_parts.specs.State.{PartRuns}
use Rattle.seal_logs.specs.Reads.{reads_in}
use Rattle.seal_store.specs.Reading.{IsPlaceRead}
use Rattle.seal_store.proofs.reading.read_all.Given as goal

abbrev pub invariant-loop-bank : goal.invariant-loop-bank
invariant-loop-bank g l = record {
  runs : PartRuns (g.P.SealPart.state l.fn.part) (g.P.SealPart.state l.part);
  count : (g.P.SealPart.state l.part).faults ≡ (g.P.SealPart.state l.fn.part).faults;
  same : (g.P.SealPart.state l.part).flash ≡ (g.P.SealPart.state l.fn.part).flash;
  read : (b k : ℕ) → b < l.bank → k < l.fn.sizes.places → IsPlaceRead (g.P.SealPart.state l.fn.part).flash b k (reads_in l.fn.sizes l.reads b k);
}
