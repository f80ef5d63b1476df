-- The places of this bank before this one are read, and those of earlier banks are as they were.
use Rattle.std.proofs.Common.{◌≡◌, ◌*◌, ◌<◌, ℕ, get_or}
use Rattle.seal_parts.specs.State.{PartRuns}
use Rattle.seal_logs.specs.Reads.{no_read, reads_in}
use Rattle.seal_store.specs.Reading.{IsPlaceRead}
use Rattle.seal_store.proofs.reading.read_bank.Given as goal

abbrev pub invariant-loop-place : goal.invariant-loop-place
invariant-loop-place g l = record {
  runs : PartRuns (g.P.SealPart.state l.fn.part) (g.P.SealPart.state l.part);
  count : (g.P.SealPart.state l.part).faults ≡ (g.P.SealPart.state l.fn.part).faults;
  same : (g.P.SealPart.state l.part).flash ≡ (g.P.SealPart.state l.fn.part).flash;
  read : (k : ℕ) → k < l.place → IsPlaceRead (g.P.SealPart.state l.fn.part).flash l.fn.bank k (reads_in l.fn.sizes l.reads l.fn.bank k);
  others : (i : ℕ) → i < l.fn.bank * l.fn.sizes.places → get_or l.reads i no_read ≡ get_or l.fn.reads i no_read;
}
