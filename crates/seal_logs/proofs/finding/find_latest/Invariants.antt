-- The latest deed of the banks before this one.
use Rattle.seal_logs.specs.Reads.{reads_in}
use Rattle.seal_logs.specs.Found.{LatestSeen}
use Rattle.seal_logs.proofs.finding.find_latest.Given as goal

abbrev pub invariant-loop-bank : goal.invariant-loop-bank
invariant-loop-bank l = record {
  seen : LatestSeen l.fn.sizes (reads_in l.fn.sizes l.fn.reads) l.bank 0 l.best;
}
