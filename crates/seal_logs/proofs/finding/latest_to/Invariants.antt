-- The latest deed of the banks before this one, and of this one up to here.
use Rattle.seal_logs.specs.Reads.{reads_in}
use Rattle.seal_logs.specs.Found.{LatestSeen}
use Rattle.seal_logs.proofs.finding.latest_to.Given as goal

abbrev pub invariant-loop-place : goal.invariant-loop-place
invariant-loop-place l = record {
  seen : LatestSeen l.fn.sizes (reads_in l.fn.sizes l.fn.reads) l.fn.bank 0 l.fn.best → LatestSeen l.fn.sizes (reads_in l.fn.sizes l.fn.reads) l.fn.bank l.place l.best;
}
