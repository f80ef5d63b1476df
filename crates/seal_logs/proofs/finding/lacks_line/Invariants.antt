-- Up to here each confirm has its deed.
use Rattle.std.proofs.Common.{◌≡◌, ◌<◌, ◌≤◌, ℕ, true}
use Rattle.seal_parts.specs.declared.LogDeed.{LogDeed}
use Rattle.seal_logs.specs.Reads.{reads_in, ReadsDeed}
use Rattle.seal_logs.proofs.finding.lacks_line.Given as goal

abbrev pub invariant-loop-place : goal.invariant-loop-place
invariant-loop-place l = record {
  has : (k : ℕ) → l.fn.sizes.cells ≤ k → k < l.place → (reads_in l.fn.sizes l.fn.reads l.fn.bank k).is_confirmed ≡ true
      → (deed : LogDeed) × ReadsDeed (reads_in l.fn.sizes l.fn.reads l.fn.bank k) l.fn.generation deed;
}
