-- Up to here the bank ends before this place.
use Rattle.std.proofs.Common.{◌≡◌, ◌<◌, ◌≤◌, ℕ, suc}
use Rattle.seal_logs.specs.Reads.{reads_in, IsBegunPlace}
use Rattle.seal_logs.proofs.finding.next_free.Given as goal

abbrev pub invariant-loop-place : goal.invariant-loop-place
invariant-loop-place l = record {
  from : l.fn.sizes.cells ≤ l.next;
  below : l.next ≤ l.place;
  last : (k : ℕ) → l.fn.sizes.cells ≤ k → suc k ≡ l.next → IsBegunPlace (reads_in l.fn.sizes l.fn.reads l.fn.bank k) l.fn.generation;
  none : (k : ℕ) → l.next ≤ k → k < l.place → IsBegunPlace (reads_in l.fn.sizes l.fn.reads l.fn.bank k) l.fn.generation → ⊥;
}
