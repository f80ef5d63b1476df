-- what came so far was taken, and each turn took one byte at least
use Rattle.std.proofs.Common.{◌≡◌, ◌≤◌, ℕ, List, length}
use Rattle.line_stream.specs.Unended.{StreamSoFar}
use Rattle.line_stream.proofs.driver.stream_lines.Given as goal

abbrev pub invariant-loop : goal.invariant-loop
invariant-loop g l = record {
  ready : g.A.LineTaker.ready l.taker 8193 4097;
  borrows : g.A.LineTaker.borrows l.taker ≡ g.A.LineTaker.borrows l.fn.taker;
  so_far : (bytes : List ℕ) × (lines : List (List ℕ)) × StreamSoFar g.A.LineTaker.takes g.A.LineTaker.pauses
      (record { before = g.T.Source.state l.fn.log; after = g.T.Source.state l.log }) l.unended (g.A.LineTaker.state l.fn.taker) (g.A.LineTaker.state l.taker) bytes lines
      × (l.counter ≤ length bytes);
}
