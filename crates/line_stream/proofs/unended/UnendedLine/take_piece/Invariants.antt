-- each line that is complete so far was taken, and there is room for the others
use Rattle.std.proofs.Common.{◌≡◌, ◌+◌, ◌≤◌, ◌-◌, length, take}
use Rattle.line_stream.specs.Unended.{HasLineRoom, TakesComplete}
use Rattle.line_stream.proofs.unended.UnendedLine.take_piece.Given as goal

abbrev pub invariant-loop-at : goal.invariant-loop-at
invariant-loop-at g l = record {
  in_range : l.at ≤ length l.piece;
  room : HasLineRoom g.A.LineTaker.ready l.taker (length l.self.line + (length l.piece - l.at)) (length l.piece - l.at);
  borrows : g.A.LineTaker.borrows l.taker ≡ g.A.LineTaker.borrows l.fn.taker;
  taken : TakesComplete g.A.LineTaker.takes l.fn.self (g.A.LineTaker.state l.fn.taker) (take l.at l.piece) l.self (g.A.LineTaker.state l.taker);
}

abbrev pub decreases-loop-at : goal.decreases-loop-at
decreases-loop-at g l = length l.piece - l.at
