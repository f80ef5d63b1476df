use Rattle.std.proofs.Common.{◌<◌, ℕ, List, length, take, subst, arith}
use Rattle.std.proofs.lemmas.List.{length-take}
use Rattle.bus_port.specs.Source.{HandsOut}
use Rattle.line_stream.proofs.StreamPorts.{StreamSoFar-more, Stops-pause, Stops-line, Ends-log}
use Rattle.line_stream.proofs.driver.next_piece.Goals as goal

pub returns-then-count-eq0-clause-turns : goal.returns-then-count-eq0-clause-turns
returns-then-count-eq0-clause-turns g c = λ first start bytes lines so_far.
    let log = g.T.Source.state c.args.log.now in
    let later = g.T.Source.state c.read.new.self in
    let hands : HandsOut log later c.args.piece.now c.read.new.out 0 =
    subst (λ n. HandsOut log later c.args.piece.now c.read.new.out n) c.if-count-eq0.true c.in-Ok.ensures in
    Ends-log g.A.LineTaker.takes g.A.LineTaker.pauses g.A.LineTaker.ends first log later c.args.unended.now start (g.A.LineTaker.state c.args.taker.now) bytes lines so_far
    c.args.piece.now c.read.new.out (g.A.LineTaker.state c.end_stream.new.taker) c.end_stream.result hands (omega (arith, c.fits-piece)) c.end_stream.ensures.ends

pub returns-in-Err-take_piece-clause-turns : goal.returns-in-Err-take_piece-clause-turns
returns-in-Err-take_piece-clause-turns g c = λ first start bytes lines so_far.
    let n : ℕ = c.in-Ok.count in
    let hands : HandsOut (g.T.Source.state c.args.log.now) (g.T.Source.state c.read.new.self) c.args.piece.now c.read.new.out n = c.in-Ok.ensures in
    Stops-line g.A.LineTaker.takes g.A.LineTaker.pauses g.A.LineTaker.ends first (g.T.Source.state c.args.log.now) (g.T.Source.state c.read.new.self) c.args.unended.now start
    (g.A.LineTaker.state c.args.taker.now) bytes lines so_far (take n c.read.new.out) (g.A.LineTaker.state c.take_piece.new.taker) c.in-Err-take_piece.end
    hands.came hands.no_fault (omega (arith, hands.fits, c.fits-piece, length-take n c.read.new.out)) c.in-Err-take_piece.ensures.takes

pub returns-in-Ok-pause-clause-turns : goal.returns-in-Ok-pause-clause-turns
returns-in-Ok-pause-clause-turns g c = λ first start bytes lines so_far.
    let n : ℕ = c.in-Ok.count in
    let piece : List ℕ = take n c.read.new.out in
    let hands : HandsOut (g.T.Source.state c.args.log.now) (g.T.Source.state c.read.new.self) c.args.piece.now c.read.new.out n = c.in-Ok.ensures in
    let (more, next) = StreamSoFar-more g.A.LineTaker.takes g.A.LineTaker.pauses g.A.LineTaker.ends first (g.T.Source.state c.args.log.now) (g.T.Source.state c.read.new.self) c.args.unended.now start
    (g.A.LineTaker.state c.args.taker.now) bytes lines so_far piece c.take_piece.new.self (g.A.LineTaker.state c.take_piece.new.taker) (g.A.LineTaker.state c.pause.new.self)
    hands.came hands.no_fault (omega (arith, hands.fits, c.fits-piece, length-take n c.read.new.out)) c.in-Ok-take_piece.ensures.takes c.in-Ok-pause.ensures.pauses in
    let some : 0 < length piece = omega (arith, c.if-count-eq0.false, hands.fits, c.read.auto.out, length-take n c.read.new.out) in
    (piece, more, some, next)

pub returns-in-Err-pause-clause-turns : goal.returns-in-Err-pause-clause-turns
returns-in-Err-pause-clause-turns g c = λ first start bytes lines so_far.
    let n : ℕ = c.in-Ok.count in
    let hands : HandsOut (g.T.Source.state c.args.log.now) (g.T.Source.state c.read.new.self) c.args.piece.now c.read.new.out n = c.in-Ok.ensures in
    Stops-pause g.A.LineTaker.takes g.A.LineTaker.pauses g.A.LineTaker.ends first (g.T.Source.state c.args.log.now) (g.T.Source.state c.read.new.self) c.args.unended.now start
    (g.A.LineTaker.state c.args.taker.now) bytes lines so_far (take n c.read.new.out) c.take_piece.new.self (g.A.LineTaker.state c.take_piece.new.taker) (g.A.LineTaker.state c.pause.new.self)
    c.in-Err-pause.end hands.came hands.no_fault (omega (arith, hands.fits, c.fits-piece, length-take n c.read.new.out)) c.in-Ok-take_piece.ensures.takes c.in-Err-pause.ensures.pauses
