use Rattle.std.proofs.Common.{[], ◌++◌, length, ◌∙◌, subst, sym, ap, refl, arith}
use Rattle.std.proofs.lemmas.List.{length-append, length-take}
use Rattle.line_stream.specs.Unended.{UnendedState, StreamSoFar}
use Rattle.line_stream.proofs.StreamPorts.{StreamSoFar-none, Too-long}
use Rattle.line_stream.proofs.driver.stream_lines.Goals as goal

pub loop-init : goal.loop-init
loop-init g c =
    let log = g.T.Source.state c.args.log.now in
    let s = g.A.LineTaker.state c.args.taker.now in
    record {
      ready = c.requires;
      borrows = refl;
      so_far = (
        [],
        [],
        subst (λ (u : UnendedState). StreamSoFar g.A.LineTaker.takes g.A.LineTaker.pauses (record { before = log; after = log }) u s s [] []) (sym c.new-unended.ensures)
            (StreamSoFar-none g.A.LineTaker.takes g.A.LineTaker.pauses g.A.LineTaker.ends log s),
        omega arith,
      );
    }

pub next_piece-requires-clause-line : goal.next_piece-requires-clause-line
next_piece-requires-clause-line g c =
    let (bytes, lines, so_far, enough) = c.loop.invariant.so_far in
    omega (arith, ap length so_far.unended.line_is, length-take 4097 so_far.unended.rest)

pub loop-preserved : goal.loop-preserved
loop-preserved g c =
    let (bytes, lines, so_far, enough) = c.loop.invariant.so_far in
    let (piece, more, some, next) = c.in-None.ensures.turns (g.T.Source.state c.args.log.now) (g.A.LineTaker.state c.args.taker.now) bytes lines so_far in
    record {
      ready = c.in-None.ensures.ready;
      borrows = c.next_piece.ensures.borrows ∙ c.loop.invariant.borrows;
      so_far = (bytes ++ piece, lines ++ more, next, omega (arith, enough, some, length-append bytes piece));
    }

pub returns-in-Some-clause-streamed : goal.returns-in-Some-clause-streamed
returns-in-Some-clause-streamed g c =
    let (bytes, lines, so_far, enough) = c.loop.invariant.so_far in
    c.in-Some.ensures.turns (g.T.Source.state c.args.log.now) (g.A.LineTaker.state c.args.taker.now) bytes lines so_far

pub returns-clause-streamed : goal.returns-clause-streamed
returns-clause-streamed g c =
    let (bytes, lines, so_far, enough) = c.loop.invariant.so_far in
    Too-long g.A.LineTaker.takes g.A.LineTaker.pauses g.A.LineTaker.ends (g.T.Source.state c.args.log.now) (g.T.Source.state c.loop.log) c.loop.unended
    (g.A.LineTaker.state c.args.taker.now) (g.A.LineTaker.state c.loop.taker) bytes lines so_far (omega (arith, enough, c.loop-test.false))
