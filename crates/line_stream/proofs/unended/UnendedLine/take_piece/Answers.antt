use Rattle.std.proofs.Common.{◌≡◌, ◌-◌, ℕ, List, length, take, drop, sym, ap, ◌∙◌, subst, refl, arith, take_all}
use Rattle.std.proofs.Math.Seq.{take-add}
use Rattle.std.proofs.lemmas.List.{length-drop, take-append-drop}
use Rattle.line_stream.specs.Unended.{TakesComplete, StopsInBytes}
use Rattle.line_stream.proofs.TakingOn.{TakesComplete-nothing, TakesComplete-more, StopsInBytes-more}
use Rattle.line_stream.proofs.unended.UnendedLine.take_piece.Goals as goal

pub loop-at-init : goal.loop-at-init
loop-at-init g c = record {
  in_range = omega arith;
  room = (8193, 4097, c.requires.ready, omega (arith, c.requires.line, c.requires.short), omega (arith, c.requires.short));
  borrows = refl;
  taken = TakesComplete-nothing g.A.LineTaker.takes c.args.self.now (g.A.LineTaker.state c.args.taker.now);
}

pub take_prefix-requires-clause-room : goal.take_prefix-requires-clause-room
take_prefix-requires-clause-room g c =
    let piece : List ℕ = c.args.piece.now in
    let at : ℕ = c.loop-at.at in
    let whole : take (length piece - at) (drop at piece) ≡ drop at piece = take_all (length piece - at) (drop at piece) (omega (arith, length-drop at piece)) in
    let (b, f, ready, bytes_fit, feeds_fit) = c.loop-at.invariant.room in
    (b, f, ready, omega (arith, bytes_fit, ap length whole, length-drop at piece), omega (arith, feeds_fit, ap length whole, length-drop at piece))

pub loop-at-preserved : goal.loop-at-preserved
loop-at-preserved g c =
    let so_far = c.loop-at.invariant in
    let piece : List ℕ = c.args.piece.now in
    let at : ℕ = c.loop-at.at in
    let n : ℕ = c.in-Ok.count in
    let takes = g.A.LineTaker.takes in
    let first = g.A.LineTaker.state c.args.taker.now in
    let between = g.A.LineTaker.state c.loop-at.taker in
    let last = g.A.LineTaker.state c.take_prefix.new.taker in
    let whole : take (length piece - at) (drop at piece) ≡ drop at piece = take_all (length piece - at) (drop at piece) (omega (arith, length-drop at piece)) in
    let (b, f, ready, bytes_fit, feeds_fit) = c.in-Ok.ensures.room in
    record {
      in_range = omega (arith, c.in-Ok.ensures.within, ap length whole, length-drop at piece);
      room = (
        b,
        f,
        ready,
        omega (arith, bytes_fit, c.in-Ok.ensures.within, ap length whole, length-drop at piece),
        omega (arith, feeds_fit, c.in-Ok.ensures.within, ap length whole, length-drop at piece),
      );
      borrows = c.take_prefix.ensures.borrows ∙ so_far.borrows;
      taken = subst (λ p. TakesComplete takes c.args.self.now first p c.take_prefix.new.self last) (sym (take-add at n piece))
          (TakesComplete-more takes c.args.self.now c.loop-at.self c.take_prefix.new.self first between last (take at piece) (take n (drop at piece)) so_far.taken
          (subst (λ rest. TakesComplete takes c.loop-at.self between (take n rest) c.take_prefix.new.self last) whole c.in-Ok.ensures.takes));
    }

pub returns-in-Err-clause-takes : goal.returns-in-Err-clause-takes
returns-in-Err-clause-takes g c =
    let so_far = c.loop-at.invariant in
    let piece : List ℕ = c.args.piece.now in
    let at : ℕ = c.loop-at.at in
    let takes = g.A.LineTaker.takes in
    let first = g.A.LineTaker.state c.args.taker.now in
    let between = g.A.LineTaker.state c.loop-at.taker in
    let last = g.A.LineTaker.state c.take_prefix.new.taker in
    let whole : take (length piece - at) (drop at piece) ≡ drop at piece = take_all (length piece - at) (drop at piece) (omega (arith, length-drop at piece)) in
    subst (λ p. StopsInBytes takes c.args.self.now first p last c.in-Err.end) (take-append-drop at piece)
    (StopsInBytes-more takes c.args.self.now c.loop-at.self first between last (take at piece) (drop at piece) c.in-Err.end so_far.taken
    (subst (λ rest. StopsInBytes takes c.loop-at.self between rest last c.in-Err.end) whole c.in-Err.ensures.takes))

pub returns-clause-takes : goal.returns-clause-takes
returns-clause-takes g c =
    subst (λ p. TakesComplete g.A.LineTaker.takes c.args.self.now (g.A.LineTaker.state c.args.taker.now) p c.loop-at.self (g.A.LineTaker.state c.loop-at.taker))
    (take_all c.loop-at.at c.args.piece.now (omega arith)) c.loop-at.invariant.taken

pub returns-clause-room : goal.returns-clause-room
returns-clause-room g c =
    let (b, f, ready, bytes_fit, feeds_fit) = c.loop-at.invariant.room in
    (b, f, ready, omega arith, omega arith)
