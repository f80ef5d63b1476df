use Rattle.std.proofs.Common.{◌≡◌, ℕ, ◌+◌, ◌≤◌, ◌++◌, List, [], ◌∷◌, length, take, drop, sym, ap, ◌∙◌, subst, arith, append_assoc, length-append}
use Rattle.std.proofs.lemmas.List.{length-take, take-append-drop}
use Rattle.line_stream.proofs.Cutting.{HasNoFeed, no_feed-front, through_feed}
use Rattle.line_stream.specs.Unended.{UnendedState, TakesComplete, StopsInBytes}
use Rattle.line_stream.proofs.TakingOn.{TakesComplete-keeps, TakesComplete-ends, TakesComplete-more, StopsInBytes-ends, StopsInBytes-more}
use Rattle.line_stream.proofs.unended.UnendedLine.take_prefix.Goals as goal

pub keep-requires : goal.keep-requires
keep-requires g c = no_feed-front c.args.bytes.now c.until_feed-end.result c.until_feed-end.ensures.exact c.until_feed-end.ensures.within

-- the line that is kept is no longer than what came of it
kept_few : (n : ℕ) (line bytes : List ℕ) → length (take 4097 (line ++ take n bytes)) ≤ length line + n
kept_few n line bytes = omega (arith, length-take 4097 (line ++ take n bytes), length-append line (take n bytes), length-take n bytes)

pub returns-then-end-bytes-clause-room : goal.returns-then-end-bytes-clause-room
returns-then-end-bytes-clause-room g c =
    let (b, f, ready, bytes_fit, feeds_fit) = c.requires.room in
    let kept = ap (λ (u : UnendedState). length u.line) c.keep.ensures in
    let few = kept_few c.until_feed-end.result c.args.self.now.line c.args.bytes.now in
    (b, f, ready, omega (arith, kept, few, bytes_fit, c.until_feed-end.ensures.within), omega (arith, feeds_fit))

pub returns-then-end-bytes-clause-takes : goal.returns-then-end-bytes-clause-takes
returns-then-end-bytes-clause-takes g c =
    let bytes : List ℕ = c.args.bytes.now in
    let n : ℕ = c.until_feed-end.result in
    let s = g.A.LineTaker.state c.args.taker.now in
    let free : HasNoFeed (take n bytes) = no_feed-front bytes n c.until_feed-end.ensures.exact c.until_feed-end.ensures.within in
    subst (λ (u : UnendedState). TakesComplete g.A.LineTaker.takes c.args.self.now s (take n bytes) u s) (sym c.keep.ensures) (TakesComplete-keeps g.A.LineTaker.takes c.args.self.now s (take n bytes) free)

pub end_line-requires : goal.end_line-requires
end_line-requires g c =
    let (b, f, ready, bytes_fit, feeds_fit) = c.requires.room in
    let kept = ap (λ (u : UnendedState). length u.line) c.keep.ensures in
    let few = kept_few c.until_feed-end.result c.args.self.now.line c.args.bytes.now in
    (b, f, ready, omega (arith, kept, few, bytes_fit, c.until_feed-end.ensures.within), omega (arith, feeds_fit, c.requires.some))

pub returns-in-Ok-clause-room : goal.returns-in-Ok-clause-room
returns-in-Ok-clause-room g c =
    let (b, f, ready, bytes_fit, feeds_fit) = c.requires.room in
    let kept = ap (λ (u : UnendedState). length u.line) c.keep.ensures in
    let few = kept_few c.until_feed-end.result c.args.self.now.line c.args.bytes.now in
    let none = ap (λ (u : UnendedState). length u.line) c.end_line.ensures.unended in (
      _,
      _,
      c.in-Ok.ensures.ready b f ready (omega (arith, kept, few, bytes_fit, c.until_feed-end.ensures.within)) (omega (arith, feeds_fit, c.requires.some)),
      omega (arith, none, kept, few, bytes_fit, c.until_feed-end.ensures.within),
      omega (arith, feeds_fit),
    )

pub returns-in-Ok-clause-takes : goal.returns-in-Ok-clause-takes
returns-in-Ok-clause-takes g c =
    let takes = g.A.LineTaker.takes in
    let bytes : List ℕ = c.args.bytes.now in
    let n : ℕ = c.until_feed-end.result in
    let s = g.A.LineTaker.state c.args.taker.now in
    let t = g.A.LineTaker.state c.end_line.new.taker in
    let old : UnendedState = c.args.self.now in
    let kept : UnendedState = c.keep.new.self in
    let free : HasNoFeed (take n bytes) = no_feed-front bytes n c.until_feed-end.ensures.exact c.until_feed-end.ensures.within in
    let first : TakesComplete takes old s (take n bytes) kept s = subst (λ (u : UnendedState). TakesComplete takes old s (take n bytes) u s) (sym c.keep.ensures) (TakesComplete-keeps takes old s (take n bytes) free) in
    let next : TakesComplete takes kept s (10 ∷ []) c.end_line.new.self t =
    subst (λ (u : UnendedState). TakesComplete takes kept s (10 ∷ []) u t) (sym c.end_line.ensures.unended) (TakesComplete-ends takes kept s t c.in-Ok.ensures.takes) in
    subst (λ piece. TakesComplete takes old s piece c.end_line.new.self t) (sym (through_feed bytes n c.until_feed-end.ensures.exact (omega arith)))
    (TakesComplete-more takes old kept c.end_line.new.self s s t (take n bytes) (10 ∷ []) first next)

pub returns-in-Err-clause-takes : goal.returns-in-Err-clause-takes
returns-in-Err-clause-takes g c =
    let takes = g.A.LineTaker.takes in
    let bytes : List ℕ = c.args.bytes.now in
    let n : ℕ = c.until_feed-end.result in
    let s = g.A.LineTaker.state c.args.taker.now in
    let t = g.A.LineTaker.state c.end_line.new.taker in
    let old : UnendedState = c.args.self.now in
    let kept : UnendedState = c.keep.new.self in
    let free : HasNoFeed (take n bytes) = no_feed-front bytes n c.until_feed-end.ensures.exact c.until_feed-end.ensures.within in
    let first : TakesComplete takes old s (take n bytes) kept s = subst (λ (u : UnendedState). TakesComplete takes old s (take n bytes) u s) (sym c.keep.ensures) (TakesComplete-keeps takes old s (take n bytes) free) in
    let whole : take n bytes ++ 10 ∷ drop (n + 1) bytes ≡ bytes =
    sym (append_assoc (take n bytes) (10 ∷ []) (drop (n + 1) bytes)) ∙ ap (λ l. l ++ drop (n + 1) bytes) (sym (through_feed bytes n c.until_feed-end.ensures.exact (omega arith)))
    ∙ take-append-drop (n + 1) bytes in
    subst (λ piece. StopsInBytes takes old s piece t c.in-Err.stop) whole
    (StopsInBytes-more takes old kept s s t (take n bytes) (10 ∷ drop (n + 1) bytes) c.in-Err.stop first (StopsInBytes-ends takes kept s t (drop (n + 1) bytes) c.in-Err.stop c.in-Err.ensures.takes))
