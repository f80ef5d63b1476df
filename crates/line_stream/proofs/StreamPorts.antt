-- What comes of a log, from turn to turn
use Rattle.std.proofs.Common.{◌≡◌, ℕ, ◌+◌, ◌<◌, ◌≤◌, List, [], ◌++◌, length, refl, sym, ◌∙◌, ap, subst, inl, inr, arith, append-nil}
use Rattle.std.specs.Prelude.{◌⊎◌, Some, Result, Ok, Err}
use Rattle.basics.specs.FaultCount.{counted}
use Rattle.basics.proofs.CallerLemmas.{rose_after}
use Rattle.bus_port.specs.Source.{SourceState, Came, HandsOut, ReadFails}
use Rattle.bus_port.proofs.CallerLemmas.{Came-nothing, Came-more}
use Rattle.line_stream.specs.Pieces.{in_64_bits}
use Rattle.line_stream.specs.Streams.{TakesNext, before_log, after_piece, Streamed}
use Rattle.line_stream.specs.declared.driver.StreamFault.TheVariants.{ReadFault, TooLong}
use Rattle.line_stream.specs.Unended.{UnendedState, TakesComplete, StopsInBytes, EndsAfterLast, StreamSoFar}
use Rattle.line_stream.proofs.TakingOn.{IsUnendedOf-none, next_number}

module _ {S E : Type 0} (takes : S → ℕ → List ℕ → S → Result (Unit {0}) E → Type 0) (pauses : S → S → Result (Unit {0}) E → Type 0) (ends : S → S → E → Type 0) where
  pub StreamSoFar-none : (log : SourceState) (s : S) → StreamSoFar takes pauses (record { before = log; after = log }) (record { line = []; lines = 0 }) s s [] []
  StreamSoFar-none log s = record { came = Came-nothing log; calm = refl; unended = IsUnendedOf-none; paused = before_log }

  module _ (first log later : SourceState) (old : UnendedState) (start s : S) (bytes : List ℕ) (lines : List (List ℕ)) (so_far : StreamSoFar takes pauses (record { before = first; after = log }) old start s bytes lines) where
    -- a piece came, its lines were taken, and a pause followed
    pub StreamSoFar-more : (piece : List ℕ) (new : UnendedState) (t v : S) → Came log later piece → later.faults ≡ log.faults → length piece ≤ 4096 → TakesComplete takes old s piece new t
        → pauses t v (Ok tt) → (more : List (List ℕ)) × StreamSoFar takes pauses (record { before = first; after = later }) new start v (bytes ++ piece) (lines ++ more)
    StreamSoFar-more piece new t v came calm short goes paused =
        let (more, unended, taken) = goes bytes lines so_far.unended in (
          more,
          record {
            came = Came-more so_far.came came;
            calm = calm ∙ so_far.calm;
            unended = unended;
            paused = after_piece bytes piece lines more unended.rest s t v so_far.paused short unended.cut taken paused;
          },
        )

    -- a piece came, and the pause after it ended the stream
    pub Stops-pause : (piece : List ℕ) (new : UnendedState) (t v : S) (end : E) → Came log later piece → later.faults ≡ log.faults → length piece ≤ 4096
        → TakesComplete takes old s piece new t → pauses t v (Err end) → Streamed takes pauses ends (record { before = first; after = later }) start v (Ok end)
    Stops-pause piece new t v end came calm short goes paused =
        let (more, unended, taken) = goes bytes lines so_far.unended in
        inr (record {
          bytes = bytes;
          piece = piece;
          short = short;
          came = Came-more so_far.came came;
          calm = calm ∙ so_far.calm;
          lines = lines;
          before = s;
          paused = so_far.paused;
          more = more;
          taken = t;
          takes_more = taken;
          rest = unended.rest;
          beyond = [];
          cut = unended.cut;
          stops = inl (refl, paused);
        })

    -- a piece came, and a line of it ended the stream
    pub Stops-line : (piece : List ℕ) (v : S) (end : E) → Came log later piece → later.faults ≡ log.faults → length piece ≤ 4096
        → StopsInBytes takes old s piece v end → Streamed takes pauses ends (record { before = first; after = later }) start v (Ok end)
    Stops-line piece v end came calm short stop =
        let st = stop bytes lines so_far.unended in
        inr (record {
          bytes = bytes;
          piece = piece;
          short = short;
          came = Came-more so_far.came came;
          calm = calm ∙ so_far.calm;
          lines = lines;
          before = s;
          paused = so_far.paused;
          more = st.more;
          taken = st.taken;
          takes_more = st.takes_more;
          rest = st.line;
          beyond = st.beyond;
          cut = st.cut;
          stops = inr (st.complete, st.stops);
        })

    came_no_more : Came log later [] → Came first later bytes
    came_no_more nothing = subst (Came first later) (append-nil bytes) (Came-more so_far.came nothing)

    last_taken : (t : S) (r : Result (Unit {0}) E) → takes s (counted old.lines) old.line t r → TakesNext takes (length lines) s so_far.unended.rest t r
    last_taken t r taken =
        subst (λ l. takes s (in_64_bits (length lines + 1)) l t r) so_far.unended.line_is
        (subst (λ n. takes s n old.line t r) (next_number old.lines (length lines) so_far.unended.lines_are) taken)

    last_ended : (v : S) (end : E) → EndsAfterLast takes ends old s v end
        → ((t : S) × TakesNext takes (length lines) s so_far.unended.rest t (Ok tt) × ends t v end) ⊎ TakesNext takes (length lines) s so_far.unended.rest v (Err end)
    last_ended v end (inl (t, taken, ended)) = inl (t, last_taken t (Ok tt) taken, ended)
    last_ended v end (inr stopped) = inr (last_taken v (Err end) stopped)

    -- nothing came: this was the end of the log
    pub Ends-log : (room left : List ℕ) (v : S) (end : E) → HandsOut log later room left 0 → 0 < length room → EndsAfterLast takes ends old s v end
        → Streamed takes pauses ends (record { before = first; after = later }) start v (Ok end)
    Ends-log room left v end hands some ended =
        let whole : (text : List ℕ) → first.told ≡ Some text → (bytes ≡ text) × (later.told ≡ Some []) =
        λ text is_told.
        let here = so_far.came.next text is_told in
        let gone : here.0 ≡ [] = (hands.ended some here.0 here.1).0 refl in
        let next = hands.came.next here.0 here.1 in
        let last : next.0 ≡ [] = sym next.2 ∙ gone in
        (sym (here.2 ∙ ap (λ r. bytes ++ r) gone ∙ append-nil bytes), next.1 ∙ ap Some last) in
        inl (record {
          bytes = bytes;
          read = record { came = came_no_more hands.came; within = omega arith; no_fault = hands.no_fault ∙ so_far.calm; whole = whole };
          lines = lines;
          last = so_far.unended.rest;
          cut = so_far.unended.cut;
          before = s;
          paused = so_far.paused;
          ended = last_ended v end ended;
        })

    -- the log failed
    pub Fails-log : (room left : List ℕ) → ReadFails log later room left → Streamed takes pauses ends (record { before = first; after = later }) start s (Err ReadFault)
    Fails-log room left fails = record {
      bytes = bytes;
      came = came_no_more fails.nothing;
      holds = rose_after first.faults log.faults later.faults so_far.came.later fails.rose;
      lines = lines;
      paused = so_far.paused;
    }

  -- 2^64 - 1 bytes came
  pub Too-long : (first log : SourceState) (u : UnendedState) (start s : S) (bytes : List ℕ) (lines : List (List ℕ)) → StreamSoFar takes pauses (record { before = first; after = log }) u start s bytes lines
      → 18446744073709551615 ≤ length bytes → Streamed takes pauses ends (record { before = first; after = log }) start s (Err TooLong)
  Too-long first log u start s bytes lines so_far long = record {
    bytes = bytes;
    came = so_far.came;
    holds = (so_far.calm, omega (arith, long));
    lines = lines;
    paused = so_far.paused;
  }
