-- What comes of a log, and what is printed of it
use Rattle.std.proofs.Common.{◌≡◌, ℕ, ◌+◌, ◌<◌, List, [], ◌∷◌, ◌++◌, length, sym, ◌∙◌, ap, subst, inl, inr, refl, arith, append_assoc, length-append}
use Rattle.std.specs.Prelude.{Ok, Err, codes}
use Rattle.basics.proofs.CallerLemmas.{rose_after}
use Rattle.bus_port.specs.Source.{Came}
use Rattle.bus_port.specs.Sink.{SinkState}
use Rattle.bus_port.proofs.CallerLemmas.{Appended-more}
use Rattle.program_edge.specs.Told.{AppendedWell, EndingTold}
use Rattle.program_edge.proofs.CallerLemmas.{AppendedWell-more}
use Rattle.program_edge.specs.Rows.{row_of}
use Rattle.program_edge.specs.Inputs.{Reading}
use Rattle.machine_runs.specs.Run.{Run, commands_in}
use Rattle.secoc_node.specs.State.{NodeState}
use Rattle.line_stream.specs.Pieces.{log_lines, in_64_bits}
use Rattle.line_stream.specs.Streams.{kept_of, TakesLines, Paused, EndsStream, StopsStream, Streamed}
use Rattle.line_stream.specs.declared.driver.StreamFault.{StreamFault}
use Rattle.line_stream.specs.declared.driver.StreamFault.TheVariants.{ReadFault, TooLong}
use Rattle.line_stream.proofs.CallerLemmas.{told_more, TakesLines-keeps, Paused-keeps}
use Rattle.can_logs.specs.LogRuns.{Writing, WatchEnding}
use Rattle.endpoint_commands.specs.declared.rules.FrameRule.{FrameRule}
use Rattle.endpoint_commands.specs.Counting.{counts_line}
use Rattle.endpoint_commands.specs.Running.{LineMoment, TakesLine, answers_behind, closing_text}
use Rattle.endpoint_commands.specs.States.{IsFreshEndpoint, EndpointAtSink, AnswersLine, GoesOnAtPause, TellsCounts}
use Rattle.endpoint_commands.specs.Logs.{EndsBehind, answer_behind, FirstLinesRead, EndsLines, done, failed, too_long, stopped, stopped_last}
use Rattle.endpoint_commands.specs.Steps.{EndsOverPorts}
use Rattle.endpoint_commands.proofs.Going.{Answered, Answered-none, Answered-more, Answered-stops, last_moment, last_lines, last_run, last_unfailed, last_answer, last_counts}

-- what is printed after what was printed well
told_after : (first before after : SinkState) (some text : List ℕ) (status answer : ℕ) → AppendedWell first before some → EndingTold before after text status answer
    → EndsBehind (record { before = first; after = after; status = answer }) some (row_of status text)
told_after first before after some text status answer well (inl (is, told)) = inl (is, AppendedWell-more first before after some text well told)
told_after first before after some text status answer well (inr (six, rose, (n, less, part))) =
    inr (six, rose_after first.faults before.faults after.faults well.1.later rose, (n, less, Appended-more well.1 part))

module _ (begun : EndpointAtSink) (first : SinkState) (opening : List ℕ) (fresh : IsFreshEndpoint begun.endpoint) (opens : AppendedWell first begun.sink opening) where
  abbrev rules : List FrameRule
  rules = begun.endpoint.rules

  abbrev start : NodeState
  start = begun.endpoint.node

  abbrev Done : List (List ℕ) → EndpointAtSink → Type 0
  Done lines p = Answered rules start first opening lines p

  lines_done : (lines more : List (List ℕ)) (p q : EndpointAtSink) → Done lines p → TakesLines AnswersLine (length lines) p more q → Done (lines ++ more) q
  lines_done lines more p q d taken = TakesLines-keeps AnswersLine Done (Answered-more rules start first opening) lines more p q d taken

  at_pause : (bytes : List ℕ) (lines : List (List ℕ)) (p : EndpointAtSink) → Paused AnswersLine GoesOnAtPause begun bytes lines p → Done lines p
  at_pause = Paused-keeps AnswersLine GoesOnAtPause begun (λ bytes lines p. Done lines p) (Answered-none rules start first opening begun refl refl fresh opens)
      (λ bytes piece lines more rest p q v d short cut taken same. subst (Done (lines ++ more)) (sym same) (lines_done lines more p q d taken))

  -- what no line feed has ended at a pause
  unended : (bytes : List ℕ) (lines : List (List ℕ)) (p : EndpointAtSink) → Paused AnswersLine GoesOnAtPause begun bytes lines p → (rest : List ℕ) × (log_lines bytes ≡ lines ++ rest ∷ [])
  unended = Paused-keeps AnswersLine GoesOnAtPause begun (λ bytes lines p. (rest : List ℕ) × (log_lines bytes ≡ lines ++ rest ∷ [])) ([], refl)
      (λ bytes piece lines more rest p q v had short cut taken same. (rest, cut))

  -- the complete lines of what came, of which the last one is known
  first_read : (log : Reading) (node : NodeState) (bytes : List ℕ) → Came log.before log.after bytes → log.after.faults ≡ log.before.faults → (moments : List LineMoment)
      (all : List (List ℕ)) (line : List ℕ) (beyond : List (List ℕ)) → 0 < length beyond → commands_in moments ≡ all ++ line ∷ [] → log_lines bytes ≡ all ++ line ∷ beyond
      → Run (TakesLine rules) start moments node → FirstLinesRead rules start log moments node
  first_read log node bytes came calm moments all line [] some lines_are cut run = absurd (omega (arith, some))
  first_read log node bytes came calm moments all line (next ∷ later) some lines_are cut run = record {
    bytes = bytes;
    came = came;
    calm = calm;
    done = record {
      rest = next;
      later = later;
      cut = cut ∙ sym (append_assoc all (line ∷ []) (next ∷ later)) ∙ ap (λ (ls : List (List ℕ)). ls ++ next ∷ later) (sym lines_are);
      run = run;
    };
  }

  module _ (log : Reading) (now : EndpointAtSink) (errors : SinkState) where
    -- how a log ended with this status, of which nothing was told on standard error
    abbrev ended : ℕ → WatchEnding
    ended status = record { output = record { before = first; after = now.sink }; errors = record { before = errors; after = errors }; status = status }

    abbrev Ends : ℕ → Type 0
    Ends status = (moments : List LineMoment) × EndsLines rules start opening log (ended status) now.endpoint.node moments

    ends_log : (status : ℕ) → EndsStream AnswersLine GoesOnAtPause TellsCounts log begun now status → Ends status
    ends_log status d = elim d.ended [
      | inl (taken, next, (rules_are, node_is, told)) ↦
          let a = at_pause d.bytes d.lines d.before d.paused in
          let m : LineMoment = last_moment rules start first opening d.lines d.before d.last taken (Ok tt) a next in
          let moments : List LineMoment = a.moments ++ m ∷ [] in
          let answer : List ℕ = answer_behind rules (length a.moments) m in
          let printed : AppendedWell d.before.sink taken.sink answer =
          subst (AppendedWell d.before.sink taken.sink) (last_answer rules start first opening d.lines d.before d.last taken (Ok tt) a next) next.prints.0 in
          let closing : counts_line taken.endpoint.counts ≡ closing_text rules moments =
          ap counts_line (last_counts rules start first opening d.lines d.before d.last taken (Ok tt) a next) in
          let text_told : EndingTold d.before.sink now.sink (answer ++ closing_text rules moments) 0 status =
          subst (λ (t : List ℕ). EndingTold d.before.sink now.sink (answer ++ t) 0 status) closing
          (told_more d.before.sink taken.sink now.sink answer (counts_line taken.endpoint.counts) 0 status printed told) in (
            moments,
            done a.moments m
                (record {
                  bytes = d.bytes;
                  reads = d.read;
                  lines = d.cut ∙ sym (last_lines rules start first opening d.lines d.before d.last taken (Ok tt) a next);
                  run = subst (λ (n : NodeState). Run (TakesLine rules) start moments n) (sym node_is) (last_run rules start first opening d.lines d.before d.last taken (Ok tt) a next);
                })
                (last_unfailed rules start first opening d.lines d.before d.last taken a next)
                (told_after first d.before.sink now.sink (opening ++ answers_behind rules 0 a.moments) (answer ++ closing_text rules moments) 0 status a.prints text_told)
                refl,
          )
      | inr next ↦
          let a = at_pause d.bytes d.lines d.before d.paused in
          let m : LineMoment = last_moment rules start first opening d.lines d.before d.last now (Err status) a next in (
            a.moments ++ m ∷ [],
            stopped_last a.moments m
                (record {
                  bytes = d.bytes;
                  reads = d.read;
                  lines = d.cut ∙ sym (last_lines rules start first opening d.lines d.before d.last now (Err status) a next);
                  run = last_run rules start first opening d.lines d.before d.last now (Err status) a next;
                })
                a.unfailed
                (Answered-stops rules start first opening d.lines d.before d.last now status a next)
                refl,
          )
    ]

    stops_log : (status : ℕ) → StopsStream AnswersLine GoesOnAtPause log begun now status → Ends status
    stops_log status d = elim d.stops [
      | inl (none, stop) ↦ absurd stop
      | inr (some, stop) ↦
          let all : List (List ℕ) = d.lines ++ d.more in
          let a = lines_done d.lines d.more d.before d.taken (at_pause d.bytes d.lines d.before d.paused) d.takes_more in
          let next : AnswersLine d.taken (in_64_bits (length all + 1)) (kept_of d.rest) now (Err status) =
          subst (λ (n : ℕ). AnswersLine d.taken (in_64_bits (n + 1)) (kept_of d.rest) now (Err status)) (sym (length-append d.lines d.more)) stop in
          let m : LineMoment = last_moment rules start first opening all d.taken d.rest now (Err status) a next in (
            a.moments ++ m ∷ [],
            stopped a.moments m
                (first_read log now.endpoint.node (d.bytes ++ d.piece) d.came d.calm (a.moments ++ m ∷ []) all d.rest d.beyond some
                (last_lines rules start first opening all d.taken d.rest now (Err status) a next) d.cut
                (last_run rules start first opening all d.taken d.rest now (Err status) a next))
                a.unfailed
                (Answered-stops rules start first opening all d.taken d.rest now status a next)
                refl,
          )
    ]

    -- the rules stay as they are
    rules_at_end : (status : ℕ) → EndsStream AnswersLine GoesOnAtPause TellsCounts log begun now status → now.endpoint.rules ≡ rules
    rules_at_end status d =
        let a = at_pause d.bytes d.lines d.before d.paused in
        elim d.ended [
          | inl (taken, next, (rules_are, node_is, told)) ↦ rules_are ∙ next.rules ∙ a.same
          | inr next ↦ next.rules ∙ a.same
        ]

    rules_at_stop : (status : ℕ) → StopsStream AnswersLine GoesOnAtPause log begun now status → now.endpoint.rules ≡ rules
    rules_at_stop status d = elim d.stops [
      | inl (none, stop) ↦ absurd stop
      | inr (some, stop) ↦ stop.rules ∙ (lines_done d.lines d.more d.before d.taken (at_pause d.bytes d.lines d.before d.paused) d.takes_more).same
    ]

    -- a log that was taken to its end, or until the sink or the disk failed
    pub Ends-taken : (status : ℕ) → Streamed AnswersLine GoesOnAtPause TellsCounts log begun now (Ok status) → Ends status
    Ends-taken status (inl ends) = ends_log status ends
    Ends-taken status (inr stops) = stops_log status stops

    pub Ends-rules : (status : ℕ) → Streamed AnswersLine GoesOnAtPause TellsCounts log begun now (Ok status) → now.endpoint.rules ≡ rules
    Ends-rules status (inl ends) = rules_at_end status ends
    Ends-rules status (inr stops) = rules_at_stop status stops

    -- the log failed, or gave too much, and standard error tells it
    abbrev told_ending : SinkState → ℕ → WatchEnding
    told_ending after status = record { output = record { before = first; after = now.sink }; errors = record { before = errors; after = after }; status = status }

    pub Ends-failed : (fault : StreamFault) → fault ≡ ReadFault → Streamed AnswersLine GoesOnAtPause TellsCounts log begun now (Err fault)
        → (after : SinkState) (status : ℕ) → EndingTold errors after (codes "read fault\n") 5 status
        → (moments : List LineMoment) × EndsLines rules start opening log (told_ending after status) now.endpoint.node moments
    Ends-failed fault is streamed after status told =
        let d = subst (λ (f : StreamFault). Streamed AnswersLine GoesOnAtPause TellsCounts log begun now (Err f)) is streamed in
        let a = at_pause d.bytes d.lines now d.paused in
        let left = unended d.bytes d.lines now d.paused in (
          a.moments,
          failed a.moments (record { bytes = d.bytes; rest = left.0; came = d.came; lines = left.1 ∙ ap (λ (ls : List (List ℕ)). ls ++ left.0 ∷ []) (sym a.lines_are); run = a.run })
              a.unfailed d.holds (a.prints, told),
        )

    pub Ends-too_long : (fault : StreamFault) → fault ≡ TooLong → Streamed AnswersLine GoesOnAtPause TellsCounts log begun now (Err fault)
        → (after : SinkState) (status : ℕ) → EndingTold errors after (codes "input too long\n") 8 status
        → (moments : List LineMoment) × EndsLines rules start opening log (told_ending after status) now.endpoint.node moments
    Ends-too_long fault is streamed after status told =
        let d = subst (λ (f : StreamFault). Streamed AnswersLine GoesOnAtPause TellsCounts log begun now (Err f)) is streamed in
        let a = at_pause d.bytes d.lines now d.paused in
        let left = unended d.bytes d.lines now d.paused in (
          a.moments,
          too_long a.moments (record { bytes = d.bytes; rest = left.0; came = d.came; lines = left.1 ∙ ap (λ (ls : List (List ℕ)). ls ++ left.0 ∷ []) (sym a.lines_are); run = a.run })
              a.unfailed d.holds.0 d.holds.1 (a.prints, told),
        )

    pub Fails-rules : (fault : StreamFault) → Streamed AnswersLine GoesOnAtPause TellsCounts log begun now (Err fault) → now.endpoint.rules ≡ rules
    Fails-rules ReadFault d = (at_pause d.bytes d.lines now d.paused).same
    Fails-rules TooLong d = (at_pause d.bytes d.lines now d.paused).same

    -- the same, as the caller says it
    pub Over-taken : (status : ℕ) → Streamed AnswersLine GoesOnAtPause TellsCounts log begun now (Ok status)
        → EndsOverPorts (record { log = log; output = record { before = first; after = now.sink }; errors = record { before = errors; after = errors } }) opening now.endpoint start status
    Over-taken status streamed =
        let e = Ends-taken status streamed in
        (e.0, subst (λ (rs : List FrameRule). EndsLines rs start opening log (ended status) now.endpoint.node e.0) (sym (Ends-rules status streamed)) e.1)

    pub Over-failed : (fault : StreamFault) → fault ≡ ReadFault → Streamed AnswersLine GoesOnAtPause TellsCounts log begun now (Err fault)
        → (after : SinkState) (status : ℕ) → EndingTold errors after (codes "read fault\n") 5 status
        → EndsOverPorts (record { log = log; output = record { before = first; after = now.sink }; errors = record { before = errors; after = after } }) opening now.endpoint start status
    Over-failed fault is streamed after status told =
        let e = Ends-failed fault is streamed after status told in
        (e.0, subst (λ (rs : List FrameRule). EndsLines rs start opening log (told_ending after status) now.endpoint.node e.0) (sym (Fails-rules fault streamed)) e.1)

    pub Over-too_long : (fault : StreamFault) → fault ≡ TooLong → Streamed AnswersLine GoesOnAtPause TellsCounts log begun now (Err fault)
        → (after : SinkState) (status : ℕ) → EndingTold errors after (codes "input too long\n") 8 status
        → EndsOverPorts (record { log = log; output = record { before = first; after = now.sink }; errors = record { before = errors; after = after } }) opening now.endpoint start status
    Over-too_long fault is streamed after status told =
        let e = Ends-too_long fault is streamed after status told in
        (e.0, subst (λ (rs : List FrameRule). EndsLines rs start opening log (told_ending after status) now.endpoint.node e.0) (sym (Fails-rules fault streamed)) e.1)

-- ---- what stands behind the borrows now

abbrev pub EndsWith : Reading → SinkState → Writing → List ℕ → NodeState → ℕ → List FrameRule → NodeState → SinkState → Type 0
EndsWith log first errors opening start status rules node sink =
    (moments : List LineMoment) × EndsLines rules start opening log (record { output = record { before = first; after = sink }; errors = errors; status = status }) node moments

pub ends_now : (log : Reading) (first : SinkState) (errors : Writing) (opening : List ℕ) (start : NodeState) (status : ℕ) (rules rules_now : List FrameRule) (node node_now : NodeState)
    (sink sink_now : SinkState) → rules ≡ rules_now → node ≡ node_now → sink ≡ sink_now → EndsWith log first errors opening start status rules node sink
    → EndsWith log first errors opening start status rules_now node_now sink_now
ends_now log first errors opening start status rules rules_now node node_now sink sink_now rules_are node_is sink_is ends =
    subst (λ (rs : List FrameRule). EndsWith log first errors opening start status rs node_now sink_now) rules_are
    (subst (λ (n : NodeState). EndsWith log first errors opening start status rules n sink_now) node_is
    (subst (λ (k : SinkState). EndsWith log first errors opening start status rules node k) sink_is ends))
