-- What comes of a log, and what is printed of it
use Rattle.std.proofs.Common.{◌≡◌, ℕ, ◌<◌, ◌≤◌, List, [], ◌∷◌, ◌++◌, length, take, refl, sym, ◌∙◌, ap, subst, inl, inr}
use Rattle.std.specs.Prelude.{Ok, Err}
use Rattle.std.proofs.lemmas.Grind.{flat_map-append}
use Rattle.basics.proofs.CallerLemmas.{rose_after}
use Rattle.bus_port.specs.Sink.{SinkState, Appended}
use Rattle.bus_port.specs.Fault.{Rose}
use Rattle.bus_port.proofs.CallerLemmas.{Appended-more, Appended-nothing}
use Rattle.program_edge.specs.Told.{AppendedWell, EndingTold}
use Rattle.program_edge.specs.Rows.{row_of}
use Rattle.program_edge.specs.Inputs.{Reading}
use Rattle.program_edge.proofs.CallerLemmas.{AppendedWell-more}
use Rattle.line_stream.specs.Pieces.{log_lines}
use Rattle.line_stream.specs.Streams.{TakesLines, Paused, EndsStream, StopsStream, Streamed}
use Rattle.line_stream.specs.declared.driver.StreamFault.{StreamFault}
use Rattle.line_stream.specs.declared.driver.StreamFault.TheVariants.{ReadFault, TooLong}
use Rattle.line_stream.proofs.CallerLemmas.{TakesLines-keeps, Paused-keeps, told_more}
use Rattle.can_logs.specs.WatchMaps.{NumberedMap}
use Rattle.can_logs.specs.LogRuns.{Writing, log_failed_text, log_too_long_text}
use Rattle.explain_commands.specs.declared.answers.LineAnswer.{LineAnswer}
use Rattle.explain_commands.specs.Explaining.{said_of, explained_lines, ExplainsComplete, answers_to, explain_status}
use Rattle.explain_commands.specs.ExplainStates.{ExplainState, IsFreshExplainer, ExplainerAtSink, ExplainsLine, PrintsText, TellsExplained}
use Rattle.explain_commands.specs.ExplainRows.{done, FailsOfExplained, failed, too_long, EndsExplained}
use Rattle.explain_commands.proofs.Following.{KnowsAnswers, KnowsAnswers-none, KnowsAnswers-text, end_explained_is, WithinPiece, WithinPiece-none, WithinPiece-more}

-- at a pause what is said of all complete lines is printed
record AtPause (mapping : NumberedMap) (start : SinkState) (bytes : List ℕ) (lines : List (List ℕ)) (p : ExplainerAtSink) : Type 0 where
  pub explained : KnowsAnswers mapping lines p.explainer
  pub no_text : p.explainer.text ≡ []
  pub prints : AppendedWell start p.sink (explained_lines mapping (answers_to mapping lines))
  pub finds : ExplainsComplete mapping bytes (answers_to mapping lines)

module _ (fresh : ExplainState) (start : SinkState) (is_fresh : IsFreshExplainer fresh) where
  abbrev mapping : NumberedMap
  mapping = fresh.mapping

  abbrev begun : ExplainerAtSink
  begun = record { explainer = fresh; sink = start }

  complete : (bytes : List ℕ) (lines : List (List ℕ)) (rest : List ℕ) → log_lines bytes ≡ lines ++ rest ∷ [] → ExplainsComplete mapping bytes (answers_to mapping lines)
  complete bytes lines rest cut = record { lines = lines; rest = rest; cut = cut; finds = refl }

  before_log : AtPause mapping start [] [] begun
  unfolding answers_to
  before_log = record { explained = KnowsAnswers-none fresh is_fresh; no_text = is_fresh.3; prints = (refl, Appended-nothing start); finds = complete [] [] [] refl }

  -- the lines behind a pause
  lines_within : (lines more : List (List ℕ)) (bytes : List ℕ) (p q : ExplainerAtSink) → AtPause mapping start bytes lines p → TakesLines ExplainsLine (length lines) p more q
      → WithinPiece mapping lines p.sink (lines ++ more) q
  lines_within lines more bytes p q at taken =
      TakesLines-keeps ExplainsLine (WithinPiece mapping lines p.sink) (WithinPiece-more mapping lines p.sink) lines more p q
      (WithinPiece-none mapping lines p.sink p at.explained at.no_text refl) taken

  -- what was printed before, and what the lines behind it add
  all_text : (lines all : List (List ℕ)) (sink : SinkState) (q : ExplainerAtSink) (w : WithinPiece mapping lines sink all q)
      → explained_lines mapping (answers_to mapping lines) ++ explained_lines mapping w.more ≡ explained_lines mapping (answers_to mapping all)
  all_text lines all sink q w = sym (flat_map-append (said_of mapping) (answers_to mapping lines) w.more) ∙ ap (explained_lines mapping) (sym w.answers_are)

  at_each : (bytes piece : List ℕ) (lines more : List (List ℕ)) (rest : List ℕ) (p q v : ExplainerAtSink) → AtPause mapping start bytes lines p → length piece ≤ 4096
      → log_lines (bytes ++ piece) ≡ (lines ++ more) ++ rest ∷ [] → TakesLines ExplainsLine (length lines) p more q → PrintsText q v (Ok tt)
      → AtPause mapping start (bytes ++ piece) (lines ++ more) v
  at_each bytes piece lines more rest p q v at short cut taken (puts, begins, no_status) =
      let w = lines_within lines more bytes p q at taken in
      let well : AppendedWell p.sink v.sink (explained_lines mapping w.more) =
      subst (λ k. AppendedWell k v.sink (explained_lines mapping w.more)) w.still (subst (AppendedWell q.sink v.sink) w.text_is puts) in
      record {
        explained = subst (KnowsAnswers mapping (lines ++ more)) (sym begins) (KnowsAnswers-text mapping (lines ++ more) q.explainer w.explained);
        no_text = ap (λ (s : ExplainState). s.text) begins;
        prints = subst (AppendedWell start v.sink) (all_text lines (lines ++ more) p.sink q w)
            (AppendedWell-more start p.sink v.sink (explained_lines mapping (answers_to mapping lines)) (explained_lines mapping w.more) at.prints well);
        finds = complete (bytes ++ piece) (lines ++ more) rest cut;
      }

  at_pause : (bytes : List ℕ) (lines : List (List ℕ)) (p : ExplainerAtSink) → Paused ExplainsLine PrintsText begun bytes lines p → AtPause mapping start bytes lines p
  at_pause = Paused-keeps ExplainsLine PrintsText begun (AtPause mapping start) before_log at_each

  module _ (log : Reading) (now : ExplainerAtSink) where
    abbrev written : Writing
    written = record { before = start; after = now.sink }

    ends_log : (status : ℕ) → EndsStream ExplainsLine PrintsText TellsExplained log begun now status → EndsExplained mapping log written (Ok status)
    ends_log status d = elim d.ended [
      | inr stopped ↦ absurd stopped
      | inl (taken, takes_last, told) ↦
          let at = at_pause d.bytes d.lines d.before d.paused in
          let w = lines_within d.lines (d.last ∷ []) d.bytes d.before taken at (taken, takes_last, refl) in
          let all : List (List ℕ) = d.lines ++ d.last ∷ [] in
          let answers : List LineAnswer = answers_to mapping all in
          let last_told : EndingTold d.before.sink now.sink (explained_lines mapping w.more) (explain_status mapping answers) status =
          subst (λ k. EndingTold k now.sink (explained_lines mapping w.more) (explain_status mapping answers) status) w.still
          (subst (λ t. EndingTold taken.sink now.sink t (explain_status mapping answers) status) w.text_is
          (subst (λ n. EndingTold taken.sink now.sink taken.explainer.text n status) (end_explained_is mapping all taken.explainer w.explained) told)) in
          inl (record {
            row = row_of (explain_status mapping answers) (explained_lines mapping answers);
            comes = done d.bytes answers d.read (ap (answers_to mapping) (sym d.cut));
            told = subst (λ t. EndingTold start now.sink t (explain_status mapping answers) status) (all_text d.lines all d.before.sink taken w)
                (told_more start d.before.sink now.sink (explained_lines mapping (answers_to mapping d.lines)) (explained_lines mapping w.more) (explain_status mapping answers) status at.prints last_told);
          })
    ]

    stops_log : (status : ℕ) → StopsStream ExplainsLine PrintsText log begun now status → EndsExplained mapping log written (Ok status)
    stops_log status d = elim d.stops [
      | inr (some, stopped) ↦ absurd stopped
      | inl (none, ((rose, (size, proper, part)), begins, six)) ↦
          let at = at_pause d.bytes d.lines d.before d.paused in
          let w = lines_within d.lines d.more d.bytes d.before d.taken at d.takes_more in
          let all : List (List ℕ) = d.lines ++ d.more in
          let said : List ℕ = explained_lines mapping w.more in
          inr (record {
            status_is = six;
            fails = rose_after start.faults d.before.sink.faults now.sink.faults at.prints.1.later (subst (λ (k : SinkState). Rose k.faults now.sink.faults) w.still rose);
            bytes = d.bytes;
            answers = answers_to mapping d.lines;
            piece = d.piece;
            more = w.more;
            came = d.came;
            calm = d.calm;
            short = d.short;
            finds = at.finds;
            finds_more = subst (ExplainsComplete mapping (d.bytes ++ d.piece)) w.answers_are
                (complete (d.bytes ++ d.piece) all d.rest (subst (λ (b : List (List ℕ)). log_lines (d.bytes ++ d.piece) ≡ all ++ d.rest ∷ b) none d.cut));
            size = size;
            proper = subst (λ t. size < length t) w.text_is proper;
            prints = Appended-more at.prints.1 (subst (λ k. Appended k now.sink (take size said)) w.still (subst (λ t. Appended d.taken.sink now.sink (take size t)) w.text_is part));
          })
    ]

    -- a log that was taken to its end, or until the sink failed
    pub Ends-taken : (status : ℕ) → Streamed ExplainsLine PrintsText TellsExplained log begun now (Ok status) → EndsExplained mapping log written (Ok status)
    Ends-taken status (inl ends) = ends_log status ends
    Ends-taken status (inr stops) = stops_log status stops

    pub Ends-failed : (fault : StreamFault) → fault ≡ ReadFault → Streamed ExplainsLine PrintsText TellsExplained log begun now (Err fault) → FailsOfExplained mapping log written (row_of 5 log_failed_text)
    Ends-failed fault is streamed =
        let d = subst (λ (f : StreamFault). Streamed ExplainsLine PrintsText TellsExplained log begun now (Err f)) is streamed in
        let at = at_pause d.bytes d.lines now d.paused in failed d.bytes (answers_to mapping d.lines) d.came at.finds d.holds at.prints

    pub Ends-too_long : (fault : StreamFault) → fault ≡ TooLong → Streamed ExplainsLine PrintsText TellsExplained log begun now (Err fault) → FailsOfExplained mapping log written (row_of 8 log_too_long_text)
    Ends-too_long fault is streamed =
        let d = subst (λ (f : StreamFault). Streamed ExplainsLine PrintsText TellsExplained log begun now (Err f)) is streamed in
        let at = at_pause d.bytes d.lines now d.paused in too_long d.bytes (answers_to mapping d.lines) d.came at.finds d.holds.0 d.holds.1 at.prints
