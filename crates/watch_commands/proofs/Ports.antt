-- What comes of a log, and what is printed of it
use Rattle.std.proofs.Common.{◌≡◌, ℕ, ◌<◌, ◌≤◌, List, [], ◌∷◌, ◌++◌, length, take, refl, sym, ◌∙◌, ap, subst, inl, inr, append_assoc}
use Rattle.std.specs.Prelude.{Ok, Err}
use Rattle.std.proofs.lemmas.Grind.{flat_map-append}
use Rattle.basics.proofs.CallerLemmas.{rose_after}
use Rattle.bus_port.specs.Fault.{Rose}
use Rattle.bus_port.specs.Sink.{SinkState, Appended}
use Rattle.bus_port.proofs.CallerLemmas.{Appended-more, Appended-nothing}
use Rattle.program_edge.specs.Told.{AppendedWell, EndingTold}
use Rattle.program_edge.proofs.CallerLemmas.{AppendedWell-more}
use Rattle.program_edge.specs.Rows.{row_of}
use Rattle.program_edge.specs.Inputs.{Reading}
use Rattle.can_logs.specs.LogRuns.{Writing, log_failed_text, log_too_long_text}
use Rattle.line_stream.specs.Pieces.{log_lines}
use Rattle.line_stream.specs.Streams.{TakesLines, Paused, EndsStream, StopsStream, Streamed}
use Rattle.line_stream.specs.declared.driver.StreamFault.{StreamFault}
use Rattle.line_stream.specs.declared.driver.StreamFault.TheVariants.{ReadFault, TooLong}
use Rattle.line_stream.proofs.CallerLemmas.{told_more, TakesLines-keeps, Paused-keeps}
use Rattle.watch_commands.specs.WatchedMaps.{WatchedMap}
use Rattle.watch_commands.specs.Watching.{Found, told_text, found_text, WatchesEach, FindsComplete, FindsAll}
use Rattle.watch_commands.specs.LogTotals.{totals_text, watch_status}
use Rattle.watch_commands.specs.States.{WatchState, IsFreshWatch, Watched, WatchAtSink, WatchesLineAt, PrintsFound, TellsTotals, end_text, end_status}
use Rattle.watch_commands.specs.WatchRows.{done, FailsOfLog, failed, too_long, EndsLog}
use Rattle.watch_commands.proofs.Going.{Watched-none, Watched-text, WatchedMore, WatchedMore-none, WatchedMore-more, end_text_is, end_status_is}

-- what is found of these lines, of a state
pub finds_lines : (mapping : WatchedMap) (lines : List (List ℕ)) (state : WatchState) (findings : List Found) → state.mapping ≡ mapping → Watched state lines findings
    → WatchesEach mapping.lines lines findings
finds_lines mapping lines state findings same w = subst (λ (m : WatchedMap). WatchesEach m.lines lines findings) same w.finds

-- what is printed at the end of a log, and the status
pub text_at_end : (mapping : WatchedMap) (first : List Found) (lines : List (List ℕ)) (state : WatchState) (w : WatchedMore mapping first lines state)
    → state.text ++ end_text state ≡ found_text mapping w.found ++ totals_text mapping (first ++ w.found)
text_at_end mapping first lines state w =
    ap (λ t. t ++ end_text state) w.text_is
    ∙ ap (λ t. found_text mapping w.found ++ t)
    (end_text_is state lines (first ++ w.found) w.watched ∙ ap (λ (m : WatchedMap). totals_text m (first ++ w.found)) w.same)

pub status_at_end : (mapping : WatchedMap) (first : List Found) (lines : List (List ℕ)) (state : WatchState) (w : WatchedMore mapping first lines state)
    → end_status state ≡ watch_status mapping (first ++ w.found)
status_at_end mapping first lines state w =
    end_status_is state lines (first ++ w.found) w.watched ∙ ap (λ (m : WatchedMap). watch_status m (first ++ w.found)) w.same

-- at a pause what is found of all complete lines is printed
record AtPause (mapping : WatchedMap) (start : SinkState) (bytes : List ℕ) (lines : List (List ℕ)) (p : WatchAtSink) : Type 0 where
  pub same : p.watch.mapping ≡ mapping
  pub findings : List Found
  pub watched : Watched p.watch lines findings
  pub no_text : p.watch.text ≡ []
  pub prints : AppendedWell start p.sink (found_text mapping findings)
  pub finds : FindsComplete mapping.lines bytes findings

module _ (fresh : WatchState) (start : SinkState) (is_fresh : IsFreshWatch fresh) where
  abbrev mapping : WatchedMap
  mapping = fresh.mapping

  abbrev begun : WatchAtSink
  begun = record { watch = fresh; sink = start }

  complete : (bytes : List ℕ) (lines : List (List ℕ)) (rest : List ℕ) (findings : List Found) → log_lines bytes ≡ lines ++ rest ∷ [] → WatchesEach mapping.lines lines findings
      → FindsComplete mapping.lines bytes findings
  complete bytes lines rest findings cut finds = record { lines = lines; rest = rest; cut = cut; finds = finds }

  before_log : AtPause mapping start [] [] begun
  before_log =
      let w = Watched-none fresh is_fresh in
      record {
        same = refl;
        findings = [];
        watched = w;
        no_text = is_fresh.no_text;
        prints = (refl, Appended-nothing start);
        finds = complete [] [] [] [] refl w.finds;
      }

  -- what is found of the lines after a pause is the text, and nothing is printed
  abbrev Held : List Found → SinkState → List (List ℕ) → WatchAtSink → Type 0
  Held first sink lines p = WatchedMore mapping first lines p.watch × (p.sink ≡ sink)

  lines_held : (lines more : List (List ℕ)) (bytes : List ℕ) (p q : WatchAtSink) (at : AtPause mapping start bytes lines p) → TakesLines WatchesLineAt (length lines) p more q
      → Held at.findings p.sink (lines ++ more) q
  lines_held lines more bytes p q at taken =
      TakesLines-keeps WatchesLineAt (Held at.findings p.sink)
      (λ before s line t held next. (WatchedMore-more mapping at.findings before s.watch line t.watch held.0 next.0, next.1 ∙ held.1)) lines more p q
      (WatchedMore-none mapping at.findings lines p.watch at.same at.watched at.no_text, refl) taken

  at_each : (bytes piece : List ℕ) (lines more : List (List ℕ)) (rest : List ℕ) (p q v : WatchAtSink) → AtPause mapping start bytes lines p → length piece ≤ 4096
      → log_lines (bytes ++ piece) ≡ (lines ++ more) ++ rest ∷ [] → TakesLines WatchesLineAt (length lines) p more q → PrintsFound q v (Ok tt)
      → AtPause mapping start (bytes ++ piece) (lines ++ more) v
  at_each bytes piece lines more rest p q v at short cut taken (puts, begins, no_status) =
      let (w, still) = lines_held lines more bytes p q at taken in
      let findings : List Found = at.findings ++ w.found in
      let well : AppendedWell p.sink v.sink (found_text mapping w.found) =
      subst (λ k. AppendedWell k v.sink (found_text mapping w.found)) still (subst (AppendedWell q.sink v.sink) w.text_is puts) in
      record {
        same = ap (λ (s : WatchState). s.mapping) begins ∙ w.same;
        findings = findings;
        watched = subst (λ (s : WatchState). Watched s (lines ++ more) findings) (sym begins) (Watched-text q.watch [] (lines ++ more) findings w.watched);
        no_text = ap (λ (s : WatchState). s.text) begins;
        prints = subst (AppendedWell start v.sink) (sym (flat_map-append (told_text mapping.options) at.findings w.found))
            (AppendedWell-more start p.sink v.sink (found_text mapping at.findings) (found_text mapping w.found) at.prints well);
        finds = complete (bytes ++ piece) (lines ++ more) rest findings cut (finds_lines mapping (lines ++ more) q.watch findings w.same w.watched);
      }

  at_pause : (bytes : List ℕ) (lines : List (List ℕ)) (p : WatchAtSink) → Paused WatchesLineAt PrintsFound begun bytes lines p → AtPause mapping start bytes lines p
  at_pause = Paused-keeps WatchesLineAt PrintsFound begun (AtPause mapping start) before_log at_each

  module _ (log : Reading) (now : WatchAtSink) where
    abbrev written : Writing
    written = record { before = start; after = now.sink }

    ends_log : (status : ℕ) → EndsStream WatchesLineAt PrintsFound TellsTotals log begun now status → EndsLog mapping log written (Ok status)
    ends_log status d = elim d.ended [
      | inr stopped ↦ absurd stopped
      | inl (taken, takes_last, told) ↦
          let at = at_pause d.bytes d.lines d.before d.paused in
          let (w, still) = lines_held d.lines (d.last ∷ []) d.bytes d.before taken at (taken, takes_last, refl) in
          let all : List (List ℕ) = d.lines ++ d.last ∷ [] in
          let findings : List Found = at.findings ++ w.found in
          let totals : List ℕ = totals_text mapping findings in
          let answer : ℕ = watch_status mapping findings in
          let last_told : EndingTold d.before.sink now.sink (found_text mapping w.found ++ totals) answer status =
          subst (λ k. EndingTold k now.sink (found_text mapping w.found ++ totals) answer status) still
          (subst (λ t. EndingTold taken.sink now.sink t answer status) (text_at_end mapping at.findings all taken.watch w)
          (subst (λ n. EndingTold taken.sink now.sink (taken.watch.text ++ end_text taken.watch) n status) (status_at_end mapping at.findings all taken.watch w) told)) in
          let text_is : found_text mapping at.findings ++ (found_text mapping w.found ++ totals) ≡ found_text mapping findings ++ totals =
          sym (append_assoc (found_text mapping at.findings) (found_text mapping w.found) totals)
          ∙ ap (λ t. t ++ totals) (sym (flat_map-append (told_text mapping.options) at.findings w.found)) in
          let finds : FindsAll mapping.lines d.bytes findings =
          subst (λ (ls : List (List ℕ)). WatchesEach mapping.lines ls findings) (sym d.cut) (finds_lines mapping all taken.watch findings w.same w.watched) in
          inl (record {
            row = row_of answer (found_text mapping findings ++ totals);
            comes = done d.bytes findings d.read finds;
            told = subst (λ t. EndingTold start now.sink t answer status) text_is
                (told_more start d.before.sink now.sink (found_text mapping at.findings) (found_text mapping w.found ++ totals) answer status at.prints last_told);
          })
    ]

    stops_log : (status : ℕ) → StopsStream WatchesLineAt PrintsFound log begun now status → EndsLog mapping log written (Ok status)
    stops_log status d = elim d.stops [
      | inr (some, stopped) ↦ absurd stopped
      | inl (none, ((rose, (size, proper, part)), begins, six)) ↦
          let at = at_pause d.bytes d.lines d.before d.paused in
          let (w, still) = lines_held d.lines d.more d.bytes d.before d.taken at d.takes_more in
          let all : List (List ℕ) = d.lines ++ d.more in
          let findings : List Found = at.findings ++ w.found in
          let said : List ℕ = found_text mapping w.found in
          inr (record {
            status_is = six;
            fails = rose_after start.faults d.before.sink.faults now.sink.faults at.prints.1.later (subst (λ (k : SinkState). Rose k.faults now.sink.faults) still rose);
            bytes = d.bytes;
            findings = at.findings;
            piece = d.piece;
            more = w.found;
            came = d.came;
            calm = d.calm;
            short = d.short;
            finds = at.finds;
            finds_more = complete (d.bytes ++ d.piece) all d.rest findings (subst (λ (b : List (List ℕ)). log_lines (d.bytes ++ d.piece) ≡ all ++ d.rest ∷ b) none d.cut)
                (finds_lines mapping all d.taken.watch findings w.same w.watched);
            size = size;
            proper = subst (λ t. size < length t) w.text_is proper;
            prints = Appended-more at.prints.1 (subst (λ k. Appended k now.sink (take size said)) still (subst (λ t. Appended d.taken.sink now.sink (take size t)) w.text_is part));
          })
    ]

    -- a log that was taken to its end, or until the sink failed
    pub Ends-taken : (status : ℕ) → Streamed WatchesLineAt PrintsFound TellsTotals log begun now (Ok status) → EndsLog mapping log written (Ok status)
    Ends-taken status (inl ends) = ends_log status ends
    Ends-taken status (inr stops) = stops_log status stops

    pub Ends-failed : (fault : StreamFault) → fault ≡ ReadFault → Streamed WatchesLineAt PrintsFound TellsTotals log begun now (Err fault) → FailsOfLog mapping log written (row_of 5 log_failed_text)
    Ends-failed fault is streamed =
        let d = subst (λ (f : StreamFault). Streamed WatchesLineAt PrintsFound TellsTotals log begun now (Err f)) is streamed in
        let at = at_pause d.bytes d.lines now d.paused in failed d.bytes at.findings d.came at.finds d.holds at.prints

    pub Ends-too_long : (fault : StreamFault) → fault ≡ TooLong → Streamed WatchesLineAt PrintsFound TellsTotals log begun now (Err fault) → FailsOfLog mapping log written (row_of 8 log_too_long_text)
    Ends-too_long fault is streamed =
        let d = subst (λ (f : StreamFault). Streamed WatchesLineAt PrintsFound TellsTotals log begun now (Err f)) is streamed in
        let at = at_pause d.bytes d.lines now d.paused in too_long d.bytes at.findings d.came at.finds d.holds.0 d.holds.1 at.prints
