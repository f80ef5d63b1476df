-- What was printed of a log has rising freshness for each line of the map
use Rattle.std.proofs.Common.{◌≡◌, ◌⊎◌, ℕ, ◌+◌, List, [], ◌++◌, length, take, refl, sym, ◌∙◌, ap, subst, arith, inl, inr, append-nil}
use Rattle.std.proofs.lemmas.Grind.{flat_map-append}
use Rattle.std.proofs.lemmas.List.{take_all}
use Rattle.std.proofs.Math.Seq.{take-append-add}
use Rattle.bus_port.specs.Sink.{SinkState, Appended}
use Rattle.program_edge.specs.Told.{EndingTold}
use Rattle.program_edge.specs.Rows.{Row}
use Rattle.program_edge.specs.Inputs.{IsUnread}
use Rattle.can_logs.specs.LogRuns.{LogInputs, HasCome, Writing, WritesWhole, ending_of, WatchEnding}
use Rattle.watch_commands.specs.WatchedMaps.{WatchedMap}
use Rattle.line_stream.specs.Pieces.{log_lines}
use Rattle.watch_commands.specs.Watching.{Found, FindsComplete, told_text, found_text}
use Rattle.watch_commands.specs.LogTotals.{totals_text}
use Rattle.watch_commands.specs.Words.{AsksWatch}
use Rattle.watch_commands.specs.WatchRows.{ReadsWatchMap, ComesOfLog, done, FailsOfLog, failed, too_long, Stops, OverMap, ComesOnOutput, asked, of_log, ComesOnErrors, no_form, no_map, map_fault, no_log, EndsWatch}
use Rattle.watch_commands.specs.Watches.{PrintsRising}
use Rattle.watch_commands.proofs.WatchRising.{all_rise}

-- of a text that was told a prefix was printed, or all of it
printed_front : (before after : SinkState) (text : List ℕ) (status answer : ℕ) → EndingTold before after text status answer
    → (size : ℕ) × Appended before after (take size text)
printed_front before after text status answer (inl (is, well)) =
    (length text, subst (Appended before after) (sym (take_all (length text) text (omega arith))) well.1)
printed_front before after text status answer (inr (six, rose, (size, proper, part))) = (size, part)

-- what was printed of the last piece is a prefix of what is found of all
front_of_all : (mapping : WatchedMap) (findings more : List Found) (size : ℕ)
    → found_text mapping findings ++ take size (found_text mapping more)
    ≡ take (length (found_text mapping findings) + size) (found_text mapping (findings ++ more) ++ [])
front_of_all mapping findings more size =
    let all : found_text mapping findings ++ found_text mapping more ≡ found_text mapping (findings ++ more) ++ [] =
    sym (flat_map-append (told_text mapping.options) findings more) ∙ sym (append-nil (found_text mapping (findings ++ more))) in
    sym (take-append-add (found_text mapping findings) (found_text mapping more) size)
    ∙ ap (λ (text : List ℕ). take (length (found_text mapping findings) + size) text) all

module _ (i : LogInputs) (output : Writing) where
  abbrev Rises : Type 0
  Rises = IsUnread i.log ⊎ OverMap i (λ mapping. PrintsRising mapping i.log output)

  -- what was written of the row of a log that ended
  of_log_rises : AsksWatch i.words → (mapping : WatchedMap) → ReadsWatchMap i mapping → (row : Row) → ComesOfLog mapping i.log row
      → (size : ℕ) → Appended output.before output.after (take size row.text) → Rises
  of_log_rises asks mapping reads row (done bytes findings whole finds) size part = inr (
    asks,
    (
      mapping,
      reads,
      record {
        bytes = bytes;
        findings = findings;
        came = whole.came;
        finds = inr finds;
        rise = all_rise mapping.lines (log_lines bytes) findings finds;
        last = totals_text mapping findings;
        last_is = inl refl;
        size = size;
        prints = part;
      },
    ),
  )

  output_rises : (row : Row) → ComesOnOutput i row → (size : ℕ) → Appended output.before output.after (take size row.text) → Rises
  output_rises row (asked text is map log) size part = inl log
  output_rises row (of_log _ (asks, (mapping, reads, comes))) size part = of_log_rises asks mapping reads row comes size part

  -- what is found of the complete lines was written whole
  complete_rises : AsksWatch i.words → (mapping : WatchedMap) → ReadsWatchMap i mapping → (bytes : List ℕ) (findings : List Found) → HasCome i.log bytes
      → FindsComplete mapping.lines bytes findings → WritesWhole output (found_text mapping findings) → Rises
  complete_rises asks mapping reads bytes findings came finds written = inr (
    asks,
    (
      mapping,
      reads,
      record {
        bytes = bytes;
        findings = findings;
        came = came;
        finds = inl finds;
        rise = all_rise mapping.lines finds.lines findings finds.finds;
        last = [];
        last_is = inr refl;
        size = length (found_text mapping findings ++ []);
        prints = subst (Appended output.before output.after)
            (sym (take_all (length (found_text mapping findings ++ [])) (found_text mapping findings ++ []) (omega arith) ∙ append-nil (found_text mapping findings)))
            written.1;
      },
    ),
  )

  no_log_rises : AsksWatch i.words → (mapping : WatchedMap) → ReadsWatchMap i mapping → (row : Row) → FailsOfLog mapping i.log output row → Rises
  no_log_rises asks mapping reads row (failed bytes findings came finds fails written) = complete_rises asks mapping reads bytes findings came finds written
  no_log_rises asks mapping reads row (too_long bytes findings came finds calm long written) = complete_rises asks mapping reads bytes findings came finds written

  errors_rise : (row : Row) → ComesOnErrors i output row → Rises
  errors_rise row (no_form other no_text map log unwritten) = inl log
  errors_rise row (no_map fault asks lacks unread unwritten) = inl unread
  errors_rise row (map_fault fault asks is unread unwritten) = inl unread
  errors_rise row (no_log _ (asks, (mapping, reads, fails))) = no_log_rises asks mapping reads row fails

  stops_rise : (status : ℕ) → OverMap i (λ mapping. Stops mapping i.log (ending_of output status)) → Rises
  stops_rise status (asks, (mapping, reads, stops)) = inr (
    asks,
    (
      mapping,
      reads,
      record {
        bytes = stops.bytes ++ stops.piece;
        findings = stops.findings ++ stops.more;
        came = stops.came;
        finds = inl stops.finds_more;
        rise = all_rise mapping.lines stops.finds_more.lines (stops.findings ++ stops.more) stops.finds_more.finds;
        last = [];
        last_is = inr refl;
        size = length (found_text mapping stops.findings) + stops.size;
        prints = subst (Appended output.before output.after) (front_of_all mapping stops.findings stops.more stops.size) stops.prints;
      },
    ),
  )

pub rises : (i : LogInputs) (e : WatchEnding) → EndsWatch i e → IsUnread i.log ⊎ OverMap i (λ mapping. PrintsRising mapping i.log e.output)
rises i e (inl (ends, unwritten)) =
    let front = printed_front e.output.before e.output.after ends.row.text ends.row.status e.status ends.told in
    output_rises i e.output ends.row ends.comes front.0 front.1
rises i e (inr (inl (stops, unwritten))) = stops_rise i e.output e.status stops
rises i e (inr (inr ends)) = errors_rise i e.output ends.row ends.comes
