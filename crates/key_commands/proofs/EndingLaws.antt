-- How loading ends, by what the printer says
use Rattle.std.proofs.Common.{◌≡◌, suc, zero, ◌∙◌, ℕ, List, [], ◌∷◌, ◌++◌, take, drop, length, refl, sym, ap, subst, inl, inr, true, false, arith}
use Rattle.std.specs.Prelude.{Result, Ok, Err}
use Rattle.std.proofs.lemmas.Bool.{cases_Bool, false≢true}
use Rattle.std.proofs.lemmas.List.Elements.{All-append}
use Rattle.std.proofs.Math.Seq.{take-length}
use Rattle.bus_port.specs.Sink.{SinkState}
use Rattle.program_edge.specs.Told.{AppendedWell}
use Rattle.memory_update.specs.declared.messages.Request.{Request}
use Rattle.machine_runs.specs.Run.{Moment, Run, commands_in, lines_in}
use Rattle.run_driver.specs.Printed.{texts, WrittenPart}
use Rattle.run_driver.specs.PrintedUntil.{EndsBy, PrintedUntil}
use Rattle.run_driver.specs.declared.last_line.Stop.{Stop}
use Rattle.run_driver.specs.declared.last_line.Stop.TheVariants as stop
use Rattle.run_driver.specs.declared.printing.Unwritten.{Unwritten}
use Rattle.run_driver.specs.declared.printing.Unwritten.TheVariants as unwritten
use Rattle.program_edge.specs.Endings.{Ending}
use Rattle.key_commands.specs.declared.lines.LoadLine.{LoadLine}
use Rattle.key_commands.specs.declared.lines.LoadLine.TheVariants.{Loaded, Refused, Failed}
use Rattle.key_commands.specs.LoadTexts.{is_failed, load_text}
use Rattle.key_commands.specs.Loader.{LoaderState, Loads, HoldsAll}
use Rattle.key_commands.specs.Loading.{AllLoaded, EndsLoading, NoneFailed, WritesUpTo, load_texts, all_answered, cut_and_failed, cut_short, disk_failed}
use Rattle.key_commands.proofs.LoadingLaws.{all_loaded, last_failed, texts_is, requests_are, lines_are, commands_are}

-- the status of an answer
abbrev pub stop_status : Result (Unit {0}) Stop → ℕ
stop_status (Ok _) = 0
stop_status (Err stop.Last) = 10
stop_status (Err (stop.Unprinted unwritten.SinkFailed)) = 6
stop_status (Err (stop.Unprinted unwritten.Memory)) = 7

failed_line : (line : LoadLine) → is_failed line ≡ true → line ≡ Failed
failed_line (Loaded reply) is = absurd (false≢true is)
failed_line (Refused refusal) is = absurd (false≢true is)
failed_line Failed is = refl

one_line : (line : LoadLine) → is_failed line ≡ false → NoneFailed (line ∷ [])
one_line line isnt zero d within = isnt
one_line line isnt (suc k) d within = absurd (omega (arith, within))

abbrev ending : SinkState → SinkState → ℕ → Ending
ending before after status = record { before = before; after = after; status = status }

-- what was written of the texts if the last isn't written whole
writes_up_to : (before after : SinkState) (lines : List LoadLine) (line : LoadLine) (cause : Unwritten)
    → WrittenPart before after (load_texts lines) (load_text line) cause
    → WritesUpTo (ending before after (stop_status (Err (stop.Unprinted cause)))) lines line
writes_up_to before after lines line unwritten.SinkFailed (rose, n, within, written) = inl (refl, rose, (n, within, written))
writes_up_to before after lines line unwritten.Memory written = inr (refl, written)

module _ (s t : LoaderState) (requests : List Request) (before after : SinkState) (up : s.down ≡ false) (held : HoldsAll s) where
  module _ (front : List (Moment Request LoadLine LoaderState)) (m : Moment Request LoadLine LoaderState) (run : Run Loads s (front ++ m ∷ []) t)
      (k : ℕ) (first : commands_in (front ++ m ∷ []) ≡ take k requests) (none : NoneFailed (lines_in front)) where
    stopped_last : AppendedWell before after (load_texts (lines_in front) ++ load_text m.line) → is_failed m.line ≡ true
        → EndsLoading s requests t (ending before after 10)
    stopped_last written is =
        disk_failed (commands_in front) m.command (drop k requests) (lines_in front) refl (requests_are requests front m k first)
        (last_failed s front m t up held run none is)
        (subst (λ line. AppendedWell before after (load_texts (lines_in front) ++ load_text line)) (failed_line m.line is) written)

    stopped_short : (status : ℕ) → WritesUpTo (ending before after status) (lines_in front) m.line → EndsLoading s requests t (ending before after status)
    stopped_short status written = elim (cases_Bool (is_failed m.line)) [
      | inl is ↦
          cut_and_failed (commands_in front) m.command (drop k requests) (lines_in front) (requests_are requests front m k first)
          (last_failed s front m t up held run none is)
          (subst (WritesUpTo (ending before after status) (lines_in front)) (failed_line m.line is) written)
      | inr isnt ↦
          let all : NoneFailed (lines_in (front ++ m ∷ [])) =
          subst NoneFailed (sym (lines_are front m)) (All-append (λ line. is_failed line ≡ false) (lines_in front) (m.line ∷ []) none (one_line m.line isnt)) in
          let loaded = all_loaded s (front ++ m ∷ []) t up run all in
          cut_short (commands_in front) m.command (drop k requests) (lines_in front) m.line (requests_are requests front m k first)
          (subst (λ lines. AllLoaded s (commands_in front ++ m.command ∷ []) lines t) (lines_are front m)
          (subst (λ commands. AllLoaded s commands (lines_in (front ++ m ∷ [])) t) (commands_are front m) loaded))
          written
    ]

    stopped : (cause : Stop) → EndsBy is_failed before after (texts (λ _ line. load_text line) 1 (lines_in front)) m.line (load_text m.line) cause
        → EndsLoading s requests t (ending before after (stop_status (Err cause)))
    stopped stop.Last (written, is) =
        stopped_last (subst (λ w. AppendedWell before after (w ++ load_text m.line)) (texts_is 1 (lines_in front)) written) is
    stopped (stop.Unprinted cause) written =
        stopped_short (stop_status (Err (stop.Unprinted cause)))
        (writes_up_to before after (lines_in front) m.line cause
        (subst (λ w. WrittenPart before after w (load_text m.line) cause) (texts_is 1 (lines_in front)) written))

  pub ends_loading : (result : Result (Unit {0}) Stop)
      → PrintedUntil Loads (λ _ line. load_text line) is_failed s t before after requests result
      → EndsLoading s requests t (ending before after (stop_status result))
  ends_loading (Ok _) printed =
      let (many, none, written) = printed.holds in
      let all : commands_in printed.moments ≡ requests = printed.first ∙ ap (λ n. take n requests) many ∙ take-length requests in
      let loaded = all_loaded s printed.moments t up printed.run none in
      all_answered (lines_in printed.moments) refl (subst (λ done. AllLoaded s done (lines_in printed.moments) t) all loaded)
      (subst (AppendedWell before after) (texts_is 1 (lines_in printed.moments)) written)
  ends_loading (Err cause) printed =
      let last = printed.holds in
      stopped last.front last.last (subst (λ ms. Run Loads s ms t) last.all printed.run) (length printed.moments)
      (subst (λ ms. commands_in ms ≡ take (length printed.moments) requests) last.all printed.first) last.none_ends cause last.written
