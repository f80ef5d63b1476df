-- What the ways in which a log ends say, by the status
use Rattle.std.specs.Prelude.{◌≡◌, ◌⊎◌, ◌+◌, ◌≤◌, ℕ, true, List, [], ◌∷◌, ◌++◌, length, codes}
use Rattle.std.proofs.Common.{refl, sym, ap, ◌∙◌, subst, arith, inl, inr, append-nil, append_assoc}
use Rattle.basics.specs.FaultCount.{last_count}
use Rattle.bus_port.specs.Source.{SourceState}
use Rattle.bus_port.specs.Whole.{AppendedPart}
use Rattle.program_edge.specs.Inputs.{Reading, SourceFailed}
use Rattle.program_edge.specs.Endings.{SinkFailed}
use Rattle.secoc_node.specs.State.{NodeState}
use Rattle.can_logs.specs.LogRuns.{IsUnwritten, WritesWhole, WatchEnding, on_output, on_errors}
use Rattle.endpoint_commands.specs.declared.rules.FrameRule.{FrameRule}
use Rattle.endpoint_commands.specs.Running.{LineMoment, answers_behind, closing_text, tells_failed_disk}
use Rattle.endpoint_commands.specs.Logs.{EndsBehind, TellsBehind, Unfailed, answer_behind, LogRead, LinesRead, StopsAt, by_sink, by_disk, EndsLines, done, failed, too_long, stopped, stopped_last}
use Rattle.endpoint_commands.specs.Promises.{EndsBooted, not_opened, of_log}
use Rattle.endpoint_commands.proofs.Going.{answers-append}

module _ (rules : List FrameRule) (booted : NodeState) (opening : List ℕ) (log : Reading) (e : WatchEnding) (now : NodeState) where
  -- the answers to these lines
  abbrev pub answered : List LineMoment → List ℕ
  answered lines = opening ++ answers_behind rules 0 lines

  -- and then a text
  abbrev pub printed : List LineMoment → List ℕ → List ℕ
  printed lines text = opening ++ answers_behind rules 0 lines ++ text

  -- 0
  abbrev pub TellsDone : List LineMoment → Type 0
  TellsDone lines = LogRead rules booted log lines now × Unfailed lines × WritesWhole e.output (printed lines (closing_text rules lines)) × IsUnwritten e.errors

  -- 5
  abbrev pub TellsFailed : List LineMoment → Type 0
  TellsFailed lines = SourceFailed log × LinesRead rules booted log lines now × Unfailed lines × WritesWhole e.output (answered lines)
      × WritesWhole e.errors (codes "read fault\n")

  -- 8
  abbrev pub TellsTooLong : List LineMoment → Type 0
  TellsTooLong lines = (log.after.faults ≡ log.before.faults) × (read : LinesRead rules booted log lines now) × (last_count ≤ length read.bytes) × Unfailed lines
      × WritesWhole e.output (answered lines) × WritesWhole e.errors (codes "input too long\n")

  -- 11
  abbrev pub TellsStopped : List LineMoment → Type 0
  TellsStopped lines = (earlier : List LineMoment) × (last : LineMoment) × (lines ≡ earlier ++ last ∷ []) × Unfailed earlier × (tells_failed_disk last.line ≡ true)
      × (log.after.faults ≡ log.before.faults) × WritesWhole e.output (answered lines) × IsUnwritten e.errors

  -- 6, and the log's count rose
  abbrev pub TellsFirst : List LineMoment → Type 0
  TellsFirst lines = LinesRead rules booted log lines now × WritesWhole e.output (answered lines) × AppendedPart e.errors.before e.errors.after (codes "read fault\n")

  abbrev pub TellsSink : List LineMoment → Type 0
  TellsSink lines = (SinkFailed (on_output e) ⊎ SinkFailed (on_errors e)) × ((log.after.faults ≡ log.before.faults) ⊎ TellsFirst lines)

  abbrev pub LogTells : List LineMoment → Type 0
  LogTells lines = ((e.status ≡ 0) × TellsDone lines) ⊎ (((e.status ≡ 5) × TellsFailed lines) ⊎ (((e.status ≡ 8) × TellsTooLong lines)
      ⊎ (((e.status ≡ 11) × TellsStopped lines) ⊎ ((e.status ≡ 6) × TellsSink lines))))

  -- ---- the texts

  one_more : (moments : List LineMoment) (last : LineMoment) → answers_behind rules 0 moments ++ answer_behind rules (length moments) last ≡ answers_behind rules 0 (moments ++ last ∷ [])
  one_more moments last =
      let number : length moments ≡ 0 + length moments = omega arith in
      ap (λ (l : List ℕ). answers_behind rules 0 moments ++ l) (sym (append-nil (answer_behind rules (length moments) last)))
      ∙ ap (λ (n : ℕ). answers_behind rules 0 moments ++ answers_behind rules n (last ∷ [])) number
      ∙ sym (answers-append rules 0 moments (last ∷ []))

  answered_more : (moments : List LineMoment) (last : LineMoment)
      → (opening ++ answers_behind rules 0 moments) ++ answer_behind rules (length moments) last ≡ opening ++ answers_behind rules 0 (moments ++ last ∷ [])
  answered_more moments last =
      append_assoc opening (answers_behind rules 0 moments) (answer_behind rules (length moments) last)
      ∙ ap (λ (l : List ℕ). opening ++ l) (one_more moments last)

  last_printed : (moments : List LineMoment) (last : LineMoment) (text : List ℕ)
      → (opening ++ answers_behind rules 0 moments) ++ (answer_behind rules (length moments) last ++ text) ≡ printed (moments ++ last ∷ []) text
  last_printed moments last text =
      sym (append_assoc (opening ++ answers_behind rules 0 moments) (answer_behind rules (length moments) last) text)
      ∙ ap (λ (l : List ℕ). l ++ text) (answered_more moments last)

  -- ---- the ways

  output_failed : (lines : List LineMoment) → e.status ≡ 6 → SinkFailed (on_output e) → log.after.faults ≡ log.before.faults → LogTells lines
  output_failed lines six fails calm = inr (inr (inr (inr (six, (inl fails, inl calm)))))

  tells_done : (moments : List LineMoment) (last : LineMoment) → LogRead rules booted log (moments ++ last ∷ []) now → Unfailed (moments ++ last ∷ [])
      → EndsBehind (on_output e) (opening ++ answers_behind rules 0 moments)
      (record { status = 0; text = answer_behind rules (length moments) last ++ closing_text rules (moments ++ last ∷ []) })
      → IsUnwritten e.errors → LogTells (moments ++ last ∷ [])
  tells_done moments last read unfailed (inl (is, prints)) untold =
      inl (is, (read, unfailed, subst (WritesWhole e.output) (last_printed moments last (closing_text rules (moments ++ last ∷ []))) prints, untold))
  tells_done moments last read unfailed (inr (six, fails, front)) untold = output_failed (moments ++ last ∷ []) six fails read.reads.no_fault

  tells_failed : (moments : List LineMoment) → LinesRead rules booted log moments now → Unfailed moments → SourceFailed log
      → TellsBehind e (opening ++ answers_behind rules 0 moments) (record { status = 5; text = codes "read fault\n" }) → LogTells moments
  tells_failed moments read unfailed fails (prints, inl (is, told)) = inr (inl (is, (fails, read, unfailed, prints, told)))
  tells_failed moments read unfailed fails (prints, inr (six, rose, part)) = inr (inr (inr (inr (six, (inr rose, inr (read, prints, part))))))

  tells_too_long : (moments : List LineMoment) (read : LinesRead rules booted log moments now) → Unfailed moments → log.after.faults ≡ log.before.faults → last_count ≤ length read.bytes
      → TellsBehind e (opening ++ answers_behind rules 0 moments) (record { status = 8; text = codes "input too long\n" }) → LogTells moments
  tells_too_long moments read unfailed calm long (prints, inl (is, told)) = inr (inr (inl (is, (calm, read, long, unfailed, prints, told))))
  tells_too_long moments read unfailed calm long (prints, inr (six, rose, part)) = inr (inr (inr (inr (six, (inr rose, inl calm)))))

  tells_stopped : (moments : List LineMoment) (last : LineMoment) → Unfailed moments → log.after.faults ≡ log.before.faults → StopsAt rules opening moments last (on_output e)
      → IsUnwritten e.errors → LogTells (moments ++ last ∷ [])
  tells_stopped moments last unfailed calm (by_sink six fails n less front) untold = output_failed (moments ++ last ∷ []) six fails calm
  tells_stopped moments last unfailed calm (by_disk eleven tells prints) untold =
      inr (inr (inr (inl (eleven, (moments, last, refl, unfailed, tells, calm, subst (WritesWhole e.output) (answered_more moments last) prints, untold)))))

  log_tells : (lines : List LineMoment) → EndsLines rules booted opening log e now lines → LogTells lines
  log_tells _ (done moments last read unfailed ends untold) = tells_done moments last read unfailed ends untold
  log_tells _ (failed moments read unfailed fails ends) = tells_failed moments read unfailed fails ends
  log_tells _ (too_long moments read unfailed calm long ends) = tells_too_long moments read unfailed calm long ends
  log_tells _ (stopped moments last read unfailed stops untold) = tells_stopped moments last unfailed read.calm stops untold
  log_tells _ (stopped_last moments last read unfailed stops untold) = tells_stopped moments last unfailed read.reads.no_fault stops untold

  pub booted_tells : (lines : List LineMoment) → EndsBooted rules booted opening log e now lines → LogTells lines
  booted_tells _ (not_opened six fails part untold unread same) = output_failed [] six fails (ap (λ (s : SourceState). s.faults) unread)
  booted_tells _ (of_log lines ends) = log_tells lines ends
