-- What a run of `watch` promises
use Rattle.std.specs.Prelude.{◌≡◌, ◌⊎◌, ℕ, ◌<◌, ◌≤◌, List, [], ◌++◌, length, take, map, None, Some, Ok, Err}
use Rattle.bus_port.specs.Fault.{last_count}
use Rattle.bus_port.specs.Sink.{Appended}
use Rattle.secoc_words.specs.Counting.{AcceptedRise}
use Rattle.text_lines.specs.Readings.{Fault}
use Rattle.program_edge.specs.declared.input.InputFault.TheVariants as input
use Rattle.program_edge.specs.Told.{EndingTold}
use Rattle.program_edge.specs.Inputs.{Reading, IsUnread, Lacks, SourceFailed, CountsFault, GivesTooMuch, CountsTooMuch, Offers}
use Rattle.program_edge.specs.Endings.{EndsIn, MayEndIn, PrintsFront, SinkFailed, CountsWriteFault}
use Rattle.can_logs.specs.declared.map_lines.MapLine.{MapLine}
use Rattle.can_logs.specs.Findings.{finding_accepts}
use Rattle.can_logs.specs.LogRuns.{LogInputs, IsAnswer, IsWatchMapFault, ReadsToEnd, HasCome, log_failed_text, log_too_long_text, Writing, IsUnwritten, WritesWhole, WatchEnding, on_output, on_errors}
use Rattle.can_logs.specs.MapFaults.{map_fault_text, map_input_text}
use Rattle.watch_commands.specs.Words.{watch_usage, AsksWatch, text_asked}
use Rattle.watch_commands.specs.WatchedMaps.{WatchedMap}
use Rattle.can_logs.specs.WatchMaps.{watch_map_of}
use Rattle.watch_commands.specs.Watching.{Found, findings_of, FindsComplete, FindsAll, found_text}
use Rattle.watch_commands.specs.LogTotals.{totals_text, watch_status}
use Rattle.watch_commands.specs.WatchRows.{Stops, FailsBoth, OverMap, ComesOnOutput, ComesOnErrors, EndsWatch}

-- the whole log was read, exactly what is found of its lines and the totals were printed, and these findings give the
-- status
abbrev pub AnswersLog : LogInputs → WatchEnding → Type 0
AnswersLog i e = OverMap i (λ mapping. (log : List ℕ) × (findings : List Found) × ReadsToEnd i.log log
    × FindsAll mapping.lines log findings × (e.status ≡ watch_status mapping findings)
    × WritesWhole e.output (found_text mapping findings ++ totals_text mapping findings)
    × IsUnwritten e.errors)

-- exactly what is found of every complete line of the bytes that came was printed
abbrev pub HoldsNothingBack : LogInputs → WatchEnding → (List ℕ → Type 0) → Type 0
HoldsNothingBack i e P = OverMap i (λ mapping. (bytes : List ℕ) × (findings : List Found)
    × HasCome i.log bytes × P bytes × FindsComplete mapping.lines bytes findings
    × WritesWhole e.output (found_text mapping findings))

-- what was printed is a prefix of what is found of all that came of the log, and of the totals if the log ended. What
-- is found is that of its complete lines or of all. Of two frames that the same line of the map accepted, the later has
-- the greater freshness
pub record PrintsRising (mapping : WatchedMap) (log : Reading) (output : Writing) : Type 0 where
  pub bytes : List ℕ
  pub findings : List Found
  pub came : HasCome log bytes
  pub finds : FindsComplete mapping.lines bytes findings ⊎ FindsAll mapping.lines bytes findings
  pub rise : AcceptedRise (map finding_accepts (findings_of findings))
  pub last : List ℕ
  pub last_is : (last ≡ totals_text mapping findings) ⊎ (last ≡ [])
  pub size : ℕ
  pub prints : Appended output.before output.after (take size (found_text mapping findings ++ last))

-- what a run promises that has these inputs and ends so, in the order of the table of answers
pub record Watches (i : LogInputs) (e : WatchEnding) : Type 0 where
  -- The program prints a row of the table, on standard output or on standard error, and ends with its status, or at 6 a
  -- prefix of one. Or standard output failed at what was found of a log that hadn't ended.
  pub ends : EndsWatch i e
  -- 0, for `--help` and `--version`: exactly their text was printed, or standard output failed; nothing was read.
  pub told : (text : List ℕ) → text_asked i.words ≡ Some text → IsUnread i.map × IsUnread i.log
      × IsUnwritten e.errors × EndingTold e.output.before e.output.after text 0 e.status
  -- 0, 1 and 3: the log was read to its end, and all that is found of it was printed, with the numbers of each line of
  -- the map. 1 if a mapped frame wasn't accepted, 3 if a line of the map that isn't optional
  -- accepted none, or a limit is exceeded, else 0.
  pub answered : AsksWatch i.words → IsAnswer e.status → AnswersLog i e
  -- At every status: nothing was asked of the log; or of two frames that the same line of the map accepted in what was
  -- printed, the later has the greater freshness.
  pub rising : IsUnread i.log ⊎ OverMap i (λ mapping. PrintsRising mapping i.log e.output)
  -- 2: exactly if the arguments are malformed; nothing was read, and the usage is on standard error.
  pub usage : e.status ≡ 2 → (¬ AsksWatch i.words) × (text_asked i.words ≡ None) × IsUnread i.map × IsUnread i.log
      × IsUnwritten e.output × WritesWhole e.errors watch_usage
  pub usage_only : ¬ AsksWatch i.words → text_asked i.words ≡ None → EndsIn 2 (on_errors e)
  -- 4: the map was read whole, and its first fault is on standard error; of the log nothing was read.
  pub refused : e.status ≡ 4 → AsksWatch i.words × IsUnread i.log × IsUnwritten e.output
      × ((fault : Fault) × IsWatchMapFault i.map fault × WritesWhole e.errors (map_fault_text fault))
  pub refused_only : (text : List ℕ) (fault : Fault) → AsksWatch i.words
      → Offers i.map text → watch_map_of text ≡ Err fault → MayEndIn 4 (on_errors e)
  -- 5: exactly if a source's count of faults rose. The answer to each complete line of the log that came is printed,
  -- and the source that failed is named on standard error.
  pub nothing_held_back : e.status ≡ 5 → AsksWatch i.words
      × ((SourceFailed i.map × IsUnread i.log × IsUnwritten e.output
      × WritesWhole e.errors (map_input_text input.ReadFault))
      ⊎ (SourceFailed i.log × HoldsNothingBack i e (λ bytes. Unit {0}) × WritesWhole e.errors log_failed_text))
  pub read_fault_only : CountsFault i.map ⊎ CountsFault i.log → EndsIn 5 (on_errors e)
  -- 6: exactly if a sink's count of faults rose; a prefix was written of what a row tells, or of what was found before
  -- the log ended.
  pub write_fault : e.status ≡ 6
      → (SinkFailed (on_output e) × (PrintsFront (ComesOnOutput i) (on_output e)
      ⊎ OverMap i (λ mapping. Stops mapping i.log (on_output e))))
      ⊎ (SinkFailed (on_errors e) × PrintsFront (ComesOnErrors i e.output) (on_errors e))
  pub write_fault_only : CountsWriteFault (on_output e) ⊎ CountsWriteFault (on_errors e) → e.status ≡ 6
  -- 6, if the log's count of faults rose, too: the log failed first, and what is found of the complete lines that came
  -- was printed whole. So nothing is asked of the log after standard output failed, as it could fail.
  pub log_fails_first : e.status ≡ 6 → CountsFault i.log → OverMap i (λ mapping. FailsBoth mapping i.log e)
  -- 7: only before the log, if the words are of the form and the map didn't fail; nothing was written.
  pub no_memory : e.status ≡ 7 → AsksWatch i.words × Lacks i.map input.Memory × IsUnread i.log
      × IsUnwritten e.output × WritesWhole e.errors []
  -- 8: one byte more came than a map may have; or 2^64 - 1 bytes and more of the log, and the answer to each complete
  -- line is printed.
  pub too_long : e.status ≡ 8 → AsksWatch i.words
      × ((GivesTooMuch i.map × IsUnread i.log × IsUnwritten e.output
      × WritesWhole e.errors (map_input_text input.TooLong))
      ⊎ (HoldsNothingBack i e (λ bytes. last_count ≤ length bytes) × WritesWhole e.errors log_too_long_text))
  pub too_long_only : CountsTooMuch i.map → EndsIn 8 (on_errors e)
  -- What is valid is answered, if no port failed and there was memory: any log of fewer than 2^64 - 1 bytes is.
  pub complete : (text : List ℕ) (mapping : List MapLine) → AsksWatch i.words
      → Offers i.map text → watch_map_of text ≡ Ok mapping → ¬ SourceFailed i.log → i.log.after.taken < last_count
      → ¬ SinkFailed (on_output e) → ¬ SinkFailed (on_errors e) → IsAnswer e.status ⊎ (e.status ≡ 7)
