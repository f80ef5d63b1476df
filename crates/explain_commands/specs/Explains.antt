-- What a run of `explain` promises
use Rattle.std.specs.Prelude.{◌≡◌, ◌⊎◌, ℕ, ◌<◌, ◌≤◌, List, [], length, map, None, Some, Ok, Err}
use Rattle.bus_port.specs.Fault.{last_count}
use Rattle.secoc_words.specs.Counting.{AcceptedRise}
use Rattle.text_lines.specs.Readings.{Fault}
use Rattle.program_edge.specs.declared.input.InputFault.TheVariants as input
use Rattle.program_edge.specs.Told.{EndingTold}
use Rattle.program_edge.specs.Inputs.{IsUnread, Lacks, SourceFailed, CountsFault, GivesTooMuch, CountsTooMuch, Offers}
use Rattle.program_edge.specs.Endings.{EndsIn, MayEndIn, PrintsFront, SinkFailed, CountsWriteFault}
use Rattle.can_logs.specs.declared.map_lines.MapLine.{MapLine}
use Rattle.can_logs.specs.LogRuns.{LogInputs, NamesInputs, IsWatchMapFault, ReadsToEnd, HasCome, IsUnwritten, WritesWhole, IsAnswer, WatchEnding, on_output, on_errors, log_failed_text, log_too_long_text}
use Rattle.can_logs.specs.MapFaults.{map_fault_text, map_input_text}
use Rattle.can_logs.specs.WatchMaps.{watch_map_of}
use Rattle.explain_commands.specs.declared.answers.LineAnswer.{LineAnswer}
use Rattle.explain_commands.specs.Explaining.{ExplainsComplete, ExplainsAll, answer_accepts, explained_lines, explain_status}
use Rattle.explain_commands.specs.ExplainRows.{explain_usage, explain_text_asked, ExplainStops, ExplainFailsBoth, OverExplainMap, ExplainOnOutput, ExplainOnErrors, EndsExplain}

-- the whole log was read, exactly what is said of its lines was printed, and these answers give the status. Of two
-- frames that the same line of the map accepted, the later has the greater freshness
abbrev pub ExplainsLog : LogInputs → WatchEnding → Type 0
ExplainsLog i e = OverExplainMap i (λ mapping. (log : List ℕ) × (answers : List LineAnswer) × ReadsToEnd i.log log
    × ExplainsAll mapping log answers × (e.status ≡ explain_status mapping answers)
    × AcceptedRise (map answer_accepts answers)
    × WritesWhole e.output (explained_lines mapping answers) × IsUnwritten e.errors)

-- exactly what is said of every complete line of the bytes that came was printed
abbrev pub ExplainsAtOnce : LogInputs → WatchEnding → (List ℕ → Type 0) → Type 0
ExplainsAtOnce i e P = OverExplainMap i (λ mapping. (bytes : List ℕ) × (answers : List LineAnswer)
    × HasCome i.log bytes × P bytes × ExplainsComplete mapping bytes answers
    × WritesWhole e.output (explained_lines mapping answers))

-- what a run promises that has these inputs and ends so, in the order of the table of answers
pub record Explains (i : LogInputs) (e : WatchEnding) : Type 0 where
  -- The program prints a row of the table, on standard output or on standard error, and ends with its status, or at 6 a
  -- prefix of one. Or standard output failed at what was said of a log that hadn't ended.
  pub ends : EndsExplain i e
  -- 0, for `--help` and `--version`: exactly their text was printed, or standard output failed; nothing was read.
  pub told : (text : List ℕ) → explain_text_asked i.words ≡ Some text → IsUnread i.map × IsUnread i.log
      × IsUnwritten e.errors × EndingTold e.output.before e.output.after text 0 e.status
  -- 0, 1 and 3: the log was read to its end, and exactly why each frame fails was printed, the first reason that holds.
  -- 1 if a frame fails, 3 if a line of the map that isn't optional accepted none, else 0.
  pub answered : NamesInputs i.words → IsAnswer e.status → ExplainsLog i e
  -- 2: exactly if the arguments are malformed; nothing was read, and the usage is on standard error.
  pub usage : e.status ≡ 2 → (¬ NamesInputs i.words) × (explain_text_asked i.words ≡ None) × IsUnread i.map
      × IsUnread i.log × IsUnwritten e.output × WritesWhole e.errors explain_usage
  pub usage_only : ¬ NamesInputs i.words → explain_text_asked i.words ≡ None → EndsIn 2 (on_errors e)
  -- 4: the map was read whole, and its first fault is on standard error; of the log nothing was read.
  pub refused : e.status ≡ 4 → NamesInputs i.words × IsUnread i.log × IsUnwritten e.output
      × ((fault : Fault) × IsWatchMapFault i.map fault × WritesWhole e.errors (map_fault_text fault))
  pub refused_only : (text : List ℕ) (fault : Fault) → NamesInputs i.words
      → Offers i.map text → watch_map_of text ≡ Err fault → MayEndIn 4 (on_errors e)
  -- 5: exactly if a source's count of faults rose. The answer to each complete line of the log that came is printed,
  -- and the source that failed is named on standard error.
  pub nothing_held_back : e.status ≡ 5 → NamesInputs i.words
      × ((SourceFailed i.map × IsUnread i.log × IsUnwritten e.output
      × WritesWhole e.errors (map_input_text input.ReadFault))
      ⊎ (SourceFailed i.log × ExplainsAtOnce i e (λ bytes. Unit {0}) × WritesWhole e.errors log_failed_text))
  pub read_fault_only : CountsFault i.map ⊎ CountsFault i.log → EndsIn 5 (on_errors e)
  -- 6: exactly if a sink's count of faults rose; a prefix was written of what a row tells, or of what was said before
  -- the log ended.
  pub write_fault : e.status ≡ 6
      → (SinkFailed (on_output e) × (PrintsFront (ExplainOnOutput i) (on_output e)
      ⊎ OverExplainMap i (λ mapping. ExplainStops mapping i.log (on_output e))))
      ⊎ (SinkFailed (on_errors e) × PrintsFront (ExplainOnErrors i e.output) (on_errors e))
  pub write_fault_only : CountsWriteFault (on_output e) ⊎ CountsWriteFault (on_errors e) → e.status ≡ 6
  -- 6, if the log's count of faults rose, too: the log failed first, and what is said of the complete lines that came
  -- was printed whole. So nothing is asked of the log after standard output failed, as it could fail.
  pub log_fails_first : e.status ≡ 6 → CountsFault i.log
      → OverExplainMap i (λ mapping. ExplainFailsBoth mapping i.log e)
  -- 7: only before the log, if the words are of the form and the map didn't fail; nothing was written.
  pub no_memory : e.status ≡ 7 → NamesInputs i.words × Lacks i.map input.Memory × IsUnread i.log
      × IsUnwritten e.output × WritesWhole e.errors []
  -- 8: one byte more came than a map may have; or 2^64 - 1 bytes and more of the log, and the answer to each complete
  -- line is printed.
  pub too_long : e.status ≡ 8 → NamesInputs i.words
      × ((GivesTooMuch i.map × IsUnread i.log × IsUnwritten e.output
      × WritesWhole e.errors (map_input_text input.TooLong))
      ⊎ (ExplainsAtOnce i e (λ bytes. last_count ≤ length bytes) × WritesWhole e.errors log_too_long_text))
  pub too_long_only : CountsTooMuch i.map → EndsIn 8 (on_errors e)
  -- What is valid is answered, if no port failed and there was memory: any log of fewer than 2^64 - 1 bytes is.
  pub complete : (text : List ℕ) (mapping : List MapLine) → NamesInputs i.words
      → Offers i.map text → watch_map_of text ≡ Ok mapping → ¬ SourceFailed i.log → i.log.after.taken < last_count
      → ¬ SinkFailed (on_output e) → ¬ SinkFailed (on_errors e) → IsAnswer e.status ⊎ (e.status ≡ 7)
