-- What a run of `explain --locate` promises
use Rattle.std.specs.Prelude.{◌≡◌, ◌⊎◌, ℕ, List, [], None, Ok, Err}
use Rattle.text_lines.specs.Readings.{Fault}
use Rattle.program_edge.specs.declared.input.InputFault.TheVariants as input
use Rattle.program_edge.specs.Inputs.{IsUnread, Lacks, SourceFailed, CountsFault, GivesTooMuch, CountsTooMuch, Offers}
use Rattle.program_edge.specs.Endings.{EndsIn, MayEndIn, PrintsFront, SinkFailed, CountsWriteFault}
use Rattle.can_logs.specs.declared.map_lines.MapLine.{MapLine}
use Rattle.can_logs.specs.LogRuns.{LogInputs, IsUnwritten, WritesWhole, WatchEnding, on_output, on_errors}
use Rattle.can_logs.specs.MapFaults.{map_fault_text, map_input_text}
use Rattle.can_logs.specs.WatchMaps.{watch_map_of}
use Rattle.locate_commands.specs.LocateOptions.{locate_asked}
use Rattle.locate_commands.specs.Locating.{zeroed, located_text, locate_status}
use Rattle.locate_commands.specs.LocateRows.{locate_usage, log_input_text, IsAskingMapFault, AsksLocate, OverLocate, LocateOnOutput, LocateOnErrors, EndsLocate}

-- the status of a map and a log that were read whole
abbrev pub IsMapPrinted : ℕ → Type 0
IsMapPrinted status = (status ≡ 0) ⊎ (status ≡ 1)

-- what a run promises that has these inputs and ends so, in the order of the table of answers
pub record Locates (i : LogInputs) (e : WatchEnding) : Type 0 where
  -- The program prints a row of the table, on standard output or on standard error, and ends with its status, or at 6 a
  -- prefix of one.
  pub ends : EndsLocate i e
  -- 0 and 1: map and log were read whole, and exactly the map was printed, in which each FRESH that is `?` is one less
  -- than the least freshness of the range that fits the first frames of its line. 0 if there is one for each.
  pub found : IsMapPrinted e.status → OverLocate i (λ text f. (e.status ≡ locate_status text f)
      × WritesWhole e.output (located_text text f) × IsUnwritten e.errors)
  -- 2: exactly if the arguments are malformed; nothing was read, and the usage is on standard error.
  pub usage : e.status ≡ 2 → (locate_asked i.words ≡ None) × IsUnread i.map × IsUnread i.log
      × IsUnwritten e.output × WritesWhole e.errors locate_usage
  pub usage_only : locate_asked i.words ≡ None → EndsIn 2 (on_errors e)
  -- 4: the map was read whole, and its first fault is on standard error; of the log nothing was read.
  pub refused : e.status ≡ 4 → AsksLocate i.words × IsUnread i.log × IsUnwritten e.output
      × ((fault : Fault) × IsAskingMapFault i.map fault × WritesWhole e.errors (map_fault_text fault))
  pub refused_only : (text : List ℕ) (fault : Fault) → AsksLocate i.words
      → Offers i.map text → watch_map_of (zeroed text) ≡ Err fault → MayEndIn 4 (on_errors e)
  -- 5: exactly if a source's count of faults rose. The source that failed is named on standard error.
  pub read_fault : e.status ≡ 5 → AsksLocate i.words × IsUnwritten e.output
      × ((SourceFailed i.map × IsUnread i.log × WritesWhole e.errors (map_input_text input.ReadFault))
      ⊎ (SourceFailed i.log × WritesWhole e.errors (log_input_text input.ReadFault)))
  pub read_fault_only : CountsFault i.map ⊎ CountsFault i.log → EndsIn 5 (on_errors e)
  -- 6: exactly if a sink's count of faults rose; a prefix was written of a row that comes.
  pub write_fault : e.status ≡ 6
      → (SinkFailed (on_output e) × PrintsFront (LocateOnOutput i) (on_output e))
      ⊎ (SinkFailed (on_errors e) × PrintsFront (LocateOnErrors i) (on_errors e))
  pub write_fault_only : CountsWriteFault (on_output e) ⊎ CountsWriteFault (on_errors e) → e.status ≡ 6
  -- 7: only if the words are of the form, and no source failed or gave too much; nothing was written.
  pub no_memory : e.status ≡ 7 → AsksLocate i.words × Lacks i.map input.Memory
      × IsUnwritten e.output × WritesWhole e.errors []
  -- 8: exactly if one byte more than an input may have came from a source, which is named on standard error.
  pub too_long : e.status ≡ 8 → AsksLocate i.words × IsUnwritten e.output
      × ((GivesTooMuch i.map × IsUnread i.log × WritesWhole e.errors (map_input_text input.TooLong))
      ⊎ (GivesTooMuch i.log × WritesWhole e.errors (log_input_text input.TooLong)))
  pub too_long_only : CountsTooMuch i.map ⊎ CountsTooMuch i.log → EndsIn 8 (on_errors e)
  -- What is valid is done, if no port failed and there was memory: any log within the limit is.
  pub complete : (text log : List ℕ) (mapping : List MapLine) → AsksLocate i.words
      → Offers i.map text → watch_map_of (zeroed text) ≡ Ok mapping → Offers i.log log
      → ¬ SinkFailed (on_output e) → ¬ SinkFailed (on_errors e) → IsMapPrinted e.status ⊎ (e.status ≡ 7)
