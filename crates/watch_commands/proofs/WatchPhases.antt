-- The two phases of a run, put together
use Rattle.std.proofs.Common.{◌≡◌, ℕ, inl, inr, refl, subst}
use Rattle.std.specs.Prelude.{Result, Ok, Err}
use Rattle.bus_port.specs.Sink.{SinkState}
use Rattle.program_edge.specs.Rows.{Row}
use Rattle.program_edge.specs.Inputs.{IsUnread}
use Rattle.program_edge.proofs.CallerLemmas.{EndsInRow-more}
use Rattle.can_logs.specs.LogRuns.{LogInputs, LacksWatchMap, no_map, refused, Writing, IsUnwritten, ending_of}
use Rattle.watch_commands.specs.WatchedMaps.{WatchedMap}
use Rattle.watch_commands.specs.Words.{AsksWatch}
use Rattle.watch_commands.specs.WatchRows.{ComesOfLog, FailsOfLog, Stops, EndsLog, OverMap, of_log, ComesOnErrors, no_log, EndsUntold, EndsWatch}
use Rattle.watch_commands.specs.WatchRows as row

-- there is no map
pub Comes-no_map : (i : LogInputs) (output : Writing) (found : Row) → AsksWatch i.words → LacksWatchMap i.map found → IsUnread i.log → IsUnwritten output
    → ComesOnErrors i output found
Comes-no_map i output found asks (no_map fault lacks) unread unwritten = row.no_map fault asks lacks unread unwritten
Comes-no_map i output found asks (refused fault is) unread unwritten = row.map_fault fault asks is unread unwritten

-- a log that ended ends the run
pub Ends-log : (i : LogInputs) (output : Writing) (watched : WatchedMap) (end : Result ℕ Row) → OverMap i (λ mapping. watched ≡ mapping)
    → EndsLog watched i.log output end → EndsUntold i output end
Ends-log i output watched (Ok status) (asks, (mapping, reads, is)) (inl ends) =
    inl (EndsInRow-more (λ found comes. of_log found (asks, (mapping, reads, subst (λ (m : WatchedMap). ComesOfLog m i.log found) is comes))) ends)
Ends-log i output watched (Ok status) (asks, (mapping, reads, is)) (inr stops) =
    inr (asks, (mapping, reads, subst (λ (m : WatchedMap). Stops m i.log (ending_of output status)) is stops))
Ends-log i output watched (Err found) (asks, (mapping, reads, is)) fails =
    no_log found (asks, (mapping, reads, subst (λ (m : WatchedMap). FailsOfLog m i.log output found) is fails))

-- a run whose fault, if it has one, was told
pub Ends-untold : (i : LogInputs) (output : Writing) (errors : SinkState) (status : ℕ) → EndsUntold i output (Ok status)
    → EndsWatch i (record { output = output; errors = record { before = errors; after = errors }; status = status })
Ends-untold i output errors status (inl ends) = inl (ends, refl)
Ends-untold i output errors status (inr stops) = inr (inl (stops, refl))
