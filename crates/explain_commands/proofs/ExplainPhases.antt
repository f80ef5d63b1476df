-- The two phases of a run, put together
use Rattle.std.proofs.Common.{◌≡◌, ℕ, inl, inr, refl, subst}
use Rattle.std.specs.Prelude.{Result, Ok, Err}
use Rattle.bus_port.specs.Sink.{SinkState}
use Rattle.program_edge.specs.Rows.{Row}
use Rattle.program_edge.specs.Inputs.{IsUnread}
use Rattle.program_edge.proofs.CallerLemmas.{EndsInRow-more}
use Rattle.can_logs.specs.LogRuns.{LogInputs, NamesInputs, LacksWatchMap, no_map, refused, Writing, IsUnwritten, ending_of}
use Rattle.can_logs.specs.WatchMaps.{NumberedMap}
use Rattle.explain_commands.specs.ExplainRows.{ComesOfExplained, FailsOfExplained, ExplainStops, EndsExplained, OverExplainMap, of_log, ExplainOnErrors, no_log, EndsExplainUntold, EndsExplain}
use Rattle.explain_commands.specs.ExplainRows as row

-- there is no map
pub Comes-no_map : (i : LogInputs) (output : Writing) (found : Row) → NamesInputs i.words → LacksWatchMap i.map found → IsUnread i.log → IsUnwritten output
    → ExplainOnErrors i output found
Comes-no_map i output found asks (no_map fault lacks) unread unwritten = row.no_map fault asks lacks unread unwritten
Comes-no_map i output found asks (refused fault is) unread unwritten = row.map_fault fault asks is unread unwritten

-- a log that ended ends the run
pub Ends-log : (i : LogInputs) (output : Writing) (followed : NumberedMap) (end : Result ℕ Row) → OverExplainMap i (λ mapping. followed ≡ mapping)
    → EndsExplained followed i.log output end → EndsExplainUntold i output end
Ends-log i output followed (Ok status) (asks, (mapping, reads, is)) (inl ends) =
    inl (EndsInRow-more (λ found comes. of_log found (asks, (mapping, reads, subst (λ (m : NumberedMap). ComesOfExplained m i.log found) is comes))) ends)
Ends-log i output followed (Ok status) (asks, (mapping, reads, is)) (inr stops) =
    inr (asks, (mapping, reads, subst (λ (m : NumberedMap). ExplainStops m i.log (ending_of output status)) is stops))
Ends-log i output followed (Err found) (asks, (mapping, reads, is)) fails =
    no_log found (asks, (mapping, reads, subst (λ (m : NumberedMap). FailsOfExplained m i.log output found) is fails))

-- a run whose fault, if it has one, was told
pub Ends-untold : (i : LogInputs) (output : Writing) (errors : SinkState) (status : ℕ) → EndsExplainUntold i output (Ok status)
    → EndsExplain i (record { output = output; errors = record { before = errors; after = errors }; status = status })
Ends-untold i output errors status (inl ends) = inl (ends, refl)
Ends-untold i output errors status (inr stops) = inr (inl (stops, refl))
