-- How a trial whose events were all done ends
use Rattle.std.specs.Prelude.{◌≡◌, ℕ, List}
use Rattle.std.proofs.Common.{subst, sym}
use Rattle.program_edge.specs.Rows.{Row, row_of}
use Rattle.program_edge.specs.Endings.{Ending, EndsInRow}
use Rattle.program_edge.proofs.CallerLemmas.{EndsInRow-more}
use Rattle.bus_machine.specs.declared.events.Event.{Event}
use Rattle.bus_config.specs.Buses.{NamedBus}
use Rattle.bus_world.specs.WorldTurns.{TurnsLeaveDisks, StartsSetUp}
use Rattle.bus_commands.specs.declared.summary.Summary.{Summary}
use Rattle.bus_commands.specs.Summaries.{summary_text}
use Rattle.bus_commands.specs.TrialRuns.{TrialTurns, TrialsAreRuns}
use Rattle.bus_world.specs.StartAnswers.{DiskStates}
use Rattle.bus_commands.specs.Rows.{DoneTrial}
use Rattle.bus_commands.specs.Steps.{TellsSummary, seven_lines, no_lines_told, AnswersTrial, summed, no_summary}
use Rattle.bus_commands.proofs.WholeTrial.{trial_stays}

-- the row of a text that is the summary's
pub told_as : (summary : Summary) (text : List ℕ) → text ≡ summary_text summary → TellsSummary summary (row_of 0 text)
told_as summary text is = subst (λ (t : List ℕ). TellsSummary summary (row_of 0 t)) (sym is) seven_lines

of_summary : (same : Type 0) (bus : NamedBus) (events : List Event) (d : DiskStates) (summary : Summary) → DoneTrial bus events d summary → (row : Row) → TellsSummary summary row
    → AnswersTrial same bus events d row
of_summary same bus events d summary ran row seven_lines = summed summary ran
of_summary same bus events d summary ran row no_lines_told = no_summary summary ran

pub Comes-summed : StartsSetUp → TurnsLeaveDisks → TrialsAreRuns → (same : Type 0) (bus : NamedBus) (events : List Event) (d : DiskStates) (e : Ending) (summary : Summary)
    → TrialTurns bus d.before d.after events summary → EndsInRow (TellsSummary summary) e → EndsInRow (AnswersTrial same bus events d) e
Comes-summed set_up leave laws same bus events d e summary ran ends =
    EndsInRow-more
    (of_summary same bus events d summary (record {
      ran = ran;
      stay = trial_stays bus d.before d.after events summary ran set_up leave;
      one_run = laws bus d.before d.after events summary ran;
    }))
    ends
