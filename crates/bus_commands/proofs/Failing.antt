-- A disk that failed at the start of a bus has its row
use Rattle.std.specs.Prelude.{◌≡◌, ◌⊎◌, ℕ}
use Rattle.std.proofs.Common.{inl, inr}
use Rattle.program_edge.specs.Told.{EndingTold}
use Rattle.program_edge.specs.Rows.{Row}
use Rattle.program_edge.specs.Endings.{Ending, EndsInRow}
use Rattle.bus_world.specs.StartAnswers.{CountsDiskFault, failed_row}
use Rattle.bus_world.proofs.CallerLemmas.{none_counted, failure_told}
use Rattle.bus_programs.specs.Inputs.{BusInputs}
use Rattle.bus_commands.specs.Inputs.{start_of}
use Rattle.bus_commands.specs.StartRows.{CommandDisks}
use Rattle.bus_commands.specs.Rows.{ComesInRun, without_disks, not_started, tried, tried_without_memory}
use Rattle.bus_commands.specs.Table.{DoesEvents}

module _ {V : Type 0} (i : BusInputs) (d : CommandDisks V) (e : Ending) (same : d.new ≡ d.old → d.states.after ≡ d.states.before) (place : ℕ)
    (rose : CountsDiskFault d.states place) where
  row_failed : (row : Row) → ComesInRun i d row → EndingTold e.before e.after row.text row.status e.status
      → EndsInRow (λ row. row ≡ failed_row place) e ⊎ DoesEvents i d.states e
  row_failed row (without_disks _ comes unused) told = absurd (none_counted d.states place (same unused) rose)
  row_failed row (not_started _ (c, bus, events, set, comes) nine) told =
      inl (record { row = row; comes = failure_told (start_of c) bus d.states row place comes.1 rose; told = told })
  row_failed row (tried summary ran) told = inr (inr (summary, ran))
  row_failed row (tried_without_memory summary ran) told = inr (inr (summary, ran))

  pub ends_failed : EndsInRow (ComesInRun i d) e → EndsInRow (λ row. row ≡ failed_row place) e ⊎ DoesEvents i d.states e
  ends_failed ends = row_failed ends.row ends.comes ends.told
