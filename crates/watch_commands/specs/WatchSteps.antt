-- What the steps of a run of `watch` say to one another
use Rattle.std.specs.Prelude.{◌≡◌, Result, Ok, Err}
use Rattle.program_edge.specs.Rows.{Row}
use Rattle.can_logs.specs.LogRuns.{LogInputs, Writing}
use Rattle.watch_commands.specs.States.{WatchState, IsFreshWatch}
use Rattle.watch_commands.specs.WatchRows.{OverMap, ComesOnErrors}

-- how the words and the map end: in the watch of this map before the log, or in a row that comes on standard error, if
-- nothing was written to standard output
abbrev pub PreparesWatch : LogInputs → Writing → Result WatchState Row → Type 0
PreparesWatch i output (Ok watch) = OverMap i (λ mapping. watch.mapping ≡ mapping) × IsFreshWatch watch
PreparesWatch i output (Err row) = ComesOnErrors i output row
