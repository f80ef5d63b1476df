-- What the steps of a run of `explain` say to one another
use Rattle.std.specs.Prelude.{◌≡◌, Result, Ok, Err}
use Rattle.program_edge.specs.Rows.{Row}
use Rattle.can_logs.specs.LogRuns.{LogInputs, Writing}
use Rattle.explain_commands.specs.ExplainStates.{ExplainState, IsFreshExplainer}
use Rattle.explain_commands.specs.ExplainRows.{OverExplainMap, ExplainOnErrors}

-- how the words and the map end: in the state before the log, or in a row that comes on standard error, if nothing was
-- written to standard output
abbrev pub PreparesExplain : LogInputs → Writing → Result ExplainState Row → Type 0
PreparesExplain i output (Ok state) = OverExplainMap i (λ mapping. state.mapping ≡ mapping) × IsFreshExplainer state
PreparesExplain i output (Err row) = ExplainOnErrors i output row
