use Rattle.ledger_rows.proofs.Runs.{none_goes}
use Rattle.ledger_rows.proofs.laws.no_row_goes.Goals as goal

pub returns : goal.returns
returns c = λ start ms last run. none_goes start ms last run
