use Rattle.ledger_rows.proofs.Runs.{counters_rise}
use Rattle.ledger_rows.proofs.laws.answered_counters_rise.Goals as goal

pub returns : goal.returns
returns c = λ start ms last run. counters_rise start ms last run
