use Rattle.ledger_rows.proofs.Runs.{confirmed_by_answer}
use Rattle.ledger_rows.proofs.laws.rows_are_confirmed_by_an_answer.Goals as goal

pub returns : goal.returns
returns c = λ start ms last run. confirmed_by_answer start ms last run
