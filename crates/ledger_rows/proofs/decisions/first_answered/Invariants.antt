use Rattle.std.proofs.Common.{◌≡◌, All, drop}
use Rattle.ledger_rows.specs.Check.{key_check}
use Rattle.ledger_rows.specs.Steps.{AnswersRow}
use Rattle.ledger_rows.proofs.decisions.first_answered.Given as goal

-- if the rest answers nothing, none does
abbrev pub invariant-loop-row : goal.invariant-loop-row
invariant-loop-row l = record {
  check : l.check ≡ key_check l.confirm.key;
  rest : All (λ row. ¬ AnswersRow l.confirm row) (drop l.row-index l.rows) → All (λ row. ¬ AnswersRow l.confirm row) l.rows;
}
