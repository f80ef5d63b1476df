use Rattle.std.proofs.Common.{◌≡◌, ◌<◌, ◌^◌, max, drop}
use Rattle.ledger_rows.specs.Rows.{greatest_in}
use Rattle.ledger_rows.proofs.decisions.greatest.Given as goal

-- the greatest so far and that of what is left
abbrev pub invariant-loop-row : goal.invariant-loop-row
invariant-loop-row l = record {
  all : max l.most (greatest_in (drop l.row-index l.rows)) ≡ greatest_in l.rows;
  fits : l.most < 2 ^ 28;
}
