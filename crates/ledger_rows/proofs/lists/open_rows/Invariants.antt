use Rattle.std.proofs.Common.{◌≡◌, ◌++◌, filter, drop}
use Rattle.ledger_rows.specs.Lists.{is_unconfirmed}
use Rattle.ledger_rows.proofs.lists.open_rows.Given as goal

-- what is listed so far, and what is listed of the rest
abbrev pub invariant-loop-row : goal.invariant-loop-row
invariant-loop-row l = l.listed.items ++ filter (is_unconfirmed l.rows) (drop l.row-index l.rows) ≡ filter (is_unconfirmed l.rows) l.rows
