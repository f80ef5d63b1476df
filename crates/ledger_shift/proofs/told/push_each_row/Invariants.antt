use Rattle.std.proofs.Common.{◌≡◌, ◌++◌, take}
use Rattle.std.specs.List.{flat_map}
use Rattle.ledger_shift.specs.Told.{row_line}
use Rattle.ledger_shift.proofs.told.push_each_row.Given as goal

-- the lines of the rows so far were added
abbrev pub invariant-loop-row : goal.invariant-loop-row
invariant-loop-row l = l.text.items ≡ l.fn.text.items ++ flat_map (row_line l.number) (take l.row-index l.rows)
