use Rattle.std.proofs.Common.{◌≡◌, ◌++◌, Some, map, drop}
use Rattle.ledger_tables.specs.Reading.{shown_slot_row}
use Rattle.ledger_tables.proofs.reading.each_slot_row.Given as goal

-- what was read, and what is left, are all
abbrev pub invariant-loop-row : goal.invariant-loop-row
invariant-loop-row l = map Some l.read.items ++ map shown_slot_row (drop l.row-index l.rows) ≡ map shown_slot_row l.rows
