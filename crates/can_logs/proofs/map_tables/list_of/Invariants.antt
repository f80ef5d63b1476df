-- the digits so far as a number
use Rattle.std.proofs.Common.{◌≡◌, ◌<◌, take}
use Rattle.can_logs.specs.MapTables.{list_of_can}
use Rattle.can_logs.proofs.map_tables.list_of.Given as goal

abbrev pub invariant-loop-digit : goal.invariant-loop-digit
invariant-loop-digit l = (l.sum ≡ list_of_can (take l.digit-index l.can)) × (l.sum < 256)
