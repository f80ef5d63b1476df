-- no line before this place hears the frame
use Rattle.std.proofs.Common.{◌-◌, length}
use Rattle.can_logs.proofs.TableLists.{LookedTo}
use Rattle.can_logs.proofs.map_tables.MapTable.place_for.Given as goal

abbrev pub invariant-loop-at : goal.invariant-loop-at
invariant-loop-at l = LookedTo l.self l.can l.channel l.at

abbrev pub decreases-loop-at : goal.decreases-loop-at
decreases-loop-at l = length l.self - l.at
