-- as many disks as turns, all of them blank
use Rattle.bus_programs.specs.Blank.{AreBlank}
use Rattle.bus_programs.proofs.disks.blank_disks.Given as goal

abbrev pub invariant-loop-index : goal.invariant-loop-index
invariant-loop-index l = AreBlank l.index l.size l.disks.items
