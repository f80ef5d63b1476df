use Rattle.std.proofs.Common.{refl, map, ap}
use Rattle.adopt_commands.specs.AdoptFiles.{no_room}
use Rattle.adopt_commands.proofs.Naming.{makes_nothing}
use Rattle.adopt_commands.proofs.start.adopt_one.Goals as goal

pub returns-in-Err-clause-ends : goal.returns-in-Err-clause-ends
returns-in-Err-clause-ends g c =
    no_room refl (ap (map g.P.Opened.Disk.state) c.new-no_disk.ensures.items)
    (record { row = c.in-Err.refusal; comes = c.in-Err.ensures.refused; told = c.tell_refusal.ensures })

pub returns-in-Ok-clause-makes : goal.returns-in-Ok-clause-makes
returns-in-Ok-clause-makes g c = rw c.may_make-may.ensures at c.adopt_into.ensures.makes

pub returns-in-Err-clause-makes : goal.returns-in-Err-clause-makes
returns-in-Err-clause-makes g c = makes_nothing _ _ _
