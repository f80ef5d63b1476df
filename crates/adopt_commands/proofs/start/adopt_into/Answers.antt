use Rattle.std.proofs.Common.{◌∷◌, [], map, ap}
use Rattle.adopt_commands.specs.AdoptFiles.{no_room, over_disk}
use Rattle.adopt_commands.proofs.Naming.{makes_none}
use Rattle.adopt_commands.proofs.start.adopt_into.Goals as goal

pub returns-in-Ok-clause-ends : goal.returns-in-Ok-clause-ends
returns-in-Ok-clause-ends g c = over_disk (map g.P.Opened.Disk.state c.in-Ok.opened.items) c.in-Ok.ensures.disk c.in-Ok.ensures.noted c.adopt_over-status.ensures

pub returns-in-Err-clause-ends : goal.returns-in-Err-clause-ends
returns-in-Err-clause-ends g c =
    no_room c.in-Err.ensures.unopened (ap (map g.P.Opened.Disk.state) c.new-no_disk.ensures.items)
    (record { row = c.no_memory-refusal.result; comes = c.no_memory-refusal.ensures; told = c.tell_refusal.ensures })

pub returns-in-Ok-clause-makes : goal.returns-in-Ok-clause-makes
returns-in-Ok-clause-makes g c = (c.args.word.now ∷ [], c.in-Ok.ensures.noted, c.in-Ok.ensures.made)

pub returns-in-Err-clause-makes : goal.returns-in-Err-clause-makes
returns-in-Err-clause-makes g c = makes_none _ _ _ _ _ c.in-Err.ensures.unopened c.in-Err.ensures.unmade
