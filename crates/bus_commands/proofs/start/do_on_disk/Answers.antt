use Rattle.std.proofs.Common.{◌∙◌, [], ◌∷◌, refl, sym, rules}
use Rattle.std.proofs.lemmas.List.{append-nil}
use Rattle.bus_commands.specs.Steps.{over_disk, no_disk}
use Rattle.bus_commands.proofs.start.do_on_disk.Goals as goal

pub returns-in-Ok-clause-does : goal.returns-in-Ok-clause-does
returns-in-Ok-clause-does g c = over_disk c.in-Ok.disks c.in-Ok.ensures.disk c.in-Ok.ensures.noted c.do_world-status.ensures

pub returns-in-Ok-clause-makes : goal.returns-in-Ok-clause-makes
returns-in-Ok-clause-makes g c = (c.args.path.now ∷ [], c.in-Ok.ensures.noted, search rules)

pub returns-in-Err-clause-does : goal.returns-in-Err-clause-does
returns-in-Err-clause-does g c = no_disk c.in-Err.ensures.unopened c.new.ensures.items refl refl

pub returns-in-Err-clause-makes : goal.returns-in-Err-clause-makes
returns-in-Err-clause-makes g c = ([], c.in-Err.ensures.unopened ∙ sym (append-nil _), c.in-Err.ensures.unmade ∙ sym (append-nil _))
