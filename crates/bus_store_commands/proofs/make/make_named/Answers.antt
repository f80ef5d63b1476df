use Rattle.std.proofs.Common.{◌∙◌, [], ◌∷◌, refl, sym, rules}
use Rattle.std.proofs.lemmas.List.{append-nil}
use Rattle.bus_store_commands.specs.MakeSteps.{no_disk, over_disk}
use Rattle.bus_store_commands.proofs.make.make_named.Goals as goal

pub returns-in-Ok-clause-makes : goal.returns-in-Ok-clause-makes
returns-in-Ok-clause-makes g c = (c.args.file.now ∷ [], c.in-Ok.ensures.noted, search rules)

pub returns-in-Err-clause-makes : goal.returns-in-Err-clause-makes
returns-in-Err-clause-makes g c = ([], c.in-Err.ensures.unopened ∙ sym (append-nil _), c.in-Err.ensures.unmade ∙ sym (append-nil _))

pub returns-in-Ok-clause-ends : goal.returns-in-Ok-clause-ends
returns-in-Ok-clause-ends g c =
    over_disk (g.P.Opened.Disk.state c.in-Ok.opened) (g.P.Opened.Disk.state c.make_over-status.result.1) (c.in-Ok.ensures.disk, c.in-Ok.ensures.tells)
    c.in-Ok.ensures.noted refl c.make_over-status.ensures

pub returns-in-Err-clause-ends : goal.returns-in-Err-clause-ends
returns-in-Err-clause-ends g c =
    no_disk c.in-Err.ensures.unopened refl
    (record { row = c.no_memory-refusal.result; comes = c.no_memory-refusal.ensures; told = c.tell_refusal.ensures })
