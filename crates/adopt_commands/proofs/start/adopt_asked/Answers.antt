use Rattle.std.proofs.Common.{refl, map, ap}
use Rattle.program_edge.specs.NamedSources.{word_source}
use Rattle.adopt_commands.specs.declared.tasks.AdoptTask.TheVariants.{One, All}
use Rattle.adopt_commands.specs.AdoptFiles.{asks_nothing, asks_it, with_entries}
use Rattle.adopt_commands.proofs.Naming.{over_none_named, makes_nothing}
use Rattle.adopt_commands.proofs.start.adopt_asked.Goals as goal

pub returns-in-Ok-One-clause-ends : goal.returns-in-Ok-One-clause-ends
returns-in-Ok-One-clause-ends g c =
    asks_it (One c.in-Ok-One.entry) (rw c.in-Ok-One.field-0-is at c.in-Ok-One.ensures.task)
    (over_none_named _ _ _ _ _ _ refl (ap (map (word_source g.O.Opened.Source.state g.I.Source.state)) c.new-unopened.ensures.items)
    (with_entries _ (refl, refl) c.adopt_one-status.ensures.ends))

pub returns-in-Ok-All-clause-ends : goal.returns-in-Ok-All-clause-ends
returns-in-Ok-All-clause-ends g c = asks_it (All c.in-Ok-All.kind) (rw c.in-Ok-All.field-0-is at c.in-Ok-All.ensures.task) c.adopt_file.ensures.ends

pub returns-in-Err-clause-ends : goal.returns-in-Err-clause-ends
returns-in-Err-clause-ends g c =
    asks_nothing (record { row = c.in-Err.refusal; comes = c.in-Err.ensures.refused; told = c.tell_refusal.ensures }) refl
    (ap (map (word_source g.O.Opened.Source.state g.I.Source.state)) c.new-unopened-in-Err.ensures.items) refl
    (ap (map g.P.Opened.Disk.state) c.new-no_disk.ensures.items)

pub returns-in-Err-clause-makes : goal.returns-in-Err-clause-makes
returns-in-Err-clause-makes g c = makes_nothing _ _ _
