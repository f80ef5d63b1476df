use Rattle.std.proofs.Common.{sym, ◌∙◌}
use Rattle.slot_disk.proofs.CallerLemmas.{one_slot}
use Rattle.key_slots.specs.declared.memory.Slot.TheVariants.{Filled}
use Rattle.rathonsi_c.proofs.StaleLaws.{empty-filled}
use Rattle.rathonsi_c.proofs.stale.counter_held.Goals as goal

pub returns-in-Empty-clause-none : goal.returns-in-Empty-clause-none
returns-in-Empty-clause-none c = λ counter h. empty-filled h.key counter h.flags (sym c.in-Empty.is ∙ one_slot c.args.cell.now c.in-Some.slot (Filled h.key counter h.flags) c.in-Some.ensures h.held)
