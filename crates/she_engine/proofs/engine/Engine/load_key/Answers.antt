-- The cells hold the slots after the put.
use Rattle.std.proofs.Common.{subst}
use Rattle.key_slots.specs.Slots.{IsSlots}
use Rattle.she_engine.proofs.Held.{held_after}
use Rattle.she_engine.proofs.engine.Engine.load_key.Goals as goal

pub returns-in-Ok-put_slot-clause-held : goal.returns-in-Ok-put_slot-clause-held
returns-in-Ok-put_slot-clause-held g c =
    let are = subst IsSlots c.set.ensures.value c.set.ensures.whole in
    let after = held_after (g.C.Cells.state c.args.cells.now).cells c.args.self.now.slots c.in-Ok.update.id c.slot_of-slot.result c.in-Ok.ensures.1.padded.is_update.id_fits c.requires.held are in
    rw (c.in-Ok-put_slot.ensures.put.cells, c.set.ensures.value) after
