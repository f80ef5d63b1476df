use Rattle.std.proofs.Common.{set, map, sym, ap, ◌∙◌}
use Rattle.std.proofs.lemmas.List.{map-set}
use Rattle.key_slots.specs.Slots.{key_of}
use Rattle.she_engine.proofs.memory.KeyMemory.set.Goals as goal

pub invariant_of-self : goal.invariant_of-self
invariant_of-self c =
    let slots = c.self.inside.slots in
    let key = c.schedule_of.result in
    ap (λ schedules. set schedules c.from.result key) c.self.invariant
    ∙ ap (λ i. set (map key_of slots) i key) (c.from.ensures ∙ c.number.ensures.value)
    ∙ ap (set (map key_of slots) c.args.id) c.schedule_of.ensures
    ∙ sym (map-set key_of slots c.args.id c.args.slot)
    ∙ ap (map key_of) (sym c.set.ensures.value)
