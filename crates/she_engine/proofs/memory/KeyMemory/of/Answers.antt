use Rattle.std.proofs.Common.{◌≡◌, ◌+◌, length-set, set, take, map, sym, ap, ◌∙◌, arith, rules}
use Rattle.key_slots.specs.Slots.{key_of, slot_at}
use Rattle.she_engine.proofs.Refusals.{slot_got}
use Rattle.she_engine.proofs.Schedules.{one_more}
use Rattle.she_engine.proofs.memory.KeyMemory.of.Goals as goal

pub loop-number-preserved : goal.loop-number-preserved
loop-number-preserved c =
    let slots = c.args.slots in
    let here : c.unwrap.result ≡ c.loop-number.number = search rules in
    let key : c.schedule_of.result ≡ key_of (slot_at c.args.slots c.loop-number.number) =
    c.schedule_of.ensures ∙ ap key_of (sym (slot_got slots c.unwrap.result c.get-slot.result.now c.get-slot.ensures.value)) ∙ ap (λ i. key_of (slot_at slots i)) here in
    let first : take (c.loop-number.number + 1) (set c.loop-number.schedules c.from.result c.schedule_of.result) ≡ map key_of (take (c.loop-number.number + 1) c.args.slots) =
    rw c.from.ensures (one_more c.loop-number.schedules slots c.loop-number.number c.schedule_of.result (omega (arith, c.loop-number.invariant.1, c.loop-number-test.true)) (omega (arith, c.requires.size, c.loop-number-test.true)) c.loop-number.invariant.0 key) in
    (first, length-set c.loop-number.schedules c.from.result c.schedule_of.result ∙ c.loop-number.invariant.1)
