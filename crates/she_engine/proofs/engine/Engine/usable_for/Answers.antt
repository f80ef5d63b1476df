use Rattle.std.proofs.Common.{sym, ap, ◌∙◌, arith}
use Rattle.std.specs.Prelude.{◌<◌, ◌≤◌}
use Rattle.key_slots.specs.Slots.{slot_at}
use Rattle.key_slots.specs.Usage.{usable}
use Rattle.key_slots.proofs.CallerLemmas.{usable_below_four}
use Rattle.she_engine.proofs.engine.Engine.usable_for.Goals as goal

pub returns-then-number-lt4 : goal.returns-then-number-lt4
returns-then-number-lt4 c =
    let low : c.args.slot < 4 = omega (arith, c.number.ensures.value, c.if-number-lt4.true) in
    sym (usable_below_four _ c.args.slot _ c.args.purpose low)

pub returns : goal.returns
returns c =
    let slots = c.args.self.now.slots in
    let high : 4 ≤ c.args.slot = omega (arith, c.number.ensures.value, c.if-number-lt4.false) in
    c.usable.ensures.at_a_slot slots c.args.slot high (sym (c.slot_at-held.ensures.value ∙ ap (λ s. slot_at s c.args.slot) c.slots.ensures))
    ∙ ap (λ good. usable slots c.args.slot good c.args.purpose) c.is_good.ensures
