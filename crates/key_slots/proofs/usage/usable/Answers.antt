use Rattle.std.proofs.Common.{rules}
use Rattle.key_slots.proofs.CallerLemmas.{usable_at_slot}
use Rattle.key_slots.proofs.usage.usable.Goals as goal

pub returns-in_default-clause-at_a_slot : goal.returns-in_default-clause-at_a_slot
returns-in_default-clause-at_a_slot c = λ slots s high at. usable_at_slot slots s _ _ _ _ high at (search rules)

pub returns-then-flags-eq-clause-at_a_slot : goal.returns-then-flags-eq-clause-at_a_slot
returns-then-flags-eq-clause-at_a_slot c = λ slots s high at. usable_at_slot slots s _ _ _ _ high at (search rules)

pub returns-then-not-booted-clause-at_a_slot : goal.returns-then-not-booted-clause-at_a_slot
returns-then-not-booted-clause-at_a_slot c = λ slots s high at. usable_at_slot slots s _ _ _ _ high at (search rules)

pub returns-clause-at_a_slot : goal.returns-clause-at_a_slot
returns-clause-at_a_slot c = λ slots s high at. usable_at_slot slots s _ _ _ _ high at (search rules)
