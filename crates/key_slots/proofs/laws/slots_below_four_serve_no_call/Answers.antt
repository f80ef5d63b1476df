use Rattle.key_slots.proofs.CallerLemmas.{usable_below_four}
use Rattle.key_slots.proofs.laws.slots_below_four_serve_no_call.Goals as goal

pub returns : goal.returns
returns c = usable_below_four
