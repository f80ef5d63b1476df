use Rattle.std.proofs.Common.{sym}
use Rattle.she_engine.proofs.Refusals.{slot_got}
use Rattle.she_engine.proofs.loading.slot_at.Goals as goal

pub returns-clause-value : goal.returns-clause-value
returns-clause-value c = sym (slot_got c.args.slots.now c.args.id _ c.get.ensures.value)
