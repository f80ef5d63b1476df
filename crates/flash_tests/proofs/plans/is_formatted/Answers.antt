use Rattle.std.proofs.Common.{inr}
use Rattle.flash_places.specs.MemFlash.{memory_state}
use Rattle.flash_tests.proofs.plans.is_formatted.Goals as goal

pub run_plan-requires-clause-known : goal.run_plan-requires-clause-known
run_plan-requires-clause-known c = inr (c.format-plan.ensures.formats c.args.cells.now (memory_state c.args.flash.now).flash)
