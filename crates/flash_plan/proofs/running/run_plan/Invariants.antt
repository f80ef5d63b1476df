-- The operations so far were turns, and the plan stands where they lead.
use Rattle.std.proofs.Common.{◌≡◌, length}
use Rattle.flash_places.specs.State.{FlashRuns}
use Rattle.flash_laws.specs.Lives.{FlashMachine}
use Rattle.flash_plan.specs.Plans.{IsPlanOf, SameSizes, operations_left}
use Rattle.flash_plan.specs.Standing.{plan_layout, StandsAt}
use Rattle.flash_plan.specs.Formatting.{FormatsAt}
use Rattle.flash_plan.specs.Turns.{TurnsTo}
use Rattle.flash_plan.proofs.running.run_plan.Given as goal

abbrev pub invariant-loop-operation : goal.invariant-loop-operation
invariant-loop-operation g l = record {
  plan : IsPlanOf (length l.initial.cells) l.plan;
  sizes : SameSizes l.initial.plan l.plan;
  runs : FlashRuns (g.D.FlashDevice.state l.initial.device) (g.D.FlashDevice.state l.device);
  cells : length l.cells ≡ length l.initial.cells;
  scratch : length l.scratch ≡ length l.initial.cells;
  formats : FormatsAt l.initial.plan l.initial.cells (g.D.FlashDevice.state l.initial.device).flash → FormatsAt l.plan l.cells (g.D.FlashDevice.state l.device).flash;
  turns : (at : FlashMachine) → StandsAt (plan_layout l.initial.plan (length l.initial.cells)) l.initial.plan l.initial.cells l.initial.scratch at (g.D.FlashDevice.state l.initial.device).flash
      → TurnsTo (plan_layout l.initial.plan (length l.initial.cells)) l.plan l.cells l.scratch at (g.D.FlashDevice.state l.device).flash;
}

abbrev pub decreases-loop-operation : goal.decreases-loop-operation
decreases-loop-operation g l = operations_left (length l.cells) l.plan
