-- The plan stays one of this flash.
use Rattle.std.proofs.Common.{◌≡◌, length}
use Rattle.flash_places.specs.MemFlash.{memory_state}
use Rattle.flash_plan.specs.Plans.{IsPlanOf}
use Rattle.flash_plan.specs.Standing.{plan_layout}
use Rattle.flash_plan.specs.Turns.{IsStanding}
use Rattle.flash_tests.proofs.plans.put_some.Given as goal

abbrev pub invariant-loop-k : goal.invariant-loop-k
invariant-loop-k l = record {
  two : length l.cells ≡ 2;
  alike : length l.scratch ≡ length l.cells;
  plan : IsPlanOf (length l.cells) l.plan;
  banks : l.plan.banks ≡ (memory_state l.flash).banks;
  places : l.plan.places ≡ (memory_state l.flash).places;
  stands : IsStanding (plan_layout l.plan (length l.cells)) l.plan l.cells l.scratch (memory_state l.flash).flash;
  same : (memory_state l.flash).places ≡ (memory_state l.initial.flash).places;
}
