use Rattle.std.proofs.Common.{inl, length}
use Rattle.flash_places.specs.MemFlash.{memory_state}
use Rattle.flash_laws.specs.Lives.{off}
use Rattle.flash_log.specs.Going.{machine}
use Rattle.flash_plan.proofs.CallerLemmas.{stands_as}
use Rattle.flash_tests.proofs.plans.start.Goals as goal

pub run_plan-requires-clause-known : goal.run_plan-requires-clause-known
run_plan-requires-clause-known c = inl (record {
  at = machine (memory_state c.args.flash.now).flash off;
  stands = c.start-plan.ensures.stands (length c.args.cells.now) c.args.cells.now c.args.scratch.now (memory_state c.args.flash.now).flash;
})

pub returns-clause-stands : goal.returns-clause-stands
returns-clause-stands c =
    let s = c.run_plan.ensures.stands (record {
      at = machine (memory_state c.args.flash.now).flash off;
      stands = c.start-plan.ensures.stands (length c.args.cells.now) c.args.cells.now c.args.scratch.now (memory_state c.args.flash.now).flash;
    }) in
    record {
      at = s.at;
      stands = stands_as c.start-plan.result.banks c.run_plan.new.plan.banks (length c.args.cells.now) (length c.run_plan.new.cells) c.run_plan.new.plan c.run_plan.new.cells c.run_plan.new.scratch
          s.at (memory_state c.run_plan.new.device).flash c.run_plan.ensures.sizes.banks c.run_plan.auto.cells s.stands;
    }
