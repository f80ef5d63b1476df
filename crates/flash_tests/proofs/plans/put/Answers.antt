use Rattle.std.proofs.Common.{inl, length, refl}
use Rattle.flash_places.specs.MemFlash.{memory_state}
use Rattle.flash_plan.proofs.CallerLemmas.{stands_as}
use Rattle.flash_tests.proofs.plans.put.Goals as goal

pub run_plan-requires-clause-known : goal.run_plan-requires-clause-known
run_plan-requires-clause-known c = inl (record {
  at = c.requires.stands.at;
  stands = stands_as c.args.plan.now.banks c.put.new.self.banks (length c.args.cells.now) (length c.args.cells.now) c.put.new.self c.args.cells.now c.args.scratch.now
      c.requires.stands.at (memory_state c.args.flash.now).flash c.put.ensures.sizes.banks refl
      (c.in-Ok.ensures.stands c.args.scratch.now c.requires.stands.at (memory_state c.args.flash.now).flash c.requires.stands.stands);
})

pub returns-then-is_idle-clause-stands : goal.returns-then-is_idle-clause-stands
returns-then-is_idle-clause-stands c =
    let s = c.run_plan.ensures.stands (record {
      at = c.requires.stands.at;
      stands = stands_as c.args.plan.now.banks c.put.new.self.banks (length c.args.cells.now) (length c.args.cells.now) c.put.new.self c.args.cells.now c.args.scratch.now
          c.requires.stands.at (memory_state c.args.flash.now).flash c.put.ensures.sizes.banks refl
          (c.in-Ok.ensures.stands c.args.scratch.now c.requires.stands.at (memory_state c.args.flash.now).flash c.requires.stands.stands);
    }) in
    record {
      at = s.at;
      stands = stands_as c.put.new.self.banks c.run_plan.new.plan.banks (length c.args.cells.now) (length c.run_plan.new.cells) c.run_plan.new.plan c.run_plan.new.cells c.run_plan.new.scratch
          s.at (memory_state c.run_plan.new.device).flash c.run_plan.ensures.sizes.banks c.run_plan.auto.cells s.stands;
    }

pub returns-else-is_idle-clause-stands : goal.returns-else-is_idle-clause-stands
returns-else-is_idle-clause-stands c =
    let s = c.run_plan.ensures.stands (record {
      at = c.requires.stands.at;
      stands = stands_as c.args.plan.now.banks c.put.new.self.banks (length c.args.cells.now) (length c.args.cells.now) c.put.new.self c.args.cells.now c.args.scratch.now
          c.requires.stands.at (memory_state c.args.flash.now).flash c.put.ensures.sizes.banks refl
          (c.in-Ok.ensures.stands c.args.scratch.now c.requires.stands.at (memory_state c.args.flash.now).flash c.requires.stands.stands);
    }) in
    record {
      at = s.at;
      stands = stands_as c.put.new.self.banks c.run_plan.new.plan.banks (length c.args.cells.now) (length c.run_plan.new.cells) c.run_plan.new.plan c.run_plan.new.cells c.run_plan.new.scratch
          s.at (memory_state c.run_plan.new.device).flash c.run_plan.ensures.sizes.banks c.run_plan.auto.cells s.stands;
    }
