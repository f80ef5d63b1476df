use Rattle.std.proofs.Common.{length}
use Rattle.flash_plan.specs.Standing.{plan_layout}
use Rattle.flash_plan.proofs.DeedSteps.{put_taken}
use Rattle.flash_plan.proofs.plans.FlashPlan.put.Goals as goal

pub returns-clause-stands : goal.returns-clause-stands
returns-clause-stands c scratch at f h =
    put_taken (plan_layout c.args.self.now (length c.args.cells.now)) c.args.self.now.best c.args.self.now.latest c.args.cells.now scratch at f c.args.self.now.step
    c.in-Ready.bank c.in-Ready.generation c.in-Ready.next c.in-Ready.is h
