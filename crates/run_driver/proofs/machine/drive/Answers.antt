use Rattle.std.proofs.Common.{◌∙◌, ◌+◌, subst, drop}
use Rattle.run_driver.proofs.DrivenLoop.{DoneSoFar-more, Driven-refused, Driven-all, drop_next}
use Rattle.run_driver.proofs.machine.drive.Goals as goal

pub step-line-requires : goal.step-line-requires
step-line-requires g c = (
  drop (c.loop-command.command-index + 1) c.args.commands.now,
  subst (g.M.Machine.ready c.loop-command.machine) (drop_next c.args.commands.now c.loop-command.command-index c.command-item.result c.loop-command-test.true c.command-item.is) c.loop-command.invariant.machine_ready,
)

pub returns-in-Err-clause-driven : goal.returns-in-Err-clause-driven
returns-in-Err-clause-driven g c =
    let at = c.loop-command.invariant.number in
    Driven-refused g.M.Machine.steps g.T.Consumer.takes _ _ c.args.commands.now c.loop-command.command-index _ _ _ _ c.command-item.result _ _
    c.loop-command-test.true c.loop-command.invariant.done c.step-line.ensures.step (rw at at c.in-Err.ensures.takes) c.command-item.is

pub loop-command-preserved : goal.loop-command-preserved
loop-command-preserved g c =
    let at = c.loop-command.invariant.number in
    record {
      number = rw at;
      machine_ready = c.step-line.ensures.ready (drop (c.loop-command.command-index + 1) c.args.commands.now)
          (subst (g.M.Machine.ready c.loop-command.machine) (drop_next c.args.commands.now c.loop-command.command-index c.command-item.result c.loop-command-test.true c.command-item.is) c.loop-command.invariant.machine_ready);
      consumer_ready = c.in-Ok.ensures.ready;
      machine_borrows = c.step-line.ensures.borrows ∙ c.loop-command.invariant.machine_borrows;
      consumer_borrows = c.in-Ok.ensures.borrows ∙ c.loop-command.invariant.consumer_borrows;
      done = DoneSoFar-more g.M.Machine.steps g.T.Consumer.takes _ _ c.args.commands.now c.loop-command.command-index _ _ _ _ c.command-item.result _
          c.loop-command-test.true c.loop-command.invariant.done c.step-line.ensures.step (rw at at c.in-Ok.ensures.takes) c.command-item.is;
    }

pub returns-clause-driven : goal.returns-clause-driven
returns-clause-driven g c =
    Driven-all g.M.Machine.steps g.T.Consumer.takes _ _ c.args.commands.now c.loop-command.command-index _ _ tt c.loop-command-test.false c.loop-command.invariant.done
