use Rattle.std.proofs.Common.{refl, subst, sym}
use Rattle.key_commands.specs.declared.tasks.Task.TheVariants.{Words}
use Rattle.key_commands.specs.Rows.{task_done}
use Rattle.key_commands.specs.Texts.{PrintsDone}
use Rattle.key_commands.proofs.run.do_job.Goals as goal

pub returns-in-Ok : goal.returns-in-Ok
returns-in-Ok g c = record {
  row = _;
  comes = task_done (Words c.args.task.now) c.as_bytes.result.now refl (subst (PrintsDone (Words c.args.task.now)) (sym c.as_bytes.ensures.value) c.in-Ok.ensures);
  told = c.tell.ensures;
}
