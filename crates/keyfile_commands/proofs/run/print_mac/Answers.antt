use Rattle.std.proofs.Common.{◌∙◌, refl, subst, sym, Ok}
use Rattle.key_commands.specs.declared.tasks.Task.TheVariants as task
use Rattle.key_commands.specs.declared.tasks.WordTask.TheVariants as word_task
use Rattle.key_commands.specs.Rows.{AskedComes, no_text, task_done}
use Rattle.keyfile_commands.proofs.run.print_mac.Goals as goal

pub returns-in-Ok : goal.returns-in-Ok
returns-in-Ok g c = record {
  row = _;
  comes = task_done (task.Words (word_task.Bootmac c.args.key.now c.args.image.now)) c.as_bytes.result.now refl (c.as_bytes.ensures.value ∙ c.in-Ok.ensures);
  told = c.tell.ensures;
}

pub returns-in-Err : goal.returns-in-Err
returns-in-Err g c = record {
  row = _;
  comes = subst (AskedComes (Ok (task.Words (word_task.Bootmac c.args.key.now c.args.image.now)))) (sym c.no_memory.ensures) no_text;
  told = c.tell_refusal-in-Err.ensures;
}
