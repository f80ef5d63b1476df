use Rattle.std.proofs.Common.{subst, sym, rules}
use Rattle.bus_commands.specs.Steps.{AnswersLines, told, no_text}
use Rattle.bus_commands.proofs.run.do_lines.Goals as goal

pub returns-in-Ok : goal.returns-in-Ok
returns-in-Ok g c = record { row = _; comes = told c.as_slice.result.now (search rules); told = c.tell.ensures }

pub returns-in-Err : goal.returns-in-Err
returns-in-Err g c =
    record { row = _; comes = subst (AnswersLines c.args.job.now) (sym c.no_memory.ensures) no_text; told = c.tell_refusal-in-Err.ensures }
