use Rattle.std.proofs.Common.{subst, sym, rules}
use Rattle.bus_commands.specs.Steps.{TellsSummary, no_lines_told}
use Rattle.bus_commands.proofs.Summed.{told_as}
use Rattle.bus_commands.proofs.trial.tell_summary.Goals as goal

pub returns-in-Ok : goal.returns-in-Ok
returns-in-Ok g c = record { row = _; comes = told_as c.args.summary _ (search rules); told = c.tell.ensures }

pub returns-in-Err : goal.returns-in-Err
returns-in-Err g c =
    record { row = _; comes = subst (TellsSummary c.args.summary) (sym c.no_memory.ensures) no_lines_told; told = c.tell_refusal-in-Err.ensures }
