use Rattle.std.proofs.Common.{subst, sym, rules}
use Rattle.trace_audit.specs.Steps.{DoesAudit, found, no_text}
use Rattle.trace_audit.proofs.run.do_audit.Goals as goal

pub returns-in-Ok : goal.returns-in-Ok
returns-in-Ok g c = record { row = _; comes = found c.as_slice-in-Ok.result.now (search rules); told = c.tell.ensures }

pub returns-in-Err : goal.returns-in-Err
returns-in-Err g c =
    record { row = _; comes = subst (DoesAudit c.args.audit.now) (sym c.no_memory.ensures) no_text; told = c.tell_refusal-in-Err.ensures }
