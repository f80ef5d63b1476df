use Rattle.program_edge.proofs.CallerLemmas.{EndsInRow-more}
use Rattle.trace_audit.proofs.Phases.{Comes-does}
use Rattle.trace_audit.proofs.Promises.{Audits-row}
use Rattle.trace_audit.proofs.run.run_audit.Goals as goal

pub returns-in-Ok : goal.returns-in-Ok
returns-in-Ok g c = Audits-row _ _ (EndsInRow-more (Comes-does _ c.in-Ok.audit c.in-Ok.ensures) c.do_audit.ensures)

pub returns-in-Err : goal.returns-in-Err
returns-in-Err g c = Audits-row _ _ (record { row = c.in-Err.refusal; comes = c.in-Err.ensures; told = c.tell_refusal.ensures })
