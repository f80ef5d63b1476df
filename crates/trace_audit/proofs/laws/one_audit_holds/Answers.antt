use Rattle.trace_audit.proofs.OneFinding.{same_findings}
use Rattle.trace_audit.proofs.laws.one_audit_holds.Goals as goal

pub returns : goal.returns
returns c = λ mapping lines findings findings'. same_findings mapping lines findings findings'
