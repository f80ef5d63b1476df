use Rattle.trace_audit.proofs.Rising.{all_rise}
use Rattle.trace_audit.proofs.laws.accepted_freshness_rises_per_map_line.Goals as goal

pub returns : goal.returns
returns c = λ mapping lines findings. all_rise mapping lines findings
