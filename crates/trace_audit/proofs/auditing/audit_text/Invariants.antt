-- the lines so far were audited
use Rattle.std.proofs.Common.{◌≤◌, take, map}
use Rattle.trace_audit.specs.AuditedLines.{Audited}
use Rattle.can_logs.proofs.CallerLemmas.{line_of}
use Rattle.trace_audit.proofs.auditing.audit_text.Given as goal

abbrev pub invariant-loop-line : goal.invariant-loop-line
invariant-loop-line l =
    Audited l.map (map (line_of l.log) (take l.line-index l.line-items)) l.counters.items l.text.items l.others × (l.others ≤ l.line-index)
