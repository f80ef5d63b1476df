use Rattle.std.proofs.Common.{List, subst, ◌∙◌, ap, map}
use Rattle.can_logs.specs.declared.map_lines.MapLine.{MapLine}
use Rattle.can_logs.specs.MapTables.{AreFirsts, AreNexts}
use Rattle.can_logs.proofs.map_tables.MapTable.of.Goals as goal

pub invariant_of-result : goal.invariant_of-result
invariant_of-result c = (
  c.requires,
  subst (λ (ls : List MapLine). AreFirsts ls 0 c.of-links.result.firsts) c.as_slice-2.ensures.value c.of-links.ensures.firsts,
  subst (λ (ls : List MapLine). AreNexts ls 0 c.of-links.result.nexts) c.as_slice-2.ensures.value c.of-links.ensures.nexts,
  c.in_ok-schedules.ensures ∙ ap (map (λ (l : MapLine). l.key)) c.as_slice.ensures.value,
)
