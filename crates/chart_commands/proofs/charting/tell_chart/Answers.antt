use Rattle.std.proofs.Common.{◌∙◌, ap, sym, subst}
use Rattle.std.specs.Prelude.{Option, List}
use Rattle.program_edge.specs.Rows.{row_of}
use Rattle.bus_machine.specs.declared.lines.Line.{Line}
use Rattle.chart_commands.specs.Steps.{ToldOfLines, no_chart, kept_lines}
use Rattle.chart_commands.proofs.Drawing.{told_as_chart}
use Rattle.chart_commands.proofs.charting.tell_chart.Goals as goal

pub returns-in_default : goal.returns-in_default
returns-in_default g c = record {
  row = c.no_memory.result;
  comes = subst (ToldOfLines c.args.bus.now c.args.events.now (kept_lines c.args.kept)) (sym c.no_memory.ensures) no_chart;
  told = c.tell_refusal-in_default.ensures;
}

pub returns-in-Ok-chart_of : goal.returns-in-Ok-chart_of
returns-in-Ok-chart_of g c = record {
  row = row_of 0 c.as_slice-in-Ok-chart_of.result.now;
  comes = subst (λ (kept : Option (List Line)). ToldOfLines c.args.bus.now c.args.events.now kept (row_of 0 c.as_slice-in-Ok-chart_of.result.now)) (sym (ap kept_lines c.in-Ok.is))
      (told_as_chart c.args.bus.now c.args.events.now c.in-Ok.lines.items c.as_slice-in-Ok-chart_of.result.now
      (c.as_slice-in-Ok-chart_of.ensures.value ∙ rw (← c.as_slice.ensures.value) c.in-Ok-chart_of.ensures));
  told = c.tell.ensures;
}

pub returns : goal.returns
returns g c = record {
  row = c.no_memory-in-Err.result;
  comes = subst (ToldOfLines c.args.bus.now c.args.events.now (kept_lines c.args.kept)) (sym c.no_memory-in-Err.ensures) no_chart;
  told = c.tell_refusal-in-Err-2.ensures;
}
