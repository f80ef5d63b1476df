use Rattle.std.proofs.lemmas.Result.{err_from_is_err_and}
use Rattle.text_lines.specs.Readings.{read_all}
use Rattle.can_logs.specs.MapLines.{most_map_lines}
use Rattle.trace_audit.specs.Steps.{no_map}
use Rattle.trace_audit.proofs.Phases.{ReadsMapSource-read}
use Rattle.trace_audit.proofs.map_source.read_map_by.Goals as goal

pub returns-in_err-input : goal.returns-in_err-input
returns-in_err-input g c =
    let p = err_from_is_err_and c.from_residual.result c.from_residual.ensures.1 in
    rw (p.1, p.2) (no_map c.in_err-input.field-0.0 c.in_err-input.ensures.refused)

pub returns : goal.returns
returns g c =
    let lines = c.lines_by.ensures in
    ReadsMapSource-read (read_all (g.R.LineReader.means c.args.reader.now) most_map_lines) _ c.in_ok-input.input.items c.lines_by.result c.in_ok-input.ensures.ok
    (rw (← c.as_slice.ensures.value) lines.ok) (rw (← c.as_slice.ensures.value) lines.err)
