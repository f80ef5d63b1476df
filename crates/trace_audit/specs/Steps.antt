-- What the two phases of `audit` say to one another
use Rattle.std.specs.Prelude.{◌≡◌, ℕ, ◌≤◌, List, length, Result, Ok, Err, Vec}
use Rattle.std.specs.declared.alloc.Global.{Global}
use Rattle.program_edge.specs.Input.{input_limit}
use Rattle.program_edge.specs.declared.input.InputFault.{InputFault}
use Rattle.text_lines.specs.Readings.{Fault}
use Rattle.program_edge.specs.Rows.{Row, row_of, input_row, memory_row}
use Rattle.program_edge.specs.Inputs.{Reading, Lacks}
use Rattle.text_lines.specs.LineRows.{line_row}
use Rattle.can_logs.specs.declared.map_lines.MapLine.{MapLine}
use Rattle.trace_audit.specs.declared.run.Audit.{Audit}
use Rattle.trace_audit.specs.Auditing.{TellsAudit}
use Rattle.can_logs.specs.LogRuns.{LogInputs, ReadsMapBy, IsMapFaultBy}
use Rattle.trace_audit.specs.Rows.{OverAudit, ComesInAudit}

-- why the source of a map gives no lines; `means` says which lines a text has
pub data LacksMap (means : List ℕ → Result (List MapLine) Fault) (map : Reading) : Row → Type 0 where
  no_map : (fault : InputFault) → Lacks map fault → LacksMap means map (input_row fault)
  refused : (fault : Fault) → IsMapFaultBy means map fault → LacksMap means map (line_row fault)

-- the lines of the whole map, or why there are none
abbrev pub ReadsMapSource : (List ℕ → Result (List MapLine) Fault) → Reading → Result (Vec MapLine Global) Row → Type 0
ReadsMapSource means map (Ok lines) = ReadsMapBy means map lines.items
ReadsMapSource means map (Err row) = LacksMap means map row

-- how the first phase ends: in the lines of the map and the whole log, or in a row that comes
abbrev pub PreparesAudit : LogInputs → Result Audit Row → Type 0
PreparesAudit i (Ok audit) =
    (length audit.log.items ≤ input_limit)
    × OverAudit i (λ mapping log. (mapping ≡ audit.map) × (log ≡ audit.log.items))
PreparesAudit i (Err row) = ComesInAudit i row

-- what the second phase ends in: exactly what is found is printed, or there was no memory for it
pub data DoesAudit (audit : Audit) : Row → Type 0 where
  found : (text : List ℕ) → TellsAudit audit.map audit.log.items text
      → DoesAudit audit (row_of 0 text)
  no_text : DoesAudit audit memory_row
