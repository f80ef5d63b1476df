-- The table of answers of `audit`: its rows, and when each comes
use Rattle.std.specs.Prelude.{◌⊎◌, ℕ, List, codes}
use Rattle.text_lines.specs.Readings.{Fault}
use Rattle.text_lines.specs.Texts.{line}
use Rattle.program_edge.specs.declared.input.InputFault.{InputFault}
use Rattle.program_edge.specs.declared.input.InputFault.TheVariants as input
use Rattle.program_edge.specs.Rows.{Row, row_of, input_row, memory_row}
use Rattle.program_edge.specs.Inputs.{Reading, IsUnread, ReadsWhole, Lacks, Offers}
use Rattle.text_lines.specs.LineRows.{line_row}
use Rattle.can_logs.specs.declared.map_lines.MapLine.{MapLine}
use Rattle.trace_audit.specs.declared.start.TheConstants.{EXAMPLE_MAP, EXAMPLE_LOG}
use Rattle.trace_audit.specs.AuditMaps.{map_of}
use Rattle.trace_audit.specs.Auditing.{TellsAudit}
use Rattle.can_logs.specs.LogRuns.{LogInputs, NamesInputs, ReadsMapBy, IsMapFaultBy}

-- an audit of the example: of two words, over sources that tell its map and its log, and don't fail
abbrev pub IsExampleAudit : LogInputs → Type 0
IsExampleAudit i = NamesInputs i.words × Offers i.map EXAMPLE_MAP.now × Offers i.log EXAMPLE_LOG.now

-- the line that is printed if they are malformed
abbrev pub audit_usage : List ℕ
audit_usage = line (codes "usage: audit MAP LOG")

-- the map of an audit was read whole, and has these lines
abbrev pub ReadsMap : Reading → List MapLine → Type 0
ReadsMap map mapping = ReadsMapBy map_of map mapping

-- the map of an audit was read whole, and this is its first fault
abbrev pub IsMapFault : Reading → Fault → Type 0
IsMapFault map fault = IsMapFaultBy map_of map fault

-- there is no map, and nothing of the log was read; or the map has lines, and there is no log
abbrev pub LacksInput : LogInputs → InputFault → Type 0
LacksInput i fault =
    (Lacks i.map fault × IsUnread i.log)
    ⊎ ((mapping : List MapLine) × ReadsMap i.map mapping × Lacks i.log fault)

-- the words are two, the map has lines, and the log was read whole; this holds of both
abbrev pub OverAudit : LogInputs → (List MapLine → List ℕ → Type 0) → Type 0
OverAudit i P =
    NamesInputs i.words × ((mapping : List MapLine) × ReadsMap i.map mapping
    × ((log : List ℕ) × ReadsWhole i.log log × P mapping log))

-- the table: when each row comes, with its status and text
pub data ComesInAudit (i : LogInputs) : Row → Type 0 where
  no_form : ¬ NamesInputs i.words → IsUnread i.map → IsUnread i.log
      → ComesInAudit i (row_of 2 audit_usage)
  no_input : (fault : InputFault) → NamesInputs i.words → LacksInput i fault
      → ComesInAudit i (input_row fault)
  map_fault : (fault : Fault) → NamesInputs i.words → IsMapFault i.map fault → IsUnread i.log
      → ComesInAudit i (line_row fault)
  no_memory : NamesInputs i.words → Lacks i.map input.Memory → Lacks i.log input.Memory
      → ComesInAudit i memory_row
  done : (text : List ℕ) → OverAudit i (λ mapping log. TellsAudit mapping log text)
      → ComesInAudit i (row_of 0 text)
