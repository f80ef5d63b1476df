-- The two phases of a run, put together
use Rattle.std.proofs.Common.{◌≡◌, ◌≤◌, ℕ, List, [], length, inl, inr, subst, sym, arith}
use Rattle.std.specs.Prelude.{Result, Ok, Err, Vec, IfOk, IfErr}
use Rattle.std.specs.declared.alloc.Global.{Global}
use Rattle.program_edge.specs.declared.input.InputFault.TheVariants as input
use Rattle.text_lines.specs.Readings.{Fault}
use Rattle.program_edge.specs.Rows.{Row}
use Rattle.program_edge.specs.Inputs.{Reading, IsUnread, ReadsWhole}
use Rattle.program_edge.proofs.CallerLemmas.{Lacks-whole}
use Rattle.can_logs.specs.declared.map_lines.MapLine.{MapLine}
use Rattle.trace_audit.specs.declared.run.Audit.{Audit}
use Rattle.text_lines.specs.LineRows.{NoLines}
use Rattle.trace_audit.specs.AuditMaps.{map_line_of, map_of}
use Rattle.can_logs.specs.MapLines.{most_map_lines}
use Rattle.text_lines.specs.Lines.{lines_of}
use Rattle.text_lines.proofs.CallerLemmas.{values_given}
use Rattle.trace_audit.specs.Auditing.{TellsAudit}
use Rattle.can_logs.specs.LogRuns.{LogInputs, NamesInputs}
use Rattle.trace_audit.specs.Rows.{ComesInAudit, no_input, map_fault, no_memory, done}
use Rattle.trace_audit.specs.Steps.{LacksMap, no_map, refused, ReadsMapSource, PreparesAudit, DoesAudit, found, no_text}

-- the lines of a map that was read whole, or why it has none
pub ReadsMapSource-read : (means : List ℕ → Result (List MapLine) Fault) (map : Reading) (text : List ℕ) (result : Result (Vec MapLine Global) Row) → ReadsWhole map text
    → IfOk result (λ lines. means text ≡ Ok lines.items) → IfErr result (NoLines (means text)) → ReadsMapSource means map result
ReadsMapSource-read means map text (Ok lines) whole is well = (text, whole, is)
ReadsMapSource-read means map text (Err row) whole ok (inl (fault, is, row_is)) = subst (LacksMap means map) (sym row_is) (refused fault (text, whole, is))
ReadsMapSource-read means map text (Err row) whole ok (inr memory) = subst (LacksMap means map) (sym memory) (no_map input.Memory (Lacks-whole map text whole))

-- there is no map
pub Comes-no_map : (i : LogInputs) (row : Row) → NamesInputs i.words → LacksMap map_of i.map row → IsUnread i.log → ComesInAudit i row
Comes-no_map i row asks (no_map fault lacks) unread = no_input fault asks (inl (lacks, unread))
Comes-no_map i row asks (refused fault is) unread = map_fault fault asks is unread

-- what was prepared, and then audited
pub Comes-does : (i : LogInputs) (audit : Audit) → PreparesAudit i (Ok audit) → (row : Row) → DoesAudit audit row → ComesInAudit i row
Comes-does i audit (short, (asks, (mapping, reads, (log, whole, (mapping_is, log_is))))) row (found text tells) =
    let tells_log : TellsAudit audit.map log text = subst (λ (l : List ℕ). TellsAudit audit.map l text) (sym log_is) tells in
    let tells_both : TellsAudit mapping log text = subst (λ (m : List MapLine). TellsAudit m log text) (sym mapping_is) tells_log in
    done text (asks, (mapping, reads, (log, whole, tells_both)))
Comes-does i audit (short, (asks, (mapping, (read, all, is), (log, whole, same)))) row no_text =
    no_memory asks (Lacks-whole i.map read all) (Lacks-whole i.log log whole)

-- a map has at most 256 lines
pub few_lines : (text : List ℕ) (lines : List MapLine) → map_of text ≡ Ok lines → length lines ≤ 256
unfolding map_of
few_lines text lines is = let (values, same, behind, few) = values_given map_line_of most_map_lines [] (lines_of text) lines (omega arith) is in few
