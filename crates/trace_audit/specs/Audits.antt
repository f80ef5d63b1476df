-- What a run of `audit` promises
use Rattle.std.specs.Prelude.{◌≡◌, ◌⊎◌, ℕ, List, [], map, Ok, Err, codes}
use Rattle.secoc_words.specs.Counting.{AcceptedRise}
use Rattle.text_lines.specs.Lines.{lines_of}
use Rattle.text_lines.specs.Readings.{Fault}
use Rattle.text_lines.specs.Texts.{fault_text_of}
use Rattle.program_edge.specs.declared.input.InputFault.TheVariants as input
use Rattle.program_edge.specs.Inputs.{IsUnread, Lacks, SourceFailed, CountsFault, GivesTooMuch, CountsTooMuch, Offers}
use Rattle.program_edge.specs.Endings.{Ending, EndsInRow, EndsIn, MayEndIn, PrintsWhole, PrintsFront, SinkFailed, CountsWriteFault}
use Rattle.can_logs.specs.declared.map_lines.MapLine.{MapLine}
use Rattle.trace_audit.specs.AuditMaps.{map_of}
use Rattle.can_logs.specs.Findings.{Finding, finding_accepts}
use Rattle.trace_audit.specs.Auditing.{AuditsEach, findings_text, TellsAudit}
use Rattle.can_logs.specs.LogRuns.{LogInputs, NamesInputs}
use Rattle.trace_audit.specs.Rows.{audit_usage, IsMapFault, OverAudit, ComesInAudit}

-- what a run promises that has these inputs and ends so, in the order of the table of answers
pub record Audits (i : LogInputs) (e : Ending) : Type 0 where
  -- The program prints a row of the table and ends with its status, or at 6 a prefix of one.
  pub ends : EndsInRow (ComesInAudit i) e
  -- 0: the map and the log were read whole, and exactly what is found of the log's lines was printed.
  pub done : e.status ≡ 0 →
      OverAudit i (λ mapping log. (text : List ℕ) × TellsAudit mapping log text × PrintsWhole e text)
  -- 0: of two frames that the same line of the map accepted, the later has the greater freshness.
  pub rising : e.status ≡ 0 →
      OverAudit i (λ mapping log. (findings : List Finding)
      × AuditsEach mapping (lines_of log) findings
      × AcceptedRise (map finding_accepts findings) × PrintsWhole e (findings_text findings))
  -- 2: exactly if the arguments are malformed; nothing was read.
  pub usage : e.status ≡ 2 → (¬ NamesInputs i.words) × IsUnread i.map × IsUnread i.log
      × PrintsWhole e audit_usage
  pub usage_only : ¬ NamesInputs i.words → EndsIn 2 e
  -- 4: the map was read whole, and its first fault is printed; of the log nothing was read.
  pub refused : e.status ≡ 4 → NamesInputs i.words × IsUnread i.log
      × ((fault : Fault) × IsMapFault i.map fault × PrintsWhole e (fault_text_of fault))
  pub refused_only : (text : List ℕ) (fault : Fault) → NamesInputs i.words
      → Offers i.map text → map_of text ≡ Err fault → MayEndIn 4 e
  -- 5: exactly if a source's count of faults rose.
  pub read_fault : e.status ≡ 5 → NamesInputs i.words
      × (SourceFailed i.map ⊎ SourceFailed i.log) × PrintsWhole e (codes "read fault\n")
  pub read_fault_only : CountsFault i.map ⊎ CountsFault i.log → EndsIn 5 e
  -- 6: exactly if the sink's count of faults rose; a prefix was written of a row that comes.
  pub write_fault : e.status ≡ 6 → SinkFailed e × PrintsFront (ComesInAudit i) e
  pub write_fault_only : CountsWriteFault e → e.status ≡ 6
  -- 7: only if the words are of the form, and no source failed or gave too much; nothing was written.
  pub no_memory : e.status ≡ 7 → NamesInputs i.words
      × Lacks i.map input.Memory × Lacks i.log input.Memory × PrintsWhole e []
  -- 8: exactly if one byte more than an input may have came from a source.
  pub too_long : e.status ≡ 8 → NamesInputs i.words
      × (GivesTooMuch i.map ⊎ GivesTooMuch i.log) × PrintsWhole e (codes "input too long\n")
  pub too_long_only : CountsTooMuch i.map ⊎ CountsTooMuch i.log → EndsIn 8 e
  -- What is valid is done, if no port failed and there was memory: any log within the limit is.
  pub complete : (text log : List ℕ) (mapping : List MapLine) → NamesInputs i.words
      → Offers i.map text → map_of text ≡ Ok mapping → Offers i.log log
      → ¬ SinkFailed e → (e.status ≡ 0) ⊎ (e.status ≡ 7)
