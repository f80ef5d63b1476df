-- What a run that ends in a row of the table promises
use Rattle.std.proofs.Common.{◌≡◌, ◌⊎◌, ℕ, List, [], map, inl, inr, refl, sym, ap, ◌∙◌, subst, arith}
use Rattle.std.specs.Prelude.{Ok, Err, codes}
use Rattle.text_lines.specs.Lines.{lines_of}
use Rattle.text_lines.specs.Readings.{Fault}
use Rattle.text_lines.specs.Texts.{fault_text_of}
use Rattle.program_edge.specs.Input.{input_limit}
use Rattle.program_edge.specs.declared.input.InputFault.TheVariants as input
use Rattle.program_edge.specs.Rows.{Row}
use Rattle.program_edge.specs.Inputs.{IsUnread, Lacks, SourceFailed, CountsFault, GivesTooMuch, CountsTooMuch, Offers}
use Rattle.program_edge.proofs.CallerLemmas.{Lacks-unread, Lacks-whole, SourceTells, SourceTells-unread, SourceTells-lacks, SourceTells-whole, SourceTells-fault, SourceTells-long, Offers-is, Offers-whole, EndsInRow-at, EndsInRow-front, EndsInRow-rose, EndsInRow-only, EndsInRow-may, EndsInRow-done}
use Rattle.program_edge.specs.Endings.{Ending, PrintsWhole, EndsInRow}
use Rattle.secoc_words.specs.Counting.{AcceptedRise}
use Rattle.can_logs.specs.declared.map_lines.MapLine.{MapLine}
use Rattle.trace_audit.specs.AuditMaps.{map_of}
use Rattle.can_logs.specs.LogRuns.{LogInputs, NamesInputs}
use Rattle.trace_audit.specs.Rows.{audit_usage, IsMapFault, OverAudit, ComesInAudit, no_input, map_fault, no_memory, done}
use Rattle.can_logs.specs.Findings.{Finding, finding_accepts}
use Rattle.trace_audit.specs.Auditing.{AuditsEach, findings_text, TellsAudit}
use Rattle.trace_audit.specs.Audits.{Audits}
use Rattle.trace_audit.proofs.Rising.{all_rise}

ok_is_err : (m : List MapLine) (f : Fault) (read text : List ℕ) → read ≡ text → map_of read ≡ Ok m → map_of text ≡ Err f → ⊥
ok_is_err m f read text same ok err = let clash : Ok m ≡ Err f = sym ok ∙ ap map_of same ∙ err in cc

module _ (i : LogInputs) (e : Ending) where
  -- ---- rows by their status

  at_0 : (row : Row) → ComesInAudit i row → row.status ≡ 0 → PrintsWhole e row.text
      → OverAudit i (λ mapping log. (text : List ℕ) × TellsAudit mapping log text × PrintsWhole e text)
  at_0 row comes is prints = grind arith

  rises_0 : (row : Row) → ComesInAudit i row → row.status ≡ 0 → PrintsWhole e row.text
      → OverAudit i (λ mapping log. (findings : List Finding) × AuditsEach mapping (lines_of log) findings
      × AcceptedRise (map finding_accepts findings) × PrintsWhole e (findings_text findings))
  rises_0 row (done text (names, (mapping, reads, (log, whole, (findings, finds, text_is))))) is prints =
      (names, (mapping, reads, (log, whole, (findings, finds, all_rise mapping (lines_of log) findings finds, subst (PrintsWhole e) text_is prints))))
  rises_0 row comes is prints = absurd (grind arith)

  at_2 : (row : Row) → ComesInAudit i row → row.status ≡ 2 → PrintsWhole e row.text
      → (¬ NamesInputs i.words) × IsUnread i.map × IsUnread i.log × PrintsWhole e audit_usage
  at_2 row comes is prints = grind arith

  at_4 : (row : Row) → ComesInAudit i row → row.status ≡ 4 → PrintsWhole e row.text
      → NamesInputs i.words × IsUnread i.log × ((fault : Fault) × IsMapFault i.map fault × PrintsWhole e (fault_text_of fault))
  at_4 row (map_fault fault names read unread) is prints = (names, unread, (fault, read, prints))
  at_4 row comes is prints = absurd (grind arith)

  at_5 : (row : Row) → ComesInAudit i row → row.status ≡ 5 → PrintsWhole e row.text
      → NamesInputs i.words × (SourceFailed i.map ⊎ SourceFailed i.log) × PrintsWhole e (codes "read fault\n")
  at_5 row comes is prints = grind arith

  at_7 : (row : Row) → ComesInAudit i row → row.status ≡ 7 → PrintsWhole e row.text
      → NamesInputs i.words × Lacks i.map input.Memory × Lacks i.log input.Memory × PrintsWhole e []
  at_7 row (no_input input.Memory names (inl (lacks, unread))) is prints = (names, lacks, Lacks-unread i.log unread, prints)
  at_7 row (no_input input.Memory names (inr (mapping, (text, whole, means), lacks))) is prints =
      (names, Lacks-whole i.map text whole, lacks, prints)
  at_7 row (no_memory names map log) is prints = (names, map, log, prints)
  at_7 row comes is prints = absurd (omega (arith, is))

  at_8 : (row : Row) → ComesInAudit i row → row.status ≡ 8 → PrintsWhole e row.text
      → NamesInputs i.words × (GivesTooMuch i.map ⊎ GivesTooMuch i.log) × PrintsWhole e (codes "input too long\n")
  at_8 row comes is prints = grind arith

  never_6 : (row : Row) → ComesInAudit i row → ¬ (row.status ≡ 6)
  never_6 row comes is = grind arith

  -- ---- which rows come

  only_2 : ¬ NamesInputs i.words → (row : Row) → ComesInAudit i row → row.status ≡ 2
  only_2 other row comes = grind arith

  only_4 : (text : List ℕ) (fault : Fault) → NamesInputs i.words → Offers i.map text → map_of text ≡ Err fault → (row : Row) → ComesInAudit i row
      → (row.status ≡ 4) ⊎ (row.status ≡ 7)
  only_4 text fault asks offers is row comes = grind (arith, Offers-is, ok_is_err, Offers-whole)

  -- what a row says of both sources
  row_tells : (row : Row) → ComesInAudit i row → SourceTells input_limit i.map row.status × SourceTells input_limit i.log row.status
  row_tells row comes = grind (arith, SourceTells-unread, SourceTells-lacks, SourceTells-whole)

  faulty : CountsFault i.map ⊎ CountsFault i.log → (row : Row) → ComesInAudit i row → row.status ≡ 5
  faulty (inl counts) row comes = SourceTells-fault input_limit i.map row.status (row_tells row comes).0 counts
  faulty (inr counts) row comes = SourceTells-fault input_limit i.log row.status (row_tells row comes).1 counts

  long : CountsTooMuch i.map ⊎ CountsTooMuch i.log → (row : Row) → ComesInAudit i row → row.status ≡ 8
  long (inl counts) row comes = SourceTells-long input_limit i.map row.status (row_tells row comes).0 counts
  long (inr counts) row comes = SourceTells-long input_limit i.log row.status (row_tells row comes).1 counts

  completes : (text offered : List ℕ) (mapping : List MapLine) → NamesInputs i.words → Offers i.map text → map_of text ≡ Ok mapping → Offers i.log offered
      → (row : Row) → ComesInAudit i row → (row.status ≡ 0) ⊎ (row.status ≡ 7)
  completes text offered mapping asks offers is gives row comes = grind (arith, Offers-is, ok_is_err, Offers-whole)

  -- ---- the promises

  pub Audits-row : EndsInRow (ComesInAudit i) e → Audits i e
  Audits-row ends = record {
    ends = ends;
    done = EndsInRow-at ends 0 refl at_0;
    rising = EndsInRow-at ends 0 refl rises_0;
    usage = EndsInRow-at ends 2 refl at_2;
    usage_only = λ other. EndsInRow-only ends 2 (only_2 other);
    refused = EndsInRow-at ends 4 refl at_4;
    refused_only = λ text fault asks offers is. EndsInRow-may ends 4 (only_4 text fault asks offers is);
    read_fault = EndsInRow-at ends 5 refl at_5;
    read_fault_only = λ counts. EndsInRow-only ends 5 (faulty counts);
    write_fault = EndsInRow-front ends never_6;
    write_fault_only = EndsInRow-rose ends;
    no_memory = EndsInRow-at ends 7 refl at_7;
    too_long = EndsInRow-at ends 8 refl at_8;
    too_long_only = λ counts. EndsInRow-only ends 8 (long counts);
    complete = λ text offered mapping asks offers is gives well. EndsInRow-done ends well 0 (completes text offered mapping asks offers is gives);
  }
