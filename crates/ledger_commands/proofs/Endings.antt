-- How reading the ledgers that arguments name ends
use Rattle.std.proofs.Common.{◌≡◌, ℕ, Bool, List, [], length, take, refl, sym, ap, subst, ◌∙◌}
use Rattle.std.specs.Prelude.{Option, Some, None, Result, Ok, Err, if◌then◌else◌}
use Rattle.std.proofs.Math.Seq.{take-length}
use Rattle.bus_port.specs.Source.{SourceState}
use Rattle.program_edge.specs.NamedSources.{Openings}
use Rattle.program_edge.specs.Inputs.{Reading}
use Rattle.program_edge.specs.Told.{EndingTold}
use Rattle.program_edge.specs.Rows.{Row, memory_row}
use Rattle.program_edge.specs.Endings.{Ending}
use Rattle.program_edge.proofs.CallerLemmas.{EndsInRow-more}
use Rattle.ledger_commands.specs.declared.tasks.ReadTask.{ReadTask}
use Rattle.ledger_commands.specs.LedgerTasks.{ledger_asked, ledgers_named}
use Rattle.ledger_commands.specs.LedgerRows.{answers_row, ComesOfLedgers, no_form, bad_value, no_ledger, no_room, answered, words_asked, words_named}
use Rattle.ledger_commands.specs.LedgerReads.{ReadsLedgerFiles}
use Rattle.ledger_commands.specs.TaskRows.{IsNoTask}
use Rattle.ledger_commands.specs.Named.{AllNamed, none_yet, OverAllNamed}
use Rattle.ledger_commands.specs.ReadSteps.{PushesLedgers, ComesOfReading, unroomed, lacking, answering, EndsReading}
use Rattle.ledger_commands.proofs.Promises.{reads_row}
use Rattle.ledger_commands.proofs.Pushing.{named_number, reads_number}

module _ (opens : List ℕ → SourceState → Type 0) (before after : Openings) (asked : ReadTask) (words : List (List ℕ)) (left : List SourceState) (e : Ending) where
  -- all was found or not
  pub ends_found : (text : List ℕ) (found : Bool) → PushesLedgers opens before after asked (ledgers_named asked words) left text (Ok found)
      → EndingTold e.before e.after text (if found then 0 else 1) e.status → EndsReading opens before after asked words left e
  ends_found text found pushed told =
      let all = pushed.has.1 in
      let named : AllNamed opens before (ledgers_named asked words) pushed.files after =
      subst (λ ws. AllNamed opens before ws pushed.files after) (ap (λ n. take n (ledgers_named asked words)) pushed.has.0 ∙ take-length (ledgers_named asked words)) pushed.named in
      record {
        files = pushed.files;
        number = pushed.number;
        named = pushed.named;
        left_is = pushed.left_is;
        has = record {
          row = answers_row asked all.ledgers;
          comes = answering all.ledgers all.reads (reads_number pushed.files all.ledgers all.reads ∙ named_number opens before after (ledgers_named asked words) pushed.files named);
          told = subst (λ t. EndingTold e.before e.after t (answers_row asked all.ledgers).status e.status) all.text_is
              (subst (λ b. EndingTold e.before e.after text (if b then 0 else 1) e.status) all.found_is told);
        };
      }

  -- a file gave no ledger
  pub ends_lacking : (text : List ℕ) (row : Row) → PushesLedgers opens before after asked (ledgers_named asked words) left text (Err row)
      → EndingTold e.before e.after row.text row.status e.status → EndsReading opens before after asked words left e
  ends_lacking text row pushed told = record {
    files = pushed.files;
    number = pushed.number;
    named = pushed.named;
    left_is = pushed.left_is;
    has = record { row = row; comes = lacking row pushed.has; told = told };
  }

-- there was no room for the sources
pub ends_unroomed : (opens : List ℕ → SourceState → Type 0) (before : Openings) (asked : ReadTask) (words : List (List ℕ)) (e : Ending) (row : Row) → row ≡ memory_row
    → EndingTold e.before e.after row.text row.status e.status → EndsReading opens before before asked words [] e
ends_unroomed opens before asked words e row is told = record {
  files = [];
  number = 0;
  named = none_yet;
  left_is = refl;
  has = record { row = row; comes = subst (ComesOfReading asked (length (ledgers_named asked words)) []) (sym is) (unroomed refl); told = told };
}

comes_asked : (words : List (List ℕ)) (files : List Reading) (asked : ReadTask) → ledger_asked words ≡ Some (Ok asked) → (row : Row)
    → ComesOfReading asked (length (ledgers_named asked words)) files row → ComesOfLedgers (record { words = words; files = files }) row
comes_asked words files asked is row (unroomed none) = no_room asked is none
comes_asked words files asked is row (lacking _ last) = no_ledger asked last.front last.ledgers last.last row is last.reads last.lacks last.files_are
comes_asked words files asked is row (answering ledgers reads number) = answered asked ledgers is reads number

-- what was asked was read, or refused
pub over_reading : (opens : List ℕ → SourceState → Type 0) (before after : Openings) (asked : ReadTask) (words : List (List ℕ)) (left : List SourceState) (e : Ending)
    → ledger_asked words ≡ Some (Ok asked) → EndsReading opens before after asked words left e
    → OverAllNamed opens before after (words_named words) left (λ files. ReadsLedgerFiles (record { words = words; files = files }) e)
over_reading opens before after asked words left e is over =
    let same : words_named words ≡ ledgers_named asked words = ap (λ o. words_asked o words) is in
    record {
      files = over.files;
      number = over.number;
      named = subst (λ ws. AllNamed opens before (take over.number ws) over.files after) (sym same) over.named;
      left_is = over.left_is;
      has = reads_row (record { words = words; files = over.files }) e (EndsInRow-more (comes_asked words over.files asked is) over.has);
    }

comes_refused : (words : List (List ℕ)) (asked : Option (Result ReadTask ℕ)) (row : Row) → ledger_asked words ≡ asked → IsNoTask asked row
    → ComesOfLedgers (record { words = words; files = [] }) row
comes_refused words None row is none = subst (ComesOfLedgers (record { words = words; files = [] })) (sym none) (no_form is refl)
comes_refused words (Some (Ok task)) row is none = absurd none
comes_refused words (Some (Err number)) row is none = subst (ComesOfLedgers (record { words = words; files = [] })) (sym none) (bad_value number is refl)

pub over_refused : (opens : List ℕ → SourceState → Type 0) (before : Openings) (words : List (List ℕ)) (e : Ending) (row : Row) → IsNoTask (ledger_asked words) row
    → EndingTold e.before e.after row.text row.status e.status
    → OverAllNamed opens before before (words_named words) [] (λ files. ReadsLedgerFiles (record { words = words; files = files }) e)
over_refused opens before words e row none told = record {
  files = [];
  number = 0;
  named = none_yet;
  left_is = refl;
  has = reads_row (record { words = words; files = [] }) e (record { row = row; comes = comes_refused words (ledger_asked words) row refl none; told = told });
}
