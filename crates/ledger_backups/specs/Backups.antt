-- What the text of a backup means: entries, a line each, and `end N` after them with their number (own)
use Rattle.std.specs.Prelude.{◌≡◌, ℕ, List, [], ◌∷◌, ◌++◌, length, map, if◌then◌else◌, bytes_eq, codes, Bool}
use Rattle.std.specs.Prelude.{true, false, Result, Ok, Err}
use Rattle.secoc_words.specs.KeyForms.{engine_uid_form}
use Rattle.text_lines.specs.declared.fault.Cause.{Cause}
use Rattle.text_lines.specs.Forms.{number_form}
use Rattle.text_lines.specs.Readings.{Fault, ◌>>=◌, nth_word, field, with_count, read_all, most_lines}
use Rattle.text_lines.specs.Texts.{line}
use Rattle.text_lines.specs.LineRows.{line_row}
use Rattle.program_edge.specs.Rows.{Row, row_of}
use Rattle.key_campaign.specs.declared.entries.LedgerEntry.{LedgerEntry}
use Rattle.key_campaign.specs.Entries.{IsEntry}
use Rattle.ledger_backups.specs.declared.reader.BackupLine.{BackupLine}
use Rattle.ledger_backups.specs.declared.reader.BackupLine.TheVariants.{Entry, End}
use Rattle.ledger_backups.specs.EntryForms.{entry_slot_form, entry_counter_form, state_form}

-- `UID SLOT COUNTER STATE`
unfoldable pub backup_entry_of : List (List ℕ) → Result BackupLine Cause
backup_entry_of words = do
  uid ← field 1 (engine_uid_form (nth_word words 1))
  id ← field 2 (entry_slot_form (nth_word words 2))
  counter ← field 3 (entry_counter_form (nth_word words 3))
  confirmed ← field 4 (state_form (nth_word words 4))
  Ok (Entry (record { uid = uid; id = id; counter = counter; confirmed = confirmed }))

-- `end N`
unfoldable pub backup_end_of : List (List ℕ) → Result BackupLine Cause
backup_end_of words = do
  count ← field 2 (number_form 0 65535 (nth_word words 2))
  Ok (End count)

-- the first word says which
unfoldable pub backup_line_of : List (List ℕ) → Result BackupLine Cause
backup_line_of words =
    if bytes_eq (nth_word words 1) (codes "end") then with_count 2 words (backup_end_of words)
    else with_count 4 words (backup_entry_of words)

-- the lines of a backup, or its first fault
unfoldable pub backup_lines_of : List ℕ → Result (List BackupLine) Fault
backup_lines_of text = read_all (λ _ words. backup_line_of words) most_lines text

-- the lines are those of these entries and the end with their number: the backup is whole
abbrev pub IsWholeBackup : List BackupLine → List LedgerEntry → Type 0
IsWholeBackup lines entries = lines ≡ map Entry entries ++ End (length entries) ∷ []

-- the text is a whole backup of these entries
abbrev pub IsBackupOf : List ℕ → List LedgerEntry → Type 0
IsBackupOf text entries =
    (lines : List BackupLine) × (backup_lines_of text ≡ Ok lines) × IsWholeBackup lines entries

abbrev pub not_whole_row : Row
not_whole_row = row_of 4 (line (codes "backup: not whole"))

-- why a text is no whole backup, and the row that says so: a line isn't of its form, or the end isn't the last line, or
-- has another number
pub data LacksBackup (text : List ℕ) : Row → Type 0 where
  bad_line : (fault : Fault) → backup_lines_of text ≡ Err fault → LacksBackup text (line_row fault)
  not_whole : (lines : List BackupLine) → backup_lines_of text ≡ Ok lines
      → ((entries : List LedgerEntry) → ¬ IsWholeBackup lines entries) → LacksBackup text not_whole_row

-- an entry of a backup is one that a ledger may have
abbrev pub IsBackupLine : BackupLine → Type 0
IsBackupLine (Entry entry) = IsEntry entry
IsBackupLine (End count) = Unit {0}

-- the lines are a whole backup of these entries, or of none
abbrev pub AddsWhole : List BackupLine → List LedgerEntry → Bool → Type 0
AddsWhole lines entries true = IsWholeBackup lines entries
AddsWhole lines entries false = (some : List LedgerEntry) → ¬ IsWholeBackup lines some
