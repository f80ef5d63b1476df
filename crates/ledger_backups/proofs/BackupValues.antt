-- What is read is a line that a backup may have
use Rattle.std.proofs.Common.{◌≡◌, ℕ, ◌+◌, ◌≤◌, ◌∷◌, ◌++◌, cond, List, [], length, map, All, Result, Ok, Err, sym, ap, ◌∙◌, subst, inl, inr, arith}
use Rattle.std.specs.Prelude.{◌==◌, Vec, IfOk, codes}
use Rattle.std.specs.Str.{bytes_eq}
use Rattle.std.specs.declared.alloc.Global.{Global}
use Rattle.std.proofs.lemmas.Bool.{cases_Bool}
use Rattle.std.proofs.lemmas.List.{length-append, length-map}
use Rattle.std.proofs.lemmas.List.Elements.{All-nil, All-cons, All-head, All-tail}
use Rattle.secoc_words.specs.KeyForms.{engine_uid_form}
use Rattle.text_lines.specs.declared.fault.ScriptFault.{ScriptFault}
use Rattle.text_lines.specs.Forms.{number_form}
use Rattle.text_lines.specs.Lines.{lines_of}
use Rattle.text_lines.specs.Readings.{most_lines, nth_word, field, with_count, Gives}
use Rattle.text_lines.proofs.CallerLemmas.{number_in_range, bind_ok, field_ok, counted_ok, All-read_from, values_given}
use Rattle.key_campaign.specs.declared.entries.LedgerEntry.{LedgerEntry}
use Rattle.key_campaign.specs.Entries.{IsEntry}
use Rattle.ledger_backups.specs.declared.reader.BackupLine.{BackupLine}
use Rattle.ledger_backups.specs.declared.reader.BackupLine.TheVariants.{Entry, End}
use Rattle.ledger_backups.specs.EntryForms.{entry_slot_form, entry_counter_form, state_form}
use Rattle.ledger_backups.specs.Backups.{backup_entry_of, backup_end_of, backup_line_of, backup_lines_of, IsBackupLine, IsWholeBackup}
use Rattle.ledger_backups.proofs.UnitForms.{unit_of}

-- ---- a line

backup_entry_of-value : (words : List (List ℕ)) (told : BackupLine) → backup_entry_of words ≡ Ok told → IsBackupLine told
unfolding backup_entry_of
backup_entry_of-value words told h =
    let uid = bind_ok (field 1 (engine_uid_form (nth_word words 1))) _ told h in
    let id = bind_ok (field 2 (entry_slot_form (nth_word words 2))) _ told uid.2 in
    let counter = bind_ok (field 3 (entry_counter_form (nth_word words 3))) _ told id.2 in
    let confirmed = bind_ok (field 4 (state_form (nth_word words 4))) _ told counter.2 in
    let same : Entry (record { uid = uid.0; id = id.0; counter = counter.0; confirmed = confirmed.0 }) ≡ told = cc confirmed.2 in
    let slot = number_in_range 1 13 (nth_word words 2) id.0 (field_ok 2 (entry_slot_form (nth_word words 2)) id.0 id.1) in
    let last = number_in_range 1 268435455 (nth_word words 3) counter.0 (field_ok 3 (entry_counter_form (nth_word words 3)) counter.0 counter.1) in
    subst IsBackupLine same (record {
      is_unit = unit_of (nth_word words 1) uid.0 (field_ok 1 (engine_uid_form (nth_word words 1)) uid.0 uid.1);
      id_from_1 = slot.0;
      id_to_13 = slot.1;
      counter_from_1 = last.0;
      counter_fits = omega (arith, last.1);
    })

backup_end_of-value : (words : List (List ℕ)) (told : BackupLine) → backup_end_of words ≡ Ok told → IsBackupLine told
unfolding backup_end_of
backup_end_of-value words told h =
    let count = bind_ok (field 2 (number_form 0 65535 (nth_word words 2))) _ told h in
    let same : End count.0 ≡ told = cc count.2 in
    subst IsBackupLine same tt

backup_line_of-value : (words : List (List ℕ)) (told : BackupLine) → backup_line_of words ≡ Ok told → IsBackupLine told
unfolding backup_line_of
backup_line_of-value words told h =
    let end = with_count 2 words (backup_end_of words) in
    let entry = with_count 4 words (backup_entry_of words) in
    elim (cases_Bool (bytes_eq (nth_word words 1) (codes "end"))) [
      | inl is ↦ backup_end_of-value words told (counted_ok (length words == 2) (backup_end_of words) told (sym (ap (λ b. cond b end entry) is) ∙ h))
      | inr not ↦ backup_entry_of-value words told (counted_ok (length words == 4) (backup_entry_of words) told (sym (ap (λ b. cond b end entry) not) ∙ h))
    ]

-- ---- a text

backup_lines_of-are : (text : List ℕ) (lines : List BackupLine) → backup_lines_of text ≡ Ok lines → All IsBackupLine lines
unfolding backup_lines_of
backup_lines_of-are text lines h =
    All-read_from IsBackupLine (λ _ words. backup_line_of words) (λ seen words told given. backup_line_of-value words told given)
    most_lines [] (lines_of text) lines (All-nil IsBackupLine) h

backup_lines_of-few : (text : List ℕ) (lines : List BackupLine) → backup_lines_of text ≡ Ok lines → length lines ≤ most_lines
unfolding backup_lines_of
backup_lines_of-few text lines h = (values_given (λ _ words. backup_line_of words) most_lines [] (lines_of text) lines (omega arith) h).3

-- the same of the answer that gives them
pub are_from_gives : (text : List ℕ) (r : Result (Vec BackupLine Global) ScriptFault) → Gives (backup_lines_of text) r
    → IfOk r (λ v. All IsBackupLine v.items)
are_from_gives text (Ok v) h = backup_lines_of-are text v.items h
are_from_gives text (Err fault) h = tt

pub few_from_gives : (text : List ℕ) (r : Result (Vec BackupLine Global) ScriptFault) → Gives (backup_lines_of text) r
    → IfOk r (λ v. length v.items ≤ most_lines)
few_from_gives text (Ok v) h = backup_lines_of-few text v.items h
few_from_gives text (Err fault) h = tt

-- ---- the entries of a whole backup

entries_in : (entries : List LedgerEntry) (rest : List BackupLine) → All IsBackupLine (map Entry entries ++ rest) → All IsEntry entries
entries_in [] rest are = All-nil IsEntry
entries_in (e ∷ es) rest are =
    All-cons IsEntry e es (All-head IsBackupLine (Entry e) (map Entry es ++ rest) are)
    (entries_in es rest (All-tail IsBackupLine (Entry e) (map Entry es ++ rest) are))

pub whole_are : (lines : List BackupLine) (entries : List LedgerEntry) → IsWholeBackup lines entries → All IsBackupLine lines → All IsEntry entries
whole_are lines entries whole are = entries_in entries (End (length entries) ∷ []) (subst (All IsBackupLine) whole are)

pub whole_few : (lines : List BackupLine) (entries : List LedgerEntry) → IsWholeBackup lines entries → length lines ≤ most_lines → length entries ≤ most_lines
whole_few lines entries whole few =
    let all : length lines ≡ length entries + 1 =
    ap length whole ∙ length-append (map Entry entries) (End (length entries) ∷ []) ∙ ap (λ n. n + 1) (length-map entries Entry) in
    omega (arith, all, few)
