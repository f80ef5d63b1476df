-- The backup of a ledger is read as its entries
use Rattle.std.proofs.Common.{◌≡◌, ℕ, ◌+◌, ◌*◌, ◌<◌, ◌≤◌, ◌^◌, Bool, true, false, List, [], ◌∷◌, ◌++◌, length, map, All, Option, Some, None, Ok, refl, sym, ap, ◌∙◌, inl, inr, arith, lit<, append-nil, append_assoc}
use Rattle.std.specs.Prelude.{codes}
use Rattle.std.specs.Fmt.{decimal}
use Rattle.std.specs.List.{flat_map}
use Rattle.std.specs.Str.{bytes_eq}
use Rattle.std.proofs.lemmas.Bool.{cases_Bool}
use Rattle.std.proofs.lemmas.List.{length-append, length-map}
use Rattle.std.proofs.lemmas.List.Elements.{All-nil, All-cons, All-head, All-tail}
use Rattle.std.proofs.lemmas.Slice.Eq.{bytes_eq-Decides}
use Rattle.hex.specs.Hex.{encode_lower, lower_digits}
use Rattle.hex.proofs.HexLemmas.{length-encode_with}
use Rattle.text_lines.specs.Lines.{lines_of}
use Rattle.text_lines.specs.Readings.{most_lines}
use Rattle.text_lines.specs.Written.{written, is_plain_word, is_writable}
use Rattle.text_lines.proofs.CallerLemmas.{words-written, digits_of, first_digit, plain_word, all_writable, read_from-words}
use Rattle.key_campaign.specs.declared.entries.LedgerEntry.{LedgerEntry}
use Rattle.key_campaign.specs.Entries.{IsEntry, place_count, AreLedgerEntries}
use Rattle.campaign_commands.specs.LedgerTexts.{state_word}
use Rattle.ledger_commands.specs.EntryTexts.{entry_words, entry_lines, backup_text, held_entries}
use Rattle.ledger_backups.specs.declared.reader.BackupLine.{BackupLine}
use Rattle.ledger_backups.specs.declared.reader.BackupLine.TheVariants.{Entry, End}
use Rattle.ledger_backups.specs.EntryForms.{state_form}
use Rattle.ledger_backups.specs.Backups.{backup_entry_of, backup_end_of, backup_line_of, backup_lines_of, IsBackupOf}
use Rattle.ledger_backups.proofs.NumbersWritten.{number_plain, number_written}
use Rattle.ledger_backups.proofs.UnitForms.{unit_written}
use Rattle.ledger_backups.proofs.HeldLaws.{held_are, held_few}

-- the words of a line
abbrev line_words : BackupLine → List (List ℕ)
line_words (Entry e) = entry_words e
line_words (End n) = codes "end" ∷ decimal n ∷ []

-- the lines that a ledger's backup may have
abbrev IsPrinted : BackupLine → Type 0
IsPrinted (Entry e) = IsEntry e
IsPrinted (End n) = n ≤ 65535

state_read : (b : Bool) → state_form (state_word b) ≡ Some b
state_read true = refl
state_read false = refl

state_plain : (b : Bool) → is_plain_word (state_word b) ≡ true
state_plain true = refl
state_plain false = refl

no_end_word : (uid : List ℕ) → length uid ≡ 15 → bytes_eq (encode_lower uid) (codes "end") ≡ false
no_end_word uid size = elim (cases_Bool (bytes_eq (encode_lower uid) (codes "end"))) [
  | inl same ↦
      let twice = length-encode_with lower_digits uid in
      let three : length (codes "end") ≡ 3 = refl in
      let as_long : length (encode_lower uid) ≡ length (codes "end") = ap length ((bytes_eq-Decides (encode_lower uid) (codes "end")).0 same) in
      absurd (omega (arith, size, twice, three, as_long))
  | inr other ↦ other
]

-- each is read as it was
line_read : (told : BackupLine) → IsPrinted told → backup_line_of (line_words told) ≡ Ok told
unfolding backup_line_of backup_entry_of backup_end_of
line_read (Entry e) is =
    rw (
      no_end_word e.uid is.is_unit.0.size,
      unit_written e.uid is.is_unit,
      number_written 1 13 e.id (let most = is.id_to_13 in omega (arith, most)) is.id_from_1 is.id_to_13,
      number_written 1 268435455 e.counter (let most = is.counter_fits in omega (arith, most)) is.counter_from_1 (let most = is.counter_fits in omega (arith, most)),
      state_read e.confirmed,
    ) refl
line_read (End n) small = rw (number_written 0 65535 n (omega (arith, small)) (omega arith) small) refl

-- and may be written
line_writable : (told : BackupLine) → IsPrinted told → is_writable (line_words told) ≡ true
line_writable (Entry e) is =
    let size = is.is_unit.0.size in
    rw (
      first_digit e.uid (omega (arith, size)) (digits_of 15 e.uid is.is_unit.0),
      plain_word 15 e.uid (lit< tt) is.is_unit.0,
      number_plain e.id (let most = is.id_to_13 in omega (arith, most)),
      number_plain e.counter (let most = is.counter_fits in omega (arith, most)),
      state_plain e.confirmed,
    ) refl
line_writable (End n) small = rw (number_plain n (omega (arith, small))) refl

all_printed : (es : List LedgerEntry) (n : ℕ) → All IsEntry es → n ≤ 65535 → All IsPrinted (map Entry es ++ End n ∷ [])
all_printed [] n are small = All-cons IsPrinted (End n) [] small (All-nil IsPrinted)
all_printed (e ∷ es) n are small =
    All-cons IsPrinted (Entry e) (map Entry es ++ End n ∷ []) (All-head IsEntry e es are) (all_printed es n (All-tail IsEntry e es are) small)

texts_are : (places : List (Option LedgerEntry)) (n : ℕ)
    → entry_lines places ++ written (codes "end" ∷ decimal n ∷ []) ≡ flat_map written (map line_words (map Entry (held_entries places) ++ End n ∷ []))
texts_are [] n = sym (append-nil (written (codes "end" ∷ decimal n ∷ [])))
texts_are (None ∷ places) n = texts_are places n
texts_are (Some e ∷ places) n =
    append_assoc (written (entry_words e)) (entry_lines places) (written (codes "end" ∷ decimal n ∷ []))
    ∙ ap (λ (l : List ℕ). written (entry_words e) ++ l) (texts_are places n)

read_lines_again : (lines : List BackupLine) → All IsPrinted lines → length lines ≤ most_lines → backup_lines_of (flat_map written (map line_words lines)) ≡ Ok lines
unfolding backup_lines_of
read_lines_again lines are few =
    read_from-words IsPrinted backup_line_of line_words line_read most_lines [] (lines_of (flat_map written (map line_words lines))) lines
    (words-written (map line_words lines) (all_writable IsPrinted line_words line_writable lines are)) are (omega (arith, few))

pub backup_read : (places : List (Option LedgerEntry)) → length places ≡ place_count → AreLedgerEntries places → IsBackupOf (backup_text places) (held_entries places)
unfolding place_count
backup_read places count are =
    let es = held_entries places in
    let lines = map Entry es ++ End (length es) ∷ [] in
    let held = held_few places in
    let sized : length lines ≡ length es + 1 = length-append (map Entry es) (End (length es) ∷ []) ∙ ap (λ n. n + 1) (length-map es Entry) in
    let printed = all_printed es (length es) (held_are places are.are) (omega (arith, held, count)) in
    (lines, ap backup_lines_of (texts_are places (length es)) ∙ read_lines_again lines printed (omega (arith, sized, held, count)), refl)
