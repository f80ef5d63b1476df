-- When the lines of a text are a whole backup
use Rattle.std.proofs.Common.{◌≡◌, ℕ, suc, zero, ◌+◌, ◌<◌, ◌≤◌, Bool, true, false, List, [], ◌∷◌, ◌++◌, length, map, take, drop, get_or, refl, sym, ap, ap₂, subst, ◌∙◌, ◌⊎◌, inl, inr, arith}
use Rattle.std.specs.Prelude.{◌==◌, ◌&&◌, Ok, Err, Result}
use Rattle.std.proofs.lemmas.Bool.{and_parts, cases_Bool, true≢false}
use Rattle.std.proofs.lemmas.Bool.Decides.{Decides-eqb}
use Rattle.std.proofs.lemmas.List.{take-append-drop, drop_more, length-take-le, length-map, length-drop, take_all}
use Rattle.std.proofs.Math.ListN.{drop_of_length-le}
use Rattle.text_lines.specs.declared.fault.ScriptFault.{ScriptFault}
use Rattle.text_lines.specs.declared.fault.ScriptFault.TheVariants.{At, Memory}
use Rattle.text_lines.specs.Readings.{Fault, Gives}
use Rattle.text_lines.specs.LineRows.{IsRowOf}
use Rattle.program_edge.specs.Rows.{Row, memory_row}
use Rattle.key_campaign.specs.declared.entries.LedgerEntry.{LedgerEntry}
use Rattle.ledger_backups.specs.declared.reader.BackupLine.{BackupLine}
use Rattle.ledger_backups.specs.declared.reader.BackupLine.TheVariants.{Entry, End}
use Rattle.ledger_backups.specs.Backups.{backup_lines_of, IsBackupOf, IsWholeBackup, AddsWhole, LacksBackup, bad_line}

-- the end stands at one place
same_split : (es some : List LedgerEntry) (rest : List BackupLine) (n m : ℕ) → map Entry es ++ End n ∷ rest ≡ map Entry some ++ End m ∷ []
    → (n ≡ m) × (rest ≡ []) × (length es ≡ length some)
same_split [] [] rest n m h = (cc h, cc h, refl)
same_split [] (x ∷ some) rest n m h = cc h
same_split (e ∷ es) [] rest n m h = cc h
same_split (e ∷ es) (x ∷ some) rest n m h =
    let others : map Entry es ++ End n ∷ rest ≡ map Entry some ++ End m ∷ [] = cc h in
    let same = same_split es some rest n m others in
    (same.0, same.1, omega (arith, same.2))

-- lines that are all entries have none
pub no_end : (es some : List LedgerEntry) (m : ℕ) → map Entry es ≡ map Entry some ++ End m ∷ [] → ⊥
no_end [] [] m h = cc h
no_end [] (x ∷ some) m h = cc h
no_end (e ∷ es) [] m h = cc h
no_end (e ∷ es) (x ∷ some) m h = let others : map Entry es ≡ map Entry some ++ End m ∷ [] = cc h in no_end es some m others

-- one list of lines is whole of one list of entries
same_entries : (es some : List LedgerEntry) (n m : ℕ) → map Entry es ++ End n ∷ [] ≡ map Entry some ++ End m ∷ [] → es ≡ some
same_entries [] [] n m h = refl
same_entries [] (x ∷ some) n m h = cc h
same_entries (e ∷ es) [] n m h = cc h
same_entries (e ∷ es) (x ∷ some) n m h =
    let here : e ≡ x = cc h in
    let others : map Entry es ++ End n ∷ [] ≡ map Entry some ++ End m ∷ [] = cc h in
    ap₂ (λ a b. a ∷ b) here (same_entries es some n m others)

pub one_meaning : (text : List ℕ) (entries others : List LedgerEntry) → IsBackupOf text entries → IsBackupOf text others → entries ≡ others
one_meaning text entries others (lines, read, whole) (again, reread, too) =
    let both : ◌≡◌ {A = Result (List BackupLine) Fault} (Ok lines) (Ok again) = sym read ∙ reread in
    let same : lines ≡ again = cc both in
    same_entries entries others (length entries) (length others) (sym whole ∙ same ∙ too)

-- the lines up to an end, before which all are entries
parts_at : (lines : List BackupLine) (entries : List LedgerEntry) (k count : ℕ) → k < length lines → map Entry entries ≡ take k lines
    → End count ≡ get_or lines k (End count) → lines ≡ map Entry entries ++ End count ∷ drop (k + 1) lines
parts_at lines entries k count inside so_far is =
    sym (take-append-drop k lines)
    ∙ ap₂ (λ front behind. front ++ behind) (sym so_far) (drop_more lines k (End count) inside ∙ ap (λ (l : BackupLine). l ∷ drop (k + 1) lines) (sym is))

count_at : (lines : List BackupLine) (entries : List LedgerEntry) (k : ℕ) → k < length lines → map Entry entries ≡ take k lines → length entries ≡ k
count_at lines entries k inside so_far =
    sym (length-map entries Entry) ∙ ap length so_far ∙ length-take-le k lines (omega (arith, inside))

-- so the backup is whole exactly if that end is the last line, and has their number
pub ends_whole : (lines : List BackupLine) (entries : List LedgerEntry) (k count : ℕ) → k < length lines → map Entry entries ≡ take k lines
    → End count ≡ get_or lines k (End count) → (whole : Bool) → whole ≡ (length entries + 1 == length lines && count == length entries)
    → AddsWhole lines entries whole
ends_whole lines entries k count inside so_far is true test =
    let both = and_parts (length entries + 1 == length lines) (count == length entries) (sym test) in
    let last : length entries + 1 ≡ length lines = (Decides-eqb (length entries + 1) (length lines)).0 both.0 in
    let number : count ≡ length entries = (Decides-eqb count (length entries)).0 both.1 in
    let many = count_at lines entries k inside so_far in
    parts_at lines entries k count inside so_far is
    ∙ ap₂ (λ n rest. map Entry entries ++ End n ∷ rest) number (drop_of_length-le lines (omega (arith, last, many)))
ends_whole lines entries k count inside so_far is false test = λ some whole.
    let same = same_split entries some (drop (k + 1) lines) count (length some) (sym (parts_at lines entries k count inside so_far is) ∙ whole) in
    let many = count_at lines entries k inside so_far in
    let left = length-drop (k + 1) lines in
    let none : length (drop (k + 1) lines) ≡ 0 = ap length same.1 in
    let last : (length entries + 1 == length lines) ≡ true = (Decides-eqb (length entries + 1) (length lines)).1 (omega (arith, many, left, none, inside)) in
    let number : (count == length entries) ≡ true = (Decides-eqb count (length entries)).1 (same.0 ∙ sym same.2) in
    true≢false (sym (ap₂ (λ a b. a && b) last number) ∙ sym test)

-- the two tests of an end
pub both_tests : (count number own given lines : ℕ) → own ≡ number → given ≡ count → own + 1 ≡ lines → (given == own) ≡ (number + 1 == lines && count == number)
both_tests count number own given lines len from is =
    let last : (number + 1 == lines) ≡ true = (Decides-eqb (number + 1) lines).1 (subst (λ n. n + 1 ≡ lines) len is) in
    ap₂ (λ a b. a == b) from len ∙ sym (ap (λ t. t && count == number) last)

pub first_test : (count number own lines : ℕ) → own ≡ number → (own + 1 ≡ lines → ⊥) → (own + 1 == lines) ≡ (number + 1 == lines && count == number)
first_test count number own lines len isnt =
    let not : (number + 1 == lines) ≡ false = elim (cases_Bool (number + 1 == lines)) [
      | inl it ↦ absurd (isnt (subst (λ n. n + 1 ≡ lines) (sym len) ((Decides-eqb (number + 1) lines).0 it)))
      | inr other ↦ other
    ] in
    ap (λ n. n + 1 == lines) len ∙ not ∙ sym (ap (λ t. t && count == number) not)

-- lines without an end are of no backup
pub none_whole : (lines : List BackupLine) (entries : List LedgerEntry) (k : ℕ) → length lines ≤ k → map Entry entries ≡ take k lines
    → (some : List LedgerEntry) → ¬ IsWholeBackup lines some
none_whole lines entries k all so_far some whole = no_end entries some (length some) (so_far ∙ take_all k lines all ∙ whole)

-- ---- a text that is refused

pub refused_lines : (text : List ℕ) (fault : ScriptFault) (row : Row) → Gives (backup_lines_of text) (Err fault) → IsRowOf fault row
    → LacksBackup text row ⊎ (row ≡ memory_row)
refused_lines text (At number cause) row gives (inl is) = inl (subst (LacksBackup text) (sym is) (bad_line (record { line = number; cause = cause }) gives))
refused_lines text (At number cause) row gives (inr memory) = inr memory
refused_lines text Memory row gives is = inr is
