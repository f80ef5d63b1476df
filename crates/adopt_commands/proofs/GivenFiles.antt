-- What the rows of a file say that gives no entries, and what a file doesn't have that gives some
use Rattle.std.proofs.Common.{◌≡◌, ◌⊎◌, ◌∙◌, ℕ, List, [], ◌∷◌, Result, Ok, Err, refl, sym, subst, inl, inr, arith}
use Rattle.std.specs.Prelude.{All, Any, IfErr, codes}
use Rattle.std.proofs.lemmas.List.Elements.{All-head}
use Rattle.std.proofs.lemmas.List.Quantifiers.{Any-push}
use Rattle.text_lines.specs.Readings.{Fault}
use Rattle.program_edge.specs.declared.input.InputFault.TheVariants as input
use Rattle.program_edge.specs.Rows.{Row, memory_row}
use Rattle.program_edge.specs.Inputs.{Reading, ReadsWhole, SourceFailed, CountsFault, GivesTooMuch, CountsTooMuch}
use Rattle.program_edge.proofs.CallerLemmas.{Lacks-whole, CountsFault-is, CountsTooMuch-is, Offers-is, Offers-whole}
use Rattle.key_campaign.specs.declared.entries.LedgerEntry.{LedgerEntry}
use Rattle.ledger_commands.specs.LedgerReads.{HasNoLedger, OffersLedger, OffersNone}
use Rattle.ledger_commands.proofs.CallerLemmas.{lacks_5, lacks_7, lacks_8, lacks_9, lacks_fault, lacks_long, lacks_offered, lacks_status}
use Rattle.ledger_commands.proofs.CallerLemmas.{read_no_fault, read_not_long, read_not_none}
use Rattle.ledger_backups.specs.declared.reader.BackupLine.{BackupLine}
use Rattle.ledger_backups.specs.Backups.{backup_lines_of, IsBackupOf, LacksBackup, bad_line, not_whole}
use Rattle.adopt_commands.specs.declared.tasks.AdoptTask.{AdoptTask}
use Rattle.adopt_commands.specs.declared.tasks.AdoptTask.TheVariants as adopt
use Rattle.adopt_commands.specs.declared.tasks.EntryFile.{EntryFile}
use Rattle.adopt_commands.specs.declared.tasks.EntryFile.TheVariants.{Backup, Ledger}
use Rattle.adopt_commands.specs.AdoptRows.{GivesOfFile, LacksBackupFile, LacksOfFile, GivesEntries, no_backup_there, backup_unkept}
use Rattle.adopt_commands.specs.AdoptRuns.{HasNoBackup, OffersNoBackup, OffersBackup, OffersEntries}

-- ---- of one file, or of none

pub any_none : (P : Reading → Type 0) → Any P [] → ⊥
any_none P (k, x, inside, at, holds) = omega (arith, inside)

pub any_one : (P : Reading → Type 0) (r : Reading) → Any P (r ∷ []) → P r
any_one P r any = grind arith

pub one_has : (P : Reading → Type 0) (files : List Reading) (r : Reading) → files ≡ r ∷ [] → P r → Any P files
one_has P files r is holds = subst (Any P) (sym is) (Any-push P [] r holds)

-- ---- a text is a backup, or it isn't

lines_clash : (o : Result (List BackupLine) Fault) (lines : List BackupLine) (fault : Fault) → o ≡ Ok lines → o ≡ Err fault → ⊥
lines_clash o lines fault ok err = absurd (cc)

same_lines : (o : Result (List BackupLine) Fault) (lines others : List BackupLine) → o ≡ Ok lines → o ≡ Ok others → lines ≡ others
same_lines o lines others ok also = let both : ◌≡◌ {A = Result (List BackupLine) Fault} (Ok lines) (Ok others) = sym ok ∙ also in cc both

pub backup_or_none : (text : List ℕ) (entries : List LedgerEntry) (row : Row) → IsBackupOf text entries → LacksBackup text row → ⊥
backup_or_none text entries row (lines, read, whole) (bad_line fault err) = lines_clash (backup_lines_of text) lines fault read err
backup_or_none text entries row (lines, read, whole) (not_whole others reread none) =
    none entries (sym (same_lines (backup_lines_of text) lines others read reread) ∙ whole)

backup_4 : (text : List ℕ) (row : Row) → LacksBackup text row → row.status ≡ 4
backup_4 text row (bad_line fault err) = refl
backup_4 text row (not_whole lines read none) = refl

-- ---- a file that is no backup

file_status : (r : Reading) (row : Row) → LacksBackupFile r row → (row.status ≡ 4) ⊎ (row.status ≡ 5) ⊎ (row.status ≡ 7) ⊎ (row.status ≡ 8)
file_status r row comes = grind (arith, backup_4)

whole_calm : (r : Reading) (x : List ℕ) → ReadsWhole r x → CountsFault r → ⊥
whole_calm r x whole counts = (let same = whole.no_fault in omega (arith, counts, same))

whole_short : (r : Reading) (x : List ℕ) → ReadsWhole r x → CountsTooMuch r → ⊥
whole_short r x whole counts = let clash : input.Memory ≡ input.TooLong = CountsTooMuch-is r input.Memory counts (Lacks-whole r x whole) in cc

backup_fault : (r : Reading) (row : Row) → LacksBackupFile r row → CountsFault r → row.status ≡ 5
backup_fault r row comes counts = grind (arith, CountsFault-is, whole_calm)

backup_long : (r : Reading) (row : Row) → LacksBackupFile r row → CountsTooMuch r → row.status ≡ 8
backup_long r row comes counts = grind (arith, CountsTooMuch-is, whole_short)

pub backup_none : (r : Reading) (row : Row) → LacksBackupFile r row → OffersNoBackup r → (row.status ≡ 4) ⊎ (row.status ≡ 7)
backup_none r row comes offers = grind (arith, Offers-is, backup_4)

backup_offered : (r : Reading) (row : Row) → LacksBackupFile r row → OffersBackup r → row.status ≡ 7
backup_offered r row comes offers = grind (arith, Offers-is, backup_or_none, Offers-whole)

backup_at_4 : (r : Reading) (row : Row) → LacksBackupFile r row → row.status ≡ 4 → HasNoBackup row r
backup_at_4 r row comes is = grind arith

backup_at_5 : (r : Reading) (row : Row) → LacksBackupFile r row → row.status ≡ 5 → SourceFailed r × (row.text ≡ codes "read fault\n")
backup_at_5 r row comes is = grind (arith, backup_4)

backup_at_7 : (r : Reading) (row : Row) → LacksBackupFile r row → row.status ≡ 7 → row.text ≡ []
backup_at_7 r row comes is = grind (arith, backup_4)

backup_at_8 : (r : Reading) (row : Row) → LacksBackupFile r row → row.status ≡ 8 → GivesTooMuch r × (row.text ≡ codes "input too long\n")
backup_at_8 r row comes is = grind (arith, backup_4)

-- a file that was read whole, and what was made of its text
pub of_text : {A : Type 0} (r : Reading) (text : List ℕ) (result : Result A Row) → ReadsWhole r text → IfErr result (λ row. LacksBackup text row ⊎ (row ≡ memory_row))
    → IfErr result (LacksBackupFile r)
of_text r text (Ok v) whole is = tt
of_text r text (Err row) whole (inl lacks) = no_backup_there text row whole lacks
of_text r text (Err row) whole (inr memory) = subst (LacksBackupFile r) (sym memory) (backup_unkept text whole)

-- ---- a file of either kind that gives none

abbrev pub IsFileStatus : ℕ → Type 0
IsFileStatus n = (n ≡ 4) ⊎ (n ≡ 5) ⊎ (n ≡ 7) ⊎ (n ≡ 8) ⊎ (n ≡ 9)

of_backup_status : (n : ℕ) → (n ≡ 4) ⊎ (n ≡ 5) ⊎ (n ≡ 7) ⊎ (n ≡ 8) → IsFileStatus n
of_backup_status n n_1 = grind arith

pub of_file_status : (kind : EntryFile) (r : Reading) (row : Row) → LacksOfFile kind r row → IsFileStatus row.status
of_file_status Backup r row lacks = of_backup_status row.status (file_status r row lacks)
of_file_status Ledger r row lacks = inr (lacks_status r row lacks)

pub of_file_4 : (kind : EntryFile) (r : Reading) (row : Row) → LacksOfFile kind r row → row.status ≡ 4 → HasNoBackup row r
of_file_4 kind r row lacks is = grind (arith, backup_at_4, lacks_status)

pub of_file_5 : (kind : EntryFile) (r : Reading) (row : Row) → LacksOfFile kind r row → row.status ≡ 5 → SourceFailed r × (row.text ≡ codes "read fault\n")
of_file_5 Backup r row lacks is = backup_at_5 r row lacks is
of_file_5 Ledger r row lacks is = lacks_5 r row lacks is

pub of_file_7 : (kind : EntryFile) (r : Reading) (row : Row) → LacksOfFile kind r row → row.status ≡ 7 → row.text ≡ []
of_file_7 Backup r row lacks is = backup_at_7 r row lacks is
of_file_7 Ledger r row lacks is = lacks_7 r row lacks is

pub of_file_8 : (kind : EntryFile) (r : Reading) (row : Row) → LacksOfFile kind r row → row.status ≡ 8 → GivesTooMuch r × (row.text ≡ codes "input too long\n")
of_file_8 Backup r row lacks is = backup_at_8 r row lacks is
of_file_8 Ledger r row lacks is = lacks_8 r row lacks is

pub of_file_9 : (kind : EntryFile) (r : Reading) (row : Row) → LacksOfFile kind r row → row.status ≡ 9 → HasNoLedger row r
of_file_9 kind r row lacks is = grind (arith, file_status, lacks_9)

pub of_file_fault : (kind : EntryFile) (r : Reading) (row : Row) → LacksOfFile kind r row → CountsFault r → row.status ≡ 5
of_file_fault Backup r row lacks counts = backup_fault r row lacks counts
of_file_fault Ledger r row lacks counts = lacks_fault r row lacks counts

pub of_file_long : (kind : EntryFile) (r : Reading) (row : Row) → LacksOfFile kind r row → CountsTooMuch r → row.status ≡ 8
of_file_long Backup r row lacks counts = backup_long r row lacks counts
of_file_long Ledger r row lacks counts = lacks_long r row lacks counts

pub of_file_offered : (kind : EntryFile) (files : List Reading) (r : Reading) (row : Row) → LacksOfFile kind r row → files ≡ r ∷ []
    → OffersEntries (adopt.All kind) files → row.status ≡ 7
of_file_offered Backup files r row lacks is offers = backup_offered r row lacks (All-head OffersBackup r [] (subst (All OffersBackup) is offers))
of_file_offered Ledger files r row lacks is offers = lacks_offered r row lacks (All-head OffersLedger r [] (subst (All OffersLedger) is offers))

-- ---- a file that gives entries

given_calm : (kind : EntryFile) (r : Reading) (entries : List LedgerEntry) → GivesOfFile kind r entries → CountsFault r → ⊥
given_calm Backup r entries (text, whole, is) counts = whole_calm r text whole counts
given_calm Ledger r entries (places, reads, is) counts = read_no_fault r places reads counts

given_short : (kind : EntryFile) (r : Reading) (entries : List LedgerEntry) → GivesOfFile kind r entries → CountsTooMuch r → ⊥
given_short Backup r entries (text, whole, is) counts = whole_short r text whole counts
given_short Ledger r entries (places, reads, is) counts = read_not_long r places reads counts

given_none : (P : Reading → Type 0) → ((kind : EntryFile) (r : Reading) (entries : List LedgerEntry) → GivesOfFile kind r entries → P r → ⊥)
    → (asked : AdoptTask) (files : List Reading) (entries : List LedgerEntry) → GivesEntries asked files entries → Any P files → ⊥
given_none P never (adopt.One entry) files entries (none, is) any = any_none P (subst (Any P) none any)
given_none P never (adopt.All kind) files entries (r, one, gives) any = never kind r entries gives (any_one P r (subst (Any P) one any))

pub given_no_fault : (asked : AdoptTask) (files : List Reading) (entries : List LedgerEntry) → GivesEntries asked files entries → Any CountsFault files → ⊥
given_no_fault = given_none CountsFault given_calm

pub given_not_long : (asked : AdoptTask) (files : List Reading) (entries : List LedgerEntry) → GivesEntries asked files entries → Any CountsTooMuch files → ⊥
given_not_long = given_none CountsTooMuch given_short

pub given_backup : (files : List Reading) (entries : List LedgerEntry) → GivesEntries (adopt.All Backup) files entries → Any OffersNoBackup files → ⊥
given_backup files entries (r, one, (text, whole, is)) any =
    let (told, row, offers, lacks) = any_one OffersNoBackup r (subst (Any OffersNoBackup) one any) in
    backup_or_none text entries row is (subst (λ t. LacksBackup t row) (sym (Offers-whole r told text offers whole)) lacks)

pub given_ledger : (files : List Reading) (entries : List LedgerEntry) → GivesEntries (adopt.All Ledger) files entries → Any OffersNone files → ⊥
given_ledger files entries (r, one, (places, reads, is)) any = read_not_none r places reads (any_one OffersNone r (subst (Any OffersNone) one any))
