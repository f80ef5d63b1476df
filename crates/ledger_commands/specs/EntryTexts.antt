-- The lines of a ledger's entries (own; a UID, a slot and a counter are those of the SHE specification)
use Rattle.std.specs.Prelude.{ℕ, if◌then◌else◌, Option, None, Some, List, [], ◌∷◌, ◌++◌, length, codes, option_map}
use Rattle.std.specs.Fmt.{decimal}
use Rattle.std.specs.List.{flat_map}
use Rattle.hex.specs.Hex.{encode_lower}
use Rattle.text_lines.specs.Written.{written}
use Rattle.key_campaign.specs.declared.entries.LedgerEntry.{LedgerEntry}
use Rattle.key_campaign.specs.declared.lines.LedgerLine.TheVariants.{Shown}
use Rattle.key_campaign.specs.Entries.{entry_for}
use Rattle.key_campaign.specs.Steps.{told_entry}
use Rattle.campaign_commands.specs.LedgerTexts.{state_word, ledger_words}

-- `UID SLOT COUNTER STATE`: 30 hexadecimal digits in lower case, two numbers, `issued` or `confirmed`
abbrev pub entry_words : LedgerEntry → List (List ℕ)
entry_words e = encode_lower e.uid ∷ decimal e.id ∷ decimal e.counter ∷ state_word e.confirmed ∷ []

-- the line of what stands at a place; none of an empty one
abbrev pub place_line : Option LedgerEntry → List ℕ
place_line None = []
place_line (Some e) = written (entry_words e)

-- the same, if no reply confirmed it
abbrev pub open_line : Option LedgerEntry → List ℕ
open_line None = []
open_line (Some e) = if e.confirmed then [] else written (entry_words e)

-- a line an entry, in the order of the places
abbrev pub entry_lines : List (Option LedgerEntry) → List ℕ
entry_lines places = flat_map place_line places

abbrev pub open_lines : List (Option LedgerEntry) → List ℕ
open_lines places = flat_map open_line places

-- the entries of places, in their order
abbrev pub held_at : Option LedgerEntry → List LedgerEntry
held_at None = []
held_at (Some e) = e ∷ []

abbrev pub held_entries : List (Option LedgerEntry) → List LedgerEntry
held_entries places = flat_map held_at places

-- a backup: a line an entry, and at the end `end N` with their number, so that a part of it is no backup
abbrev pub backup_text : List (Option LedgerEntry) → List ℕ
backup_text places = entry_lines places ++ written (codes "end" ∷ decimal (length (held_entries places)) ∷ [])

-- what is said of one entry: the line of `campaign`'s `show` without its number
abbrev pub shown_text : List ℕ → ℕ → List (Option LedgerEntry) → List ℕ
shown_text uid id places = written (ledger_words (Shown (option_map told_entry (entry_for uid id places))))
