-- The printed texts of what came of commands: the number of the line and words, one space between each two, and a line
-- feed at the end (own)
use Rattle.std.specs.Prelude.{ℕ, Bool, true, false, None, Some, List, [], ◌∷◌, codes}
use Rattle.std.specs.Fmt.{decimal}
use Rattle.std.specs.List.{flat_map}
use Rattle.hex.specs.Hex.{encode_lower}
use Rattle.text_lines.specs.Written.{written}
use Rattle.key_campaign.specs.declared.lines.LedgerLine.{LedgerLine}
use Rattle.key_campaign.specs.declared.lines.LedgerLine.TheVariants as line
use Rattle.key_campaign.specs.declared.lines.LedgerRefusal.{LedgerRefusal}
use Rattle.key_campaign.specs.declared.lines.LedgerRefusal.TheVariants as refusal

-- the words of a refusal; numbers are decimal
abbrev pub ledger_refusal_words : LedgerRefusal → List (List ℕ)
ledger_refusal_words refusal.Down = codes "Down" ∷ []
ledger_refusal_words refusal.BadPair = codes "BadPair" ∷ []
ledger_refusal_words refusal.Full = codes "Full" ∷ []
ledger_refusal_words refusal.Spent = codes "Spent" ∷ []
ledger_refusal_words refusal.Unknown = codes "Unknown" ∷ []
ledger_refusal_words refusal.AlreadyConfirmed = codes "AlreadyConfirmed" ∷ []
ledger_refusal_words refusal.NotConfirmed = codes "NotConfirmed" ∷ []
ledger_refusal_words refusal.MemoryFailure = codes "MEMORY_FAILURE" ∷ []
ledger_refusal_words refusal.NotFormatted = codes "NotFormatted" ∷ []
ledger_refusal_words (refusal.Damaged cell) = codes "Damaged" ∷ decimal cell ∷ []
ledger_refusal_words (refusal.BadEntry cell) = codes "BadEntry" ∷ decimal cell ∷ []

-- an entry's state
abbrev pub state_word : Bool → List ℕ
state_word true = codes "confirmed"
state_word false = codes "issued"

-- the words of a line after its number: M1, M2 and M3 have two digits a byte, in lower case
abbrev pub ledger_words : LedgerLine → List (List ℕ)
ledger_words (line.Issued counter request) =
    codes "issued" ∷ decimal counter ∷ encode_lower request.m1 ∷ flat_map encode_lower request.m2
    ∷ encode_lower request.m3 ∷ []
ledger_words (line.Confirmed counter) = codes "confirmed" ∷ decimal counter ∷ []
ledger_words (line.Shown None) = codes "none" ∷ []
ledger_words (line.Shown (Some (counter, confirmed))) = state_word confirmed ∷ decimal counter ∷ []
ledger_words line.Up = codes "up" ∷ []
ledger_words line.Armed = codes "armed" ∷ []
ledger_words (line.Refused why) = codes "refused" ∷ ledger_refusal_words why

-- the text of the line with this number
abbrev pub ledger_line_text : ℕ → LedgerLine → List ℕ
ledger_line_text number told = written (decimal number ∷ ledger_words told)
