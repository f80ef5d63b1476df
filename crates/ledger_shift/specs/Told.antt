-- What a command of a shift is answered, as a line (own)
use Rattle.std.specs.Prelude.{ℕ, Bool, true, false, List, [], ◌∷◌, ◌++◌, length, codes}
use Rattle.std.specs.List.{flat_map}
use Rattle.std.specs.Fmt.{decimal}
use Rattle.hex.specs.Hex.{encode_lower}
use Rattle.text_lines.specs.Written.{written}
use Rattle.key_campaign.specs.declared.lines.LedgerLine.TheVariants as line
use Rattle.campaign_commands.specs.LedgerTexts.{ledger_line_text}
use Rattle.ledger_rows.specs.declared.kinds.SlotRow.{SlotRow}
use Rattle.ledger_rows.specs.declared.remarks.RemarkRefusal.{RemarkRefusal}
use Rattle.ledger_rows.specs.declared.remarks.RemarkRefusal.TheVariants as unsaid
use Rattle.ledger_rows.specs.Kinds.{row_word}
use Rattle.ledger_rows.specs.Steps.{remarked_kind}
use Rattle.ledger_shift.specs.declared.told.ShiftTold.{ShiftTold}
use Rattle.ledger_shift.specs.declared.told.ShiftTold.TheVariants as told

-- it tells that nothing was done
abbrev pub tells_refusal : ShiftTold → Bool
tells_refusal (told.Issued counter request) = false
tells_refusal (told.Confirmed counter) = false
tells_refusal (told.Shown it) = false
tells_refusal (told.Refused why) = true
tells_refusal (told.Remarked kind counter) = false
tells_refusal (told.Unremarked why) = true
tells_refusal (told.Listed rows) = false

abbrev pub remark_refusal_words : RemarkRefusal → List (List ℕ)
remark_refusal_words (unsaid.Behind last) = codes "Behind" ∷ decimal last ∷ []
remark_refusal_words unsaid.Unknown = codes "Unknown" ∷ []
remark_refusal_words unsaid.AlreadyConfirmed = codes "AlreadyConfirmed" ∷ []

-- a row that is listed: what was done, its counter, and the check value in two digits a byte
abbrev pub row_line : ℕ → SlotRow → List ℕ
row_line number row = written (decimal number ∷ row_word row.kind ∷ decimal row.counter ∷ encode_lower row.check ∷ [])

-- the rows, and how many they are
abbrev pub row_list_text : ℕ → List SlotRow → List ℕ
row_list_text number rows =
    flat_map (row_line number) rows ++ written (decimal number ∷ codes "end" ∷ decimal (length rows) ∷ [])

-- the text of the answer to the line with this number
abbrev pub shift_answer_text : ℕ → ShiftTold → List ℕ
shift_answer_text number (told.Issued counter request) = ledger_line_text number (line.Issued counter request)
shift_answer_text number (told.Confirmed counter) = ledger_line_text number (line.Confirmed counter)
shift_answer_text number (told.Shown it) = ledger_line_text number (line.Shown it)
shift_answer_text number (told.Refused why) = ledger_line_text number (line.Refused why)
shift_answer_text number (told.Remarked kind counter) =
    written (decimal number ∷ row_word (remarked_kind kind) ∷ decimal counter ∷ [])
shift_answer_text number (told.Unremarked why) = written (decimal number ∷ codes "refused" ∷ remark_refusal_words why)
shift_answer_text number (told.Listed rows) = row_list_text number rows.items
