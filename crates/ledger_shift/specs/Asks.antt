-- What a line of a shift's script asks (own; a UID, a slot, a counter, flags and keys are those of the SHE
-- specification)
use Rattle.std.specs.Prelude.{ℕ, List, Option, None, Some, Result, Ok, Err, codes, if◌then◌else◌}
use Rattle.std.specs.Str.{bytes_eq, is_utf8}
use Rattle.key_campaign.specs.declared.commands.LedgerCommand.{LedgerCommand}
use Rattle.key_campaign.specs.declared.commands.LedgerCommand.TheVariants as command
use Rattle.text_lines.specs.declared.fault.Cause.{Cause}
use Rattle.text_lines.specs.declared.fault.Cause.TheVariants as cause
use Rattle.text_lines.specs.Lines.{is_skipped}
use Rattle.text_lines.specs.Readings.{◌>>=◌, nth_word, field, with_count}
use Rattle.secoc_words.specs.KeyForms.{engine_uid_form, slot_form, counter_form}
use Rattle.campaign_commands.specs.CommandForms.{ledger_command_of}
use Rattle.ledger_rows.specs.declared.lists.ListKind.{ListKind}
use Rattle.ledger_rows.specs.declared.lists.ListKind.TheVariants.{History, Open}
use Rattle.ledger_rows.specs.declared.remarks.RemarkKind.{RemarkKind}
use Rattle.ledger_rows.specs.declared.remarks.RemarkKind.TheVariants.{Raise, Fail}
use Rattle.ledger_rows.specs.Rows.{RowOrigin}
use Rattle.ledger_tables.specs.Adding.{origin_by}
use Rattle.ledger_shift.specs.declared.line.ShiftLine.{ShiftLine}
use Rattle.ledger_shift.specs.declared.line.ShiftLine.TheVariants as ask

-- a word in UTF-8
unfoldable pub text_form : List ℕ → Option (List ℕ)
text_form word = if is_utf8 word then Some word else None

-- `by STATION OPERATOR TIME`
unfoldable pub origin_form : List (List ℕ) → Result RowOrigin Cause
origin_form words = do
  station ← field 2 (text_form (nth_word words 2))
  operator ← field 3 (text_form (nth_word words 3))
  time ← field 4 (text_form (nth_word words 4))
  Ok (origin_by station operator time)

abbrev pub entered_by : RowOrigin → Result ShiftLine Cause
entered_by origin = Ok (ask.By origin)

-- `raise UID SLOT COUNTER`, `fail UID SLOT COUNTER`
abbrev pub remark_kind_of : List ℕ → Option RemarkKind
remark_kind_of word =
    if bytes_eq word (codes "raise") then Some Raise else (if bytes_eq word (codes "fail") then Some Fail else None)

unfoldable pub remark_form : RemarkKind → List (List ℕ) → Result ShiftLine Cause
remark_form kind words = do
  uid ← field 2 (engine_uid_form (nth_word words 2))
  id ← field 3 (slot_form (nth_word words 3))
  counter ← field 4 (counter_form (nth_word words 4))
  Ok (ask.Remark (record { uid = uid; id = id; counter = counter; kind = kind }))

-- `history UID SLOT`, `open UID SLOT`
abbrev pub list_kind_of : List ℕ → Option ListKind
list_kind_of word =
    if bytes_eq word (codes "history") then Some History else (if bytes_eq word (codes "open") then Some Open else None)

unfoldable pub list_form : ListKind → List (List ℕ) → Result ShiftLine Cause
list_form kind words = do
  uid ← field 2 (engine_uid_form (nth_word words 2))
  id ← field 3 (slot_form (nth_word words 3))
  Ok (ask.List kind uid id)

-- of campaign's commands those that aren't of a disk
abbrev pub asked_by_command : LedgerCommand → Result ShiftLine Cause
asked_by_command (command.Issue i) = Ok (ask.Issue i)
asked_by_command (command.Confirm k) = Ok (ask.Confirm k)
asked_by_command (command.Show uid id) = Ok (ask.Show uid id)
asked_by_command (command.Cut torn) = Err cause.Event
asked_by_command (command.Stop calls) = Err cause.Event
asked_by_command (command.Fail calls) = Err cause.Event

-- what is asked by the words of a command
abbrev pub command_asked : List (List ℕ) → Result ShiftLine Cause
command_asked words = ledger_command_of words >>= asked_by_command

-- what the words of a line ask, by the list that its first word names
abbrev pub asked_by_list : Option ListKind → List (List ℕ) → Result ShiftLine Cause
asked_by_list (Some kind) words = with_count 3 words (list_form kind words)
asked_by_list None words = command_asked words

-- what the words of a line ask, by the remark that its first word names
abbrev pub asked_by_words : Option RemarkKind → List (List ℕ) → Result ShiftLine Cause
asked_by_words (Some kind) words = with_count 4 words (remark_form kind words)
asked_by_words None words = asked_by_list (list_kind_of (nth_word words 1)) words

-- what the words of a line ask
unfoldable pub shift_line_of : List (List ℕ) → Result ShiftLine Cause
shift_line_of words =
    if is_skipped words then Ok ask.Skipped
    else (if bytes_eq (nth_word words 1) (codes "by") then (with_count 4 words (origin_form words) >>= entered_by)
    else asked_by_words (remark_kind_of (nth_word words 1)) words)
