-- What the words of a line mean as a command of a campaign (own; a UID, a slot, flags and keys are those of the SHE
-- specification)
use Rattle.std.specs.Prelude.{ℕ, List, Result, Ok}
use Rattle.std.specs.Option.{ok_or}
use Rattle.key_campaign.specs.declared.commands.LedgerCommand.{LedgerCommand}
use Rattle.key_campaign.specs.declared.commands.LedgerCommand.TheVariants as command
use Rattle.text_lines.specs.declared.fault.Cause.{Cause}
use Rattle.text_lines.specs.declared.fault.Cause.TheVariants as cause
use Rattle.secoc_words.specs.DiskForms.{torn_form, calls_form}
use Rattle.secoc_words.specs.Forms.{key_form, two_form}
use Rattle.secoc_words.specs.KeyForms.{engine_uid_form, slot_form, flags_form}
use Rattle.text_lines.specs.Readings.{Fault, ◌>>=◌, nth_word, field, with_count, read_all, most_lines}
use Rattle.campaign_commands.specs.declared.kinds.CommandKind.{CommandKind}
use Rattle.campaign_commands.specs.declared.kinds.CommandKind.TheVariants.{Issue, Confirm, Show, Cut, Stop, Fail}
use Rattle.campaign_commands.specs.CommandKinds.{command_kind_of, command_words}

-- `issue UID SLOT SLOT FLAGS KEY KEY`
unfoldable pub issue_of : List (List ℕ) → Result LedgerCommand Cause
issue_of words = do
  uid ← field 2 (engine_uid_form (nth_word words 2))
  id ← field 3 (slot_form (nth_word words 3))
  auth ← field 4 (slot_form (nth_word words 4))
  flags ← field 5 (flags_form (nth_word words 5))
  key ← field 6 (key_form (nth_word words 6))
  authkey ← field 7 (key_form (nth_word words 7))
  Ok (command.Issue (record { uid = uid; id = id; auth = auth; flags = flags; key = key; authkey = authkey }))

-- `confirm UID SLOT SLOT KEY M4 M5`
unfoldable pub ledger_confirm_of : List (List ℕ) → Result LedgerCommand Cause
ledger_confirm_of words = do
  uid ← field 2 (engine_uid_form (nth_word words 2))
  id ← field 3 (slot_form (nth_word words 3))
  auth ← field 4 (slot_form (nth_word words 4))
  key ← field 5 (key_form (nth_word words 5))
  m4 ← field 6 (two_form (nth_word words 6))
  m5 ← field 7 (key_form (nth_word words 7))
  Ok (command.Confirm (record { uid = uid; id = id; auth = auth; key = key; reply = record { m4 = m4; m5 = m5 } }))

-- `show UID SLOT`
unfoldable pub show_of : List (List ℕ) → Result LedgerCommand Cause
show_of words = do
  uid ← field 2 (engine_uid_form (nth_word words 2))
  id ← field 3 (slot_form (nth_word words 3))
  Ok (command.Show uid id)

-- `cut TORN`
unfoldable pub ledger_cut_of : List (List ℕ) → Result LedgerCommand Cause
ledger_cut_of words = do
  torn ← field 2 (torn_form (nth_word words 2))
  Ok (command.Cut torn)

-- `stop CALLS`
unfoldable pub ledger_stop_of : List (List ℕ) → Result LedgerCommand Cause
ledger_stop_of words = do
  calls ← field 2 (calls_form (nth_word words 2))
  Ok (command.Stop calls)

-- `fail CALLS`
unfoldable pub ledger_fail_of : List (List ℕ) → Result LedgerCommand Cause
ledger_fail_of words = do
  calls ← field 2 (calls_form (nth_word words 2))
  Ok (command.Fail calls)

-- the command of a kind that words mean
abbrev pub command_fields : CommandKind → List (List ℕ) → Result LedgerCommand Cause
command_fields Issue = issue_of
command_fields Confirm = ledger_confirm_of
command_fields Show = show_of
command_fields Cut = ledger_cut_of
command_fields Stop = ledger_stop_of
command_fields Fail = ledger_fail_of

-- the command that the words of a line mean: the first word names the kind
unfoldable pub ledger_command_of : List (List ℕ) → Result LedgerCommand Cause
ledger_command_of words = do
  kind ← ok_or (command_kind_of (nth_word words 1)) cause.Event
  with_count (command_words kind) words (command_fields kind words)

-- the commands of a script, or its first fault
unfoldable pub campaign_of : List ℕ → Result (List LedgerCommand) Fault
campaign_of text = read_all (λ _ words. ledger_command_of words) most_lines text
