-- What is read is a command that a script can have
use Rattle.std.proofs.Common.{◌≡◌, ℕ, suc, ◌<◌, ◌≤◌, ◌∷◌, true, false, cond, List, [], length, All, Option, None, Some, Result, Ok, Err, refl, sym, ap, ◌∙◌, subst, inl, inr, arith}
use Rattle.std.specs.Prelude.{◌==◌, Vec, IfOk, replicate}
use Rattle.std.specs.Option.{ok_or, option_and_then}
use Rattle.std.specs.Result.{result_ok}
use Rattle.std.specs.Str.{bytes_eq}
use Rattle.std.specs.declared.alloc.Global.{Global}
use Rattle.std.proofs.lemmas.List.Elements.{All-nil, All-cons}
use Rattle.std.proofs.lemmas.Slice.Eq.{bytes_eq-Decides}
use Rattle.std.proofs.lemmas.Bool.{cases_Bool}
use Rattle.text_lines.specs.declared.fault.Cause.TheVariants as cause
use Rattle.text_lines.specs.declared.fault.ScriptFault.{ScriptFault}
use Rattle.secoc_words.specs.Forms.{key_form, two_form}
use Rattle.text_lines.specs.Readings.{most_lines, nth_word, field, Gives}
use Rattle.secoc_words.specs.DiskForms.{torn_form, calls_form}
use Rattle.secoc_words.specs.KeyForms.{uid_form, unless_zero, engine_uid_form, slot_form, flags_form}
use Rattle.text_lines.specs.Lines.{lines_of}
use Rattle.text_lines.proofs.CallerLemmas.{number_in_range, bind_ok, ok_some, field_ok, counted_ok, All-read_from, values_given}
use Rattle.hex.specs.Hex as hex
use Rattle.hex.specs.Hex.{decode_sized}
use Rattle.hex.proofs.HexLemmas.{decode_of-ok, decode_sized-ok, decode_sized-twice}
use Rattle.memory_update.specs.Identifier.{IsUid}
use Rattle.key_campaign.specs.declared.commands.LedgerCommand.{LedgerCommand}
use Rattle.key_campaign.specs.declared.commands.LedgerCommand.TheVariants as command
use Rattle.key_campaign.specs.Entries.{IsUnit}
use Rattle.campaign_commands.specs.declared.kinds.CommandKind.{CommandKind}
use Rattle.campaign_commands.specs.declared.kinds.CommandKind.TheVariants.{Issue, Confirm, Show, Cut, Stop, Fail}
use Rattle.campaign_commands.specs.CommandKinds.{command_kind_of, command_words}
use Rattle.campaign_commands.specs.CommandForms.{issue_of, ledger_confirm_of, show_of, ledger_cut_of, ledger_stop_of, ledger_fail_of, command_fields, ledger_command_of, campaign_of}
use Rattle.campaign_commands.specs.ScriptCommands.{IsScriptCommand}

-- ---- the words

-- bytes, read at any place, are bytes
each_byte : (bytes : List ℕ) → hex.IsBytes bytes → All (λ b. b < 256) bytes
each_byte [] h = All-nil (λ b. b < 256)
each_byte (b ∷ bytes) h = All-cons (λ b. b < 256) b bytes (h 0) (each_byte bytes (λ i. h (suc i)))

-- what decodes to 15 bytes is an identifier
decodes_to_uid : (word bytes : List ℕ) → result_ok (decode_sized word 15) ≡ Some bytes → IsUid bytes
decodes_to_uid word bytes h =
    let is = ok_some (decode_sized word 15) bytes h in
    let len = decode_sized-ok word 15 bytes is in
    let ok = decode_of-ok word bytes (sym (decode_sized-twice word 15 len) ∙ is) in
    let twice = ok.2 in
    record { size = omega arith; bytes = each_byte bytes ok.3 }

-- an identifier that isn't zero
some_unit : (o : Option (List ℕ)) (uid : List ℕ) → ((u : List ℕ) → o ≡ Some u → IsUid u) → option_and_then unless_zero o ≡ Some uid → IsUnit uid
some_unit None uid bytes h = cc h
some_unit (Some u) uid bytes h = elim (cases_Bool (bytes_eq u (replicate 15 0))) [
  | inl zero ↦ absurd (let no : None ≡ Some uid = sym (ap (λ b. cond b None (Some u)) zero) ∙ h in cc)
  | inr not ↦
      let same : u ≡ uid = let some : Some u ≡ Some uid = sym (ap (λ b. cond b None (Some u)) not) ∙ h in cc in
      subst IsUnit same (
        bytes u refl,
        λ is. let yes = (bytes_eq-Decides u (replicate 15 0)).1 is in
            let no : true ≡ false = sym yes ∙ not in cc,
      )
]

unit_of : (word uid : List ℕ) → engine_uid_form word ≡ Some uid → IsUnit uid
unfolding engine_uid_form uid_form
unit_of word uid h = some_unit (result_ok (decode_sized word 15)) uid (λ u is. decodes_to_uid word u is) h

-- ---- the commands

issue_of-value : (words : List (List ℕ)) (cmd : LedgerCommand) → issue_of words ≡ Ok cmd → IsScriptCommand cmd
unfolding issue_of
issue_of-value words cmd h =
    let uid = bind_ok (field 2 (engine_uid_form (nth_word words 2))) _ cmd h in
    let id = bind_ok (field 3 (slot_form (nth_word words 3))) _ cmd uid.2 in
    let auth = bind_ok (field 4 (slot_form (nth_word words 4))) _ cmd id.2 in
    let flags = bind_ok (field 5 (flags_form (nth_word words 5))) _ cmd auth.2 in
    let key = bind_ok (field 6 (key_form (nth_word words 6))) _ cmd flags.2 in
    let authkey = bind_ok (field 7 (key_form (nth_word words 7))) _ cmd key.2 in
    let same : command.Issue (record { uid = uid.0; id = id.0; auth = auth.0; flags = flags.0; key = key.0; authkey = authkey.0 }) ≡ cmd = cc authkey.2 in
    subst IsScriptCommand same (unit_of (nth_word words 2) uid.0 (field_ok 2 (engine_uid_form (nth_word words 2)) uid.0 uid.1))

ledger_confirm_of-value : (words : List (List ℕ)) (cmd : LedgerCommand) → ledger_confirm_of words ≡ Ok cmd → IsScriptCommand cmd
unfolding ledger_confirm_of
ledger_confirm_of-value words cmd h =
    let uid = bind_ok (field 2 (engine_uid_form (nth_word words 2))) _ cmd h in
    let id = bind_ok (field 3 (slot_form (nth_word words 3))) _ cmd uid.2 in
    let auth = bind_ok (field 4 (slot_form (nth_word words 4))) _ cmd id.2 in
    let key = bind_ok (field 5 (key_form (nth_word words 5))) _ cmd auth.2 in
    let m4 = bind_ok (field 6 (two_form (nth_word words 6))) _ cmd key.2 in
    let m5 = bind_ok (field 7 (key_form (nth_word words 7))) _ cmd m4.2 in
    let same : command.Confirm (record { uid = uid.0; id = id.0; auth = auth.0; key = key.0; reply = record { m4 = m4.0; m5 = m5.0 } }) ≡ cmd = cc m5.2 in
    subst IsScriptCommand same tt

show_of-value : (words : List (List ℕ)) (cmd : LedgerCommand) → show_of words ≡ Ok cmd → IsScriptCommand cmd
unfolding show_of
show_of-value words cmd h =
    let uid = bind_ok (field 2 (engine_uid_form (nth_word words 2))) _ cmd h in
    let id = bind_ok (field 3 (slot_form (nth_word words 3))) _ cmd uid.2 in
    let same : command.Show uid.0 id.0 ≡ cmd = cc id.2 in
    subst IsScriptCommand same tt

ledger_cut_of-value : (words : List (List ℕ)) (cmd : LedgerCommand) → ledger_cut_of words ≡ Ok cmd → IsScriptCommand cmd
unfolding ledger_cut_of
ledger_cut_of-value words cmd h =
    let torn = bind_ok (field 2 (torn_form (nth_word words 2))) _ cmd h in
    let same : command.Cut torn.0 ≡ cmd = cc torn.2 in
    subst IsScriptCommand same tt

ledger_stop_of-value : (words : List (List ℕ)) (cmd : LedgerCommand) → ledger_stop_of words ≡ Ok cmd → IsScriptCommand cmd
unfolding ledger_stop_of
ledger_stop_of-value words cmd h =
    let calls = bind_ok (field 2 (calls_form (nth_word words 2))) _ cmd h in
    let same : command.Stop calls.0 ≡ cmd = cc calls.2 in
    subst IsScriptCommand same (number_in_range 1 1000000 (nth_word words 2) calls.0 (field_ok 2 (calls_form (nth_word words 2)) calls.0 calls.1)).0

ledger_fail_of-value : (words : List (List ℕ)) (cmd : LedgerCommand) → ledger_fail_of words ≡ Ok cmd → IsScriptCommand cmd
unfolding ledger_fail_of
ledger_fail_of-value words cmd h =
    let calls = bind_ok (field 2 (calls_form (nth_word words 2))) _ cmd h in
    let same : command.Fail calls.0 ≡ cmd = cc calls.2 in
    subst IsScriptCommand same (number_in_range 1 1000000 (nth_word words 2) calls.0 (field_ok 2 (calls_form (nth_word words 2)) calls.0 calls.1)).0

fields-value : (kind : CommandKind) (words : List (List ℕ)) (cmd : LedgerCommand) → command_fields kind words ≡ Ok cmd → IsScriptCommand cmd
fields-value Issue words cmd h = issue_of-value words cmd h
fields-value Confirm words cmd h = ledger_confirm_of-value words cmd h
fields-value Show words cmd h = show_of-value words cmd h
fields-value Cut words cmd h = ledger_cut_of-value words cmd h
fields-value Stop words cmd h = ledger_stop_of-value words cmd h
fields-value Fail words cmd h = ledger_fail_of-value words cmd h

ledger_command_of-value : (words : List (List ℕ)) (cmd : LedgerCommand) → ledger_command_of words ≡ Ok cmd → IsScriptCommand cmd
unfolding ledger_command_of
ledger_command_of-value words cmd h =
    let kind = bind_ok (ok_or (command_kind_of (nth_word words 1)) cause.Event) _ cmd h in
    fields-value kind.0 words cmd (counted_ok (length words == command_words kind.0) (command_fields kind.0 words) cmd kind.2)

-- ---- a script

pub campaign_of-are : (text : List ℕ) (commands : List LedgerCommand) → campaign_of text ≡ Ok commands → All IsScriptCommand commands
unfolding campaign_of
campaign_of-are text commands h =
    All-read_from IsScriptCommand (λ _ words. ledger_command_of words) (λ seen words cmd given. ledger_command_of-value words cmd given)
    most_lines [] (lines_of text) commands (All-nil IsScriptCommand) h

pub campaign_of-few : (text : List ℕ) (commands : List LedgerCommand) → campaign_of text ≡ Ok commands → length commands ≤ most_lines
unfolding campaign_of
campaign_of-few text commands h = (values_given (λ _ words. ledger_command_of words) most_lines [] (lines_of text) commands (omega arith) h).3

-- the same of the answer that gives them
pub are_from_gives : (text : List ℕ) (r : Result (Vec LedgerCommand Global) ScriptFault) → Gives (campaign_of text) r
    → IfOk r (λ v. All IsScriptCommand v.items)
are_from_gives text (Ok v) h = campaign_of-are text v.items h
are_from_gives text (Err fault) h = tt

pub few_from_gives : (text : List ℕ) (r : Result (Vec LedgerCommand Global) ScriptFault) → Gives (campaign_of text) r
    → IfOk r (λ v. length v.items ≤ most_lines)
few_from_gives text (Ok v) h = campaign_of-few text v.items h
few_from_gives text (Err fault) h = tt
