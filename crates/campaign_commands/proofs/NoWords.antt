-- A line without words is no command
use Rattle.std.proofs.Common.{◌≡◌, ℕ, true, List, [], ◌∷◌, length, Err, refl, arith}
use Rattle.std.specs.Prelude.{◌==◌}
use Rattle.text_lines.specs.declared.fault.Cause.TheVariants as cause
use Rattle.campaign_commands.specs.CommandKinds.{command_kind_of}
use Rattle.campaign_commands.specs.CommandForms.{ledger_command_of}

pub no_words : (words : List (List ℕ)) → (length words == 0) ≡ true → ledger_command_of words ≡ Err cause.Event
unfolding ledger_command_of command_kind_of
no_words [] h = refl
no_words (word ∷ words) h = absurd (let empty : length (word ∷ words) ≡ 0 = grind arith in omega arith)
