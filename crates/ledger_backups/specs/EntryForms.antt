-- What a word of an entry means by its form: the value, or none if it isn't of the form (own; a slot and a counter are
-- those of the SHE specification)
use Rattle.std.specs.Prelude.{ℕ, List, Option, Some, None, Bool, true, false, if◌then◌else◌, bytes_eq}
use Rattle.text_lines.specs.Forms.{number_form}
use Rattle.campaign_commands.specs.LedgerTexts.{state_word}

-- SLOT of an entry: a number from 1 to 13
abbrev pub entry_slot_form : List ℕ → Option ℕ
entry_slot_form word = number_form 1 13 word

-- COUNTER of an entry: a number from 1 to 268435455
abbrev pub entry_counter_form : List ℕ → Option ℕ
entry_counter_form word = number_form 1 268435455 word

-- STATE: `issued` or `confirmed`
abbrev pub state_form : List ℕ → Option Bool
state_form word =
    if bytes_eq word (state_word true) then Some true else
    if bytes_eq word (state_word false) then Some false else None
