-- What a word of a key update means by its form: the value, or none if it isn't of the form.
use Rattle.std.specs.Prelude.{ℕ, ◌==◌, Bool, true, false, if◌then◌else◌, List, [], ◌∷◌, replicate, Option, Some, None}
use Rattle.std.specs.Option.{option_and_then}
use Rattle.std.specs.Result.{result_ok}
use Rattle.std.specs.Str.{bytes_eq}
use Rattle.hex.specs.Hex.{decode_sized}
use Rattle.key_slots.specs.declared.memory.Flags.{Flags}
use Rattle.text_lines.specs.Forms.{number_form}

-- UID: 30 hexadecimal digits of either case
unfoldable pub uid_form : List ℕ → Option (List ℕ)
uid_form word = result_ok (decode_sized word 15)

-- an identifier that isn't zero
abbrev pub unless_zero : List ℕ → Option (List ℕ)
unless_zero uid = if bytes_eq uid (replicate 15 0) then None else Some uid

-- the UID of an engine: one that isn't zero
unfoldable pub engine_uid_form : List ℕ → Option (List ℕ)
engine_uid_form word = option_and_then unless_zero (uid_form word)

-- SLOT: a number from 0 to 13
abbrev pub slot_form : List ℕ → Option ℕ
slot_form word = number_form 0 13 word

-- COUNTER: a number of 28 bits, from 0 to 268435455
abbrev pub counter_form : List ℕ → Option ℕ
counter_form word = number_form 0 268435455 word

-- a flag: the digit 0, which is 48, or the digit 1, which is 49
abbrev pub flag_form : ℕ → Option Bool
flag_form digit = if digit == 48 then Some false else (if digit == 49 then Some true else None)

-- the flags of their five digits, if each is one
abbrev pub five_flags : Option Bool → Option Bool → Option Bool → Option Bool → Option Bool → Option Flags
five_flags (Some write) (Some boot) (Some debugger) (Some usage) (Some wildcard) =
    Some (record { write = write; boot = boot; debugger = debugger; usage = usage; wildcard = wildcard })
five_flags _ _ _ _ _ = None

-- FLAGS: five digits in the order WRITE_PROTECTION, BOOT_PROTECTION, DEBUGGER_PROTECTION, KEY_USAGE, WILDCARD
unfoldable pub flags_form : List ℕ → Option Flags
flags_form (write ∷ boot ∷ debugger ∷ usage ∷ wildcard ∷ []) =
    five_flags (flag_form write) (flag_form boot) (flag_form debugger) (flag_form usage) (flag_form wildcard)
flags_form _ = None
