-- Printed texts
use Rattle.std.specs.Prelude.{ℕ, List, ◌++◌, codes}
use Rattle.std.specs.Fmt.{decimal}
use Rattle.key_slots.specs.declared.memory.Slot.{Slot}
use Rattle.key_slots.specs.declared.memory.Slot.TheVariants.{Empty, Filled}
use Rattle.key_slots.specs.declared.refusals.Erc.{Erc}
use Rattle.key_slots.specs.declared.refusals.Erc.TheVariants.{KeyNotAvailable, KeyInvalid, KeyEmpty, NoSecureBoot}
use Rattle.key_slots.specs.declared.refusals.Erc.TheVariants.{KeyWriteProtected, KeyUpdateError, SequenceError}
use Rattle.key_slots.specs.Flags.{flags_number}

-- the printed name of a refusal
abbrev pub erc_name : Erc → List ℕ
erc_name KeyNotAvailable = codes "KEY_NOT_AVAILABLE"
erc_name KeyInvalid = codes "KEY_INVALID"
erc_name KeyEmpty = codes "KEY_EMPTY"
erc_name NoSecureBoot = codes "NO_SECURE_BOOT"
erc_name KeyWriteProtected = codes "KEY_WRITE_PROTECTED"
erc_name KeyUpdateError = codes "KEY_UPDATE_ERROR"
erc_name SequenceError = codes "SEQUENCE_ERROR"

-- how a slot is shown for debugging: nothing of its key
abbrev pub shown_slot : Slot → List ℕ
shown_slot Empty = codes "Empty"
shown_slot (Filled key counter flags) =
    codes "Filled { counter: " ++ decimal counter ++ codes ", flags: " ++ decimal (flags_number flags) ++ codes ", .. }"
