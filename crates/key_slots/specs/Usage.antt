-- When a slot's key may be used: the refusals of a call in their order
use Rattle.std.specs.Prelude.{ℕ, List, [], ◌∷◌, Bool, true, false, not, ◌&&◌, nat_lt, Option, Some, None}
use Rattle.key_slots.specs.declared.memory.Flags.{Flags}
use Rattle.key_slots.specs.declared.memory.Slot.{Slot}
use Rattle.key_slots.specs.declared.refusals.Erc.{Erc}
use Rattle.key_slots.specs.declared.refusals.Erc.TheVariants.{KeyNotAvailable, KeyInvalid, KeyEmpty}
use Rattle.key_slots.specs.declared.usage.Purpose.{Purpose}
use Rattle.key_slots.specs.declared.usage.Purpose.TheVariants.{Mac, Cipher}
use Rattle.key_slots.specs.Slots.{slot_at, is_empty, flags_of}

-- the first refusal whose test holds, or none
abbrev pub first_applying : List (Bool × Erc) → Option Erc
first_applying [] = None
first_applying ((true, refusal) ∷ rest) = Some refusal
first_applying ((false, refusal) ∷ rest) = first_applying rest

-- KEY_USAGE is 0 for a MAC, or 1 for a cipher call
abbrev pub usage_differs : Flags → Purpose → Bool
usage_differs flags Mac = not flags.usage
usage_differs flags Cipher = flags.usage

-- the refusals of a call on a slot that serves MACs and ciphers, in their order, each with its test
abbrev pub slot_refusals : Slot → Bool → Purpose → List (Bool × Erc)
slot_refusals slot good purpose =
    (is_empty slot, KeyEmpty) ∷ (usage_differs (flags_of slot) purpose, KeyInvalid)
    ∷ ((flags_of slot).boot && not good, KeyNotAvailable) ∷ []

-- the first refusal of a MAC or cipher call on slot s, or none; good says that a successful boot was made in this life
unfoldable pub usable : List Slot → ℕ → Bool → Purpose → Option Erc
usable slots s good purpose = first_applying ((nat_lt s 4, KeyInvalid) ∷ slot_refusals (slot_at slots s) good purpose)
