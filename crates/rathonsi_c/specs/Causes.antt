-- The causes of a call's statuses, asked in an order: the first that stands is answered.
use Rattle.std.specs.Prelude.{ℤ, ◌≡◌, ◌⊎◌}
use Rattle.key_slots.specs.declared.refusals.Erc.{Erc}
use Rattle.key_slots.specs.declared.refusals.Erc.TheVariants.{KeyNotAvailable, KeyInvalid, KeyEmpty, NoSecureBoot}
use Rattle.key_slots.specs.declared.refusals.Erc.TheVariants.{KeyWriteProtected, KeyUpdateError, SequenceError}
use Rattle.rathonsi_c.specs.declared.TheConstants.{OK, DAMAGED, KEY_EMPTY, KEY_INVALID, KEY_NOT_AVAILABLE}
use Rattle.rathonsi_c.specs.declared.TheConstants.{KEY_WRITE_PROTECTED, KEY_UPDATE_ERROR}

-- if the cause stands, this is the answer, and else it is as the rest says
abbrev pub IfCause : {A : Type 0} → Type 0 → A → (A → Type 0) → A → Type 0
IfCause {A} cause this rest answer = (cause × (answer ≡ this)) ⊎ ((¬ cause) × rest answer)

-- no cause is left
abbrev pub IsDone : ℤ → Type 0
IsDone status = status ≡ OK

-- the status of a refusal of the key memory; the last two are refusals of no call here
abbrev pub erc_status : Erc → ℤ
erc_status KeyEmpty = KEY_EMPTY
erc_status KeyInvalid = KEY_INVALID
erc_status KeyNotAvailable = KEY_NOT_AVAILABLE
erc_status KeyWriteProtected = KEY_WRITE_PROTECTED
erc_status KeyUpdateError = KEY_UPDATE_ERROR
erc_status NoSecureBoot = DAMAGED
erc_status SequenceError = DAMAGED
