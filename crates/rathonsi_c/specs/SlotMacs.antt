-- The CMAC of a message under the key of a slot.
use Rattle.std.specs.Prelude.{ℤ, ◌≡◌, ℕ, ◌≤◌, ◌==◌, List}
use Rattle.she_cmac.specs.Cmac.{cmac}
use Rattle.rathonsi_c.specs.declared.TheConstants.{BAD_VALUE, DAMAGED}
use Rattle.rathonsi_c.specs.Causes.{IfCause, IsDone}
use Rattle.rathonsi_c.specs.Images.{ImageKey, NoSlot}
use Rattle.rathonsi_c.specs.Routes.{IfKeyRefused, status_alone}

-- a slot for keys of MACs, and whether a secure boot succeeded
pub record NamesKey (slot booted : ℕ) : Type 0 where
  pub slot_least : 4 ≤ slot
  pub slot_most : slot ≤ 13
  pub booted_most : booted ≤ 1

-- what `rathonsi_slot_mac` answers
abbrev pub SlotMacAnswers : ℕ → ℕ → List ℕ → ℤ → Type 0
SlotMacAnswers slot booted image status =
    IfCause (¬ NamesKey slot booted) BAD_VALUE
    (IfCause (NoSlot image slot) DAMAGED (IfKeyRefused status_alone image slot (booted == 1) IsDone)) status

-- the MAC of the message under the key that the image keeps in the slot
pub record IsSlotMac (slot booted : ℕ) (image message mac : List ℕ) : Type 0 where
  pub key : List ℕ
  pub keyed : ImageKey image slot (booted == 1) key
  pub mac_is : mac ≡ cmac key message
