-- The secure boot of the Secure Hardware Extensions (SHE specification, secure booting)
use Rattle.std.specs.Prelude.{◌≡◌, ℕ, ◌*◌, ◌≤◌, ◌↔◌, List, ◌++◌, length, replicate, Bool, true, false, Result, Err}
use Rattle.std.specs.Prelude.{IsOkAnd, IsTrue}
use Rattle.basics.specs.Numbers.{bytes_of}
use Rattle.key_slots.specs.declared.memory.Slot.{Slot}
use Rattle.key_slots.specs.declared.memory.Slot.TheVariants.{Filled}
use Rattle.key_slots.specs.declared.refusals.Erc.{Erc}
use Rattle.key_slots.specs.declared.refusals.Erc.TheVariants.{NoSecureBoot}
use Rattle.key_slots.specs.Slots.{slot_at}
use Rattle.she_cmac.specs.Cmac.{cmac}
use Rattle.secure_boot.specs.declared.state.BootState.{BootState}
use Rattle.secure_boot.specs.declared.state.BootState.TheVariants.{Undecided, Good, Wrong}

-- the images that are booted (own)
abbrev pub IsImage : List ℕ → Type 0
IsImage image = (1 ≤ length image) × (length image ≤ 65536)

-- the boot MAC of an image under the boot MAC key: the CMAC of 96 zero bits, the image's length as 32 bits, and the
-- image; that the length counts bits is own
unfoldable pub bootmac : List ℕ → List ℕ → List ℕ
bootmac key image = cmac key (replicate 12 0 ++ bytes_of 4 (8 * length image) ++ image)

-- a boot with the boot MAC key in the first of these slots and the boot MAC in the second: it succeeds exactly if the
-- image has that boot MAC
abbrev pub BootsBy : Slot → Slot → List ℕ → Result Bool Erc → Type 0
BootsBy (Filled key counter flags) (Filled mac counter' flags') image answer =
    IsOkAnd answer (λ good. IsTrue good ↔ (mac ≡ bootmac key image))
BootsBy _ _ image answer = answer ≡ Err NoSecureBoot

-- slot 2 is BOOT_MAC_KEY and slot 3 BOOT_MAC; flags play no part
abbrev pub Boots : List Slot → List ℕ → Result Bool Erc → Type 0
Boots slots image = BootsBy (slot_at slots 2) (slot_at slots 3) image

-- ---- a life, from one power-up to the next, in which at most one boot is decided

abbrev pub is_good : BootState → Bool
is_good Good = true
is_good _ = false

abbrev pub is_decided : BootState → Bool
is_decided Undecided = false
is_decided _ = true

abbrev pub decided_as : Bool → BootState
decided_as true = Good
decided_as false = Wrong
