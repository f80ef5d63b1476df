-- The secure boot of SHE over the image of a store: slot 2 holds the key of the boot MAC, slot 3 the boot MAC.
use Rattle.std.specs.Prelude.{ℤ, ◌≡◌, ◌≢◌, ℕ, ◌+◌, ◌*◌, ◌^◌, ◌<◌, ◌≤◌, ◌⊎◌, List, [], ◌++◌, length}
use Rattle.std.specs.Prelude.{replicate}
use Rattle.basics.specs.Numbers.{bytes_of}
use Rattle.key_slots.specs.declared.memory.Flags.{Flags}
use Rattle.key_slots.specs.declared.memory.Slot.TheVariants.{Empty, Filled}
use Rattle.secure_boot.specs.Booting.{bootmac}
use Rattle.rathonsi_c.specs.declared.TheConstants.{BAD_LENGTH, BAD_VALUE, DAMAGED, KEY_EMPTY}
use Rattle.rathonsi_c.specs.declared.boot.RathonsiBoot.{RathonsiBoot}
use Rattle.rathonsi_c.specs.Causes.{IfCause, IsDone}
use Rattle.rathonsi_c.specs.Images.{ImageSlot, NoSlot}
use Rattle.rathonsi_c.specs.Pieces.{IsBegun, TookPieces}

-- the length of a program: its number in bits has 32 bits
abbrev pub IsProgram : ℕ → Type 0
IsProgram size = (1 ≤ size) × (size < 2 ^ 29)

-- the image keeps this key in this slot
pub record SlotKey (image : List ℕ) (slot : ℕ) (key : List ℕ) : Type 0 where
  pub counter : ℕ
  pub flags : Flags
  pub held : ImageSlot image slot (Filled key counter flags)

-- the image keeps the key of the boot MAC, and a boot MAC
pub record BootKeys (image key mac : List ℕ) : Type 0 where
  pub key_held : SlotKey image 2 key
  pub mac_held : SlotKey image 3 mac

-- whether a boot MAC is that of the program, as a byte
pub record SaysBooted (key program mac : List ℕ) (booted : ℕ) : Type 0 where
  pub yes : mac ≡ bootmac key program → booted ≡ 1
  pub no : mac ≢ bootmac key program → booted ≡ 0

-- what the slots of the boot answer, and else what the rest says
abbrev pub BootSlotsAnswer : List ℕ → ℤ → Type 0
BootSlotsAnswer image status =
    IfCause (NoSlot image 2 ⊎ NoSlot image 3) DAMAGED
    (IfCause (ImageSlot image 2 Empty ⊎ ImageSlot image 3 Empty) KEY_EMPTY IsDone) status

-- what `rathonsi_boot` answers
abbrev pub BootAnswers : List ℕ → List ℕ → ℤ → Type 0
BootAnswers image program status =
    IfCause (¬ IsProgram (length program)) BAD_LENGTH (BootSlotsAnswer image) status

-- `booted` is 1 exactly if slot 3 holds the boot MAC of the program under the key of slot 2
pub record BootsProgram (image program : List ℕ) (booted : ℕ) : Type 0 where
  pub key : List ℕ
  pub mac : List ℕ
  pub keys : BootKeys image key mac
  pub says : SaysBooted key program mac booted

-- ---- in pieces

-- of a program of this size these bytes were given so far, to a boot with these keys
pub record BootTook (key mac : List ℕ) (size : ℕ) (bytes : List ℕ) (boot : RathonsiBoot) : Type 0 where
  pub is_program : IsProgram size
  pub took : TookPieces key (replicate 12 0 ++ bytes_of 4 (8 * size) ++ bytes) boot.mac
  pub wanted : boot.wanted ≡ mac
  pub left : boot.left + length bytes ≡ size

-- what `rathonsi_boot_begin` answers
abbrev pub BeginAnswers : List ℕ → ℕ → ℤ → Type 0
BeginAnswers image size status = IfCause (¬ IsProgram size) BAD_LENGTH (BootSlotsAnswer image) status

-- no byte of the program was given yet
pub record BootBegins (image : List ℕ) (size : ℕ) (boot : RathonsiBoot) : Type 0 where
  pub key : List ℕ
  pub mac : List ℕ
  pub keys : BootKeys image key mac
  pub took : BootTook key mac size [] boot

-- what `rathonsi_boot_update` answers
abbrev pub UpdateAnswers : RathonsiBoot → List ℕ → ℤ → Type 0
UpdateAnswers boot bytes status =
    IfCause (¬ IsBegun boot.mac) BAD_VALUE (IfCause (boot.left < length bytes) BAD_LENGTH IsDone) status

-- these bytes are the next ones
abbrev pub BootTakes : RathonsiBoot → List ℕ → RathonsiBoot → Type 0
BootTakes old bytes new =
    (key mac : List ℕ) (size : ℕ) (before : List ℕ) → BootTook key mac size before old
    → BootTook key mac size (before ++ bytes) new

-- what `rathonsi_boot_finish` answers
abbrev pub FinishAnswers : RathonsiBoot → ℤ → Type 0
FinishAnswers boot status = IfCause (¬ IsBegun boot.mac) BAD_VALUE (IfCause (0 < boot.left) BAD_LENGTH IsDone) status

-- `booted` is 1 exactly if the bytes that were given, which are the whole program, have the boot MAC
abbrev pub BootEnds : RathonsiBoot → ℕ → Type 0
BootEnds boot booted =
    (key mac : List ℕ) (size : ℕ) (program : List ℕ) → BootTook key mac size program boot
    → (length program ≡ size) × SaysBooted key program mac booted
