-- A line of a log as bytes (own).
use Rattle.std.specs.Prelude.{◌≡◌, ℕ, ◌+◌, ◌-◌, ◌*◌, ◌/◌, ◌^◌, ◌<◌, List, [], ◌∷◌, ◌++◌, length, replicate}
use Rattle.basics.specs.Bytes.{IsBytes}
use Rattle.basics.specs.Numbers.{bytes_of}
use Rattle.flash_places.specs.declared.FlashLine.{FlashLine}
use Rattle.flash_places.specs.declared.FlashLine.TheVariants.{Head, Entry}
use Rattle.flash_lines.specs.declared.sizes.FlashSizes.{FlashSizes}
use Rattle.flash_lines.specs.Crc.{crc64}

-- the sizes of a part and its store: the unit in two bytes, the banks in one, the bytes of a bank in four, the cells in
-- two
unfoldable pub sizes_bytes : FlashSizes → List ℕ
sizes_bytes told = bytes_of 2 told.unit ++ told.banks ∷ bytes_of 4 told.bank_size ++ bytes_of 2 told.cells

-- sizes that say nothing
abbrev pub untold : FlashSizes
untold = record { unit = 0; banks = 0; bank_size = 0; cells = 0 }

-- A head has its tag, its generation in eight bytes, the sizes that it tells in nine, and 17 zero bytes. An entry has
-- its tag, its cell in two bytes, and 32 bytes.
unfoldable pub line_body : FlashSizes → FlashLine → List ℕ
line_body told (Head generation) = 0x5a ∷ bytes_of 8 generation ++ sizes_bytes told ++ replicate 17 0
line_body told (Entry cell payload) = 0xa5 ∷ bytes_of 2 cell ++ payload

-- the last byte of a line: neither 00 nor ff, as erased bytes are
abbrev pub line_mark : ℕ
line_mark = 0x96

-- a line in so many bytes, 44 at least: its body, the check of the body in eight bytes, zero bytes, and the mark
unfoldable pub line_bytes : ℕ → FlashSizes → FlashLine → List ℕ
line_bytes size told line =
    line_body told line ++ bytes_of 8 (crc64 (line_body told line)) ++ replicate (size - 44) 0 ++ line_mark ∷ []

-- the numbers of a line are in their ranges
abbrev pub IsFlashLine : FlashLine → Type 0
IsFlashLine (Head generation) = generation < 2 ^ 64
IsFlashLine (Entry cell payload) = (cell < 2 ^ 16) × IsBytes 32 payload

-- sizes are in the ranges of their bytes
abbrev pub IsSizes : FlashSizes → Type 0
IsSizes told = (told.unit < 2 ^ 16) × ((told.banks < 2 ^ 8) × ((told.bank_size < 2 ^ 32) × (told.cells < 2 ^ 16)))

-- these bytes are this line, whatever sizes it tells if it is a head
pub record HoldsLine (bytes : List ℕ) (line : FlashLine) : Type 0 where
  pub is_line : IsFlashLine line
  pub told : FlashSizes
  pub sized : IsSizes told
  pub bytes_are : bytes ≡ line_bytes (length bytes) told line

-- they are no line
abbrev pub HoldsNoLine : List ℕ → Type 0
HoldsNoLine bytes = (line : FlashLine) → ¬ HoldsLine bytes line

-- they are a head, and it tells these sizes
pub record TellsSizes (bytes : List ℕ) (told : FlashSizes) : Type 0 where
  pub generation : ℕ
  pub is_head : generation < 2 ^ 64
  pub sized : IsSizes told
  pub bytes_are : bytes ≡ line_bytes (length bytes) told (Head generation)

-- they are no head
abbrev pub TellsNoSizes : List ℕ → Type 0
TellsNoSizes bytes = (told : FlashSizes) → ¬ TellsSizes bytes told

-- how many bytes a line takes on a part that programs units of this many bytes: whole units, no more than it needs
abbrev pub line_length : ℕ → ℕ
line_length unit = unit * (43 / unit + 1)
