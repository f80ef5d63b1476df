-- What the bytes of a place may be read as.
use Rattle.std.specs.Prelude.{◌≡◌, ◌⊎◌, ℕ, suc, ◌*◌, ◌-◌, ◌<◌, false, Option, Some, List, length, take, drop, replicate}
use Rattle.flash_places.specs.declared.FlashLine.{FlashLine}
use Rattle.flash_places.specs.Places.{FlashPlace, blank_place, whole_place}
use Rattle.flash_lines.specs.declared.sizes.FlashSizes.{FlashSizes}
use Rattle.flash_lines.specs.Lines.{line_bytes, IsFlashLine, IsSizes, HoldsLine, HoldsNoLine}

-- no forged line: bytes that were read are a line only if it is the content of the place
abbrev pub NotForged : Option FlashLine → List ℕ → Type 0
NotForged content bytes = (line : FlashLine) → HoldsLine bytes line → content ≡ Some line

-- A checked read gives these bytes of a place. If they are a line, it is the content, and the place is firm from then
-- on. If they are none, the place is blank or not firm, and is as before.
pub record PlaceReads (p : FlashPlace) (bytes : List ℕ) (q : FlashPlace) : Type 0 where
  pub not_forged : NotForged p.content bytes
  pub settled : (line : FlashLine) → HoldsLine bytes line → q ≡ whole_place line
  pub firm : HoldsNoLine bytes → (p ≡ blank_place) ⊎ (p.firm ≡ false)
  pub same : HoldsNoLine bytes → q ≡ p

-- A line was programmed unit by unit, and the power went in one: the units before it are whole, it is anything, and
-- each byte of those after it is as an erase leaves it. If it is a head, it was to tell these sizes.
pub record TornLine (unit erased : ℕ) (told : FlashSizes) (line : FlashLine) (bytes : List ℕ) : Type 0 where
  pub is_line : IsFlashLine line
  pub sized : IsSizes told
  pub torn : ℕ
  pub inside : unit * torn < length bytes
  pub before : take (unit * torn) bytes ≡ take (unit * torn) (line_bytes (length bytes) told line)
  pub behind : drop (unit * suc torn) bytes ≡ replicate (length bytes - unit * suc torn) erased
