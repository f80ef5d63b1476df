-- What is read of a part of blanks.
use Rattle.std.specs.Prelude.{◌≡◌, ◌<◌, ℕ}
use Rattle.seal_parts.specs.declared.PartClass.TheVariants.{Blanks}
use Rattle.seal_parts.specs.declared.UnitKind.{UnitKind}
use Rattle.seal_parts.specs.declared.UnitAnswer.{UnitAnswer}
use Rattle.seal_parts.specs.Parts.{PartFlash, MayAnswer}
use Rattle.seal_logs.specs.declared.PlaceRead.{PlaceRead}
use Rattle.seal_logs.specs.declared.LogSizes.{LogSizes}
use Rattle.seal_logs.specs.Reads.{LogReads}
use Rattle.seal_laws.specs.Writes.{reads_of}

-- A place may be read so: each of its units may answer what this is made of.
pub record IsPlaceRead (f : PartFlash) (bank place : ℕ) (read : PlaceRead) : Type 0 where
  pub answers : UnitKind → UnitAnswer
  pub may : (kind : UnitKind) → MayAnswer Blanks (f.is_erased bank) (f.unit bank place kind) (answers kind)
  pub is : read ≡ reads_of Blanks (λ b k. answers) bank place

-- .. and so may each place of the banks
abbrev pub ArePlacesRead : LogSizes → PartFlash → LogReads → Type 0
ArePlacesRead s f r = (bank k : ℕ) → bank < s.banks → k < s.places → IsPlaceRead f bank k (r bank k)
