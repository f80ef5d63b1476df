-- What a part means to a proof.
use Rattle.std.specs.Prelude.{◌≡◌, ◌<◌, ◌≤◌, ◌^◌, ℕ}
use Rattle.basics.specs.FaultCount.{last_count}
use Rattle.seal_parts.specs.declared.PartClass.{PartClass}
use Rattle.seal_parts.specs.declared.UnitKind.{UnitKind}
use Rattle.seal_parts.specs.Parts.{PartFlash, blank_unit}

-- its units, what it promises, how many banks it has, how many places a bank has, and how many of its calls have failed
pub record PartState : Type 0 where
  pub flash : PartFlash
  pub class : PartClass
  pub banks : ℕ
  pub places : ℕ
  pub faults : ℕ

-- what any stretch of calls does: the class and the sizes stay, and the count doesn't fall
pub record PartRuns (old new : PartState) : Type 0 where
  pub class : new.class ≡ old.class
  pub banks : new.banks ≡ old.banks
  pub places : new.places ≡ old.places
  pub later : old.faults ≤ new.faults

-- What holds of every part. A place that it doesn't have counts as blank.
pub record IsPart (s : PartState) : Type 0 where
  pub two : 2 ≤ s.banks
  pub few : s.banks ≤ 16
  pub sized : s.places < 2 ^ 32
  pub counted : s.faults ≤ last_count
  pub behind : (bank k : ℕ) (kind : UnitKind) → s.places ≤ k → s.flash.unit bank k kind ≡ blank_unit
  pub beyond : (bank k : ℕ) (kind : UnitKind) → s.banks ≤ bank → s.flash.unit bank k kind ≡ blank_unit
