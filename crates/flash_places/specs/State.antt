-- What a flash device means to a proof.
use Rattle.std.specs.Prelude.{◌≡◌, ◌<◌, ◌≤◌, ◌^◌, ℕ, Bool}
use Rattle.basics.specs.FaultCount.{last_count}
use Rattle.flash_places.specs.Places.{Flash, blank_place}

-- its places, how many banks it has, how many places a bank has, how many of its calls have failed, and whether each
-- blank place is read as `Blank`
pub record FlashState : Type 0 where
  pub flash : Flash
  pub banks : ℕ
  pub places : ℕ
  pub faults : ℕ
  pub tells_blank : Bool

-- what any stretch of calls does: the sizes stay, the count doesn't fall, and blank places are told as before
pub record FlashRuns (old new : FlashState) : Type 0 where
  pub banks : new.banks ≡ old.banks
  pub places : new.places ≡ old.places
  pub later : old.faults ≤ new.faults
  pub tells : new.tells_blank ≡ old.tells_blank

-- after the places of a bank all is blank
abbrev pub BlankBehind : ℕ → Flash → Type 0
BlankBehind places f = (bank k : ℕ) → places ≤ k → f bank k ≡ blank_place

-- what holds of every flash device
pub record IsFlash (s : FlashState) : Type 0 where
  pub two : 2 ≤ s.banks
  pub few : s.banks ≤ 16
  pub sized : s.places < 2 ^ 32
  pub counted : s.faults ≤ last_count
  pub behind : BlankBehind s.places s.flash
