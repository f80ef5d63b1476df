-- What arming a disk leaves.
use Rattle.std.specs.Prelude.{◌≡◌, ℕ, false, [], ◌∷◌}
use Rattle.cut_disk.specs.declared.arming.Arms.{Arms}
use Rattle.cut_disk.specs.State.{Mark, Stop, Fail, DiskState}
use Rattle.cut_disk.specs.Arming.{with_stop, with_fail}
use Rattle.cut_disk.specs.Calls.{Runs}

-- one call with this mark: these calls are to fail, and told bytes and the count of faults stay
pub record ArmedAs (mark : Mark) (these : Arms) (old new : DiskState) : Type 0 where
  pub runs : Runs (mark ∷ []) 1 old new
  pub told : new.told ≡ old.told
  pub faults : new.faults ≡ old.faults
  pub arms : new.arms ≡ these
  pub loud : new.quiet ≡ false

-- the call of this number and all later ones are to fail, until the power is cut
abbrev pub ArmsStop : ℕ → DiskState → DiskState → Type 0
ArmsStop calls old new = ArmedAs (Stop calls) (with_stop calls old.arms) old new

-- the call of this number is to fail
abbrev pub ArmsFail : ℕ → DiskState → DiskState → Type 0
ArmsFail calls old new = ArmedAs (Fail calls) (with_fail calls old.arms) old new
