-- The latest deed of some places, and of one more.
use Rattle.std.specs.Prelude.{◌≡◌, ◌⊎◌, ◌<◌, ℕ, nat_lt, nat_eq, if◌then◌else◌}
use Rattle.seal_logs.specs.declared.LogSizes.{LogSizes}
use Rattle.seal_logs.specs.declared.finding.FoundDeed.{FoundDeed}
use Rattle.seal_logs.specs.declared.finding.Latest.{Latest}
use Rattle.seal_logs.specs.declared.finding.Latest.TheVariants.{NoDeed, One, Tie}
use Rattle.seal_logs.specs.Reads.{LogReads, IsDeedPlace, IsLatestIn, HasNoDeedIn, HasTwoLatestIn}

abbrev pub LatestIn : (ℕ → ℕ → Type 0) → LogReads → Latest → Type 0
LatestIn In r NoDeed = HasNoDeedIn In r
LatestIn In r (One found) = IsLatestIn In r found.bank found.place found.generation found.deed
LatestIn In r (Tie generation) = HasTwoLatestIn In r generation

-- of all places of deeds
abbrev pub LatestIs : LogSizes → LogReads → Latest → Type 0
LatestIs s r best = LatestIn (IsDeedPlace s) r best

-- of those of the banks before this one, and of this one before this place
abbrev pub IsSeen : LogSizes → ℕ → ℕ → ℕ → ℕ → Type 0
IsSeen s bank place b k = IsDeedPlace s b k × ((b < bank) ⊎ ((b ≡ bank) × (k < place)))

abbrev pub LatestSeen : LogSizes → LogReads → ℕ → ℕ → Latest → Type 0
LatestSeen s r bank place best = LatestIn (IsSeen s bank place) r best

-- the latest of some deeds, and of one more that stands behind those of its bank
abbrev pub later_deed : Latest → FoundDeed → Latest
later_deed NoDeed found = One found
later_deed (One old) found =
    if nat_lt old.generation found.generation then One found
    else (if nat_eq old.generation found.generation
    then (if nat_eq old.bank found.bank then One found else Tie old.generation) else One old)
later_deed (Tie generation) found = if nat_lt generation found.generation then One found else Tie generation
