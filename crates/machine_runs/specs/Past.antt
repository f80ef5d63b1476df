-- What a run adds to a record of the past.
use Rattle.std.specs.Prelude.{◌≡◌, List, [], ◌∷◌, ◌++◌}
use Rattle.machine_runs.specs.Run.{Moment}

-- each moment adds a part that it may add to what is there, and the last leaves `past`
abbrev pub AddsTo : {C L S E : Type 0} → (List E → Moment C L S → List E → Type 0) → List E → List (Moment C L S)
    → List E → Type 0
AddsTo adds first [] past = past ≡ first
AddsTo {E = E} adds first (m ∷ ms) past = (part : List E) × adds first m part × AddsTo adds (first ++ part) ms past

-- the past of a run: a first part that fits its start, and then the part of each moment
pub record Traced {C L S E : Type 0} (begins : S → List E → Type 0) (adds : List E → Moment C L S → List E → Type 0)
    (start : S) (moments : List (Moment C L S)) (past : List E) : Type 0 where
  pub first : List E
  pub begun : begins start first
  pub added : AddsTo adds first moments past
