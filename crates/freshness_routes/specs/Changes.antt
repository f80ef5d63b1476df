-- How far the bound of a route moves ahead of the freshness in use (own; AUTOSAR SecOC leaves open how a freshness
-- counter is kept)
use Rattle.std.specs.Prelude.{ℕ, ◌+◌, ◌-◌, ◌^◌, min, nat_lt, if◌then◌else◌, Option, Some, None}

-- the greatest freshness
abbrev pub last_freshness : ℕ
last_freshness = 2 ^ 64 - 1

-- the bound that covers this freshness and what is left of a reserve after it
abbrev pub bound_ahead : (reserve freshness : ℕ) → ℕ
bound_ahead reserve freshness = min (freshness + reserve - 1) last_freshness

-- the bound that a node puts before it sends or accepts this freshness, or none if its bound suffices
abbrev pub bound_due : (bound reserve freshness : ℕ) → Option ℕ
bound_due bound reserve freshness = if nat_lt bound freshness
    then Some (bound_ahead reserve freshness)
    else None
