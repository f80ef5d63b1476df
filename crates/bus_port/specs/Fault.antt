-- Counts that stand still at their last value: of faults, and of the bytes that came.
use Rattle.std.specs.Prelude.{◌≡◌, ℕ, ◌+◌, min}
pub use Rattle.basics.specs.FaultCount.{last_count, counted, Rose}

-- the count rose by n, up to its last value
abbrev pub RoseBy : ℕ → ℕ → ℕ → Type 0
RoseBy before after n = min after last_count ≡ min (before + n) last_count
