-- What a sink is, and what a call of `write` does to it.
use Rattle.std.specs.Prelude.{◌≡◌, ℕ, ◌<◌, ◌≤◌, List, [], ◌++◌, length, take, Option, Some, Result, MatchResult}
use Rattle.bus_port.specs.Fault.{Rose}

-- what is known of a sink: the bytes written, if it tells them; its count of faults
pub record SinkState : Type 0 where
  pub told : Option (List ℕ)
  pub faults : ℕ

-- these bytes were appended, and no others
pub record Appended (before after : SinkState) (bytes : List ℕ) : Type 0 where
  pub grown : (held : List ℕ) → before.told ≡ Some held → after.told ≡ Some (held ++ bytes)
  pub later : before.faults ≤ after.faults

-- the first n of these bytes were appended, at least one, and no fault was counted
pub record TakesUp (before after : SinkState) (bytes : List ℕ) (n : ℕ) : Type 0 where
  pub some : 0 < n
  pub fits : n ≤ length bytes
  pub appended : Appended before after (take n bytes)
  pub no_fault : after.faults ≡ before.faults

-- the count of faults rose, and nothing was appended
pub record WriteFails (before after : SinkState) : Type 0 where
  pub rose : Rose before.faults after.faults
  pub nothing : Appended before after []

-- what a call of `write` does to a sink
abbrev pub Writes : {E : Type 0} → SinkState → SinkState → List ℕ → Result ℕ E → Type 0
Writes before after bytes result =
    MatchResult result (λ n. TakesUp before after bytes n) (λ _. WriteFails before after)
