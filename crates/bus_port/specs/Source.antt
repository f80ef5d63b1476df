-- What a source is, and what a call of `read` does to it.
use Rattle.std.specs.Prelude.{◌≡◌, ◌↔◌, ℕ, ◌<◌, ◌≤◌, List, [], ◌++◌, length, take, drop, Option, Some, Result}
use Rattle.std.specs.Prelude.{MatchResult}
use Rattle.bus_port.specs.Fault.{Rose, RoseBy}

-- what is known of a source: the bytes left, if it tells them; how many bytes came from it so far; its count of faults
pub record SourceState : Type 0 where
  pub told : Option (List ℕ)
  pub taken : ℕ
  pub faults : ℕ

-- these bytes came from the source, and no others
pub record Came (before after : SourceState) (bytes : List ℕ) : Type 0 where
  pub next : (left : List ℕ) → before.told ≡ Some left
      → (rest : List ℕ) × (after.told ≡ Some rest) × (left ≡ bytes ++ rest)
  pub counted : RoseBy before.taken after.taken (length bytes)
  pub later : before.faults ≤ after.faults

-- n bytes came, and stand at the beginning of the buffer, whose rest is as before, and no fault was counted; for a
-- buffer that isn't empty, n is 0 exactly at the end of the bytes
pub record HandsOut (before after : SourceState) (old new : List ℕ) (n : ℕ) : Type 0 where
  pub fits : n ≤ length old
  pub came : Came before after (take n new)
  pub beyond : drop n new ≡ drop n old
  pub no_fault : after.faults ≡ before.faults
  pub ended : 0 < length old → (left : List ℕ) → before.told ≡ Some left → ((n ≡ 0) ↔ (left ≡ []))

-- the count of faults rose, nothing came, and the buffer is as before
pub record ReadFails (before after : SourceState) (old new : List ℕ) : Type 0 where
  pub rose : Rose before.faults after.faults
  pub nothing : Came before after []
  pub untouched : new ≡ old

-- what a call of `read` does to a source and to its buffer
abbrev pub Reads : {E : Type 0} → SourceState → SourceState → List ℕ → List ℕ → Result ℕ E → Type 0
Reads before after old new result =
    MatchResult result (λ n. HandsOut before after old new n) (λ _. ReadFails before after old new)
