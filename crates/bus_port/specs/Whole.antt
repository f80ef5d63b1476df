-- What the calls on whole streams leave.
use Rattle.std.specs.Prelude.{◌≡◌, ℕ, ◌+◌, ◌<◌, ◌≤◌, ◌-◌, List, [], ◌++◌, length, take, drop, Some, Result, Ok, Err}
use Rattle.bus_port.specs.declared.whole_streams.ReadAll.{ReadAll}
use Rattle.bus_port.specs.declared.whole_streams.ReadAll.TheVariants.{Failed, TooLong, Memory}
use Rattle.bus_port.specs.Fault.{Rose}
use Rattle.bus_port.specs.Source.{SourceState, Came}
use Rattle.bus_port.specs.Sink.{SinkState, Appended}

-- all bytes up to the end came, at most `limit`, and no fault was counted
pub record ReadsAll (before after : SourceState) (limit : ℕ) (bytes : List ℕ) : Type 0 where
  pub came : Came before after bytes
  pub within : length bytes ≤ limit
  pub no_fault : after.faults ≡ before.faults
  pub whole : (left : List ℕ) → before.told ≡ Some left → (bytes ≡ left) × (after.told ≡ Some [])

-- at most `limit` bytes came
abbrev pub CameWithin : SourceState → SourceState → ℕ → Type 0
CameWithin before after limit = (bytes : List ℕ) × (length bytes ≤ limit) × Came before after bytes

-- one byte more than `limit` came
abbrev pub CameBeyond : SourceState → SourceState → ℕ → Type 0
CameBeyond before after limit = (bytes : List ℕ) × (length bytes ≡ limit + 1) × Came before after bytes

-- what came if not all was read, by the cause; a fault was counted only if that is the cause
abbrev pub ReadsPart : SourceState → SourceState → ℕ → ReadAll → Type 0
ReadsPart before after limit Failed = Rose before.faults after.faults × CameWithin before after limit
ReadsPart before after limit TooLong = (after.faults ≡ before.faults) × CameBeyond before after limit
ReadsPart before after limit Memory = (after.faults ≡ before.faults) × CameWithin before after limit

-- a proper prefix of these bytes was appended
abbrev pub AppendedPart : SinkState → SinkState → List ℕ → Type 0
AppendedPart before after bytes = (n : ℕ) × (n < length bytes) × Appended before after (take n bytes)

-- a piece of n bytes came, and was added to those so far; none came only at the end; no fault was counted
pub record PieceAdded (before after : SourceState) (old new : List ℕ) (limit n : ℕ) : Type 0 where
  pub piece : List ℕ
  pub came : Came before after piece
  pub added : new ≡ old ++ piece
  pub size : length piece ≡ n
  pub within : length new ≤ limit
  pub no_fault : after.faults ≡ before.faults
  pub last : n ≡ 0 → (left : List ℕ) → before.told ≡ Some left → left ≡ []

-- what a step of reading all does to the source and to the bytes so far: a piece came and was added, none at the end
abbrev pub AddsPiece : SourceState → SourceState → List ℕ → List ℕ → ℕ → Result ℕ ReadAll → Type 0
AddsPiece before after old new limit (Ok n) = PieceAdded before after old new limit n
AddsPiece before after old new limit (Err cause) =
    ReadsPart before after (limit - length old) cause

-- of these bytes those after the first `done` were appended, up to the first `n`; no fault was counted
pub record PieceWritten (before after : SinkState) (bytes : List ℕ) (done n : ℕ) : Type 0 where
  pub more : done < n
  pub fits : n ≤ length bytes
  pub appended : Appended before after (take (n - done) (drop done bytes))
  pub no_fault : after.faults ≡ before.faults
