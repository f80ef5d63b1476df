-- The sources over memory.
use Rattle.std.specs.Prelude.{◌≡◌, ◌↔◌, ℕ, ◌+◌, min, List, length, drop, Contains, Some, Result, IsErr, MatchResult}
use Rattle.bus_port.specs.Fault.{counted}
use Rattle.bus_port.specs.Source.{SourceState}

-- the bytes left and how many came; the numbers of the calls that fail, and how many calls there were;
-- the most bytes that a call hands out; the count of faults
pub record MemSourceState : Type 0 where
  pub left : List ℕ
  pub taken : ℕ
  pub failing : List ℕ
  pub calls : ℕ
  pub piece : ℕ
  pub faults : ℕ

-- a source over memory tells the bytes left
abbrev pub mem_source : MemSourceState → SourceState
mem_source s = record { told = Some s.left; taken = s.taken; faults = s.faults }

-- a call of `read` with this much room: it fails exactly if its number is among those that fail. Else it hands out as
-- many bytes as the piece, the room and what is left allow
pub record MemReads {E : Type 0} (before after : MemSourceState) (room : ℕ) (result : Result ℕ E) : Type 0 where
  pub fails : IsErr result ↔ Contains before.failing (counted before.calls)
  pub moves : MatchResult result
      (λ n. (n ≡ min (min before.piece room) (length before.left))
      × (after ≡ record before { left = drop n before.left; taken = before.taken + n; calls = counted before.calls }))
      (λ _. after ≡ record before { calls = counted before.calls; faults = counted before.faults })

-- the bytes left and how many came
pub record CleanSourceState : Type 0 where
  pub left : List ℕ
  pub taken : ℕ

-- such a source tells the bytes left, and its count of faults is 0
abbrev pub clean_source : CleanSourceState → SourceState
clean_source s = record { told = Some s.left; taken = s.taken; faults = 0 }
