-- The sink over memory.
use Rattle.std.specs.Prelude.{◌≡◌, ◌↔◌, ◌⊎◌, ℕ, ◌-◌, ◌≤◌, min, List, ◌++◌, length, take, Contains, Some, Result, IsErr}
use Rattle.std.specs.Prelude.{MatchResult}
use Rattle.bus_port.specs.Fault.{counted}
use Rattle.bus_port.specs.Sink.{SinkState}

-- the bytes written, and how many there may be; the numbers of the calls that fail, and how many calls there were;
-- the most bytes that a call takes; the count of faults
pub record MemSinkState : Type 0 where
  pub held : List ℕ
  pub room : ℕ
  pub failing : List ℕ
  pub calls : ℕ
  pub piece : ℕ
  pub faults : ℕ

-- a sink over memory tells the bytes written
abbrev pub mem_sink : MemSinkState → SinkState
mem_sink s = record { told = Some s.held; faults = s.faults }

-- a call of `write`: it fails exactly if its number is among those that fail or the room is full. Else it appends as
-- many bytes as the piece, the text and the room left allow
pub record MemWrites {E : Type 0} (before after : MemSinkState) (bytes : List ℕ) (result : Result ℕ E) : Type 0 where
  pub fails : IsErr result ↔ (Contains before.failing (counted before.calls) ⊎ (before.room ≤ length before.held))
  pub moves : MatchResult result
      (λ n. (n ≡ min (min before.piece (length bytes)) (before.room - length before.held))
      × (after ≡ record before { held = before.held ++ take n bytes; calls = counted before.calls }))
      (λ _. after ≡ record before { calls = counted before.calls; faults = counted before.faults })
