-- Ports over the standard readers and writers.
use Rattle.std.specs.Prelude.{◌≡◌, ℕ, ◌<◌, ◌≤◌, List, length, take, drop, Option, None, option_and_then, Result, IsErr}
use Rattle.std.specs.Prelude.{MatchResult}
use Rattle.std.specs.Io.KnownBytes.{Consumes, Keeps, IsAtEnd}
use Rattle.bus_port.specs.Fault.{counted}
use Rattle.bus_port.specs.Source.{SourceState}
use Rattle.bus_port.specs.Sink.{SinkState}

-- the reader, if there is one, how many bytes came, and the count of faults
pub record StdSourceState (R : Type 0) : Type 0 where
  pub reader : Option R
  pub taken : ℕ
  pub faults : ℕ

-- the source tells what its reader tells
abbrev pub std_source : {R : Type 0} → (R → Option (List ℕ)) → StdSourceState R → SourceState
std_source remaining s = record { told = option_and_then remaining s.reader; taken = s.taken; faults = s.faults }

-- the count of faults rises by one exactly at each failure, and a source with no reader fails
pub record StdReads {R E : Type 0} (before after : StdSourceState R) (result : Result ℕ E) : Type 0 where
  pub counts : MatchResult result (λ _. after.faults ≡ before.faults) (λ _. after.faults ≡ counted before.faults)
  pub missing : before.reader ≡ None → IsErr result × (after.reader ≡ None)

-- how a read into a buffer changes the bytes that a reader tells, and the buffer: n bytes came
pub record MovesFront (told later : Option (List ℕ)) (old new : List ℕ) (n : ℕ) : Type 0 where
  pub fits : n ≤ length old
  pub consumed : Consumes told later (take n new)
  pub beyond : drop n new ≡ drop n old
  pub ended : n ≡ 0 → 0 < length old → IsAtEnd later

-- the same of a whole call, which leaves all as it was if it fails
abbrev pub MovesOrKeeps : {E : Type 0} → Option (List ℕ) → Option (List ℕ) → List ℕ → List ℕ → Result ℕ E → Type 0
MovesOrKeeps told later old new result =
    MatchResult result (λ n. MovesFront told later old new n) (λ _. Keeps told later × (new ≡ old))

-- the writer, and the count of faults
pub record StdSinkState (W : Type 0) : Type 0 where
  pub writer : W
  pub faults : ℕ

-- the sink tells what its writer tells
abbrev pub std_sink : {W : Type 0} → (W → Option (List ℕ)) → StdSinkState W → SinkState
std_sink contents s = record { told = contents s.writer; faults = s.faults }

-- the count of faults rises by one exactly at each failure
abbrev pub StdWrites : {W E : Type 0} → StdSinkState W → StdSinkState W → Result ℕ E → Type 0
StdWrites before after result =
    MatchResult result (λ _. after.faults ≡ before.faults) (λ _. after.faults ≡ counted before.faults)
