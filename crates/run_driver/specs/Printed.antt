-- Lines that are written to a sink.
use Rattle.std.specs.Prelude.{◌≡◌, ℕ, ◌+◌, ◌<◌, List, [], ◌∷◌, ◌++◌, length, take, Result, Ok, Err, MatchResult}
use Rattle.bus_port.specs.Fault.{Rose}
use Rattle.bus_port.specs.Sink.{SinkState, Appended}
use Rattle.bus_port.specs.Whole.{AppendedPart}
use Rattle.program_edge.specs.Told.{AppendedWell}
use Rattle.machine_runs.specs.Run.{Moment, lines_in}
use Rattle.run_driver.specs.Driven.{FirstDone}
use Rattle.run_driver.specs.declared.printing.Unwritten.{Unwritten}
use Rattle.run_driver.specs.declared.printing.Unwritten.TheVariants.{SinkFailed, Memory}

-- the texts of these lines, numbered from `number` on
abbrev pub texts : {L : Type 0} → (ℕ → L → List ℕ) → ℕ → List L → List ℕ
texts text number [] = []
texts text number (line ∷ lines) = text number line ++ texts text (number + 1) lines

-- the text of a line was written whole; or a proper prefix of it, if the count of faults rose; or nothing, if it found
-- no memory
abbrev pub WritesLine : {L : Type 0} → (ℕ → L → List ℕ) → SinkState → ℕ → L → SinkState → Result (Unit {0}) Unwritten
    → Type 0
WritesLine text before number line after (Ok _) = AppendedWell before after (text number line)
WritesLine text before number line after (Err SinkFailed) =
    Rose before.faults after.faults × AppendedPart before after (text number line)
WritesLine text before number line after (Err Memory) = after ≡ before

-- what was written if the text `last` wasn't, after the texts `whole`: these, and of `last` a proper prefix, if the
-- count of faults rose; or these alone, if it found no memory
abbrev pub WrittenPart : SinkState → SinkState → List ℕ → List ℕ → Unwritten → Type 0
WrittenPart before after whole last SinkFailed =
    Rose before.faults after.faults × (n : ℕ) × (n < length last) × Appended before after (whole ++ take n last)
WrittenPart before after whole last Memory = AppendedWell before after whole

-- the texts of all moments but the last were written whole, and of the last what the cause says
pub record LastUnwritten {C L S : Type 0} (text : ℕ → L → List ℕ) (before after : SinkState)
    (moments : List (Moment C L S)) (cause : Unwritten) : Type 0 where
  pub front : List (Moment C L S)
  pub last : Moment C L S
  pub all : moments ≡ front ++ last ∷ []
  pub written : WrittenPart before after (texts text 1 (lines_in front)) (text (length moments) last.line) cause

-- the answer: all commands were done, and the text of each line was written; or the last that was done is the one whose
-- text wasn't
abbrev pub Written : {C L S : Type 0} → (ℕ → L → List ℕ) → SinkState → SinkState → List C → Result (Unit {0}) Unwritten
    → List (Moment C L S) → Type 0
Written text before after commands result moments =
    MatchResult result
    (λ _. (length moments ≡ length commands) × AppendedWell before after (texts text 1 (lines_in moments)))
    (LastUnwritten text before after moments)

-- the first commands were done as a run, up to the first whose text wasn't written. The texts of the lines are in the
-- sink
abbrev pub Printed : {C L S : Type 0} → (S → C → L → S → Type 0) → (ℕ → L → List ℕ) → S → S → SinkState → SinkState
    → List C → Result (Unit {0}) Unwritten → Type 0
Printed steps text start now before after commands result =
    FirstDone steps start now commands (Written text before after commands result)
