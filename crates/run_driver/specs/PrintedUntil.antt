-- Lines that are written to a sink up to one that is the last by itself.
use Rattle.std.specs.Prelude.{◌≡◌, ℕ, List, [], ◌∷◌, ◌++◌, Bool, true, false, All, length, Result, Ok, Err, MatchResult}
use Rattle.bus_port.specs.Sink.{SinkState}
use Rattle.program_edge.specs.Told.{AppendedWell}
use Rattle.machine_runs.specs.Run.{Moment, lines_in}
use Rattle.run_driver.specs.Driven.{FirstDone}
use Rattle.run_driver.specs.Printed.{texts, WritesLine, WrittenPart}
use Rattle.run_driver.specs.declared.last_line.Stop.{Stop}
use Rattle.run_driver.specs.declared.last_line.Stop.TheVariants.{Unprinted, Last}

-- the text of a line was written as `WritesLine` says, and if it was written whole, the line is a last one or not
abbrev pub WritesUntil : {L : Type 0} → (ℕ → L → List ℕ) → (L → Bool) → SinkState → ℕ → L → SinkState
    → Result (Unit {0}) Stop → Type 0
WritesUntil text ends before number line after (Ok _) =
    WritesLine text before number line after (Ok tt) × (ends line ≡ false)
WritesUntil text ends before number line after (Err Last) =
    WritesLine text before number line after (Ok tt) × (ends line ≡ true)
WritesUntil text ends before number line after (Err (Unprinted cause)) =
    WritesLine text before number line after (Err cause)

-- what was written at the last moment, after the texts `whole`: its text too, if its line is a last one; or what the
-- cause says
abbrev pub EndsBy : {L : Type 0} → (L → Bool) → SinkState → SinkState → List ℕ → L → List ℕ → Stop → Type 0
EndsBy ends before after whole line last Last = AppendedWell before after (whole ++ last) × (ends line ≡ true)
EndsBy ends before after whole line last (Unprinted cause) = WrittenPart before after whole last cause

-- the texts of all moments but the last were written whole, and no line of theirs is a last one. At the last moment it
-- ended
pub record LastStopped {C L S : Type 0} (text : ℕ → L → List ℕ) (ends : L → Bool) (before after : SinkState)
    (moments : List (Moment C L S)) (stop : Stop) : Type 0 where
  pub front : List (Moment C L S)
  pub last : Moment C L S
  pub all : moments ≡ front ++ last ∷ []
  pub none_ends : All (λ line. ends line ≡ false) (lines_in front)
  pub written : EndsBy ends before after (texts text 1 (lines_in front)) last.line
      (text (length moments) last.line) stop

-- the answer: all commands were done, the text of each line was written, and none is a last one; or it ended at the
-- last that was done
abbrev pub WrittenUntil : {C L S : Type 0} → (ℕ → L → List ℕ) → (L → Bool) → SinkState → SinkState → List C
    → Result (Unit {0}) Stop → List (Moment C L S) → Type 0
WrittenUntil text ends before after commands result moments =
    MatchResult result
    (λ _. (length moments ≡ length commands) × All (λ line. ends line ≡ false) (lines_in moments)
    × AppendedWell before after (texts text 1 (lines_in moments)))
    (LastStopped text ends before after moments)

-- the first commands were done as a run, up to the first whose line is a last one or whose text wasn't written
abbrev pub PrintedUntil : {C L S : Type 0} → (S → C → L → S → Type 0) → (ℕ → L → List ℕ) → (L → Bool) → S → S
    → SinkState → SinkState → List C → Result (Unit {0}) Stop → Type 0
PrintedUntil steps text ends start now before after commands result =
    FirstDone steps start now commands (WrittenUntil text ends before after commands result)
