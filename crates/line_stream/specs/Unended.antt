-- The line that no line feed has ended yet, and what the steps of the driver say to one another
use Rattle.std.specs.Prelude.{◌≡◌, ◌⊎◌, ℕ, ◌+◌, ◌<◌, ◌≤◌, List, [], ◌∷◌, ◌++◌, length, take}
use Rattle.std.specs.Prelude.{Result, Ok, Err, Option, None, Some}
use Rattle.basics.specs.FaultCount.{counted}
use Rattle.bus_port.specs.Source.{Came}
use Rattle.program_edge.specs.Inputs.{Reading}
use Rattle.line_stream.specs.Pieces.{log_lines, in_64_bits}
use Rattle.line_stream.specs.declared.driver.StreamFault.{StreamFault}
use Rattle.line_stream.specs.Streams.{kept_of, TakesNext, TakesLines, Paused, Streamed}

-- the line that no line feed has ended yet, as far as it is kept, and the number of lines before it
pub record UnendedState : Type 0 where
  pub line : List ℕ
  pub lines : ℕ

-- these bytes have these complete lines, and then the unended one
pub record IsUnendedOf (u : UnendedState) (bytes : List ℕ) (lines : List (List ℕ)) : Type 0 where
  pub rest : List ℕ
  pub cut : log_lines bytes ≡ lines ++ rest ∷ []
  pub line_is : u.line ≡ kept_of rest
  pub lines_are : u.lines ≡ in_64_bits (length lines)

-- each line was taken that is complete with these bytes more
abbrev pub TakesComplete : {S E : Type 0} → (S → ℕ → List ℕ → S → Result (Unit {0}) E → Type 0) → UnendedState → S
    → List ℕ → UnendedState → S → Type 0
TakesComplete takes old before piece new after =
    (bytes : List ℕ) (lines : List (List ℕ)) → IsUnendedOf old bytes lines → (more : List (List ℕ))
    × IsUnendedOf new (bytes ++ piece) (lines ++ more) × TakesLines takes (length lines) before more after

-- lines were taken up to one that ended the log, which is complete
pub record StopsWithin {S E : Type 0} (takes : S → ℕ → List ℕ → S → Result (Unit {0}) E → Type 0) (before : S)
    (whole : List ℕ) (lines : List (List ℕ)) (after : S) (end : E) : Type 0 where
  pub more : List (List ℕ)
  pub taken : S
  pub takes_more : TakesLines takes (length lines) before more taken
  pub line : List ℕ
  pub beyond : List (List ℕ)
  pub cut : log_lines whole ≡ (lines ++ more) ++ line ∷ beyond
  pub complete : 0 < length beyond
  pub stops : TakesNext takes (length lines + length more) taken line after (Err end)

-- the same of the lines that are complete with these bytes more
abbrev pub StopsInBytes : {S E : Type 0} → (S → ℕ → List ℕ → S → Result (Unit {0}) E → Type 0) → UnendedState → S
    → List ℕ → S → E → Type 0
StopsInBytes takes old before piece after end =
    (bytes : List ℕ) (lines : List (List ℕ)) → IsUnendedOf old bytes lines
    → StopsWithin takes before (bytes ++ piece) lines after end

-- as many bytes were taken as the answer says, or the taker ended the log among them
abbrev pub TakesPrefix : {S E : Type 0} → (S → ℕ → List ℕ → S → Result (Unit {0}) E → Type 0) → UnendedState → S
    → List ℕ → UnendedState → S → Result ℕ E → Type 0
TakesPrefix takes old before bytes new after (Ok count) = TakesComplete takes old before (take count bytes) new after
TakesPrefix takes old before bytes new after (Err end) = StopsInBytes takes old before bytes after end

-- all bytes were taken, or the taker ended the log among them
abbrev pub TakesBytes : {S E : Type 0} → (S → ℕ → List ℕ → S → Result (Unit {0}) E → Type 0) → UnendedState → S
    → List ℕ → UnendedState → S → Result (Unit {0}) E → Type 0
TakesBytes takes old before piece new after (Ok _) = TakesComplete takes old before piece new after
TakesBytes takes old before piece new after (Err end) = StopsInBytes takes old before piece after end

-- the log ended: the unended line was taken, and the end came; or the taker ended the log at this line
abbrev pub EndsAfterLast : {S E : Type 0} → (S → ℕ → List ℕ → S → Result (Unit {0}) E → Type 0) → (S → S → E → Type 0)
    → UnendedState → S → S → E → Type 0
EndsAfterLast {S} takes ends u before after end =
    ((taken : S) × takes before (counted u.lines) u.line taken (Ok tt) × ends taken after end)
    ⊎ takes before (counted u.lines) u.line after (Err end)

-- room for lines of so many bytes, and for so many ends of lines
abbrev pub HasLineRoom : {A : Type 0} → (A → ℕ → ℕ → Type 0) → A → ℕ → ℕ → Type 0
HasLineRoom ready taker bytes feeds = (b : ℕ) × (f : ℕ) × ready taker b f × (bytes ≤ b) × (feeds ≤ f)

-- these bytes came of the log without a fault, and their complete lines were taken
pub record StreamSoFar {S E : Type 0} (takes : S → ℕ → List ℕ → S → Result (Unit {0}) E → Type 0)
    (pauses : S → S → Result (Unit {0}) E → Type 0) (log : Reading) (u : UnendedState) (start now : S)
    (bytes : List ℕ) (lines : List (List ℕ)) : Type 0 where
  pub came : Came log.before log.after bytes
  pub calm : log.after.faults ≡ log.before.faults
  pub unended : IsUnendedOf u bytes lines
  pub paused : Paused takes pauses start bytes lines now

-- what a turn of the loop leaves: one more byte at least came and was taken; or the stream ended
abbrev pub StreamTurns : {S E : Type 0} → (S → ℕ → List ℕ → S → Result (Unit {0}) E → Type 0)
    → (S → S → Result (Unit {0}) E → Type 0) → (S → S → E → Type 0) → Reading → UnendedState → S → S → List ℕ
    → List (List ℕ) → Option (Result E StreamFault) → Type 0
StreamTurns takes pauses ends log u start now bytes lines None = (piece : List ℕ) × (more : List (List ℕ))
    × (0 < length piece) × StreamSoFar takes pauses log u start now (bytes ++ piece) (lines ++ more)
StreamTurns takes pauses ends log u start now bytes lines (Some end) = Streamed takes pauses ends log start now end
