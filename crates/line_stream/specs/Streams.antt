-- A log that comes in pieces. Its lines are handed to a taker, each before the log is read again.
-- A taker has states `S` and an end `E`, and three relations: what a line with its number leads to (`takes`), what a
-- pause leads to (`pauses`), and what the end of the log leads to (`ends`). `Ok` lets the log go on, `Err` ends it.
use Rattle.std.specs.Prelude.{◌≡◌, ◌⊎◌, ℕ, ◌+◌, ◌<◌, ◌≤◌, List, [], ◌∷◌, ◌++◌, length, take, Result, Ok, Err}
use Rattle.bus_port.specs.Fault.{last_count}
use Rattle.bus_port.specs.Source.{Came}
use Rattle.program_edge.specs.Inputs.{Reading, SourceFailed}
use Rattle.bus_port.specs.Whole.{ReadsAll}
use Rattle.line_stream.specs.Pieces.{line_limit, log_lines, in_64_bits}
use Rattle.line_stream.specs.declared.driver.StreamFault.{StreamFault}
use Rattle.line_stream.specs.declared.driver.StreamFault.TheVariants.{ReadFault, TooLong}

-- what is kept of a line: of one that is too long one byte more than a line may have
abbrev pub kept_of : List ℕ → List ℕ
kept_of line = take (line_limit + 1) line

-- what the next line after so many leads to
abbrev pub TakesNext : {S E : Type 0} → (S → ℕ → List ℕ → S → Result (Unit {0}) E → Type 0) → ℕ → S → List ℕ → S
    → Result (Unit {0}) E → Type 0
TakesNext takes count before line after result = takes before (in_64_bits (count + 1)) (kept_of line) after result

-- these lines after so many were taken one after another
abbrev pub TakesLines : {S E : Type 0} → (S → ℕ → List ℕ → S → Result (Unit {0}) E → Type 0) → ℕ → S
    → List (List ℕ) → S → Type 0
TakesLines takes count before [] after = after ≡ before
TakesLines {S} takes count before (line ∷ lines) after =
    (mid : S) × TakesNext takes count before line mid (Ok tt) × TakesLines takes (count + 1) mid lines after

-- Answers before the next read. `Paused takes pauses start bytes lines now`: these bytes came, all their complete lines
-- were taken, and the log is read next. Before the log nothing came. Then came piece after piece, each of 4,096 bytes
-- at most: the taker took the lines that the piece completed, one after another, and then it paused. Only after that
-- the next piece was asked for. `rest` is what no line feed has ended yet.
pub data Paused {S E : Type 0} (takes : S → ℕ → List ℕ → S → Result (Unit {0}) E → Type 0)
    (pauses : S → S → Result (Unit {0}) E → Type 0) (start : S) : List ℕ → List (List ℕ) → S → Type 0 where
  before_log : Paused takes pauses start [] [] start
  after_piece : (bytes piece : List ℕ) (lines more : List (List ℕ)) (rest : List ℕ) (before taken now : S)
      → Paused takes pauses start bytes lines before → length piece ≤ 4096
      → log_lines (bytes ++ piece) ≡ (lines ++ more) ++ rest ∷ [] → TakesLines takes (length lines) before more taken
      → pauses taken now (Ok tt) → Paused takes pauses start (bytes ++ piece) (lines ++ more) now

-- the log was read to its end: what stands after its last line feed was taken as the last line
pub record EndsStream {S E : Type 0} (takes : S → ℕ → List ℕ → S → Result (Unit {0}) E → Type 0)
    (pauses : S → S → Result (Unit {0}) E → Type 0) (ends : S → S → E → Type 0) (log : Reading) (start now : S)
    (end : E) : Type 0 where
  pub bytes : List ℕ
  pub read : ReadsAll log.before log.after (length bytes) bytes
  pub lines : List (List ℕ)
  pub last : List ℕ
  pub cut : log_lines bytes ≡ lines ++ last ∷ []
  pub before : S
  pub paused : Paused takes pauses start bytes lines before
  -- the taker let it go on, and then came to its end; or it ended the log at this line
  pub ended : ((taken : S) × TakesNext takes (length lines) before last taken (Ok tt) × ends taken now end)
      ⊎ TakesNext takes (length lines) before last now (Err end)

-- the taker ended the log at a line that a piece completed, or at the pause after the piece. Nothing more was asked of
-- the log, and no fault of it was counted
pub record StopsStream {S E : Type 0} (takes : S → ℕ → List ℕ → S → Result (Unit {0}) E → Type 0)
    (pauses : S → S → Result (Unit {0}) E → Type 0) (log : Reading) (start now : S) (end : E) : Type 0 where
  pub bytes : List ℕ
  pub piece : List ℕ
  pub short : length piece ≤ 4096
  pub came : Came log.before log.after (bytes ++ piece)
  pub calm : log.after.faults ≡ log.before.faults
  pub lines : List (List ℕ)
  pub before : S
  pub paused : Paused takes pauses start bytes lines before
  pub more : List (List ℕ)
  pub taken : S
  pub takes_more : TakesLines takes (length lines) before more taken
  -- what is left: at the pause only what no line feed ends; else the line that ended the log, and what comes after it
  pub rest : List ℕ
  pub beyond : List (List ℕ)
  pub cut : log_lines (bytes ++ piece) ≡ (lines ++ more) ++ rest ∷ beyond
  pub stops : ((beyond ≡ []) × pauses taken now (Err end))
      ⊎ ((0 < length beyond) × TakesNext takes (length lines + length more) taken rest now (Err end))

-- exactly these bytes came, and all their complete lines were taken, up to the last pause
pub record TakesAllThatCame {S E : Type 0} (takes : S → ℕ → List ℕ → S → Result (Unit {0}) E → Type 0)
    (pauses : S → S → Result (Unit {0}) E → Type 0) (log : Reading) (start now : S) (P : List ℕ → Type 0)
    : Type 0 where
  pub bytes : List ℕ
  pub came : Came log.before log.after bytes
  pub holds : P bytes
  pub lines : List (List ℕ)
  pub paused : Paused takes pauses start bytes lines now

-- how a log was taken: to its end, or to where the taker ended it; or the log failed, or 2^64 - 1 bytes and more came
abbrev pub Streamed : {S E : Type 0} → (S → ℕ → List ℕ → S → Result (Unit {0}) E → Type 0)
    → (S → S → Result (Unit {0}) E → Type 0) → (S → S → E → Type 0) → Reading → S → S → Result E StreamFault → Type 0
Streamed takes pauses ends log start now (Ok end) =
    EndsStream takes pauses ends log start now end ⊎ StopsStream takes pauses log start now end
Streamed takes pauses ends log start now (Err ReadFault) =
    TakesAllThatCame takes pauses log start now (λ bytes. SourceFailed log)
Streamed takes pauses ends log start now (Err TooLong) =
    TakesAllThatCame takes pauses log start now
    (λ bytes. (log.after.faults ≡ log.before.faults) × (last_count ≤ length bytes))
