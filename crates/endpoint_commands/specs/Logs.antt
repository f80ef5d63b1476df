-- How an endpoint ends over a log: what came of it, what was done, and what was printed
use Rattle.std.specs.Prelude.{◌≡◌, ◌⊎◌, ℕ, ◌+◌, ◌<◌, ◌≤◌, true, false, List, [], ◌∷◌, ◌++◌, length, take, codes, All}
use Rattle.basics.specs.FaultCount.{last_count}
use Rattle.bus_port.specs.Source.{Came}
use Rattle.bus_port.specs.Sink.{Appended}
use Rattle.bus_port.specs.Whole.{ReadsAll}
use Rattle.program_edge.specs.Rows.{Row, row_of}
use Rattle.program_edge.specs.Inputs.{Reading, SourceFailed}
use Rattle.program_edge.specs.Told.{EndingTold}
use Rattle.program_edge.specs.Endings.{Ending, PrintsWhole, SinkFailed}
use Rattle.machine_runs.specs.Run.{Run, commands_in}
use Rattle.secoc_node.specs.State.{NodeState}
use Rattle.line_stream.specs.Pieces.{log_lines, in_64_bits}
use Rattle.can_logs.specs.LogRuns.{IsUnwritten, WritesWhole, WatchEnding, on_output}
use Rattle.endpoint_commands.specs.declared.rules.FrameRule.{FrameRule}
use Rattle.endpoint_commands.specs.Running.{LineMoment, TakesLine, LinesDone, line_answer, answers_behind, closing_text, tells_failed_disk}

-- the text of a row was printed behind these answers, and the run ends with its status; or its sink failed within it
abbrev pub EndsBehind : Ending → List ℕ → Row → Type 0
EndsBehind e answers row =
    ((e.status ≡ row.status) × PrintsWhole e (answers ++ row.text))
    ⊎ ((e.status ≡ 6) × SinkFailed e
    × ((n : ℕ) × (n < length row.text) × Appended e.before e.after (answers ++ take n row.text)))

-- these answers were printed, and a row's text on standard error, and the run ends with its status; or standard error
-- failed within it
abbrev pub TellsBehind : WatchEnding → List ℕ → Row → Type 0
TellsBehind e answers row =
    WritesWhole e.output answers × EndingTold e.errors.before e.errors.after row.text row.status e.status

-- no answer tells that the disk failed
abbrev pub Unfailed : List LineMoment → Type 0
Unfailed moments = All (λ m. tells_failed_disk m.line ≡ false) moments

-- the answer to a line behind so many others
abbrev pub answer_behind : List FrameRule → ℕ → LineMoment → List ℕ
answer_behind rules before m = line_answer rules (in_64_bits (before + 1)) m.command m.line

-- all bytes of a log came, and all its lines are these moments
pub record LogRead (rules : List FrameRule) (start : NodeState) (log : Reading) (moments : List LineMoment)
    (now : NodeState) : Type 0 where
  pub bytes : List ℕ
  pub reads : ReadsAll log.before log.after (length bytes) bytes
  pub lines : log_lines bytes ≡ commands_in moments
  pub run : Run (TakesLine rules) start moments now

-- these bytes came of a log, and its complete lines are these moments
pub record LinesRead (rules : List FrameRule) (start : NodeState) (log : Reading) (moments : List LineMoment)
    (now : NodeState) : Type 0 where
  pub bytes : List ℕ
  pub rest : List ℕ
  pub came : Came log.before log.after bytes
  pub lines : log_lines bytes ≡ commands_in moments ++ rest ∷ []
  pub run : Run (TakesLine rules) start moments now

-- some bytes came of a log, whose count of faults stood still; the first of its complete lines are these moments
pub record FirstLinesRead (rules : List FrameRule) (start : NodeState) (log : Reading) (moments : List LineMoment)
    (now : NodeState) : Type 0 where
  pub bytes : List ℕ
  pub came : Came log.before log.after bytes
  pub calm : log.after.faults ≡ log.before.faults
  pub done : LinesDone rules start bytes moments now

-- the answers were printed up to the last; of this the sink took a proper prefix, or it tells that the disk failed
pub data StopsAt (rules : List FrameRule) (opening : List ℕ) (moments : List LineMoment) (last : LineMoment)
    (e : Ending) : Type 0 where
  by_sink : e.status ≡ 6 → SinkFailed e → (n : ℕ) → n < length (answer_behind rules (length moments) last)
      → Appended e.before e.after
      (opening ++ answers_behind rules 0 moments ++ take n (answer_behind rules (length moments) last))
      → StopsAt rules opening moments last e
  by_disk : e.status ≡ 11 → tells_failed_disk last.line ≡ true
      → PrintsWhole e (opening ++ answers_behind rules 0 moments ++ answer_behind rules (length moments) last)
      → StopsAt rules opening moments last e

-- the ways in which a log ends, behind an opening that was printed before it: these lines were taken
pub data EndsLines (rules : List FrameRule) (start : NodeState) (opening : List ℕ) (log : Reading) (e : WatchEnding)
    (now : NodeState) : List LineMoment → Type 0 where
  -- its end came: all its lines were answered, and the counts were printed
  done : (moments : List LineMoment) (last : LineMoment) → LogRead rules start log (moments ++ last ∷ []) now
      → Unfailed (moments ++ last ∷ [])
      → EndsBehind (on_output e) (opening ++ answers_behind rules 0 moments)
      (row_of 0 (answer_behind rules (length moments) last ++ closing_text rules (moments ++ last ∷ [])))
      → IsUnwritten e.errors
      → EndsLines rules start opening log e now (moments ++ last ∷ [])
  -- it failed, or 2^64 - 1 bytes and more came: all its complete lines were answered, and standard error tells it
  failed : (moments : List LineMoment) → LinesRead rules start log moments now → Unfailed moments → SourceFailed log
      → TellsBehind e (opening ++ answers_behind rules 0 moments) (row_of 5 (codes "read fault\n"))
      → EndsLines rules start opening log e now moments
  too_long : (moments : List LineMoment) → (read : LinesRead rules start log moments now) → Unfailed moments
      → log.after.faults ≡ log.before.faults → last_count ≤ length read.bytes
      → TellsBehind e (opening ++ answers_behind rules 0 moments) (row_of 8 (codes "input too long\n"))
      → EndsLines rules start opening log e now moments
  -- standard output or the disk failed at a line: nothing was asked of the log after it
  stopped : (moments : List LineMoment) (last : LineMoment)
      → FirstLinesRead rules start log (moments ++ last ∷ []) now → Unfailed moments
      → StopsAt rules opening moments last (on_output e) → IsUnwritten e.errors
      → EndsLines rules start opening log e now (moments ++ last ∷ [])
  stopped_last : (moments : List LineMoment) (last : LineMoment) → LogRead rules start log (moments ++ last ∷ []) now
      → Unfailed moments → StopsAt rules opening moments last (on_output e) → IsUnwritten e.errors
      → EndsLines rules start opening log e now (moments ++ last ∷ [])
