-- What an endpoint does with the lines of a log, and what it prints and counts of them
use Rattle.std.specs.Prelude.{◌≡◌, ℕ, ◌+◌, Bool, true, false, List, [], ◌∷◌, ◌++◌, length, filter, Option, None, Some}
use Rattle.machine_runs.specs.Run.{Moment, Run, commands_in}
use Rattle.text_lines.specs.Lines.{words_of}
use Rattle.bus_machine.specs.declared.events.Event.{Event}
use Rattle.bus_machine.specs.declared.lines.Line.{Line}
use Rattle.bus_machine.specs.declared.lines.Line.TheVariants.{Refused}
use Rattle.bus_machine.specs.declared.lines.Refusal.TheVariants.{MemoryFailure}
use Rattle.secoc_node.specs.State.{NodeState}
use Rattle.line_stream.specs.Pieces.{log_lines, in_64_bits}
use Rattle.endpoint_commands.specs.declared.rules.FrameRule.{FrameRule}
use Rattle.endpoint_commands.specs.declared.counting.EndpointCounts.{EndpointCounts}
use Rattle.endpoint_commands.specs.declared.counting.LineKind.{LineKind}
use Rattle.endpoint_commands.specs.Alone.{TurnsAlone}
use Rattle.endpoint_commands.specs.Asking.{asked_of_line, event_asked}
use Rattle.endpoint_commands.specs.Counting.{kind_asked, counts_sent, counts_accepted, counts_refused, counts_other, counts_line}
use Rattle.endpoint_commands.specs.Lines.{answer_text}

-- ---- the machine: its commands are the lines of a log, and it tells what the node told of the event of a line, if any

-- the node's turn, as one on a bus on which nothing was sent; nothing where no event is asked
abbrev pub DoesEvent : Option Event → NodeState → Option Line → NodeState → Type 0
DoesEvent None before None after = after ≡ before
DoesEvent None before (Some told) after = ⊥
DoesEvent (Some event) before None after = ⊥
DoesEvent (Some event) before (Some told) after = TurnsAlone before event told after

abbrev pub TakesLine : List FrameRule → NodeState → List ℕ → Option Line → NodeState → Type 0
TakesLine rules before bytes told after = DoesEvent (event_asked rules (asked_of_line rules bytes)) before told after

abbrev pub LineMoment : Type 0
LineMoment = Moment (List ℕ) (Option Line) NodeState

-- ---- what is printed

-- the answer to a line with this number
abbrev pub line_answer : List FrameRule → ℕ → List ℕ → Option Line → List ℕ
line_answer rules number bytes told = answer_text rules number (words_of bytes) (asked_of_line rules bytes) told

-- the answers to lines behind so many others
abbrev pub answers_behind : List FrameRule → ℕ → List LineMoment → List ℕ
answers_behind rules before [] = []
answers_behind rules before (m ∷ ms) =
    line_answer rules (in_64_bits (before + 1)) m.command m.line ++ answers_behind rules (before + 1) ms

-- the line tells that the disk failed
abbrev pub tells_failed_disk : Option Line → Bool
tells_failed_disk (Some (Refused MemoryFailure)) = true
tells_failed_disk _ = false

-- ---- what is counted

-- what a line of a moment counts as
abbrev pub kind_of_line : List FrameRule → LineMoment → Option LineKind
kind_of_line rules m = kind_asked (asked_of_line rules m.command) m.line

-- how many lines count so, in 64 bits
abbrev pub count_of_kind : List FrameRule → (Option LineKind → Bool) → List LineMoment → ℕ
count_of_kind rules passes moments = in_64_bits (length (filter (λ m. passes (kind_of_line rules m)) moments))

-- what is counted of moments
abbrev pub counts_of_lines : List FrameRule → List LineMoment → EndpointCounts
counts_of_lines rules moments = record {
  sent = count_of_kind rules counts_sent moments;
  accepted = count_of_kind rules counts_accepted moments;
  refused = count_of_kind rules counts_refused moments;
  others = count_of_kind rules counts_other moments;
}

-- the line at the end of a log
abbrev pub closing_text : List FrameRule → List LineMoment → List ℕ
closing_text rules moments = counts_line (counts_of_lines rules moments)

-- ---- a log

-- these moments are a run of the machine over the first lines of these bytes, each of which a line feed ended, from
-- this state of the node to that
pub record LinesDone (rules : List FrameRule) (start : NodeState) (bytes : List ℕ) (moments : List LineMoment)
    (now : NodeState) : Type 0 where
  pub rest : List ℕ
  pub later : List (List ℕ)
  pub cut : log_lines bytes ≡ commands_in moments ++ rest ∷ later
  pub run : Run (TakesLine rules) start moments now
