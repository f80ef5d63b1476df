-- The state of an endpoint between two lines of a log, and what its steps say to one another
use Rattle.std.specs.Prelude.{◌≡◌, ◌⊎◌, ℕ, ◌+◌, ◌<◌, ◌≤◌, Bool, true, false, List, [], ◌++◌, length, All, vec_capacity, Option, Result, Ok, Err}
use Rattle.bus_port.specs.declared.port.PortFailed.{PortFailed}
use Rattle.bus_port.specs.Fault.{Rose}
use Rattle.bus_port.specs.Sink.{SinkState}
use Rattle.bus_port.specs.Whole.{AppendedPart}
use Rattle.program_edge.specs.Told.{AppendedWell, EndingTold}
use Rattle.bus_machine.specs.declared.events.Event.TheVariants as event
use Rattle.bus_machine.specs.declared.lines.Line.{Line}
use Rattle.bus_machine.specs.declared.lines.Line.TheVariants.{Refused}
use Rattle.bus_machine.specs.declared.lines.Refusal.TheVariants.{BadLength}
use Rattle.bus_script.specs.LineTexts.{told_words}
use Rattle.secoc_node.specs.State.{NodeState}
use Rattle.line_stream.specs.Pieces.{PutsPiece}
use Rattle.endpoint_commands.specs.declared.rules.FrameRule.{FrameRule}
use Rattle.endpoint_commands.specs.declared.asking.Asked.{Asked}
use Rattle.endpoint_commands.specs.declared.counting.EndpointCounts.{EndpointCounts}
use Rattle.endpoint_commands.specs.declared.endpoint.Room.{Room}
use Rattle.endpoint_commands.specs.Alone.{TurnsAlone}
use Rattle.endpoint_commands.specs.Rules.{taken_size}
use Rattle.endpoint_commands.specs.Asking.{asked_of_line, event_asked, frame_event}
use Rattle.endpoint_commands.specs.Lines.{answer_text, comment_text}
use Rattle.endpoint_commands.specs.Running.{DoesEvent, TakesLine, line_answer, tells_failed_disk, counts_of_lines}
use Rattle.endpoint_commands.specs.Counting.{kind_asked, counts_with, counts_line}

-- the rules and the node; the counts, and what was printed last
pub record EndpointState : Type 0 where
  pub rules : List FrameRule
  pub node : NodeState
  pub counts : EndpointCounts
  pub text : List ℕ

-- no line was taken yet
abbrev pub IsFreshEndpoint : EndpointState → Type 0
IsFreshEndpoint state = state.counts ≡ counts_of_lines state.rules []

-- whether the next line is taken, by what became of the answer to the last one, and whether this tells that the disk
-- failed; and the status of a run that ends there
abbrev pub stop_told : Result (Unit {0}) PortFailed → Bool → Result (Unit {0}) ℕ
stop_told (Err _) failed = Err 6
stop_told (Ok _) true = Err 11
stop_told (Ok _) false = Ok tt

-- the room for the lines of a log, and for their answers by these rules, is empty and large enough
pub record HasRoomFor (rules : List FrameRule) (room : Room) : Type 0 where
  pub spans : 4097 ≤ vec_capacity room.spans
  pub text : 4398 ≤ vec_capacity room.text
  pub answers : All (λ r. length r.to + 4398 ≤ vec_capacity room.text) rules

-- what is done of words: the event that they ask, their answer is added, and they are counted; it is told whether the
-- disk failed
pub record AnswersWords (rules : List FrameRule) (number : ℕ) (words : List (List ℕ)) (asked : Asked)
    (before after : NodeState) (old new : List ℕ) (counted_before counted_after : EndpointCounts) (failed : Bool)
    : Type 0 where
  pub told : Option Line
  pub does : DoesEvent (event_asked rules asked) before told after
  pub text_is : new ≡ old ++ answer_text rules number words asked told
  pub counts_are : counted_after ≡ counts_with (kind_asked asked told) counted_before
  pub failed_is : failed ≡ tells_failed_disk told

-- the same of the line with this number, and its answer is the text
pub record AnswersNext (old : EndpointState) (number : ℕ) (line : List ℕ) (new : EndpointState) (failed : Bool)
    : Type 0 where
  pub told : Option Line
  pub takes : TakesLine old.rules old.node line told new.node
  pub counts : EndpointCounts
  pub counts_are : counts ≡ counts_with (kind_asked (asked_of_line old.rules line) told) old.counts
  pub new_is : new ≡ record old {
    node = new.node;
    counts = counts;
    text = old.text ++ line_answer old.rules number line told;
  }
  pub failed_is : failed ≡ tells_failed_disk told

-- what is told of a frame by a rule: that its length is bad, where it has too few data bytes; else what the node tells
abbrev pub ToldOfFrame : FrameRule → List ℕ → NodeState → Line → NodeState → Type 0
ToldOfFrame rule bytes before told after =
    ((length bytes < taken_size rule) × (told ≡ Refused BadLength) × (after ≡ before))
    ⊎ ((taken_size rule ≤ length bytes)
    × TurnsAlone before (frame_event rule bytes) told after)

-- the node booted before the log, and what it told was printed
pub record BootsFirst (image : List ℕ) (old : EndpointState) (before : SinkState)
    (new : EndpointState) (after : SinkState) (result : Result (Unit {0}) PortFailed) : Type 0 where
  pub told : Line
  pub turn : TurnsAlone old.node (event.Boot 0 image) told new.node
  pub rules : new.rules ≡ old.rules
  pub fresh : IsFreshEndpoint old → IsFreshEndpoint new
  pub puts : PutsPiece before after (comment_text (told_words told)) result

-- ---- over a sink, as what the driver of a log hands its lines to

-- an endpoint, and the sink that it prints to
pub record EndpointAtSink : Type 0 where
  pub endpoint : EndpointState
  pub sink : SinkState

-- the answer to a line was printed, and doesn't tell that the disk failed; or the sink failed, and has a proper prefix
-- of it; or it tells that the disk failed
abbrev pub PrintsAnswer : SinkState → SinkState → List ℕ → Option Line → Result (Unit {0}) ℕ → Type 0
PrintsAnswer before after answer told (Ok _) = AppendedWell before after answer × (tells_failed_disk told ≡ false)
PrintsAnswer before after answer told (Err status) =
    ((status ≡ 6) × Rose before.faults after.faults × AppendedPart before after answer)
    ⊎ ((status ≡ 11) × AppendedWell before after answer × (tells_failed_disk told ≡ true))

-- a line: what it asks is done, and its answer printed; a sink or a disk that failed ends the log
pub record AnswersLine (before : EndpointAtSink) (number : ℕ) (line : List ℕ) (after : EndpointAtSink)
    (result : Result (Unit {0}) ℕ) : Type 0 where
  pub told : Option Line
  pub rules : after.endpoint.rules ≡ before.endpoint.rules
  pub takes : TakesLine before.endpoint.rules before.endpoint.node line told after.endpoint.node
  pub counts_are : after.endpoint.counts
      ≡ counts_with (kind_asked (asked_of_line before.endpoint.rules line) told) before.endpoint.counts
  pub prints : PrintsAnswer before.sink after.sink (line_answer before.endpoint.rules number line told) told result

-- a pause: the log goes on
abbrev pub GoesOnAtPause : EndpointAtSink → EndpointAtSink → Result (Unit {0}) ℕ → Type 0
GoesOnAtPause before after (Ok _) = after ≡ before
GoesOnAtPause before after (Err _) = ⊥

-- the end of the log: the counts are printed
abbrev pub TellsCounts : EndpointAtSink → EndpointAtSink → ℕ → Type 0
TellsCounts before after status = (after.endpoint.rules ≡ before.endpoint.rules)
    × (after.endpoint.node ≡ before.endpoint.node)
    × EndingTold before.sink after.sink (counts_line before.endpoint.counts) 0 status
