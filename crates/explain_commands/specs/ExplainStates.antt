-- What is known of a log between two of its lines, and what the driver of a log is told
use Rattle.std.specs.Prelude.{◌≡◌, ℕ, ◌<◌, Bool, true, false, List, [], ◌∷◌, ◌++◌, take, Result, Ok, Err, IfErr}
use Rattle.bus_port.specs.Sink.{SinkState}
use Rattle.program_edge.specs.Told.{EndingTold}
use Rattle.can_logs.specs.Findings.{first_counters}
use Rattle.line_stream.specs.Pieces.{PutsPiece}
use Rattle.can_logs.specs.WatchMaps.{NumberedMap}
use Rattle.explain_commands.specs.declared.recent.Accepted.{Accepted}
use Rattle.explain_commands.specs.declared.answers.LineAnswer.{LineAnswer}
use Rattle.explain_commands.specs.declared.answers.LineAnswer.TheVariants as answer
use Rattle.explain_commands.specs.Explaining.{Known, answer_line, said_of, next_counters, have_risen, status_by}

-- the map, the counters of its lines, and the frames that were accepted last; whether a frame failed; what is said of
-- the last lines
pub record ExplainState : Type 0 where
  pub mapping : NumberedMap
  pub counters : List ℕ
  pub recent : List Accepted
  pub failed : Bool
  pub text : List ℕ

-- what a state knows of the lines before
abbrev pub known_by : ExplainState → Known
known_by s = record { mapping = s.mapping; counters = s.counters; recent = s.recent }

-- a place is one of so many
abbrev pub IsPlacedAnswer : ℕ → LineAnswer → Type 0
IsPlacedAnswer size answer.Silent = Unit {0}
IsPlacedAnswer size (answer.Accepted a) = a.place < size
IsPlacedAnswer size (answer.Failed number place e) = place < size

-- the state after an answer
abbrev pub after_answer : ExplainState → LineAnswer → ExplainState
after_answer s answer.Silent = s
after_answer s (answer.Accepted a) =
    record s { counters = next_counters s.counters a; recent = take 65536 (a ∷ s.recent) }
after_answer s (answer.Failed number place e) =
    record s { failed = true; text = s.text ++ said_of s.mapping (answer.Failed number place e) }

-- nothing was answered yet
abbrev pub IsFreshExplainer : ExplainState → Type 0
IsFreshExplainer s =
    (s.counters ≡ first_counters s.mapping.lines) × (s.recent ≡ []) × (s.failed ≡ false) × (s.text ≡ [])

-- the status at the end of a log, of a state
abbrev pub end_explained : ExplainState → ℕ
end_explained s = status_by s.failed (have_risen s.mapping s.counters)

-- ---- over a sink

-- an explainer, and the sink that it prints to
pub record ExplainerAtSink : Type 0 where
  pub explainer : ExplainState
  pub sink : SinkState

-- a line: its answer is kept, and its text is added
abbrev pub ExplainsLine : ExplainerAtSink → ℕ → List ℕ → ExplainerAtSink → Result (Unit {0}) ℕ → Type 0
ExplainsLine before number line after (Ok _) = after ≡ record before {
  explainer = after_answer before.explainer (answer_line (known_by before.explainer) number line);
}
ExplainsLine before number line after (Err _) = ⊥

-- a pause: the text is printed, and a new one begins; or the sink failed, and that ends the log with 6
abbrev pub PrintsText : ExplainerAtSink → ExplainerAtSink → Result (Unit {0}) ℕ → Type 0
PrintsText before after result = PutsPiece before.sink after.sink before.explainer.text result
    × (after.explainer ≡ record before.explainer { text = [] }) × IfErr result (λ status. status ≡ 6)

-- the end of the log: the text is printed, and the status is that of all answers
abbrev pub TellsExplained : ExplainerAtSink → ExplainerAtSink → ℕ → Type 0
TellsExplained before after status =
    EndingTold before.sink after.sink before.explainer.text (end_explained before.explainer) status
