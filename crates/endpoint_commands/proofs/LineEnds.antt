-- A line was answered, and its answer printed, or the log ended at it
use Rattle.std.proofs.Common.{◌≡◌, ℕ, Bool, true, false, List, [], refl, sym, ◌∙◌, ap, subst, inl, inr}
use Rattle.std.specs.Prelude.{Result, Ok, Err, OnOk, OnErr}
use Rattle.bus_port.specs.Fault.{Rose}
use Rattle.bus_port.specs.declared.port.PortFailed.{PortFailed}
use Rattle.bus_port.specs.Sink.{SinkState, Appended}
use Rattle.bus_port.specs.Whole.{AppendedPart}
use Rattle.program_edge.specs.Told.{AppendedWell}
use Rattle.endpoint_commands.specs.Running.{line_answer}
use Rattle.endpoint_commands.specs.States.{EndpointState, EndpointAtSink, AnswersNext, AnswersLine, PrintsAnswer, stop_told}

module _ (p : EndpointAtSink) (number : ℕ) (line : List ℕ) (mid : EndpointState) (after : SinkState) (failed : Bool) (answers : AnswersNext (record p.endpoint { text = [] }) number line mid failed) where
  abbrev said : List ℕ
  said = line_answer p.endpoint.rules number line answers.told

  text_is : mid.text ≡ said
  text_is = ap (λ (s : EndpointState). s.text) answers.new_is

  answered : (result : Result (Unit {0}) ℕ) → PrintsAnswer p.sink after said answers.told result → AnswersLine p number line (record { endpoint = mid; sink = after }) result
  answered result prints = record {
    told = answers.told;
    rules = ap (λ (s : EndpointState). s.rules) answers.new_is;
    takes = answers.takes;
    counts_are = ap (λ (s : EndpointState). s.counts) answers.new_is ∙ answers.counts_are;
    prints = prints;
  }

  by_failed : (b : Bool) → failed ≡ b → AppendedWell p.sink after mid.text → PrintsAnswer p.sink after said answers.told (stop_told (Ok tt) b)
  by_failed true is well = inr (refl, subst (AppendedWell p.sink after) text_is well, sym answers.failed_is ∙ is)
  by_failed false is well = (subst (AppendedWell p.sink after) text_is well, sym answers.failed_is ∙ is)

  -- by what became of its answer
  pub line_ended : (printed : Result (Unit {0}) PortFailed) → OnOk printed (Appended p.sink after mid.text) → OnOk printed (after.faults ≡ p.sink.faults)
      → OnErr printed (Rose p.sink.faults after.faults) → OnErr printed (AppendedPart p.sink after mid.text)
      → AnswersLine p number line (record { endpoint = mid; sink = after }) (stop_told printed failed)
  line_ended (Ok _) appended calm rose part = answered (stop_told (Ok tt) failed) (by_failed failed refl (calm, appended))
  line_ended (Err _) appended calm rose part = answered (Err 6) (inl (refl, rose, subst (AppendedPart p.sink after) text_is part))
