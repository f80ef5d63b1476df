-- What was driven into a printer is printed.
use Rattle.std.proofs.Common.{ℕ, ◌+◌, List, [], ◌∷◌, length, Result, Err, sym, subst}
use Rattle.std.proofs.lemmas.Result.{MatchResult-weaker}
use Rattle.basics.proofs.CallerLemmas.{rose_after}
use Rattle.bus_port.specs.Sink.{SinkState}
use Rattle.bus_port.proofs.CallerLemmas.{Appended-more}
use Rattle.program_edge.specs.Told.{AppendedWell}
use Rattle.program_edge.proofs.CallerLemmas.{AppendedWell-nothing, AppendedWell-more}
use Rattle.machine_runs.specs.Run.{lines_in}
use Rattle.run_driver.specs.Driven.{TakenUp, Driven}
use Rattle.run_driver.specs.DrivenLaws.{FirstDone-weaker}
use Rattle.run_driver.specs.Printed.{texts, WritesLine, WrittenPart, Printed}
use Rattle.run_driver.specs.declared.printing.Unwritten.{Unwritten}
use Rattle.run_driver.specs.declared.printing.Unwritten.TheVariants.{SinkFailed, Memory}

-- lines that were taken up by a printer are in the sink
pub TakenUp-written : {L : Type 0} (text : ℕ → L → List ℕ) (number : ℕ) (before : SinkState) (lines : List L) (after : SinkState)
    → TakenUp (WritesLine text) number before lines after → AppendedWell before after (texts text number lines)
TakenUp-written text number before [] after taken = AppendedWell-nothing before after taken
TakenUp-written text number before (line ∷ lines) after taken =
    AppendedWell-more before taken.0 after (text number line) (texts text (number + 1) lines) taken.1 (TakenUp-written text (number + 1) taken.0 lines after taken.2)

-- and then a line that was not written whole
pub WrittenPart-after : {L : Type 0} (text : ℕ → L → List ℕ) (before mid after : SinkState) (whole : List ℕ) (number : ℕ) (line : L) (cause : Unwritten)
    → AppendedWell before mid whole → WritesLine text mid number line after (Err cause)
    → WrittenPart before after whole (text number line) cause
WrittenPart-after text before mid after whole number line SinkFailed written failed =
    (rose_after _ _ _ written.1.later failed.0, failed.1.0, failed.1.1, Appended-more written.1 failed.1.2)
WrittenPart-after text before mid after whole number line Memory written failed =
    subst (λ t. AppendedWell before t whole) (sym failed) written

pub Driven-printed : {C L S : Type 0} (steps : S → C → L → S → Type 0) (text : ℕ → L → List ℕ) (start now : S) (before after : SinkState) (commands : List C) (result : Result (Unit {0}) Unwritten)
    → Driven steps (WritesLine text) start now before after commands result → Printed steps text start now before after commands result
Driven-printed steps text start now before after commands result d =
    FirstDone-weaker d (λ ms run first consumed. MatchResult-weaker result consumed
    (λ _ all. (all.0, TakenUp-written text 1 before (lines_in ms) after all.1))
    (λ cause part. record {
      front = part.front;
      last = part.last;
      all = part.all;
      written = WrittenPart-after text before part.mid after (texts text 1 (lines_in part.front)) (length ms) part.last.line cause
          (TakenUp-written text 1 before (lines_in part.front) part.mid part.taken) part.refused;
    }))
