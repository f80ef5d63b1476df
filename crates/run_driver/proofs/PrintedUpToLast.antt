-- What was driven into a printer that ends at a last line is printed up to there.
use Rattle.std.proofs.Common.{◌≡◌, ℕ, ◌+◌, List, [], ◌∷◌, Bool, false, All, length, Result, Err}
use Rattle.std.proofs.lemmas.List.Elements.{All-nil, All-cons}
use Rattle.std.proofs.lemmas.Result.{MatchResult-weaker}
use Rattle.bus_port.specs.Sink.{SinkState}
use Rattle.program_edge.specs.Told.{AppendedWell}
use Rattle.program_edge.proofs.CallerLemmas.{AppendedWell-more}
use Rattle.machine_runs.specs.Run.{lines_in}
use Rattle.run_driver.specs.Driven.{TakenUp, Driven}
use Rattle.run_driver.specs.DrivenLaws.{FirstDone-weaker}
use Rattle.run_driver.specs.Printed.{texts, WritesLine}
use Rattle.run_driver.specs.PrintedUntil.{WritesUntil, EndsBy, PrintedUntil}
use Rattle.run_driver.specs.declared.last_line.Stop.{Stop}
use Rattle.run_driver.specs.declared.last_line.Stop.TheVariants.{Unprinted, Last}
use Rattle.run_driver.proofs.PrintedLines.{TakenUp-written, WrittenPart-after}

-- lines that were taken up were written, and none is a last one
TakenUp-until : {L : Type 0} (text : ℕ → L → List ℕ) (ends : L → Bool) (number : ℕ) (before : SinkState) (lines : List L) (after : SinkState)
    → TakenUp (WritesUntil text ends) number before lines after → TakenUp (WritesLine text) number before lines after × All (λ line. ends line ≡ false) lines
TakenUp-until text ends number before [] after taken = (taken, All-nil (λ l. ends l ≡ false))
TakenUp-until text ends number before (line ∷ lines) after taken =
    let rest = TakenUp-until text ends (number + 1) taken.0 lines after taken.2 in
    ((taken.0, taken.1.0, rest.0), All-cons (λ l. ends l ≡ false) line lines taken.1.1 rest.1)

EndsBy-after : {L : Type 0} (text : ℕ → L → List ℕ) (ends : L → Bool) (before mid after : SinkState) (whole : List ℕ) (number : ℕ) (line : L) (stop : Stop)
    → AppendedWell before mid whole → WritesUntil text ends mid number line after (Err stop)
    → EndsBy ends before after whole line (text number line) stop
EndsBy-after text ends before mid after whole number line Last written last =
    (AppendedWell-more before mid after whole (text number line) written last.0, last.1)
EndsBy-after text ends before mid after whole number line (Unprinted cause) written failed =
    WrittenPart-after text before mid after whole number line cause written failed

pub Driven-printed_until : {C L S : Type 0} (steps : S → C → L → S → Type 0) (text : ℕ → L → List ℕ) (ends : L → Bool) (start now : S) (before after : SinkState) (commands : List C) (result : Result (Unit {0}) Stop)
    → Driven steps (WritesUntil text ends) start now before after commands result → PrintedUntil steps text ends start now before after commands result
Driven-printed_until steps text ends start now before after commands result d =
    FirstDone-weaker d (λ ms run first consumed. MatchResult-weaker result consumed
    (λ _ all.
    let taken = TakenUp-until text ends 1 before (lines_in ms) after all.1 in
    (all.0, taken.1, TakenUp-written text 1 before (lines_in ms) after taken.0))
    (λ stop part.
    let taken = TakenUp-until text ends 1 before (lines_in part.front) part.mid part.taken in
    record {
      front = part.front;
      last = part.last;
      all = part.all;
      none_ends = taken.1;
      written = EndsBy-after text ends before part.mid after (texts text 1 (lines_in part.front)) (length ms) part.last.line stop
          (TakenUp-written text 1 before (lines_in part.front) part.mid taken.0) part.refused;
    }))
