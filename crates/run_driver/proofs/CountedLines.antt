-- What was driven into a tally is counted.
use Rattle.std.proofs.Common.{◌≡◌, ℕ, ◌+◌, List, [], ◌∷◌, fold, Ok, subst}
use Rattle.machine_runs.specs.Run.{lines_in}
use Rattle.run_driver.specs.Driven.{TakenUp, Driven}
use Rattle.run_driver.specs.DrivenLaws.{FirstDone-weaker}
use Rattle.run_driver.specs.Counted.{CountsLine, Counted}

TakenUp-counted : {L T : Type 0} (counts : T → L → T) (number : ℕ) (before : T) (lines : List L) (after : T)
    → TakenUp (CountsLine counts) number before lines after → after ≡ fold counts before lines
TakenUp-counted counts number before [] after taken = taken
TakenUp-counted counts number before (line ∷ lines) after taken =
    subst (λ t. after ≡ fold counts t lines) taken.1 (TakenUp-counted counts (number + 1) taken.0 lines after taken.2)

pub Driven-counted : {C L S T : Type 0} (steps : S → C → L → S → Type 0) (counts : T → L → T) (start now : S) (before after : T) (commands : List C) (u : Unit {0})
    → Driven steps (CountsLine counts) start now before after commands (Ok u) → Counted steps counts start now before after commands
Driven-counted steps counts start now before after commands u d =
    FirstDone-weaker d (λ ms run first consumed. (consumed.0, TakenUp-counted counts 1 before (lines_in ms) after consumed.1))
