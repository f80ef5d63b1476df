-- Laws of what driving leaves.
use Rattle.std.specs.Prelude.{◌≡◌, ◌≤◌, List, length, take}
use Rattle.std.proofs.Common.{◌∙◌, sym, ap, arith, length-take}
use Rattle.std.proofs.lemmas.List.{length-map}
use Rattle.machine_runs.specs.Run.{Moment, Run, commands_in}
use Rattle.run_driver.specs.Driven.{FirstDone}

-- what follows of the moments from what holds of them holds of the same run
pub FirstDone-weaker : {C L S : Type 0} {steps : S → C → L → S → Type 0} {start now : S} {commands : List C}
    {P Q : List (Moment C L S) → Type 0}
    → FirstDone steps start now commands P
    → ((ms : List (Moment C L S)) → Run steps start ms now → commands_in ms ≡ take (length ms) commands → P ms → Q ms)
    → FirstDone steps start now commands Q
FirstDone-weaker d follows = record {
  moments = d.moments;
  run = d.run;
  first = d.first;
  holds = follows d.moments d.run d.first d.holds;
}

-- no more moments than commands
pub FirstDone-few : {C L S : Type 0} {steps : S → C → L → S → Type 0} {start now : S} {commands : List C}
    {P : List (Moment C L S) → Type 0}
    → (d : FirstDone steps start now commands P) → length d.moments ≤ length commands
FirstDone-few {commands = commands} d =
    let same : length d.moments ≡ length (take (length d.moments) commands) =
    sym (length-map d.moments (λ m. m.command)) ∙ ap length d.first in
    omega (arith, same, length-take (length d.moments) commands)
