-- Laws of what a run adds to a record of the past.
use Rattle.std.specs.Prelude.{◌≡◌, List, [], ◌∷◌, ◌++◌}
use Rattle.std.proofs.Common.{ap, subst}
use Rattle.machine_runs.specs.Run.{Moment, Run}
use Rattle.machine_runs.specs.Past.{AddsTo, Traced}

Run-adds_to : {C L S E : Type 0} (steps : S → C → L → S → Type 0) (past : S → List E) (P : S → Type 0)
    (adds : List E → Moment C L S → List E → Type 0)
    → ((s : S) (m : Moment C L S) → P s → steps s m.command m.line m.after
    → ((part : List E) × adds (past s) m part × (past m.after ≡ past s ++ part)) × P m.after)
    → (start : S) (ms : List (Moment C L S)) (now : S) → P start → Run steps start ms now
    → AddsTo adds (past start) ms (past now)
Run-adds_to steps past P adds each start [] now holds run = ap past run
Run-adds_to steps past P adds each start (m ∷ ms) now holds run =
    let step = each start m holds run.0 in (
      step.0.0,
      step.0.1,
      subst (λ first. AddsTo adds first ms (past now)) step.0.2
          (Run-adds_to steps past P adds each m.after ms now step.1 run.1),
    )

-- if each step from a state with P adds a part that its moment may add, and keeps P, the past of a run is traced
pub Run-traced : {C L S E : Type 0} (steps : S → C → L → S → Type 0) (past : S → List E) (P : S → Type 0)
    (begins : S → List E → Type 0) (adds : List E → Moment C L S → List E → Type 0)
    → ((s : S) (m : Moment C L S) → P s → steps s m.command m.line m.after
    → ((part : List E) × adds (past s) m part × (past m.after ≡ past s ++ part)) × P m.after)
    → (start : S) (ms : List (Moment C L S)) (now : S) → P start → begins start (past start) → Run steps start ms now
    → Traced begins adds start ms (past now)
Run-traced steps past P begins adds each start ms now holds begun run = record {
  first = past start;
  begun = begun;
  added = Run-adds_to steps past P adds each start ms now holds run;
}
