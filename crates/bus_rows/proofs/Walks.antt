-- Runs that are given row by row: each with its node before and after
use Rattle.std.specs.Prelude.{◌≡◌, Some, List, [], ◌∷◌, map, slice_get}
use Rattle.std.proofs.Common.{refl, ap}
use Rattle.freshness_routes.specs.Config.{Config}
use Rattle.machine_runs.specs.Run.{Run}
use Rattle.bus_machine.specs.declared.events.Event.{Event}
use Rattle.bus_machine.specs.declared.lines.Line.{Line}
use Rattle.bus_machine.specs.Node.{Node}
use Rattle.bus_machine.specs.Steps.{NodeStep}
use Rattle.bus_machine.specs.Bus.{World, First, Moments, node_of, act_of, NamesSource, Step}
use Rattle.bus_rows.specs.Rows.{HasRun}
use Rattle.bus_rows.proofs.Building.{next, goes, at}

-- a step of each row, from one world to the next
abbrev pub Walk : World → List (Event × Line) → Type 0
Walk w [] = Unit {0}
Walk w ((e, l) ∷ rows) =
    (old : Node) × (new : Node) × (slice_get w.nodes (node_of e) ≡ Some old) × NodeStep old (act_of w e) l new × NamesSource w l
    × Walk (next w e l new) rows

-- the moments of it
abbrev pub RunFrom : World → List (Event × Line) → Type 0
RunFrom w rows = (ms : Moments) × (last : World) × Run Step w ms last × (map (λ m. (m.command, m.line)) ms ≡ rows)

pub run_of : (w : World) (rows : List (Event × Line)) → Walk w rows → RunFrom w rows
run_of w [] walk = ([], w, refl, refl)
run_of w ((e, l) ∷ rows) walk =
    let after : World = next w e l walk.1 in
    let rest = run_of after rows walk.5 in (
      at e l after ∷ rest.0,
      rest.1,
      (goes w e l walk.0 walk.1 walk.2 walk.3 walk.4, rest.2),
      ap (λ (xs : List (Event × Line)). (e, l) ∷ xs) rest.3,
    )

pub walked : (bus : List Config) (rows : List (Event × Line)) → Walk (First bus) rows → HasRun bus rows
walked bus rows walk = run_of (First bus) rows walk
