-- Runs of `node`, `endpoint` and `keytool load` that came to no event: what they are between two others
use Rattle.std.specs.Prelude.{◌≡◌, List}
use Rattle.program_edge.specs.Rows.{Row}
use Rattle.bus_world.specs.declared.start.Start.TheVariants.{Attach}
use Rattle.bus_world.specs.StartAnswers.{DiskStates, ComesOfStart}
use Rattle.bus_world.specs.WorldTurns.{TellFirm}
use Rattle.bus_lives.specs.Lives.{DiskState, NamedBus, UnfinishedStart, IsUnfinished, FoundBehindStarts}
use Rattle.key_commands.specs.Loads.{LoadInputs, ComesInLoad}

-- A row of a start of `node` or `endpoint` comes: disks are missing or too small, one failed, a node is refused for its
-- bytes, or memory is out. That is an unfinished start, if no byte of the disks was loose.
abbrev pub RefusedStartsAreUnfinished : Type 0
RefusedStartsAreUnfinished = (bus : NamedBus) (d : DiskStates) (row : Row) → ComesOfStart Attach bus d row
    → TellFirm bus d.before
    → (start : UnfinishedStart) × (start.bus ≡ bus) × (start.before ≡ d.before) × (start.after ≡ d.after)
    × IsUnfinished start

-- A row of `keytool load` comes, so that no request is loaded: the disks are then found as they were before it.
abbrev pub RefusedLoadsLeaveAll : Type 0
RefusedLoadsLeaveAll = (bus : NamedBus) (left : List DiskState) (starts : List UnfinishedStart) (i : LoadInputs)
    (row : Row) → ComesInLoad i row → FoundBehindStarts bus left starts i.before
    → FoundBehindStarts bus left starts i.after
