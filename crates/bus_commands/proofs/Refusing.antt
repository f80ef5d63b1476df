-- A start that is refused: which row comes, and what that says of the disks
use Rattle.std.specs.Prelude.{◌≡◌, ◌⊎◌}
use Rattle.std.proofs.Common.{refl, inl, inr}
use Rattle.program_edge.specs.Rows.{Row}
use Rattle.bus_config.specs.Buses.{NamedBus}
use Rattle.bus_world.specs.declared.start.Start.{Start}
use Rattle.bus_world.specs.Starts.{HasRoom}
use Rattle.bus_world.proofs.CallerLemmas.{no_room_fault}
use Rattle.bus_world.specs.StartAnswers.{DiskStates, ComesOfStart, disks_refused, store_refused, start_without_memory}

-- with room it is 10, or 7
pub start_in_room : (start : Start) (bus : NamedBus) (d : DiskStates) (row : Row) → ComesOfStart start bus d row → HasRoom bus d.before → (row.status ≡ 10) ⊎ (row.status ≡ 7)
start_in_room start bus d row (disks_refused fault finds same) room = absurd (no_room_fault bus d.before fault room finds)
start_in_room start bus d row (store_refused fault also cause left) room = inl refl
start_in_room start bus d row (start_without_memory fault may refused calm) room = inr refl
