use Rattle.bus_world.proofs.DisksBack.{disks_stay}
use Rattle.bus_world.proofs.run_laws.turns_leave_disks.Goals as goal

pub returns : goal.returns
returns c = λ bus before after events start moments now set_up taken.
    disks_stay bus before after events start moments now set_up taken
