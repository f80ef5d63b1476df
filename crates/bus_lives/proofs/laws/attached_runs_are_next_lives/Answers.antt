use Rattle.bus_lives.proofs.Chain.{attached_follow}
use Rattle.bus_lives.proofs.laws.attached_runs_are_next_lives.Goals as goal

pub returns : goal.returns
returns c = attached_follow c.starts_are_set_up.ensures c.starts_go_on_at_a_first_world.ensures c.turns_are_world_runs.ensures
