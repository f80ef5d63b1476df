use Rattle.station_commands.proofs.run.tell_usage.Goals as goal

pub returns : goal.returns
returns g c = rw c.fixed.ensures at c.tell_refusal-2.ensures
