use Rattle.key_commands.proofs.run.run_key.Goals as goal

pub returns : goal.returns
returns g c = rw c.behind_name.ensures at c.run_asked.ensures
