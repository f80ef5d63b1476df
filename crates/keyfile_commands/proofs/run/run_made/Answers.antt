use Rattle.std.proofs.Common.{inl, inr}
use Rattle.keyfile_commands.proofs.NoLoad.{no_load}
use Rattle.keyfile_commands.proofs.run.run_made.Goals as goal

pub returns : goal.returns
returns g c s values other call = elim (c.run_key.ensures.plain s values call) [
  | inl row ↦ row
  | inr (uid, loads, ends) ↦ absurd (no_load s values uid other loads)
]
