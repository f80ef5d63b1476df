use Rattle.std.proofs.Common.{refl}
use Rattle.slot_commands.proofs.Finds.{layout_unwanted}
use Rattle.slot_commands.proofs.checking.push_layout.Goals as goal

pub returns-in-None-clause-pushed : goal.returns-in-None-clause-pushed
returns-in-None-clause-pushed c = layout_unwanted _ _ _ _ c.in-None.is refl
