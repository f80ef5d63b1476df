use Rattle.std.proofs.Common.{sym}
use Rattle.she_aes.specs.Choice.{choice_is}
use Rattle.she_aes.proofs.choice.chosen.Goals as goal

pub returns : goal.returns
returns c = sym choice_is
