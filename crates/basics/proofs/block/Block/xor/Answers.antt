use Rattle.std.proofs.Common.{◌∙◌}
use Rattle.basics.proofs.CallerLemmas.{xor_is}
use Rattle.basics.proofs.block.Block.xor.Goals as goal

pub returns-clause-value : goal.returns-clause-value
returns-clause-value c =
    rw (c.self.view_is, c.other.view_is) at (c.of.ensures.value ∙ xor_is c.self.inside.bytes c.other.inside.bytes c.self.told c.other.told)
