use Rattle.std.proofs.Common.{◌∙◌}
use Rattle.std.specs.Int.{w128}
use Rattle.basics.proofs.CallerLemmas.{to_be_bytes-is}
use Rattle.she_cmac.proofs.subkeys.block_of.Goals as goal

pub returns : goal.returns
returns c = c.of.ensures.value ∙ c.to_be_bytes.ensures ∙ to_be_bytes-is w128 c.args.number
