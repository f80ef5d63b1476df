use Rattle.std.proofs.Common.{rules}
use Rattle.basics.specs.Numbers.{bytes_of}
use Rattle.unit_keys.proofs.wrapping.text_of.Goals as goal

pub returns : goal.returns
unfolding bytes_of
returns c = search rules
