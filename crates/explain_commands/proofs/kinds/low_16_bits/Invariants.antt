-- the digits so far as a number
use Rattle.std.proofs.Common.{◌≡◌, ◌<◌, take}
use Rattle.explain_commands.specs.Reasons.{low_16_bits}
use Rattle.explain_commands.proofs.kinds.low_16_bits.Given as goal

abbrev pub invariant-loop-digit : goal.invariant-loop-digit
invariant-loop-digit l = (l.sum ≡ low_16_bits (take l.digit-index l.digits)) × (l.sum < 65536)
