use Rattle.std.proofs.Common.{◌+◌, ◌*◌, ap, ◌∙◌, arith}
use Rattle.std.specs.Int.{w128}
use Rattle.basics.specs.Numbers.{bytes_of}
use Rattle.basics.proofs.CallerLemmas.{to_be_bytes-is}
use Rattle.unit_keys.proofs.wrapping.block_of_halves.Goals as goal

pub returns-clause-value : goal.returns-clause-value
returns-clause-value c =
    let high = c.from.ensures in
    let low = c.from-2.ensures in
    c.of.ensures.value ∙ c.to_be_bytes.ensures
    ∙ to_be_bytes-is w128 (c.from.result * 18446744073709551616 + c.from-2.result)
    ∙ ap (bytes_of 16) (omega (arith, high, low))
