use Rattle.std.proofs.Common.{◌≡◌, length, ap, ◌∙◌, arith}
use Rattle.basics.specs.Numbers.{number_of}
use Rattle.basics.proofs.CallerLemmas.{from_be_bytes-128}
use Rattle.unit_keys.proofs.wrapping.halves_of.Goals as goal

pub returns-clause-number : goal.returns-clause-number
returns-clause-number c =
    let size = ap length c.bytes.ensures.value ∙ c.bytes.ensures.is_block.size in
    let number : c.from_be_bytes-number.result ≡ number_of c.args.block.now =
    c.from_be_bytes-number.ensures ∙ from_be_bytes-128 c.bytes.result.now size ∙ ap number_of c.bytes.ensures.value in
    omega (arith, number)
