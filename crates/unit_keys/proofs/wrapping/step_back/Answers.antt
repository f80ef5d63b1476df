use Rattle.std.proofs.Common.{rules, ap, sym, subst, ◌∙◌}
use Rattle.basics.specs.Blocks.{IsBlock}
use Rattle.basics.specs.Numbers.{number_of}
use Rattle.she_aes.specs.Cipher.{dec}
use Rattle.unit_keys.proofs.Steps.{InHalves, stepped_back}
use Rattle.unit_keys.proofs.wrapping.step_back.Goals as goal

pub returns : goal.returns
returns c =
    let key = c.args.key.now in
    let r = c.args.register in
    let fits : InHalves r = record { check = search rules; first = search rules; second = search rules } in
    stepped_back key c.args.t r c.halves_of-check.result.0 c.halves_of-check.result.1 c.decrypt.ensures.of_blocks.0 fits c.ranges.t.fits
    (subst IsBlock (c.decrypt.ensures.value ∙ ap (dec key) c.block_of_halves-block.ensures.value) c.decrypt.ensures.is_block)
    (ap (λ b. number_of (dec key b)) (sym c.block_of_halves-block.ensures.value) ∙ ap number_of (sym c.decrypt.ensures.value) ∙ c.halves_of-check.ensures.number)
