use Rattle.std.proofs.Common.{ap, ◌∙◌}
use Rattle.she_aes.specs.Gates.{through, sums_gates, norm_gates, inverse_gates, byte_gates, products, substituted_bits}
use Rattle.she_aes.proofs.circuits.substituted.Goals as goal

pub returns : goal.returns
unfolding substituted_bits
returns c =
    let norm = c.norm_of.ensures ∙ ap (through norm_gates) c.sums_of-sums.ensures in
    let inverse = c.inverse_of-inverse.ensures ∙ ap (through inverse_gates) norm in
    let all = c.products_of.ensures ∙ ap (λ x. products x c.sums_of-sums.result) inverse in
    c.byte_of.ensures ∙ ap (through byte_gates) (all ∙ ap (products (through inverse_gates (through norm_gates (through sums_gates c.args.bits.now)))) c.sums_of-sums.ensures)
