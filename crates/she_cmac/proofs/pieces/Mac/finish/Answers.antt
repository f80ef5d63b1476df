use Rattle.std.proofs.Common.{sym, ap, ◌∙◌}
use Rattle.she_aes.specs.Cipher.{enc, xor_blocks}
use Rattle.she_cmac.specs.Cmac.{front_blocks, last_piece}
use Rattle.she_cmac.proofs.CmacLaws.{cmac_is}
use Rattle.she_cmac.proofs.pieces.Mac.finish.Goals as goal

pub returns-clause-value : goal.returns-clause-value
returns-clause-value c = λ key message took.
    let last_is = c.last_block-last.ensures key (last_piece message) (front_blocks message) took in
    let mixed_is = c.xor-mixed.ensures.value ∙ ap (λ x. xor_blocks x c.last_block-last.result) took.chain_is ∙ ap (xor_blocks _) last_is in
    c.encrypt.ensures.value ∙ ap (λ k. enc k c.xor-mixed.result) took.key_is ∙ ap (enc key) mixed_is ∙ sym (cmac_is key message)
