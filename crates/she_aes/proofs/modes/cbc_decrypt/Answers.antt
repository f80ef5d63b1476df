use Rattle.std.proofs.Common.{arith, sym, ap, ◌∙◌, ◌∷◌, refl, get_or}
use Rattle.std.proofs.lemmas.List.{length-set}
use Rattle.std.proofs.lemmas.List.Elements.{All-more}
use Rattle.she_aes.specs.Modes.{cbc_inverse}
use Rattle.she_aes.specs.Cipher.{IsBlock, xor_blocks}
use Rattle.she_aes.proofs.Chains.{chain_more, chain_all, blocks_more, blocks_all}
use Rattle.she_aes.proofs.modes.cbc_decrypt.Goals as goal

pub loop-i-preserved : goal.loop-i-preserved
unfolding cbc_inverse
loop-i-preserved g c =
    let key = c.args.schedule.now in
    let cipher = get_or c.args.text.now c.loop-i.i c.index-text-i.result in
    let plain = c.xor.ensures.value ∙ ap (λ x. xor_blocks x c.loop-i.before) c.decrypt.ensures.value in (
      length-set c.loop-i.out c.loop-i.i c.xor.result ∙ c.loop-i.invariant.0,
      chain_more (cbc_inverse key) c.loop-i.before cipher (cbc_inverse key c.args.iv.now c.args.text.now) c.loop-i.out c.args.text.now c.loop-i.i c.index-text-i.result c.xor.result (omega arith) (omega arith) (λ rest. ap (λ y. y ∷ cbc_inverse key cipher rest) (sym plain)) c.loop-i.invariant.1,
      blocks_more c.loop-i.out c.loop-i.i c.xor.result (omega arith) c.xor.ensures.is_block c.loop-i.invariant.2,
      All-more IsBlock c.args.text.now c.loop-i.i c.index-text-i.result (omega arith) c.loop-i.invariant.3 c.decrypt.ensures.of_blocks.1,
    )

pub returns-clause-value : goal.returns-clause-value
unfolding cbc_inverse
returns-clause-value g c =
    let key = c.args.schedule.now in
    chain_all (cbc_inverse key) c.loop-i.before (cbc_inverse key c.args.iv.now c.args.text.now) c.loop-i.out c.args.text.now c.loop-i.i (omega arith) (omega arith) refl c.loop-i.invariant.1

pub returns-clause-are_blocks : goal.returns-clause-are_blocks
returns-clause-are_blocks g c = blocks_all c.loop-i.out c.loop-i.i (omega arith) c.loop-i.invariant.2

pub returns-clause-of_blocks : goal.returns-clause-of_blocks
returns-clause-of_blocks g c = blocks_all c.args.text.now c.loop-i.i (omega arith) c.loop-i.invariant.3
