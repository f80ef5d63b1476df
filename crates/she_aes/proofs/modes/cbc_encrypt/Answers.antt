use Rattle.std.proofs.Common.{arith, sym, ap, ◌∙◌, ◌∷◌, refl}
use Rattle.std.proofs.lemmas.List.{length-set}
use Rattle.std.proofs.lemmas.List.Elements.{All-more}
use Rattle.she_aes.specs.Modes.{cbc}
use Rattle.she_aes.specs.Cipher.{IsBlock, enc}
use Rattle.she_aes.proofs.Chains.{chain_more, chain_all, blocks_more, blocks_all}
use Rattle.she_aes.proofs.modes.cbc_encrypt.Goals as goal

pub loop-i-preserved : goal.loop-i-preserved
unfolding cbc
loop-i-preserved g c =
    let key = c.args.schedule.now in
    let cipher = c.encrypt-cipher.ensures.value ∙ ap (enc key) c.xor.ensures.value in (
      length-set c.loop-i.out c.loop-i.i c.encrypt-cipher.result ∙ c.loop-i.invariant.0,
      chain_more (cbc key) c.loop-i.before c.encrypt-cipher.result (cbc key c.args.iv.now c.args.text.now) c.loop-i.out c.args.text.now c.loop-i.i c.index-text-i.result c.encrypt-cipher.result (omega arith) (omega arith) (λ rest. ap (λ y. y ∷ cbc key y rest) (sym cipher)) c.loop-i.invariant.1,
      blocks_more c.loop-i.out c.loop-i.i c.encrypt-cipher.result (omega arith) c.encrypt-cipher.ensures.is_block c.loop-i.invariant.2,
      All-more IsBlock c.args.text.now c.loop-i.i c.index-text-i.result (omega arith) c.loop-i.invariant.3 c.xor.ensures.of_blocks.0,
    )

pub returns-clause-value : goal.returns-clause-value
unfolding cbc
returns-clause-value g c =
    let key = c.args.schedule.now in
    chain_all (cbc key) c.loop-i.before (cbc key c.args.iv.now c.args.text.now) c.loop-i.out c.args.text.now c.loop-i.i (omega arith) (omega arith) refl c.loop-i.invariant.1

pub returns-clause-are_blocks : goal.returns-clause-are_blocks
returns-clause-are_blocks g c = blocks_all c.loop-i.out c.loop-i.i (omega arith) c.loop-i.invariant.2

pub returns-clause-of_blocks : goal.returns-clause-of_blocks
returns-clause-of_blocks g c = blocks_all c.args.text.now c.loop-i.i (omega arith) c.loop-i.invariant.3
