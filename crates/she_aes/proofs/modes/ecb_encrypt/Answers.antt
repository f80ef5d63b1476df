use Rattle.std.proofs.Common.{arith, sym, ap, ◌∙◌, ◌∷◌, refl}
use Rattle.std.proofs.lemmas.List.{length-set}
use Rattle.std.proofs.lemmas.List.Elements.{All-more}
use Rattle.she_aes.specs.Modes.{ecb}
use Rattle.she_aes.specs.Cipher.{IsBlock}
use Rattle.she_aes.proofs.Chains.{chain_more, chain_all, blocks_more, blocks_all}
use Rattle.she_aes.proofs.modes.ecb_encrypt.Goals as goal

pub loop-i-preserved : goal.loop-i-preserved
unfolding ecb
loop-i-preserved g c =
    let key = c.args.schedule.now in (
      length-set c.loop-i.out c.loop-i.i c.encrypt.result ∙ c.loop-i.invariant.0,
      chain_more ecb key key (ecb key c.args.text.now) c.loop-i.out c.args.text.now c.loop-i.i c.index-text-i.result c.encrypt.result (omega arith) (omega arith) (λ rest. ap (λ y. y ∷ ecb key rest) (sym c.encrypt.ensures.value)) c.loop-i.invariant.1,
      blocks_more c.loop-i.out c.loop-i.i c.encrypt.result (omega arith) c.encrypt.ensures.is_block c.loop-i.invariant.2,
      All-more IsBlock c.args.text.now c.loop-i.i c.index-text-i.result (omega arith) c.loop-i.invariant.3 c.encrypt.ensures.of_blocks.1,
    )

pub returns-clause-value : goal.returns-clause-value
unfolding ecb
returns-clause-value g c =
    let key = c.args.schedule.now in
    chain_all ecb key (ecb key c.args.text.now) c.loop-i.out c.args.text.now c.loop-i.i (omega arith) (omega arith) refl c.loop-i.invariant.1

pub returns-clause-are_blocks : goal.returns-clause-are_blocks
returns-clause-are_blocks g c = blocks_all c.loop-i.out c.loop-i.i (omega arith) c.loop-i.invariant.2

pub returns-clause-of_blocks : goal.returns-clause-of_blocks
returns-clause-of_blocks g c = blocks_all c.args.text.now c.loop-i.i (omega arith) c.loop-i.invariant.3
