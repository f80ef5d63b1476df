use Rattle.std.proofs.Common.{rules, arith, sym, ap, ◌∙◌, ◌∷◌, ◌/◌, length, refl}
use Rattle.std.specs.List.{concat}
use Rattle.she_aes.specs.Cipher.{enc, xor_blocks}
use Rattle.she_aes.specs.Modes.{cbc}
use Rattle.rathonsi_c.specs.Calls.{whole_blocks}
use Rattle.rathonsi_c.proofs.Chunks.{block_first, block_more, blocks_done}
use Rattle.rathonsi_c.proofs.aes.encrypt_chain.Goals as goal

pub loop-i-init : goal.loop-i-init
loop-i-init c =
    let key = c.args.schedule.now in
    (refl, block_first (cbc key) c.args.iv.now c.args.text.now)

pub loop-i-preserved : goal.loop-i-preserved
unfolding cbc
loop-i-preserved c =
    let key = c.args.schedule.now in
    let is = c.encrypt-before.ensures.value ∙ ap (enc key) (c.xor.ensures.value ∙ ap (λ x. xor_blocks x c.loop-i.before) c.block_at-plain.ensures.value) in (
      search rules,
      block_more (cbc key) c.loop-i.before c.encrypt-before.result (concat (cbc key c.args.iv.now (whole_blocks c.args.text.now))) c.loop-i.text c.put_block.new.text c.encrypt-before.result c.loop-i.i (length c.args.text.now / 16) (omega arith) (λ rest. ap (λ y. y ∷ cbc key y rest) (sym is)) c.put_block.ensures.front c.put_block.ensures.rest c.loop-i.invariant.1,
    )

pub returns : goal.returns
unfolding cbc
returns c =
    let key = c.args.schedule.now in
    blocks_done (cbc key) c.loop-i.before (concat (cbc key c.args.iv.now (whole_blocks c.args.text.now))) c.loop-i.text c.loop-i.i (length c.args.text.now / 16) (omega arith) (omega arith) refl c.loop-i.invariant.1
