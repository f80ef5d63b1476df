use Rattle.std.proofs.Common.{rules, arith, sym, ap, ◌∙◌, ◌∷◌, ◌*◌, ◌/◌, length, take, drop, refl}
use Rattle.std.specs.List.{concat}
use Rattle.she_aes.specs.Cipher.{dec, xor_blocks}
use Rattle.she_aes.specs.Modes.{cbc_inverse}
use Rattle.rathonsi_c.specs.Calls.{whole_blocks}
use Rattle.rathonsi_c.proofs.Chunks.{block_first, block_more, blocks_done}
use Rattle.rathonsi_c.proofs.aes.decrypt_chain.Goals as goal

pub loop-i-init : goal.loop-i-init
loop-i-init c =
    let key = c.args.schedule.now in
    (refl, block_first (cbc_inverse key) c.args.iv.now c.args.text.now)

pub loop-i-preserved : goal.loop-i-preserved
unfolding cbc_inverse
loop-i-preserved c =
    let key = c.args.schedule.now in
    let block = take 16 (drop (16 * c.loop-i.i) c.loop-i.text) in
    let is = c.xor.ensures.value ∙ ap (λ x. xor_blocks x c.loop-i.before) (c.decrypt.ensures.value ∙ ap (dec key) c.block_at-cipher.ensures.value) in (
      search rules,
      block_more (cbc_inverse key) c.loop-i.before c.block_at-cipher.result (concat (cbc_inverse key c.args.iv.now (whole_blocks c.args.text.now))) c.loop-i.text c.put_block.new.text c.xor.result c.loop-i.i (length c.args.text.now / 16) (omega arith) (λ rest. ap (λ y. y ∷ cbc_inverse key block rest) (sym is) ∙ ap (λ b. c.xor.result ∷ cbc_inverse key b rest) (sym c.block_at-cipher.ensures.value)) c.put_block.ensures.front c.put_block.ensures.rest c.loop-i.invariant.1,
    )

pub returns : goal.returns
unfolding cbc_inverse
returns c =
    let key = c.args.schedule.now in
    blocks_done (cbc_inverse key) c.loop-i.before (concat (cbc_inverse key c.args.iv.now (whole_blocks c.args.text.now))) c.loop-i.text c.loop-i.i (length c.args.text.now / 16) (omega arith) (omega arith) refl c.loop-i.invariant.1
