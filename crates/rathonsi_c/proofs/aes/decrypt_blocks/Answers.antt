use Rattle.std.proofs.Common.{rules, arith, sym, ap, ◌∙◌, ◌∷◌, ◌/◌, length, refl}
use Rattle.std.specs.List.{concat}
use Rattle.she_aes.specs.Cipher.{dec}
use Rattle.she_aes.specs.Modes.{ecb_inverse}
use Rattle.rathonsi_c.specs.Calls.{whole_blocks}
use Rattle.rathonsi_c.proofs.Chunks.{block_first, block_more, blocks_done}
use Rattle.rathonsi_c.proofs.aes.decrypt_blocks.Goals as goal

pub loop-i-init : goal.loop-i-init
loop-i-init c =
    let key = c.args.schedule.now in
    (refl, block_first ecb_inverse key c.args.text.now)

pub loop-i-preserved : goal.loop-i-preserved
unfolding ecb_inverse
loop-i-preserved c =
    let key = c.args.schedule.now in
    let is = c.decrypt.ensures.value ∙ ap (dec key) c.block_at-block.ensures.value in (
      search rules,
      block_more ecb_inverse key key (concat (ecb_inverse key (whole_blocks c.args.text.now))) c.loop-i.text c.put_block.new.text c.decrypt.result c.loop-i.i (length c.args.text.now / 16) (omega arith) (λ rest. ap (λ y. y ∷ ecb_inverse key rest) (sym is)) c.put_block.ensures.front c.put_block.ensures.rest c.loop-i.invariant.1,
    )

pub returns : goal.returns
unfolding ecb_inverse
returns c =
    let key = c.args.schedule.now in
    blocks_done ecb_inverse key (concat (ecb_inverse key (whole_blocks c.args.text.now))) c.loop-i.text c.loop-i.i (length c.args.text.now / 16) (omega arith) (omega arith) refl c.loop-i.invariant.1
