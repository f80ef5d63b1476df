use Rattle.std.proofs.Common.{◌≡◌, ◌-◌, ◌++◌, length, replicate, refl, sym, ap, ◌∙◌, arith}
use Rattle.std.proofs.lemmas.List.{append-nil}
use Rattle.she_aes.specs.Cipher.{enc, xor_blocks}
use Rattle.she_cmac.proofs.LastPiece.{chained-push}
use Rattle.she_cmac.proofs.pieces.Mac.chain_block.Goals as goal

pub returns-clause-chained : goal.returns-clause-chained
returns-clause-chained c = λ key piece blocks holds.
    let full : length piece ≡ 16 = omega (arith, holds.filled_is) in
    let block_is = holds.block_is ∙ ap (λ n. piece ++ replicate (16 - n) 0) full ∙ append-nil piece in
    let mixed = c.xor.ensures.value ∙ ap (xor_blocks c.args.self.now.chain) (c.of.ensures.value ∙ block_is) ∙ ap (λ x. xor_blocks x piece) holds.chain_is in
    record {
      key_is = holds.key_is;
      chain_is =
          c.encrypt-self.ensures.value ∙ ap (λ k. enc k c.xor.result) holds.key_is ∙ ap (enc key) mixed ∙ sym (chained-push key blocks piece);
      block_is = refl;
      filled_is = refl;
    }
