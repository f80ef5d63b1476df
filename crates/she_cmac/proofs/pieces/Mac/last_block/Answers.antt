use Rattle.std.proofs.Common.{◌≡◌, ◌-◌, ◌<◌, ◌++◌, length, set, replicate, eqb, sym, ap, ◌∙◌, arith}
use Rattle.std.proofs.lemmas.List.{append-nil}
use Rattle.std.proofs.lemmas.Bool.{cond-true, cond-false, eq-eqb, ne_eqb}
use Rattle.she_cmac.specs.Cmac.{first_subkey, second_subkey, last_block}
use Rattle.she_aes.specs.Cipher.{xor_blocks}
use Rattle.she_cmac.proofs.LastPiece.{written_behind}
use Rattle.she_cmac.proofs.pieces.Mac.last_block.Goals as goal

pub returns-then-self-eq16 : goal.returns-then-self-eq16
unfolding last_block
returns-then-self-eq16 c = λ key piece blocks holds.
    let full : length piece ≡ 16 = omega (arith, holds.filled_is) in
    let block_is = c.of.ensures.value ∙ holds.block_is ∙ ap (λ n. piece ++ replicate (16 - n) 0) full ∙ append-nil piece in
    let subkey_is = c.first_subkey.ensures ∙ ap first_subkey holds.key_is in
    c.xor.ensures.value ∙ ap (λ b. xor_blocks b c.first_subkey.result) block_is ∙ ap (xor_blocks piece) subkey_is ∙ sym (cond-true (eqb (length piece) 16) _ _ (eq-eqb (length piece) 16 full))

pub returns : goal.returns
unfolding last_block
returns c = λ key piece blocks holds.
    let less : length piece < 16 = omega (arith, holds.filled_is) in
    let at_place = ap (λ n. set c.args.self.now.block n 128) holds.filled_is in
    let padded_is = c.of-2.ensures.value ∙ at_place ∙ ap (λ b. set b (length piece) 128) holds.block_is ∙ written_behind piece 128 less in
    let subkey_is = c.second_subkey.ensures ∙ ap second_subkey holds.key_is in
    c.xor-2.ensures.value ∙ ap (λ b. xor_blocks b c.second_subkey.result) padded_is ∙ ap (xor_blocks _) subkey_is ∙ sym (cond-false (eqb (length piece) 16) _ _ (ne_eqb (length piece) 16 (λ e. omega arith)))
