-- Laws of the CMAC: it is a block.
use Rattle.std.specs.Prelude.{◌≡◌, ℕ, List, [], ◌∷◌, length}
use Rattle.std.proofs.Common.{sym, ap, ◌∙◌, subst}
use Rattle.std.proofs.lemmas.Grind.{fold-append}
use Rattle.she_aes.specs.Cipher.{IsBlock, enc, zero_block, xor_blocks}
use Rattle.she_aes.proofs.CallerLemmas.{length-enc, IsBlock-enc}
use Rattle.she_cmac.specs.Cmac.{front_blocks, last_piece, last_block, chained, cmac}

-- a CMAC is the last encrypted block
pub cmac_is : (key message : List ℕ)
    → cmac key message ≡ enc key (xor_blocks (chained key (front_blocks message)) (last_block key (last_piece message)))
unfolding cmac chained
cmac_is key message =
    let next : List ℕ → List ℕ → List ℕ = λ c x. enc key (xor_blocks c x) in
    fold-append next zero_block (front_blocks message) (last_block key (last_piece message) ∷ [])

pub length-cmac : (key message : List ℕ) → length (cmac key message) ≡ 16
length-cmac key message = ap length (cmac_is key message) ∙ length-enc key _

-- of bytes below 256, under a key that is a block
pub IsBlock-cmac : (key message : List ℕ) → IsBlock key → IsBlock (cmac key message)
IsBlock-cmac key message h =
    subst IsBlock (sym (cmac_is key message)) (IsBlock-enc key _ h)
