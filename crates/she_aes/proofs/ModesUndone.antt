-- Each direction of a mode undoes the other.
use Rattle.std.proofs.Common.{◌≡◌, List, ℕ, [], ◌∷◌, refl, ap, ◌∙◌}
use Rattle.std.specs.List.{All}
use Rattle.std.proofs.lemmas.List.Elements.{All-head, All-tail}
use Rattle.she_aes.specs.Cipher.{IsBlock, xor_blocks, enc, dec}
use Rattle.she_aes.proofs.CipherFacts.{length-dec, IsBlock-xor_blocks, IsBlock-enc}
use Rattle.she_aes.specs.Modes.{ecb, ecb_inverse, cbc, cbc_inverse}
use Rattle.she_aes.proofs.Undoing.{xor_blocks-xor_blocks, dec-enc, enc-dec}

pub ecb_inverse-ecb : (key : List ℕ) (text : List (List ℕ)) → IsBlock key → All IsBlock text → ecb_inverse key (ecb key text) ≡ text
unfolding ecb ecb_inverse
ecb_inverse-ecb key [] k all = refl
ecb_inverse-ecb key (x ∷ xs) k all =
    ap (λ y. y ∷ ecb_inverse key (ecb key xs)) (dec-enc key x k (All-head IsBlock x xs all))
    ∙ ap (λ ys. x ∷ ys) (ecb_inverse-ecb key xs k (All-tail IsBlock x xs all))

pub ecb-ecb_inverse : (key : List ℕ) (text : List (List ℕ)) → IsBlock key → All IsBlock text → ecb key (ecb_inverse key text) ≡ text
unfolding ecb ecb_inverse
ecb-ecb_inverse key [] k all = refl
ecb-ecb_inverse key (x ∷ xs) k all =
    ap (λ y. y ∷ ecb key (ecb_inverse key xs)) (enc-dec key x k (All-head IsBlock x xs all))
    ∙ ap (λ ys. x ∷ ys) (ecb-ecb_inverse key xs k (All-tail IsBlock x xs all))

pub cbc_inverse-cbc : (key iv : List ℕ) (text : List (List ℕ)) → IsBlock key → IsBlock iv → All IsBlock text → cbc_inverse key iv (cbc key iv text) ≡ text
unfolding cbc cbc_inverse
cbc_inverse-cbc key iv [] k i all = refl
cbc_inverse-cbc key iv (x ∷ xs) k i all =
    let cipher = enc key (xor_blocks x iv) in
    let head = All-head IsBlock x xs all in
    let sum_block = IsBlock-xor_blocks x iv head i in
    ap (λ y. xor_blocks y iv ∷ cbc_inverse key cipher (cbc key cipher xs)) (dec-enc key (xor_blocks x iv) k sum_block)
    ∙ ap (λ y. y ∷ cbc_inverse key cipher (cbc key cipher xs)) (xor_blocks-xor_blocks x iv head.size)
    ∙ ap (λ ys. x ∷ ys) (cbc_inverse-cbc key cipher xs k (IsBlock-enc key (xor_blocks x iv) k) (All-tail IsBlock x xs all))

pub cbc-cbc_inverse : (key iv : List ℕ) (text : List (List ℕ)) → IsBlock key → All IsBlock text → cbc key iv (cbc_inverse key iv text) ≡ text
unfolding cbc cbc_inverse
cbc-cbc_inverse key iv [] k all = refl
cbc-cbc_inverse key iv (x ∷ xs) k all =
    let head = All-head IsBlock x xs all in
    let again = ap (enc key) (xor_blocks-xor_blocks (dec key x) iv (length-dec key x)) ∙ enc-dec key x k head in
    ap (λ y. y ∷ cbc key y (cbc_inverse key x xs)) again
    ∙ ap (λ ys. x ∷ ys) (cbc-cbc_inverse key x xs k (All-tail IsBlock x xs all))
