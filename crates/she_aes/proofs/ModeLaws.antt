-- Laws of the modes: what they give are blocks, as many as the text has.
use Rattle.std.proofs.Common.{◌≡◌, ℕ, ◌<◌, suc, List, [], ◌∷◌, length, get_or, refl, ap, arith}
use Rattle.std.specs.Prelude.{bit_xor, slice_index}
use Rattle.std.specs.List.{All}
use Rattle.std.proofs.lemmas.List.{length-map}
use Rattle.std.proofs.lemmas.List.Elements.{All-nil, All-cons, All-head, All-tail}
use Rattle.std.proofs.lemmas.List.FromFn.{get_or-map-range_with_len}
use Rattle.she_aes.specs.Cipher.{IsBlock, xor_blocks, enc, dec}
pub use Rattle.she_aes.proofs.CipherFacts.{IsBlock-zero_block, length-xor_blocks, IsBlock-xor_blocks, IsBlock-enc}
pub use Rattle.she_aes.proofs.CipherFacts.{IsBlock-dec}
use Rattle.she_aes.specs.Modes.{ecb, ecb_inverse, cbc, cbc_inverse}

-- ---- the exclusive or

pub get_or-xor_blocks : (a b : List ℕ) (i d : ℕ) → i < 16
    → get_or (xor_blocks a b) i d ≡ bit_xor (get_or a i 0) (get_or b i 0)
unfolding xor_blocks
get_or-xor_blocks a b i d within =
    get_or-map-range_with_len (λ k. bit_xor (slice_index a k) (slice_index b k)) 0 16 i i d within (omega arith)

-- ---- ECB

pub length-ecb : (key : List ℕ) (text : List (List ℕ)) → length (ecb key text) ≡ length text
unfolding ecb
length-ecb key text = length-map text (enc key)

pub length-ecb_inverse : (key : List ℕ) (text : List (List ℕ)) → length (ecb_inverse key text) ≡ length text
unfolding ecb_inverse
length-ecb_inverse key text = length-map text (dec key)

pub All-ecb : (key : List ℕ) (text : List (List ℕ)) → IsBlock key → All IsBlock (ecb key text)
unfolding ecb
All-ecb key [] k = All-nil IsBlock
All-ecb key (x ∷ xs) k = All-cons IsBlock (enc key x) (ecb key xs) (IsBlock-enc key x k) (All-ecb key xs k)

pub All-ecb_inverse : (key : List ℕ) (text : List (List ℕ)) → IsBlock key → All IsBlock (ecb_inverse key text)
unfolding ecb_inverse
All-ecb_inverse key [] k = All-nil IsBlock
All-ecb_inverse key (x ∷ xs) k =
    All-cons IsBlock (dec key x) (ecb_inverse key xs) (IsBlock-dec key x k) (All-ecb_inverse key xs k)

-- ---- CBC

pub length-cbc : (key iv : List ℕ) (text : List (List ℕ)) → length (cbc key iv text) ≡ length text
unfolding cbc
length-cbc key iv [] = refl
length-cbc key iv (x ∷ xs) = ap suc (length-cbc key (enc key (xor_blocks x iv)) xs)

pub length-cbc_inverse : (key iv : List ℕ) (text : List (List ℕ)) → length (cbc_inverse key iv text) ≡ length text
unfolding cbc_inverse
length-cbc_inverse key iv [] = refl
length-cbc_inverse key iv (x ∷ xs) = ap suc (length-cbc_inverse key x xs)

pub All-cbc : (key iv : List ℕ) (text : List (List ℕ)) → IsBlock key → All IsBlock (cbc key iv text)
unfolding cbc
All-cbc key iv [] k = All-nil IsBlock
All-cbc key iv (x ∷ xs) k =
    let cipher = enc key (xor_blocks x iv) in
    let is_block = IsBlock-enc key (xor_blocks x iv) k in
    All-cons IsBlock cipher (cbc key cipher xs) is_block (All-cbc key cipher xs k)

pub All-cbc_inverse : (key iv : List ℕ) (text : List (List ℕ)) → IsBlock key → IsBlock iv → All IsBlock text
    → All IsBlock (cbc_inverse key iv text)
unfolding cbc_inverse
All-cbc_inverse key iv [] k i all = All-nil IsBlock
All-cbc_inverse key iv (x ∷ xs) k i all =
    let head = All-head IsBlock x xs all in
    All-cons IsBlock (xor_blocks (dec key x) iv) (cbc_inverse key x xs)
    (IsBlock-xor_blocks (dec key x) iv (IsBlock-dec key x k) i)
    (All-cbc_inverse key x xs k head (All-tail IsBlock x xs all))
