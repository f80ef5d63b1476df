-- Modes of operation of a block cipher (NIST SP 800-38A), over AES-128. A text is a list of blocks, and a block a list
-- of 16 bytes.
use Rattle.std.specs.Prelude.{ℕ, List, [], ◌∷◌, map}
use Rattle.she_aes.specs.Cipher.{xor_blocks, enc, dec}

-- section 6.1, ECB encryption: each block by itself
unfoldable pub ecb : List ℕ → List (List ℕ) → List (List ℕ)
ecb key text = map (enc key) text

-- section 6.1, ECB decryption
unfoldable pub ecb_inverse : List ℕ → List (List ℕ) → List (List ℕ)
ecb_inverse key text = map (dec key) text

-- section 6.2, CBC encryption: to each block the block of ciphertext before it is added, at first the IV, and the sum
-- is encrypted
unfoldable pub cbc : List ℕ → List ℕ → List (List ℕ) → List (List ℕ)
cbc key before [] = []
cbc key before (plain ∷ text) = let cipher = enc key (xor_blocks plain before) in cipher ∷ cbc key cipher text

-- section 6.2, CBC decryption
unfoldable pub cbc_inverse : List ℕ → List ℕ → List (List ℕ) → List (List ℕ)
cbc_inverse key before [] = []
cbc_inverse key before (cipher ∷ text) = xor_blocks (dec key cipher) before ∷ cbc_inverse key cipher text
