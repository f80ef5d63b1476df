-- Key derivation (SHE specification): the compression of Miyaguchi and Preneel over AES-128. Keys and blocks are lists
-- of 16 bytes.
use Rattle.std.specs.Prelude.{ℕ, List, [], ◌∷◌, fold}
use Rattle.she_aes.specs.Cipher.{zero_block, xor_blocks, enc}
use Rattle.she_kdf.specs.declared.Constant.{Constant}
use Rattle.she_kdf.specs.declared.Constant.TheVariants.{Enc, Mac}

-- OUT(i) from OUT(i - 1) and the block x(i): x(i) encrypted under OUT(i - 1), and both of them added
unfoldable pub next_out : List ℕ → List ℕ → List ℕ
next_out out x = xor_blocks (xor_blocks (enc out x) x) out

-- the last OUT over these blocks, from the zero block on, OUT(0)
unfoldable pub miyaguchi_preneel : List (List ℕ) → List ℕ
miyaguchi_preneel blocks = fold next_out zero_block blocks

-- KEY_UPDATE_ENC_C and KEY_UPDATE_MAC_C
abbrev pub constant_block : Constant → List ℕ
constant_block Enc =
    0x01 ∷ 0x01 ∷ 0x53 ∷ 0x48 ∷ 0x45 ∷ 0x00 ∷ 0x80 ∷ 0x00 ∷ 0x00 ∷ 0x00 ∷ 0x00 ∷ 0x00 ∷ 0x00 ∷ 0x00 ∷ 0x00 ∷ 0xb0 ∷ []
constant_block Mac =
    0x01 ∷ 0x02 ∷ 0x53 ∷ 0x48 ∷ 0x45 ∷ 0x00 ∷ 0x80 ∷ 0x00 ∷ 0x00 ∷ 0x00 ∷ 0x00 ∷ 0x00 ∷ 0x00 ∷ 0x00 ∷ 0x00 ∷ 0xb0 ∷ []

-- the key that is derived from a key with this constant
unfoldable pub kdf : List ℕ → Constant → List ℕ
kdf key constant = miyaguchi_preneel (key ∷ constant_block constant ∷ [])
