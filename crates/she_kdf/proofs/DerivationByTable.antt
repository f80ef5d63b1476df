-- The derivation of keys with the cipher's S-box read from a table, to compute examples by: it is the derivation.
use Rattle.std.specs.Prelude.{◌≡◌, ℕ, List}
use Rattle.std.proofs.Common.{ap, ◌∙◌}
use Rattle.she_aes.specs.Cipher.{zero_block, xor_blocks}
use Rattle.she_aes.proofs.CallerLemmas.{enc_by_table, enc_by_table_is}
use Rattle.she_kdf.specs.declared.Constant.{Constant}
use Rattle.she_kdf.specs.Derivation.{next_out, miyaguchi_preneel, constant_block, kdf}

unfoldable pub tabled_out : List ℕ → List ℕ → List ℕ
tabled_out out x = xor_blocks (xor_blocks (enc_by_table out x) x) out

tabled_out_is : (out x : List ℕ) → tabled_out out x ≡ next_out out x
unfolding tabled_out next_out
tabled_out_is out x = ap (λ y. xor_blocks (xor_blocks y x) out) (enc_by_table_is out x)

unfoldable pub kdf_by_table : List ℕ → Constant → List ℕ
kdf_by_table key constant = tabled_out (tabled_out zero_block key) (constant_block constant)

pub kdf_by_table_is : (key : List ℕ) (constant : Constant) → kdf_by_table key constant ≡ kdf key constant
unfolding kdf_by_table kdf miyaguchi_preneel
kdf_by_table_is key constant =
    ap (λ out. tabled_out out (constant_block constant)) (tabled_out_is zero_block key)
    ∙ tabled_out_is (next_out zero_block key) (constant_block constant)
