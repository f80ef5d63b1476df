-- What is derived is a block.
use Rattle.std.proofs.Common.{◌<◌, ℕ, List, [], ◌∷◌, refl, fold, rules}
use Rattle.std.specs.List.{All}
use Rattle.std.proofs.lemmas.List.Elements.{All-nil, All-cons, All-head, All-tail, All-from_recursion}
use Rattle.she_aes.specs.Cipher.{IsBlock, zero_block, xor_blocks, enc}
use Rattle.she_aes.proofs.CallerLemmas.{IsBlock-zero_block, IsBlock-xor_blocks, IsBlock-enc}
use Rattle.she_kdf.specs.Derivation.{next_out, miyaguchi_preneel, constant_block, kdf}
use Rattle.she_kdf.specs.declared.Constant.{Constant}
use Rattle.she_kdf.specs.declared.Constant.TheVariants.{Enc, Mac}

pub IsBlock-next_out : (out x : List ℕ) → IsBlock out → IsBlock x → IsBlock (next_out out x)
unfolding next_out
IsBlock-next_out out x o b =
    IsBlock-xor_blocks (xor_blocks (enc out x) x) out (IsBlock-xor_blocks (enc out x) x (IsBlock-enc out x o) b) o

IsBlock-fold : (out : List ℕ) (blocks : List (List ℕ)) → IsBlock out → All IsBlock blocks
    → IsBlock (fold next_out out blocks)
IsBlock-fold out [] o all = o
IsBlock-fold out (x ∷ xs) o all =
    IsBlock-fold (next_out out x) xs (IsBlock-next_out out x o (All-head IsBlock x xs all)) (All-tail IsBlock x xs all)

pub IsBlock-miyaguchi_preneel : (blocks : List (List ℕ)) → All IsBlock blocks → IsBlock (miyaguchi_preneel blocks)
unfolding miyaguchi_preneel
IsBlock-miyaguchi_preneel blocks all = IsBlock-fold zero_block blocks IsBlock-zero_block all

pub IsBlock-constant_block : (constant : Constant) → IsBlock (constant_block constant)
IsBlock-constant_block Enc =
    record { size = refl; bytes = All-from_recursion (λ x. x < 256) (constant_block Enc) (search rules) }
IsBlock-constant_block Mac =
    record { size = refl; bytes = All-from_recursion (λ x. x < 256) (constant_block Mac) (search rules) }

pub IsBlock-kdf : (key : List ℕ) (constant : Constant) → IsBlock key → IsBlock (kdf key constant)
unfolding kdf
IsBlock-kdf key constant k =
    IsBlock-miyaguchi_preneel (key ∷ constant_block constant ∷ [])
    (All-cons IsBlock key (constant_block constant ∷ []) k
    (All-cons IsBlock (constant_block constant) [] (IsBlock-constant_block constant) (All-nil IsBlock)))
