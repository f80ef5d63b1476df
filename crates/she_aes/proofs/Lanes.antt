-- Vectors of 16 bytes: what is computed lane by lane, as a block.
use Rattle.std.proofs.Common.{◌≡◌, ℕ, ◌<◌, List, map, length, get_or, ◌∙◌, arith, w8, Fits, slice_index}
use Rattle.std.specs.Simd.Lanes.{Each1}
use Rattle.std.proofs.lemmas.List.{get_or-map, length-map}
use Rattle.std.proofs.lemmas.List.FromFn.{fill_by_all}
use Rattle.std.proofs.lemmas.List.Elements.{All-from_get_or}
use Rattle.std.proofs.lemmas.Simd.{Each1-get_or}
use Rattle.she_aes.specs.Cipher.{IsBlock, block_of}

-- 16 bytes, as a proof knows a vector
abbrev pub IsVector : List ℕ → Type 0
IsVector v = (length v ≡ 16) × Each1 (Fits w8) v

pub byte_of_vector : (v : List ℕ) → IsVector v → (i : ℕ) → i < 16 → get_or v i 0 < 256
byte_of_vector v is i h = (Each1-get_or (Fits w8) v i 0 (omega (arith, is.0)) is.1).fits

pub vector_is_block : (v : List ℕ) → IsVector v → IsBlock v
vector_is_block v is =
    record { size = is.0; bytes = All-from_get_or (λ b. b < 256) v 0 (λ i h. byte_of_vector v is i (omega (arith, is.0))) }

-- a map of the bytes, as a block
pub map_is_block : (f g : ℕ → ℕ) (v : List ℕ) → IsVector v → ((b : ℕ) → b < 256 → f b ≡ g b) → map f v ≡ block_of (λ i. g (slice_index v i))
map_is_block f g v is same =
    fill_by_all (λ i. g (slice_index v i)) (map f v) 16 0 (length-map v f ∙ is.0) (λ k h. get_or-map f v k 0 0 (omega (arith, is.0)) ∙ same (get_or v k 0) (byte_of_vector v is k h))
