-- The S-box as one byte of each entry of a round's first table: it is computed from the field once, for all 256 bytes,
-- and other facts read it there.
use Rattle.std.proofs.Common.{◌≡◌, ℕ, ◌/◌, ◌^◌, ◌<◌, true, slice_index, bit_and, refl}
use Rattle.std.specs.Prelude.{◌==◌}
use Rattle.std.proofs.lemmas.Bool.{agree_below, agree_below_at, eqb-true}
use Rattle.she_aes.specs.Field.{product, cancelled, remainder, mul, inv, affine, sub_byte}
use Rattle.she_aes.specs.declared.by_tables.TheConstants.{ROW_0}

-- two functions of a byte that agree at each byte
pub same_at_bytes : (f g : ℕ → ℕ) → agree_below (λ b. f b == g b) (λ _. true) 256 ≡ true → (b : ℕ) → b < 256 → f b ≡ g b
same_at_bytes f g all b lt = eqb-true (f b) (g b) (agree_below_at (λ b. f b == g b) (λ _. true) 256 b all lt)

abbrev pub s_box : ℕ → ℕ
s_box b = bit_and (slice_index ROW_0 b / 2 ^ 8) 255

s_box_ok : agree_below (λ b. s_box b == sub_byte b) (λ _. true) 256 ≡ true
unfolding product cancelled remainder mul inv affine sub_byte
s_box_ok = refl

pub s_box_is : (b : ℕ) → b < 256 → s_box b ≡ sub_byte b
s_box_is = same_at_bytes (λ b. s_box b) (λ b. sub_byte b) s_box_ok
