-- Digits in upper case
use Rattle.std.proofs.Common.{◌≡◌, ℕ, ◌/◌, ◌%◌, List, [], ◌∷◌, map, refl, sym, ap, ◌∙◌}
use Rattle.std.specs.Prelude.{slice_index}
use Rattle.std.specs.Char.{to_ascii_uppercase}
use Rattle.std.proofs.Math.ListN.{get_or-map}
use Rattle.hex.specs.Hex.{encode_with, encode_lower, encode_upper, lower_digits, upper_digits}

digit_raised : (k : ℕ) → to_ascii_uppercase (slice_index lower_digits k) ≡ slice_index upper_digits k
digit_raised k = sym (get_or-map to_ascii_uppercase lower_digits k 0)

-- digits in lower case that are raised are those in upper case
pub raised : (bytes : List ℕ) → map to_ascii_uppercase (encode_lower bytes) ≡ encode_upper bytes
unfolding encode_with
raised [] = refl
raised (b ∷ rest) =
    ap (λ d. d ∷ to_ascii_uppercase (slice_index lower_digits (b % 16)) ∷ map to_ascii_uppercase (encode_lower rest)) (digit_raised (b / 16))
    ∙ ap (λ d. slice_index upper_digits (b / 16) ∷ d ∷ map to_ascii_uppercase (encode_lower rest)) (digit_raised (b % 16))
    ∙ ap (λ l. slice_index upper_digits (b / 16) ∷ slice_index upper_digits (b % 16) ∷ l) (raised rest)
