-- What the check value of an open route tells apart.
use Rattle.std.proofs.Common.{◌≡◌, ◌≢◌, ℕ, ◌+◌, ◌*◌, ◌%◌, ◌^◌, ◌<◌, arith}
use Rattle.std.specs.Prelude.{replicate}
use Rattle.std.proofs.lemmas.Nat.{mod_below}
use Rattle.basics.specs.Numbers.{bytes_of}
use Rattle.basics.proofs.CallerLemmas.{same_number}
use Rattle.rathonsi_c.specs.declared.opened.TheConstants.{CHECK_PRIME}

-- the number by the five fields that it covers
abbrev pub number_by : ℕ → ℕ → ℕ → ℕ → ℕ → ℕ
number_by o d l i c = 1 + (c + 3 * (((o * 2 ^ 8 + d) * 2 ^ 16 + l) * 2 ^ 16 + i)) % CHECK_PRIME

below : (o d l i c : ℕ) → number_by o d l i c < 256 ^ 3
below o d l i c = omega (arith, mod_below (c + 3 * (((o * 2 ^ 8 + d) * 2 ^ 16 + l) * 2 ^ 16 + i)) CHECK_PRIME (omega arith))

same_check : (o d l i c o' d' l' i' c' : ℕ) → bytes_of 3 (number_by o d l i c) ≡ bytes_of 3 (number_by o' d' l' i' c') → number_by o d l i c ≡ number_by o' d' l' i' c'
same_check o d l i c o' d' l' i' c' e = same_number 3 (number_by o d l i c) (number_by o' d' l' i' c') (below o d l i c) (below o' d' l' i' c') e

pub counter_apart : (o d l i c c' : ℕ) → bytes_of 3 (number_by o d l i c) ≡ bytes_of 3 (number_by o d l i c') → c' % CHECK_PRIME ≡ c % CHECK_PRIME
counter_apart o d l i c c' e = omega (arith, same_check o d l i c o d l i c' e)

pub id_apart : (o d l i c i' : ℕ) → i < 2 ^ 16 → i' < 2 ^ 16 → bytes_of 3 (number_by o d l i c) ≡ bytes_of 3 (number_by o d l i' c) → i' ≡ i
id_apart o d l i c i' x y e = omega (arith, same_check o d l i c o d l i' c e, x, y)

pub direction_apart : (o d l i c d' : ℕ) → d < 2 ^ 8 → d' < 2 ^ 8 → bytes_of 3 (number_by o d l i c) ≡ bytes_of 3 (number_by o d' l i c) → d' ≡ d
direction_apart o d l i c d' x y e = omega (arith, same_check o d l i c o d' l i c e, x, y)

pub mark_apart : (o d l i c o' : ℕ) → o < 2 ^ 8 → o' < 2 ^ 8 → bytes_of 3 (number_by o d l i c) ≡ bytes_of 3 (number_by o' d l i c) → o' ≡ o
mark_apart o d l i c o' x y e = omega (arith, same_check o d l i c o' d l i c e, x, y)

pub cell_apart : (o d l i c l' : ℕ) → l < 2 ^ 16 → l' < 2 ^ 16 → bytes_of 3 (number_by o d l i c) ≡ bytes_of 3 (number_by o d l' i c) → l' ≡ l
cell_apart o d l i c l' x y e = omega (arith, same_check o d l i c o d l' i c e, x, y)

pub no_zeros : (o d l i c : ℕ) → bytes_of 3 (number_by o d l i c) ≢ replicate 3 0
unfolding bytes_of
no_zeros o d l i c e = absurd (omega (arith, same_number 3 (number_by o d l i c) 0 (below o d l i c) (omega arith) e))
