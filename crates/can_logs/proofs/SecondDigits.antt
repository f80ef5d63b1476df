-- Decimal digits, and the numbers that they write
use Rattle.std.proofs.Common.{◌≡◌, ℕ, zero, suc, ◌+◌, ◌-◌, ◌*◌, ◌<◌, ◌≤◌, ◌^◌, true, List, [], ◌∷◌, length, take, refl, arith, get_or}
use Rattle.std.specs.List.{list_all}
use Rattle.std.specs.Char.{is_ascii_digit, digit_value}
use Rattle.std.specs.Str.Parse.{AllDigits, digits_value}
use Rattle.std.proofs.lemmas.Bool.{and_parts}
use Rattle.std.proofs.Math.Nat.{pow-le-pow_right, mul-le-mul_left, mul-le-mul_right}
use Rattle.std.proofs.lemmas.Str.{digit_value_digit}
use Rattle.std.proofs.lemmas.Str.Parse.{digits_value-take-le, digits_value_short, numerals_by_value, tells_digits, digit_from_value}
use Rattle.std.proofs.lemmas.Int.Digits.{digits_value_more}

pub all_digits : (word : List ℕ) → list_all is_ascii_digit word ≡ true → AllDigits 10 word
all_digits [] h = tt
all_digits (c ∷ word) h =
    let parts = and_parts (is_ascii_digit c) (list_all is_ascii_digit word) h in
    (grind arith, all_digits word parts.1)

pub digits_taken : (n : ℕ) (word : List ℕ) → list_all is_ascii_digit word ≡ true → list_all is_ascii_digit (take n word) ≡ true
digits_taken zero word h = refl
digits_taken (suc n) [] h = refl
digits_taken (suc n) (c ∷ word) h =
    let parts = and_parts (is_ascii_digit c) (list_all is_ascii_digit word) h in
    let rest = digits_taken n word parts.1 in
    grind arith

digit_at : (word : List ℕ) (i : ℕ) → AllDigits 10 word → i < length word → digit_value (get_or word i 0) < 10
digit_at [] i all inside = absurd (omega (arith, inside))
digit_at (c ∷ word) zero all inside = all.0
digit_at (c ∷ word) (suc i) all inside = digit_at word i all.1 (omega (arith, inside))

-- a digit of such a word is at least 48, which is `0`
pub digit_from : (word : List ℕ) (i : ℕ) → list_all is_ascii_digit word ≡ true → i < length word → (48 ≤ get_or word i 0) × (get_or word i 0 ≤ 57)
digit_from word i h inside =
    let in_range = digit_from_value (get_or word i 0) (digit_at word i (all_digits word h) inside) in
    (omega (arith, in_range), omega (arith, in_range))

-- the number with one digit more
pub number_more : (word : List ℕ) (i number : ℕ) → list_all is_ascii_digit word ≡ true → i < length word → number ≡ digits_value 10 (take i word)
    → number * 10 + (get_or word i 0 - 48) ≡ digits_value 10 (take (i + 1) word)
number_more word i number h inside is =
    let in_range = digit_from_value (get_or word i 0) (digit_at word i (all_digits word h) inside) in
    let value = digit_value_digit (get_or word i 0) in_range in
    omega (arith, digits_value_more 10 word i inside, is, value)

-- twelve digits write no more than so much
pub number_small : (word : List ℕ) → list_all is_ascii_digit word ≡ true → length word ≤ 12 → digits_value 10 word < 10 ^ 12
number_small word h few = digits_value_short (numerals_by_value (AllDigits 10) tells_digits) word 12 (all_digits word h) few

pub part_small : (word : List ℕ) (i : ℕ) → list_all is_ascii_digit word ≡ true → length word ≤ 12 → digits_value 10 (take i word) < 10 ^ 12
part_small word i h few = omega (arith, digits_value-take-le 10 word i (omega arith), number_small word h few)

-- and as many millionths as six digits at most have
pub product_small : (number digits : ℕ) → number < 10 ^ 12 → digits ≤ 6 → number * 10 ^ digits ≤ 10 ^ 18
product_small number digits small few =
    let power : 10 ^ digits ≤ 10 ^ 6 = pow-le-pow_right (omega arith) few in
    let part : number * 10 ^ digits ≤ 10 ^ 12 * 10 ^ digits = mul-le-mul_right (10 ^ digits) (omega (arith, small)) in
    let whole : 10 ^ 12 * 10 ^ digits ≤ 10 ^ 12 * 10 ^ 6 = mul-le-mul_left (10 ^ 12) power in
    omega (arith, part, whole)
