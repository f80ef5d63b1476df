use Rattle.std.proofs.Common.{◌≡◌, ℕ, ◌+◌, ◌-◌, ◌*◌, ◌/◌, ◌%◌, ◌^◌, ◌<◌, ◌≤◌, sym, ap, ◌∙◌, arith}
use Rattle.std.specs.Prelude.{bit_and, bit_or}
use Rattle.std.specs.Int.Bits.{or_zero_r}
use Rattle.std.proofs.Math.Nat.{mul_assoc}
use Rattle.std.proofs.lemmas.Nat.{and_mask, one_shl, mod-pow-add, or_block, or_shifted, shl_whole, pow-add, shr_high, mod_low, shr_split, pow_pos, mod_below}
use Rattle.memory_update.specs.Fields.{bit_field, with_bit_field}

-- what the code computes for a field that it takes
pub field_taken : (width at word : ℕ) → width ≤ 127 → bit_and (word / 2 ^ (128 - at - width)) (1 * 2 ^ width % 2 ^ 128 - 1) ≡ bit_field width at word
field_taken width at word small =
    ap (λ m. bit_and (word / 2 ^ (128 - at - width)) (m - 1)) (one_shl width 128 (omega arith)) ∙ and_mask (word / 2 ^ (128 - at - width)) width

-- a word whose field is zero, by what stands above the field and what stands below it
around : (width s word : ℕ) → word / 2 ^ s % 2 ^ width ≡ 0 → word ≡ word / 2 ^ (width + s) * 2 ^ width * 2 ^ s + word % 2 ^ s
around width s word zero =
    let hi : ℕ = word / 2 ^ (width + s) in
    let split = shr_split word (width + s) in
    let low : word % 2 ^ (width + s) ≡ 0 * 2 ^ s + word % 2 ^ s = mod-pow-add word width s ∙ ap (λ f. f * 2 ^ s + word % 2 ^ s) zero in
    let high : hi * 2 ^ (width + s) ≡ hi * 2 ^ width * 2 ^ s = ap (λ p. hi * p) (pow-add 2 width s) ∙ sym (mul_assoc hi (2 ^ width) (2 ^ s)) in
    omega (arith, split, low, high)

-- the same, with the field set
set_around : (width s value word : ℕ) → width + s ≤ 128 → value < 2 ^ width → word / 2 ^ s % 2 ^ width ≡ 0 → bit_or word (value * 2 ^ s % 2 ^ 128) ≡ word / 2 ^ (width + s) * 2 ^ (width + s) + value * 2 ^ s + word % 2 ^ s
set_around width s value word inside fits zero =
    let hi : ℕ = word / 2 ^ (width + s) in
    let lo : ℕ = word % 2 ^ s in
    let whole : value * 2 ^ s % 2 ^ 128 ≡ value * 2 ^ s + 0 = shl_whole value width s 128 fits inside ∙ omega arith in
    let low_fits : lo < 2 ^ s = mod_below word (2 ^ s) (pow_pos s) in
    let parts : bit_or (hi * 2 ^ width * 2 ^ s + lo) (value * 2 ^ s + 0) ≡ bit_or (hi * 2 ^ width) value * 2 ^ s + bit_or lo 0 = or_block s (hi * 2 ^ width) value lo 0 low_fits (pow_pos s) in
    let joined : bit_or (hi * 2 ^ width) value * 2 ^ s + bit_or lo 0 ≡ (hi * 2 ^ width + value) * 2 ^ s + lo = ap (λ f. f * 2 ^ s + bit_or lo 0) (or_shifted hi width value fits) ∙ ap (λ l. (hi * 2 ^ width + value) * 2 ^ s + l) (or_zero_r lo) in
    let high : hi * 2 ^ (width + s) ≡ hi * 2 ^ width * 2 ^ s = ap (λ p. hi * p) (pow-add 2 width s) ∙ sym (mul_assoc hi (2 ^ width) (2 ^ s)) in
    ap (λ w. bit_or w (value * 2 ^ s % 2 ^ 128)) (around width s word zero) ∙ ap (bit_or (hi * 2 ^ width * 2 ^ s + lo)) whole ∙ parts ∙ joined ∙ omega (arith, high)

-- what the code computes for a field that it sets
pub field_placed : (width at value word : ℕ) → at + width ≤ 128 → value < 2 ^ width → bit_field width at word ≡ 0 → bit_or word (value * 2 ^ (128 - at - width) % 2 ^ 128) ≡ with_bit_field width at value word
field_placed width at value word inside fits zero =
    let s : ℕ = 128 - at - width in
    let e : width + s ≡ 128 - at = omega arith in
    set_around width s value word (omega arith) fits zero ∙ ap (λ t. word / 2 ^ t * 2 ^ t + value * 2 ^ s + word % 2 ^ s) e

-- a field that was set is what is taken
pub field_of_placed : (width at value word : ℕ) → at + width ≤ 128 → value < 2 ^ width → bit_field width at (with_bit_field width at value word) ≡ value
field_of_placed width at value word inside fits =
    let s : ℕ = 128 - at - width in
    let hi : ℕ = word / 2 ^ (128 - at) in
    let lo : ℕ = word % 2 ^ s in
    let e : width + s ≡ 128 - at = omega arith in
    let low_fits : lo < 2 ^ s = mod_below word (2 ^ s) (pow_pos s) in
    let high : hi * 2 ^ (128 - at) ≡ hi * 2 ^ width * 2 ^ s = ap (λ t. hi * 2 ^ t) (sym e) ∙ ap (λ p. hi * p) (pow-add 2 width s) ∙ sym (mul_assoc hi (2 ^ width) (2 ^ s)) in
    let regrouped : hi * 2 ^ (128 - at) + value * 2 ^ s + lo ≡ (hi * 2 ^ width + value) * 2 ^ s + lo = omega (arith, high) in
    ap (λ w. w / 2 ^ s % 2 ^ width) regrouped ∙ ap (λ q. q % 2 ^ width) (shr_high (hi * 2 ^ width + value) s lo low_fits) ∙ mod_low hi width value fits

-- the same for the code
pub field_taken_again : (width at value word : ℕ) → at + width ≤ 128 → value < 2 ^ width → bit_field width at word ≡ 0 → bit_field width at (bit_or word (value * 2 ^ (128 - at - width) % 2 ^ 128)) ≡ value
field_taken_again width at value word inside fits zero =
    ap (bit_field width at) (field_placed width at value word inside fits zero) ∙ field_of_placed width at value word inside fits
