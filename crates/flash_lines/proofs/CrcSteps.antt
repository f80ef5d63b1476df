-- A remainder of 64 bits that is doubled, with no branch on its bits, and one step more of the CRC.
use Rattle.std.proofs.Common.{◌≡◌, ℕ, zero, suc, ◌+◌, ◌*◌, ◌-◌, ◌/◌, ◌%◌, ◌^◌, ◌<◌, List, [], ◌∷◌, length, get_or, take, fold, refl, sym, ap, ◌∙◌, arith, inl, inr, add-one}
use Rattle.std.specs.Fn.{iterate}
use Rattle.std.specs.Int.Bits.{bit_xor, xor_zero_r}
use Rattle.std.proofs.lemmas.Bool.{cases_lt, cond-true, cond-false, lt-ltb, le-ltb}
use Rattle.std.proofs.lemmas.Grind.{fold-append}
use Rattle.std.proofs.lemmas.List.{take_more}
use Rattle.flash_lines.specs.Crc.{crc_polynomial, times_x, crc_step, crc_from}

pub doubled : (a : ℕ) → a < 2 ^ 64 → bit_xor (a * 2 % 2 ^ 64) (a / 2 ^ 63 * crc_polynomial) ≡ times_x a
unfolding times_x
doubled a fits =
    let k : ℕ = 2 ^ 63 in
    elim (cases_lt a k) [
      | inl low ↦
          let shifted : a * 2 % 2 ^ 64 ≡ 2 * a = omega arith in
          let top : a / 2 ^ 63 * crc_polynomial ≡ 0 = omega arith in
          rw (shifted, top, xor_zero_r (2 * a)) (sym (cond-true _ _ _ (lt-ltb a k low)))
      | inr high ↦
          let shifted : a * 2 % 2 ^ 64 ≡ 2 * a - 2 ^ 64 = omega arith in
          let top : a / 2 ^ 63 * crc_polynomial ≡ crc_polynomial = omega arith in
          rw (shifted, top) (sym (cond-false _ _ _ (le-ltb a k high)))
    ]

-- one doubling more
once_more : (n a : ℕ) → times_x (iterate times_x n a) ≡ iterate times_x (suc n) a
once_more zero a = refl
once_more (suc n) a = once_more n (times_x a)

pub doubled_once_more : (n a : ℕ) → times_x (iterate times_x n a) ≡ iterate times_x (n + 1) a
doubled_once_more n a = once_more n a ∙ ap (λ k. iterate times_x k a) (sym (add-one n))

-- one byte more
pub one_byte_more : (bytes : List ℕ) (n remainder : ℕ) → n < length bytes → remainder ≡ crc_from (2 ^ 64 - 1) (take n bytes)
    → crc_step remainder (get_or bytes n 0) ≡ crc_from (2 ^ 64 - 1) (take (n + 1) bytes)
unfolding crc_from
one_byte_more bytes n remainder below is =
    ap (λ r. crc_step r (get_or bytes n 0)) is
    ∙ sym (fold-append crc_step (2 ^ 64 - 1) (take n bytes) (get_or bytes n 0 ∷ []))
    ∙ ap (fold crc_step (2 ^ 64 - 1)) (sym (take_more bytes n 0 below))
