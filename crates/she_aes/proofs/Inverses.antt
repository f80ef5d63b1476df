-- A byte has one inverse. To multiply by a byte and then by its inverse changes nothing, since it changes no power of x
-- and is linear.
use Rattle.std.proofs.Common.{◌≡◌, ℕ, zero, suc, ◌+◌, ◌*◌, ◌^◌, ◌<◌, Bool, true, map, fold, refl, ap, sym, ◌∙◌, arith}
use Rattle.std.specs.Prelude.{◌==◌, nat_lt}
use Rattle.std.specs.Int.{bit_at}
use Rattle.std.specs.Int.Bits.{bit_xor, xor_self}
use Rattle.std.specs.List.{range_with_len}
use Rattle.std.proofs.lemmas.Bool.{agree_below, agree_below_at, eqb-true, lt-ltb}
use Rattle.std.proofs.lemmas.Nat.Bits.{bit_at-lt}
use Rattle.she_aes.specs.Field.{product, cancelled, remainder, sum_below, mul, inv, inv_affine}
use Rattle.she_aes.specs.FieldFacts.{mul-xor, inv-lt}
use Rattle.she_aes.proofs.SBoxTable.{same_at_bytes}
use Rattle.she_aes.proofs.SBoxFacts.{inv_of, inv_of_is}
use Rattle.she_aes.proofs.Tables.{none_rule}

-- a byte by its bits
bits_ok : agree_below (λ x. sum_below 8 (λ i. bit_at x i * 2 ^ i) == x) (λ _. true) 256 ≡ true
bits_ok = refl

by_bits : (x : ℕ) → x < 256 → sum_below 8 (λ i. bit_at x i * 2 ^ i) ≡ x
by_bits = same_at_bytes (λ x. sum_below 8 (λ i. bit_at x i * 2 ^ i)) (λ x. x) bits_ok

one_ok : agree_below (λ b. mul b 1 == b) (λ _. true) 256 ≡ true
unfolding product cancelled remainder mul
one_ok = refl

times_one : (b : ℕ) → b < 256 → mul b 1 ≡ b
times_one = same_at_bytes (λ b. mul b 1) (λ b. b) one_ok

-- times a and then times b, no power of x changes
abbrev powers_kept : ℕ → ℕ → Bool
powers_kept b a = agree_below (λ i. mul b (mul a (2 ^ i)) == 2 ^ i) (λ _. true) 8

powers_ok : agree_below (λ a. nat_lt 0 a) (λ a. powers_kept (inv_of a) a) 256 ≡ true
unfolding product cancelled remainder mul inv_affine
powers_ok = refl

power_kept : (a : ℕ) → 0 < a → a < 256 → (i : ℕ) → i < 8 → mul (inv a) (mul a (2 ^ i)) ≡ 2 ^ i
power_kept a some fits i within =
    let kept = sym (agree_below_at (λ a. nat_lt 0 a) (λ a. powers_kept (inv_of a) a) 256 a powers_ok fits) ∙ lt-ltb 0 a some in
    ap (λ x. mul x (mul a (2 ^ i))) (sym (inv_of_is a fits))
    ∙ eqb-true (mul (inv_of a) (mul a (2 ^ i))) (2 ^ i) (agree_below_at (λ i. mul (inv_of a) (mul a (2 ^ i)) == 2 ^ i) (λ _. true) 8 i kept within)

module _ (a : ℕ) (some : 0 < a) (fits : a < 256) where
  both : ℕ → ℕ
  both x = mul (inv a) (mul a x)

  both-xor : (x y : ℕ) → both (bit_xor x y) ≡ bit_xor (both x) (both y)
  unfolding both
  both-xor x y = ap (mul (inv a)) (mul-xor a x y) ∙ mul-xor (inv a) (mul a x) (mul a y)

  both-zero : both 0 ≡ 0
  both-zero = both-xor 0 0 ∙ xor_self (both 0)

  bit_kept : (t i : ℕ) → t < 2 → i < 8 → both (t * 2 ^ i) ≡ t * 2 ^ i
  unfolding both
  bit_kept zero i bit within =
      let none : 0 * 2 ^ i ≡ 0 = omega arith in
      ap both none ∙ both-zero ∙ sym none
  bit_kept (suc zero) i bit within =
      let one : 1 * 2 ^ i ≡ 2 ^ i = omega arith in
      ap both one ∙ power_kept a some fits i within ∙ sym one
  bit_kept (suc (suc t)) i bit within = absurd (omega arith)

  sum_kept : (f : ℕ → ℕ) (from n start : ℕ) → ((i : ℕ) → i < from + n → both (f i) ≡ f i) → both (fold bit_xor start (map f (range_with_len from n))) ≡ fold bit_xor (both start) (map f (range_with_len from n))
  sum_kept f from zero start each = refl
  sum_kept f from (suc n) start each =
      sum_kept f (from + 1) n (bit_xor start (f from)) (λ i h. each i (omega arith))
      ∙ ap (λ s. fold bit_xor s (map f (range_with_len (from + 1) n))) (both-xor start (f from) ∙ ap (bit_xor (both start)) (each from (omega arith)))

  byte_kept : (x : ℕ) → x < 256 → both x ≡ x
  byte_kept x byte =
      let bits = λ (i : ℕ). bit_at x i * 2 ^ i in
      ap both (sym (by_bits x byte))
      ∙ sum_kept bits 0 8 0 (λ i h. bit_kept (bit_at x i) i (bit_at-lt x i) (omega arith))
      ∙ ap (λ s. fold bit_xor s (map bits (range_with_len 0 8))) both-zero
      ∙ by_bits x byte

  only : (x : ℕ) → x < 256 → mul a x ≡ 1 → x ≡ inv a
  unfolding both
  only x byte e = sym (byte_kept x byte) ∙ ap (mul (inv a)) e ∙ times_one (inv a) (inv-lt a)

pub only_inverse : (a x : ℕ) → a < 256 → x < 256 → mul a x ≡ 1 → x ≡ inv a
only_inverse zero x fits byte e = absurd (let h : 0 ≡ 1 = sym (none_rule x byte) ∙ e in omega arith)
only_inverse (suc a) x fits byte e = only (suc a) (omega arith) fits x byte e
