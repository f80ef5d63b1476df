-- The shift of 128 bits that is reduced, with no branch on its bits.
use Rattle.std.proofs.Common.{◌≡◌, ℕ, ◌*◌, ◌-◌, ◌/◌, ◌%◌, ◌^◌, ◌<◌, sym, arith, inl, inr}
use Rattle.std.specs.Int.Bits.{bit_xor, xor_zero_r}
use Rattle.std.proofs.lemmas.Bool.{cases_lt, cond-true, cond-false, lt-ltb, le-ltb}
use Rattle.she_cmac.specs.Cmac.{dbl}

pub doubled : (a : ℕ) → a < 2 ^ 128 → bit_xor (a * 2 % 2 ^ 128) (a / 2 ^ 127 * 135) ≡ dbl a
unfolding dbl
doubled a fits =
    let k : ℕ = 2 ^ 127 in
    elim (cases_lt a k) [
      | inl low ↦
          let shifted : a * 2 % 2 ^ 128 ≡ 2 * a = omega arith in
          let top : a / 2 ^ 127 * 135 ≡ 0 = omega arith in
          rw (shifted, top, xor_zero_r (2 * a)) (sym (cond-true _ _ _ (lt-ltb a k low)))
      | inr high ↦
          let shifted : a * 2 % 2 ^ 128 ≡ 2 * a - 2 ^ 128 = omega arith in
          let top : a / 2 ^ 127 * 135 ≡ 135 = omega arith in
          rw (shifted, top) (sym (cond-false _ _ _ (le-ltb a k high)))
    ]
