-- Products by constants, against the field: each rule is proved once, for all 256 bytes.
use Rattle.std.specs.Prelude.{◌≡◌, ℕ, ◌<◌, ◌==◌, nat_lt, true, refl, bit_xor}
use Rattle.std.proofs.Common.{sym, ap, ◌∙◌}
use Rattle.std.proofs.lemmas.Bool.{agree_below, agree_below_at, eqb-true, lt-ltb}
use Rattle.she_aes.specs.Field.{product, cancelled, remainder, mul, inv, inv_affine}
use Rattle.she_aes.proofs.SBoxTable.{same_at_bytes}
use Rattle.she_aes.proofs.SBoxFacts.{inv_of, inv_of_is}

none_ok : agree_below (λ b. mul 0 b == 0) (λ _. true) 256 ≡ true
unfolding product cancelled remainder mul
none_ok = refl

pub none_rule : (b : ℕ) → b < 256 → mul 0 b ≡ 0
none_rule = same_at_bytes (λ b. mul 0 b) (λ b. 0) none_ok

one_ok : agree_below (λ b. b == mul 1 b) (λ _. true) 256 ≡ true
unfolding product cancelled remainder mul
one_ok = refl

pub one_rule : (b : ℕ) → b < 256 → b ≡ mul 1 b
one_rule = same_at_bytes (λ b. b) (λ b. mul 1 b) one_ok

triple_ok : agree_below (λ b. bit_xor (mul 2 b) b == mul 3 b) (λ _. true) 256 ≡ true
unfolding product cancelled remainder mul
triple_ok = refl

pub triple_rule : (b : ℕ) → b < 256 → bit_xor (mul 2 b) b ≡ mul 3 b
triple_rule = same_at_bytes (λ b. bit_xor (mul 2 b) b) (λ b. mul 3 b) triple_ok

quadruple_ok : agree_below (λ b. mul 2 (mul 2 b) == mul 4 b) (λ _. true) 256 ≡ true
unfolding product cancelled remainder mul
quadruple_ok = refl

pub quadruple_rule : (b : ℕ) → b < 256 → mul 2 (mul 2 b) ≡ mul 4 b
quadruple_rule = same_at_bytes (λ b. mul 2 (mul 2 b)) (λ b. mul 4 b) quadruple_ok

quintuple_ok : agree_below (λ b. bit_xor b (mul 2 (mul 2 b)) == mul 5 b) (λ _. true) 256 ≡ true
unfolding product cancelled remainder mul
quintuple_ok = refl

pub quintuple_rule : (b : ℕ) → b < 256 → bit_xor b (mul 2 (mul 2 b)) ≡ mul 5 b
quintuple_rule = same_at_bytes (λ b. bit_xor b (mul 2 (mul 2 b))) (λ b. mul 5 b) quintuple_ok

inverse_ok : agree_below (λ a. nat_lt 0 a) (λ a. mul a (inv_of a) == 1) 256 ≡ true
unfolding product cancelled remainder mul inv_affine
inverse_ok = refl

pub inverse_rule : (a : ℕ) → 0 < a → a < 256 → mul a (inv a) ≡ 1
inverse_rule a low high =
    ap (mul a) (sym (inv_of_is a high))
    ∙ eqb-true (mul a (inv_of a)) 1 (sym (agree_below_at (λ a. nat_lt 0 a) (λ a. mul a (inv_of a) == 1) 256 a inverse_ok high) ∙ lt-ltb 0 a low)
