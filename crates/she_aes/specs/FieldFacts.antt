-- Facts about the field: a product is linear in its second factor, and is a byte.
use Rattle.std.proofs.Common.{◌≡◌, ℕ, zero, suc, ◌+◌, ◌*◌, ◌/◌, ◌%◌, ◌^◌, ◌<◌, List, [], ◌∷◌, map, fold, refl, ap, sym}
use Rattle.std.proofs.Common.{◌∙◌, arith, add-zero, lt_of_lt_of_le, lit<, Bool, Some, find, unwrap_or, All}
use Rattle.std.specs.Prelude.{◌==◌}
use Rattle.std.proofs.lemmas.Bool.{cond_both}
use Rattle.std.proofs.lemmas.List.FromFn.{length-range_with_len, get_or-range_with_len}
use Rattle.std.specs.Int.{bit_at}
use Rattle.std.specs.Int.Bits.{bit_xor, xor_assoc, xor_comm, xor_self, xor_zero_l, xor_zero_r, xor_lt, xor_block}
use Rattle.std.specs.List.{range_with_len}
use Rattle.std.proofs.lemmas.Nat.{pow_pos, pow-add, pow_below, shl_below, mod_below, div-add-mod', div_below}
use Rattle.std.proofs.lemmas.Nat.Bits.{bit_at_xor, bit_at-lt}
use Rattle.std.proofs.Math.Pow.{pow_mono}
use Rattle.she_aes.specs.Field.{product, modulus, cancelled, remainder, mul, inv, affine_bit, affine, sub_byte}
use Rattle.she_aes.specs.Field.{inv_affine_bit, inv_affine, inv_sub_byte}

-- ---- exclusive or

pub xor_swap : (a b c d : ℕ) → bit_xor (bit_xor a b) (bit_xor c d) ≡ bit_xor (bit_xor a c) (bit_xor b d)
xor_swap a b c d =
    xor_assoc a b (bit_xor c d)
    ∙ ap (λ t. bit_xor a t) (sym (xor_assoc b c d) ∙ ap (λ t. bit_xor t d) (xor_comm b c) ∙ xor_assoc c b d)
    ∙ sym (xor_assoc a c (bit_xor b d))

xor-mul_pow : (x y k : ℕ) → bit_xor (x * 2 ^ k) (y * 2 ^ k) ≡ bit_xor x y * 2 ^ k
xor-mul_pow x y k = simp add-zero at (xor_block k x y 0 0 (pow_pos k) (pow_pos k))

-- a bit times a sum
bit-xor : (t x y : ℕ) → t < 2 → t * bit_xor x y ≡ bit_xor (t * x) (t * y)
bit-xor zero x y h =
    let a : 0 * x ≡ 0 = omega arith in
    let b : 0 * y ≡ 0 = omega arith in
    let c : 0 * bit_xor x y ≡ 0 = omega arith in
    rw (a, b, c) refl
bit-xor (suc zero) x y h =
    let a : 1 * x ≡ x = omega arith in
    let b : 1 * y ≡ y = omega arith in
    let c : 1 * bit_xor x y ≡ bit_xor x y = omega arith in
    rw (a, b, c) refl
bit-xor (suc (suc t)) x y h = absurd (omega arith)

-- the sum of two bits, times a number
bits-mul : (s t m : ℕ) → s < 2 → t < 2 → (s + t) % 2 * m ≡ bit_xor (s * m) (t * m)
bits-mul zero zero m h k =
    let a : 0 * m ≡ 0 = omega arith in
    rw (a) refl
bits-mul zero (suc zero) m h k =
    let a : 0 * m ≡ 0 = omega arith in
    let b : 1 * m ≡ m = omega arith in
    rw (a, b) (sym (xor_zero_l m))
bits-mul (suc zero) zero m h k =
    let a : 0 * m ≡ 0 = omega arith in
    let b : 1 * m ≡ m = omega arith in
    rw (a, b) (sym (xor_zero_r m))
bits-mul (suc zero) (suc zero) m h k =
    let a : 0 * m ≡ 0 = omega arith in
    let b : 1 * m ≡ m = omega arith in
    rw (a, b) (sym (xor_self m))
bits-mul (suc (suc s)) t m h k = absurd (omega arith)
bits-mul zero (suc (suc t)) m h k = absurd (omega arith)
bits-mul (suc zero) (suc (suc t)) m h k = absurd (omega arith)

bit-lt : (t x n : ℕ) → t < 2 → x < n → t * x < n
bit-lt zero x n h l = omega arith
bit-lt (suc zero) x n h l = omega arith
bit-lt (suc (suc t)) x n h l = absurd (omega arith)

-- ---- products are linear

fold-xor : (f g h : ℕ → ℕ) → ((i : ℕ) → h i ≡ bit_xor (f i) (g i)) → (xs : List ℕ) (p q : ℕ)
    → fold bit_xor (bit_xor p q) (map h xs) ≡ bit_xor (fold bit_xor p (map f xs)) (fold bit_xor q (map g xs))
fold-xor f g h each [] p q = refl
fold-xor f g h each (x ∷ xs) p q =
    ap (λ t. fold bit_xor t (map h xs)) (ap (λ t. bit_xor (bit_xor p q) t) (each x) ∙ xor_swap p q (f x) (g x))
    ∙ fold-xor f g h each xs (bit_xor p (f x)) (bit_xor q (g x))

product-xor : (a x y : ℕ) → product a (bit_xor x y) ≡ bit_xor (product a x) (product a y)
unfolding product
product-xor a x y =
    fold-xor (λ i. bit_at a i * (x * 2 ^ i)) (λ i. bit_at a i * (y * 2 ^ i)) (λ i. bit_at a i * (bit_xor x y * 2 ^ i))
    (λ i. ap (λ t. bit_at a i * t) (sym (xor-mul_pow x y i))
    ∙ bit-xor (bit_at a i) (x * 2 ^ i) (y * 2 ^ i) (bit_at-lt a i)) (range_with_len 0 8) 0 0

cancelled-xor : (p q k : ℕ) → cancelled (bit_xor p q) k ≡ bit_xor (cancelled p k) (cancelled q k)
unfolding cancelled
cancelled-xor p q k =
    let m = modulus * 2 ^ k in
    ap (λ t. bit_xor (bit_xor p q) (t * m)) (bit_at_xor p q (k + 8))
    ∙ ap (λ t. bit_xor (bit_xor p q) t)
    (bits-mul (bit_at p (k + 8)) (bit_at q (k + 8)) m (bit_at-lt p (k + 8)) (bit_at-lt q (k + 8)))
    ∙ xor_swap p q (bit_at p (k + 8) * m) (bit_at q (k + 8) * m)

fold-cancelled-xor : (ks : List ℕ) (p q : ℕ)
    → fold cancelled (bit_xor p q) ks ≡ bit_xor (fold cancelled p ks) (fold cancelled q ks)
fold-cancelled-xor [] p q = refl
fold-cancelled-xor (k ∷ ks) p q =
    ap (λ t. fold cancelled t ks) (cancelled-xor p q k) ∙ fold-cancelled-xor ks (cancelled p k) (cancelled q k)

pub mul-xor : (a x y : ℕ) → mul a (bit_xor x y) ≡ bit_xor (mul a x) (mul a y)
unfolding mul remainder
mul-xor a x y =
    ap remainder (product-xor a x y) ∙ fold-cancelled-xor (6 ∷ 5 ∷ 4 ∷ 3 ∷ 2 ∷ 1 ∷ 0 ∷ []) (product a x) (product a y)

-- ---- products are bytes

-- a sum of numbers below a power of 2 is below it
sum_below-lt : (k : ℕ) (f : ℕ → ℕ) (a n start : ℕ) → start < 2 ^ k → ((i : ℕ) → i < a + n → f i < 2 ^ k)
    → fold bit_xor start (map f (range_with_len a n)) < 2 ^ k
sum_below-lt k f a zero start h each = h
sum_below-lt k f a (suc n) start h each =
    sum_below-lt k f (a + 1) n (bit_xor start (f a)) (xor_lt k start (f a) h (each a (omega arith)))
    (λ i l. each i (omega arith))

product-lt : (a b : ℕ) → b < 256 → product a b < 2 ^ 15
unfolding product
product-lt a b h =
    sum_below-lt 15 (λ i. bit_at a i * (b * 2 ^ i)) 0 8 0 (pow_pos 15)
    (λ i l. bit-lt (bit_at a i) (b * 2 ^ i) (2 ^ 15) (bit_at-lt a i)
    (lt_of_lt_of_le (shl_below b 8 i h) (pow_mono {i = 8 + i} {j = 15} (omega arith))))

-- the step of the division, where j is the place of the term that is cancelled
step-lt : (j hi lo r : ℕ) → hi < 2 → lo < 2 ^ j → r < 2 ^ j → bit_xor (hi * 2 ^ j + lo) (hi * (2 ^ j + r)) < 2 ^ j
step-lt j zero lo r h l k =
    let a : 0 * 2 ^ j + lo ≡ lo = omega arith in
    let b : 0 * (2 ^ j + r) ≡ 0 = omega arith in
    rw (a, b, xor_zero_r lo) l
step-lt j (suc zero) lo r h l k =
    let a : 1 * (2 ^ j + r) ≡ 1 * 2 ^ j + r = omega arith in
    let b : bit_xor 1 1 * 2 ^ j + bit_xor lo r ≡ bit_xor lo r = omega arith in
    rw (a, xor_block j 1 1 lo r l k, b) (xor_lt j lo r l k)
step-lt j (suc (suc hi)) lo r h l k = absurd (omega arith)

cancelled-lt : (p k : ℕ) → p < 2 ^ (k + 9) → cancelled p k < 2 ^ (k + 8)
unfolding cancelled
cancelled-lt p k h =
    let j = k + 8 in
    let pos = pow_pos k in
    let scaled : 2 ^ (k + 8) ≡ 2 ^ k * 256 = pow-add 2 k 8 in
    let twice : 2 ^ (k + 9) ≡ 2 ^ k * 512 = pow-add 2 k 9 in
    let top : p / 2 ^ (k + 8) < 2 = div_below p (2 ^ (k + 8)) 2 (pow_pos (k + 8)) (omega arith) in
    let bit : p / 2 ^ (k + 8) % 2 ≡ p / 2 ^ (k + 8) = omega arith in
    let low : p % 2 ^ (k + 8) < 2 ^ (k + 8) = mod_below p (2 ^ (k + 8)) (pow_pos (k + 8)) in
    let m : 0x11b * 2 ^ k ≡ 2 ^ (k + 8) + 27 * 2 ^ k = omega arith in
    let small : 27 * 2 ^ k < 2 ^ (k + 8) = omega arith in
    let this = step-lt (k + 8) (p / 2 ^ (k + 8)) (p % 2 ^ (k + 8)) (27 * 2 ^ k) top low small in
    rw (bit, m) (rw (div-add-mod' p (2 ^ (k + 8))) at this)

remainder-lt : (p : ℕ) → p < 2 ^ 15 → remainder p < 2 ^ 8
unfolding remainder
remainder-lt p h =
    cancelled-lt _ 0
    (cancelled-lt _ 1
    (cancelled-lt _ 2 (cancelled-lt _ 3 (cancelled-lt _ 4 (cancelled-lt _ 5 (cancelled-lt p 6 h))))))

pub mul-lt : (a b : ℕ) → b < 256 → mul a b < 256
unfolding mul
mul-lt a b h = remainder-lt (product a b) (product-lt a b h)

-- ---- the S-box gives bytes

pub affine-lt : (b : ℕ) → affine b < 256
unfolding affine
affine-lt b =
    sum_below-lt 8 (λ i. affine_bit b i * 2 ^ i) 0 8 0 (pow_pos 8)
    (λ i l. bit-lt (affine_bit b i) (2 ^ i) (2 ^ 8) (mod_below _ 2 (lit< tt)) (pow_below i 8 l))

pub inv_affine-lt : (b : ℕ) → inv_affine b < 256
unfolding inv_affine
inv_affine-lt b =
    sum_below-lt 8 (λ i. inv_affine_bit b i * 2 ^ i) 0 8 0 (pow_pos 8)
    (λ i l. bit-lt (inv_affine_bit b i) (2 ^ i) (2 ^ 8) (mod_below _ 2 (lit< tt)) (pow_below i 8 l))

pub sub_byte-lt : (a : ℕ) → sub_byte a < 256
unfolding sub_byte
sub_byte-lt a = affine-lt (inv a)

-- ---- inverses are bytes

found-lt : (n : ℕ) (p : ℕ → Bool) (xs : List ℕ) → 0 < n → All (λ b. b < n) xs → unwrap_or (find p xs) 0 < n
found-lt n p [] pos below = pos
found-lt n p (x ∷ xs) pos below =
    cond_both (p x) (Some x) (find p xs) (λ o. unwrap_or o 0 < n) (λ _. below 0 0 (omega arith))
    (λ _. found-lt n p xs pos (λ k d h. below (suc k) d (omega arith)))

range-lt : (n : ℕ) → All (λ b. b < n) (range_with_len 0 n)
range-lt n k d h =
    let inside : k < n = omega (arith, length-range_with_len 0 n) in
    rw (get_or-range_with_len 0 n k d inside) (omega arith)

pub inv-lt : (a : ℕ) → inv a < 256
unfolding inv
inv-lt a = found-lt 256 (λ b. mul a b == 1) (range_with_len 0 256) (lit< tt) (range-lt 256)

pub inv_sub_byte-lt : (b : ℕ) → inv_sub_byte b < 256
unfolding inv_sub_byte
inv_sub_byte-lt b = inv-lt (inv_affine b)
