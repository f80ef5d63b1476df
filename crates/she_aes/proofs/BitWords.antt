-- Words of 32 bits that are made of others by shifts, masks and exclusive or: where each of their bits comes from, and
-- that sums go through them.
use Rattle.std.proofs.Common.{◌≡◌, ℕ, zero, suc, ◌+◌, ◌-◌, ◌*◌, ◌/◌, ◌%◌, ◌^◌, ◌<◌, ◌≤◌, min, Bool, true, false, bit_and, refl, sym, ap, ◌∙◌, arith, pow-add}
use Rattle.std.specs.Prelude.{◌==◌, ◌&&◌, nat_le, nat_lt, if◌then◌else◌}
use Rattle.std.specs.Int.{bit_at}
use Rattle.std.specs.Int.Bits.{bit_xor, xor_zero_l, xor_zero_r, xor_block}
use Rattle.std.proofs.Math.Nat.{div-add-mod', div-div-eq-div-mul}
use Rattle.std.proofs.lemmas.Bool.{and_parts, eqb-true}
use Rattle.std.proofs.lemmas.Bool.Decides.{nat_tests}
use Rattle.std.proofs.lemmas.Nat.{xor_shr, xor_mod, pow_pos}
use Rattle.std.proofs.lemmas.Nat.Bits.{bit_at_and, bit_at_xor, bit_at-lt, bit_at-zero, bit_at_cat_low, bit_at_cat_high, same_from_bits}
use Rattle.she_aes.specs.FieldFacts.{xor_swap}

-- ---- bits of bitwise operations

two_bits : (x y : ℕ) → x < 2 → y < 2 → (x + y) % 2 ≡ bit_xor x y
two_bits zero zero h k = refl
two_bits zero (suc zero) h k = refl
two_bits (suc zero) zero h k = refl
two_bits (suc zero) (suc zero) h k = refl
two_bits zero (suc (suc y)) h k = absurd (omega arith)
two_bits (suc zero) (suc (suc y)) h k = absurd (omega arith)
two_bits (suc (suc x)) y h k = absurd (omega arith)

pub bit_of_sum : (a b p : ℕ) → bit_at (bit_xor a b) p ≡ bit_xor (bit_at a p) (bit_at b p)
bit_of_sum a b p = bit_at_xor a b p ∙ two_bits (bit_at a p) (bit_at b p) (bit_at-lt a p) (bit_at-lt b p)

both_bits : (x y : ℕ) → x < 2 → y < 2 → min x y ≡ bit_and x y
both_bits zero zero h k = refl
both_bits zero (suc zero) h k = refl
both_bits (suc zero) zero h k = refl
both_bits (suc zero) (suc zero) h k = refl
both_bits zero (suc (suc y)) h k = absurd (omega arith)
both_bits (suc zero) (suc (suc y)) h k = absurd (omega arith)
both_bits (suc (suc x)) y h k = absurd (omega arith)

pub bit_of_product : (a b p : ℕ) → bit_at (bit_and a b) p ≡ bit_and (bit_at a p) (bit_at b p)
bit_of_product a b p = bit_at_and a b p ∙ both_bits (bit_at a p) (bit_at b p) (bit_at-lt a p) (bit_at-lt b p)

pub bit_of_right : (a n p : ℕ) → bit_at (a / 2 ^ n) p ≡ bit_at a (n + p)
bit_of_right a n p =
    ap (λ x. x % 2) (div-div-eq-div-mul a (2 ^ n) (2 ^ p) ∙ ap (λ t. a / t) (sym (pow-add 2 n p)))

-- the low 32 bits
bit_of_low : (a p : ℕ) → p < 32 → bit_at (a % 2 ^ 32) p ≡ bit_at a p
bit_of_low a p h =
    sym (bit_at_cat_low (a / 2 ^ 32) 32 (a % 2 ^ 32) p h) ∙ ap (λ x. bit_at x p) (div-add-mod' a (2 ^ 32))

bit_of_left : (a n p : ℕ) → p < 32 → n ≤ p → bit_at (a * 2 ^ n % 2 ^ 32) p ≡ bit_at a (p - n)
bit_of_left a n p h k =
    let e : a * 2 ^ n ≡ a * 2 ^ n + 0 = omega arith in
    bit_of_low (a * 2 ^ n) p h ∙ ap (λ x. bit_at x p) e ∙ bit_at_cat_high a n 0 p (pow_pos n) k

no_bit_of_left : (a n p : ℕ) → p < 32 → p < n → bit_at (a * 2 ^ n % 2 ^ 32) p ≡ 0
no_bit_of_left a n p h k =
    let e : a * 2 ^ n ≡ a * 2 ^ n + 0 = omega arith in
    bit_of_low (a * 2 ^ n) p h ∙ ap (λ x. bit_at x p) e ∙ bit_at_cat_low a n 0 p k ∙ bit_at-zero p

-- ---- sums

masked_bits : (x y m : ℕ) → x < 2 → y < 2 → m < 2 → bit_and (bit_xor x y) m ≡ bit_xor (bit_and x m) (bit_and y m)
masked_bits zero zero zero h k l = refl
masked_bits zero zero (suc zero) h k l = refl
masked_bits zero (suc zero) zero h k l = refl
masked_bits zero (suc zero) (suc zero) h k l = refl
masked_bits (suc zero) zero zero h k l = refl
masked_bits (suc zero) zero (suc zero) h k l = refl
masked_bits (suc zero) (suc zero) zero h k l = refl
masked_bits (suc zero) (suc zero) (suc zero) h k l = refl
masked_bits (suc (suc x)) y m h k l = absurd (omega arith)
masked_bits zero (suc (suc y)) m h k l = absurd (omega arith)
masked_bits (suc zero) (suc (suc y)) m h k l = absurd (omega arith)
masked_bits zero zero (suc (suc m)) h k l = absurd (omega arith)
masked_bits zero (suc zero) (suc (suc m)) h k l = absurd (omega arith)
masked_bits (suc zero) zero (suc (suc m)) h k l = absurd (omega arith)
masked_bits (suc zero) (suc zero) (suc (suc m)) h k l = absurd (omega arith)

sum_masked : (a b m : ℕ) → bit_and (bit_xor a b) m ≡ bit_xor (bit_and a m) (bit_and b m)
sum_masked a b m =
    same_from_bits (bit_and (bit_xor a b) m) (bit_xor (bit_and a m) (bit_and b m)) (λ i.
    bit_of_product (bit_xor a b) m i ∙ ap (λ x. bit_and x (bit_at m i)) (bit_of_sum a b i)
    ∙ masked_bits (bit_at a i) (bit_at b i) (bit_at m i) (bit_at-lt a i) (bit_at-lt b i) (bit_at-lt m i)
    ∙ ap (λ x. bit_xor x (bit_and (bit_at b i) (bit_at m i))) (sym (bit_of_product a m i))
    ∙ ap (λ x. bit_xor (bit_at (bit_and a m) i) x) (sym (bit_of_product b m i))
    ∙ sym (bit_of_sum (bit_and a m) (bit_and b m) i))

sum_left : (a b n : ℕ) → bit_xor a b * 2 ^ n % 2 ^ 32 ≡ bit_xor (a * 2 ^ n % 2 ^ 32) (b * 2 ^ n % 2 ^ 32)
sum_left a b n =
    let x : a * 2 ^ n ≡ a * 2 ^ n + 0 = omega arith in
    let y : b * 2 ^ n ≡ b * 2 ^ n + 0 = omega arith in
    let z : bit_xor a b * 2 ^ n + 0 ≡ bit_xor a b * 2 ^ n = omega arith in
    let moved : bit_xor a b * 2 ^ n ≡ bit_xor (a * 2 ^ n) (b * 2 ^ n) =
    sym (ap (λ t. bit_xor t (b * 2 ^ n)) x ∙ ap (λ t. bit_xor (a * 2 ^ n + 0) t) y ∙ xor_block n a b 0 0 (pow_pos n) (pow_pos n) ∙ z) in
    ap (λ t. t % 2 ^ 32) moved ∙ xor_mod (a * 2 ^ n) (b * 2 ^ n) 32

-- ---- words

-- a word made of others
pub data Word : Type 0 where
  Input : ℕ → Word
  Sum : Word → Word → Word
  Right : ℕ → Word → Word
  Left : ℕ → Word → Word
  Part : ℕ → Word → Word

abbrev pub value : Word → (ℕ → ℕ) → ℕ
value (Input j) f = f j
value (Sum a b) f = bit_xor (value a f) (value b f)
value (Right n a) f = value a f / 2 ^ n
value (Left n a) f = value a f * 2 ^ n % 2 ^ 32
value (Part m a) f = bit_and (value a f) m

pub value_of_sums : (e : Word) (f g : ℕ → ℕ) → value e (λ j. bit_xor (f j) (g j)) ≡ bit_xor (value e f) (value e g)
value_of_sums (Input j) f g = refl
value_of_sums (Sum a b) f g =
    ap (λ x. bit_xor x (value b (λ j. bit_xor (f j) (g j)))) (value_of_sums a f g)
    ∙ ap (λ x. bit_xor (bit_xor (value a f) (value a g)) x) (value_of_sums b f g)
    ∙ xor_swap (value a f) (value a g) (value b f) (value b g)
value_of_sums (Right n a) f g = ap (λ x. x / 2 ^ n) (value_of_sums a f g) ∙ xor_shr (value a f) (value a g) n
value_of_sums (Left n a) f g = ap (λ x. x * 2 ^ n % 2 ^ 32) (value_of_sums a f g) ∙ sum_left (value a f) (value a g) n
value_of_sums (Part m a) f g = ap (λ x. bit_and x m) (value_of_sums a f g) ∙ sum_masked (value a f) (value a g) m

-- ---- where a bit comes from

-- one more than the place of the bit among those of all inputs, or 0 if it is 0
abbrev pub source : Word → ℕ → ℕ
source (Input j) p = suc (32 * j + p)
source (Sum a b) p = source a p + source b p
source (Right n a) p = source a (n + p)
source (Left n a) p = if nat_le n p then source a (p - n) else 0
source (Part m a) p = if bit_at m p == 1 then source a p else 0

-- whether it comes from one place at most
abbrev pub is_clear : Word → ℕ → Bool
is_clear (Input j) p = nat_lt p 32
is_clear (Sum a b) p = (is_clear a p && is_clear b p) && (min (source a p) (source b p) == 0)
is_clear (Right n a) p = is_clear a (n + p)
is_clear (Left n a) p = nat_lt p 32 && (if nat_le n p then is_clear a (p - n) else true)
is_clear (Part m a) p = if bit_at m p == 1 then is_clear a p else true

abbrev pub bit_from : (ℕ → ℕ) → ℕ → ℕ
bit_from f zero = 0
bit_from f (suc i) = bit_at (f (i / 32)) (i % 32)

one_source : (f : ℕ → ℕ) (s t x y : ℕ) → (min s t == 0) ≡ true → x ≡ bit_from f s → y ≡ bit_from f t → bit_xor x y ≡ bit_from f (s + t)
one_source f zero t x y apart e h =
    let sum : zero + t ≡ t = omega arith in
    rw sum (ap (λ z. bit_xor z y) e ∙ xor_zero_l y ∙ h)
one_source f (suc s) zero x y apart e h =
    let sum : suc s + zero ≡ suc s = omega arith in
    rw sum (ap (λ z. bit_xor x z) h ∙ xor_zero_r x ∙ e)
one_source f (suc s) (suc t) x y apart e h = absurd (grind (arith, nat_tests))

-- the bit of a word from one input, and of a part of a word
bit_of_input : (f : ℕ → ℕ) (j p : ℕ) → p < 32 → bit_at (f j) p ≡ bit_from f (suc (32 * j + p))
bit_of_input f j p h =
    let word : j ≡ (32 * j + p) / 32 = omega arith in
    let place : p ≡ (32 * j + p) % 32 = omega arith in
    ap (λ x. bit_at (f x) p) word ∙ ap (λ x. bit_at (f ((32 * j + p) / 32)) x) place

-- the last case of each kind, over the test that it makes
with_one : (x : ℕ) → x < 2 → bit_and x 1 ≡ x
with_one zero h = refl
with_one (suc zero) h = refl
with_one (suc (suc x)) h = absurd (omega arith)

with_none : (x : ℕ) → x < 2 → bit_and x 0 ≡ 0
with_none zero h = refl
with_none (suc zero) h = refl
with_none (suc (suc x)) h = absurd (omega arith)

one_case : (f : ℕ → ℕ) (x m s : ℕ) (is_clear : Bool) (test : Bool) → x < 2 → m < 2 → test ≡ (m == 1) → (if test then is_clear else true) ≡ true → (is_clear ≡ true → x ≡ bit_from f s) → bit_and x m ≡ bit_from f (if test then s else 0)
one_case f x m s is_clear true bit fits is all from =
    let one : m ≡ 1 = grind (arith, nat_tests) in
    rw one (with_one x bit) ∙ from all
one_case f x m s is_clear false bit fits is all from =
    let none : m ≡ 0 = grind (arith, nat_tests) in
    rw none (with_none x bit)

moved_case : (f : ℕ → ℕ) (x n p s : ℕ) (is_clear : Bool) (test : Bool) → p < 32 → test ≡ nat_le n p → (if test then is_clear else true) ≡ true → (is_clear ≡ true → bit_at x (p - n) ≡ bit_from f s) → bit_at (x * 2 ^ n % 2 ^ 32) p ≡ bit_from f (if test then s else 0)
moved_case f x n p s is_clear true fits is all from =
    let low : n ≤ p = grind (arith, nat_tests) in
    bit_of_left x n p fits low ∙ from all
moved_case f x n p s is_clear false fits is all from =
    let high : p < n = grind (arith, nat_tests) in
    no_bit_of_left x n p fits high

pub bit_of_word : (e : Word) (f : ℕ → ℕ) (p : ℕ) → is_clear e p ≡ true → bit_at (value e f) p ≡ bit_from f (source e p)
bit_of_word (Input j) f p clear =
    let low : p < 32 = grind (arith, nat_tests) in
    bit_of_input f j p low
bit_of_word (Sum a b) f p clear =
    let h = and_parts (is_clear a p && is_clear b p) (min (source a p) (source b p) == 0) clear in
    let k = and_parts (is_clear a p) (is_clear b p) h.0 in
    bit_of_sum (value a f) (value b f) p ∙ one_source f (source a p) (source b p) (bit_at (value a f) p) (bit_at (value b f) p) h.1 (bit_of_word a f p k.0) (bit_of_word b f p k.1)
bit_of_word (Right n a) f p clear = bit_of_right (value a f) n p ∙ bit_of_word a f (n + p) clear
bit_of_word (Left n a) f p clear =
    let h = and_parts (nat_lt p 32) (if nat_le n p then is_clear a (p - n) else true) clear in
    let t = h.0 in
    let low : p < 32 = grind (arith, nat_tests) in
    moved_case f (value a f) n p (source a (p - n)) (is_clear a (p - n)) (nat_le n p) low refl h.1 (λ c. bit_of_word a f (p - n) c)
bit_of_word (Part m a) f p clear =
    bit_of_product (value a f) m p ∙ one_case f (bit_at (value a f) p) (bit_at m p) (source a p) (is_clear a p) (bit_at m p == 1) (bit_at-lt (value a f) p) (bit_at-lt m p) refl clear (λ c. bit_of_word a f p c)

-- whether the bit at p of a word is the one at q of input j
abbrev pub leads : Word → ℕ → ℕ → ℕ → Bool
leads e p j q = is_clear e p && (source e p == suc (32 * j + q))

pub bit_led : (e : Word) (f : ℕ → ℕ) (p j q : ℕ) → q < 32 → leads e p j q ≡ true → bit_at (value e f) p ≡ bit_at (f j) q
bit_led e f p j q h all =
    let parts = and_parts (is_clear e p) (source e p == suc (32 * j + q)) all in
    bit_of_word e f p parts.0 ∙ ap (bit_from f) (eqb-true (source e p) (suc (32 * j + q)) parts.1) ∙ sym (bit_of_input f j q h)
