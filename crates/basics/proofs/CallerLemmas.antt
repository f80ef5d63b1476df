-- The lemmas that crates above cite.
use Rattle.std.specs.List.{All}
use Rattle.std.specs.Int.{Width, w16, w32, w64, w128, byte_len, bytes_high_first, to_be_bytes, from_be_bytes}
use Rattle.std.specs.Int.Bits.{bit_xor}
use Rattle.std.specs.Simd.Lanes.{zip2}
use Rattle.std.proofs.Common.{◌≡◌, ℕ, zero, suc, pow-add, ◌+◌, ◌-◌, ◌*◌, ◌/◌, ◌%◌, ◌^◌, ◌<◌, ◌≤◌, List, [], ◌∷◌, ◌++◌}
use Rattle.std.proofs.Common.{length, refl, sym, ap, subst, ◌∙◌, arith, inl, inr, slice_index}
use Rattle.std.proofs.Math.Nat.{div-one, pow-succ', mul_assoc, div-div-eq-div-mul, mod-eq_of_lt, mul-add-mod_self_right}
use Rattle.std.proofs.Math.Nat.{mul-add-div_right}
use Rattle.std.proofs.Math.Arith.{mod-mul}
use Rattle.std.proofs.lemmas.List.{length-append}
use Rattle.std.proofs.lemmas.List.Elements.{All-nil, All-cons, All-head, All-tail}
use Rattle.std.proofs.lemmas.Nat.{div-mul-add, mul-add-lt, mod_below}
use Rattle.std.proofs.lemmas.List.FromFn.{fill_by_all}
use Rattle.std.proofs.lemmas.Simd.{length-zip2, get_or-zip2}
use Rattle.basics.specs.Bytes.{IsBytes}
use Rattle.basics.specs.Numbers.{number_of, bytes_of}
use Rattle.basics.specs.FaultCount.{Rose}
use Rattle.basics.specs.Blocks.{xor_blocks}

-- ---- laws of numbers and their bytes: each undoes the other, both are one-to-one, and lists are joined as their numbers
-- are.

-- ---- steps by recursion on the list

pow_positive : (k : ℕ) → 0 < 256 ^ k
pow_positive zero = omega arith
pow_positive (suc k) = omega (arith, pow-succ' 256 k, pow_positive k)

pub length-bytes_of : (n a : ℕ) → length (bytes_of n a) ≡ n
unfolding bytes_of
length-bytes_of zero a = refl
length-bytes_of (suc n) a = ap suc (length-bytes_of n a)

All-bytes_of : (n a : ℕ) → All (λ b. b < 256) (bytes_of n a)
unfolding bytes_of
All-bytes_of zero a = All-nil (λ b. b < 256)
All-bytes_of (suc n) a =
    All-cons (λ b. b < 256) (a / 256 ^ n % 256) (bytes_of n a) (mod_below (a / 256 ^ n) 256 (omega arith))
    (All-bytes_of n a)

-- a list of bytes has a number below the power of its length
below : (bs : List ℕ) → All (λ b. b < 256) bs → number_of bs < 256 ^ length bs
unfolding number_of
below [] all = omega arith
below (b ∷ bs) all =
    let P : ℕ → Type 0 = λ x. x < 256 in
    omega (
      arith,
      pow-succ' 256 (length bs),
      mul-add-lt b (256 ^ length bs) (number_of bs) 256 (All-head P b bs all) (below bs (All-tail P b bs all)),
    )

-- what stands above the lowest n bytes does not count for k of them
bytes_of-low : (k n a b : ℕ) → k ≤ n → bytes_of k (a * 256 ^ n + b) ≡ bytes_of k b
unfolding bytes_of
bytes_of-low zero n a b within = refl
bytes_of-low (suc k) n a b within =
    let j : ℕ = n - suc k in
    let power : 256 ^ n ≡ 256 ^ j * 256 * 256 ^ k =
    ap (λ t. 256 ^ t) (let e : n ≡ j + 1 + k = omega arith in e) ∙ pow-add 256 (j + 1) k
    ∙ ap (λ t. t * 256 ^ k) (pow-add 256 j 1) in
    let shifted : (a * 256 ^ n + b) / 256 ^ k ≡ a * 256 ^ j * 256 + b / 256 ^ k =
    ap (λ t. (t + b) / 256 ^ k)
    (ap (λ t. a * t) power ∙ sym (mul_assoc a (256 ^ j * 256) (256 ^ k))
    ∙ ap (λ t. t * 256 ^ k) (sym (mul_assoc a (256 ^ j) 256)))
    ∙ mul-add-div_right (pow_positive k) (a * 256 ^ j * 256) b in
    let byte : (a * 256 ^ n + b) / 256 ^ k % 256 ≡ b / 256 ^ k % 256 =
    ap (λ q. q % 256) shifted ∙ mul-add-mod_self_right (a * 256 ^ j) 256 (b / 256 ^ k) in
    rw (byte, bytes_of-low k n a b (omega arith)) refl

-- the number of the lowest n bytes of a
pub number_of-bytes_of : (n a : ℕ) → number_of (bytes_of n a) ≡ a % 256 ^ n
unfolding bytes_of number_of
number_of-bytes_of zero a = omega arith
number_of-bytes_of (suc n) a =
    let cut : a % (256 * 256 ^ n) ≡ a / 256 ^ n % 256 * 256 ^ n + a % 256 ^ n =
    mod-mul a (omega arith) (pow_positive n) in
    rw (length-bytes_of n a, number_of-bytes_of n a, pow-succ' 256 n) (sym cut)

-- the bytes of the number of these bytes
again : (bs : List ℕ) → All (λ b. b < 256) bs → bytes_of (length bs) (number_of bs) ≡ bs
unfolding bytes_of number_of
again [] all = refl
again (b ∷ bs) all =
    let P : ℕ → Type 0 = λ x. x < 256 in
    let rest = All-tail P b bs all in
    let n : ℕ = length bs in
    let whole : (b * 256 ^ n + number_of bs) / 256 ^ n ≡ b = div-mul-add b (256 ^ n) (number_of bs) (below bs rest) in
    let byte : (b * 256 ^ n + number_of bs) / 256 ^ n % 256 ≡ b =
    ap (λ q. q % 256) whole ∙ mod-eq_of_lt (All-head P b bs all) in
    rw (byte, bytes_of-low n n b (number_of bs) (omega arith), again bs rest) refl

-- as std counts the bytes of a number
bytes_high_first-is : (n a : ℕ) → bytes_high_first n a ≡ bytes_of n a
unfolding bytes_of
bytes_high_first-is zero a = refl
bytes_high_first-is (suc zero) a = ap (λ q. q % 256 ∷ []) (sym (div-one a))
bytes_high_first-is (suc (suc n)) a = ap (λ rest. a / 256 ^ suc n % 256 ∷ rest) (bytes_high_first-is (suc n) a)

-- ---- each is what it says

pub IsBytes-bytes_of : (n a : ℕ) → IsBytes n (bytes_of n a)
IsBytes-bytes_of n a = record { size = length-bytes_of n a; bytes = All-bytes_of n a }

pub number_of-lt : (n : ℕ) (xs : List ℕ) → IsBytes n xs → number_of xs < 256 ^ n
number_of-lt n xs is = subst (λ k. number_of xs < 256 ^ k) is.size (below xs is.bytes)

-- ---- each undoes the other

pub number_of-bytes_of-lt : (n a : ℕ) → a < 256 ^ n → number_of (bytes_of n a) ≡ a
number_of-bytes_of-lt n a fits = number_of-bytes_of n a ∙ mod-eq_of_lt fits

pub bytes_of-number_of : (n : ℕ) (xs : List ℕ) → IsBytes n xs → bytes_of n (number_of xs) ≡ xs
bytes_of-number_of n xs is = ap (λ k. bytes_of k (number_of xs)) (sym is.size) ∙ again xs is.bytes

-- ---- one-to-one

pub same_bytes : (n : ℕ) (xs ys : List ℕ) → IsBytes n xs → IsBytes n ys → number_of xs ≡ number_of ys → xs ≡ ys
same_bytes n xs ys is_x is_y numbers =
    sym (bytes_of-number_of n xs is_x) ∙ ap (bytes_of n) numbers ∙ bytes_of-number_of n ys is_y

pub same_number : (n a b : ℕ) → a < 256 ^ n → b < 256 ^ n → bytes_of n a ≡ bytes_of n b → a ≡ b
same_number n a b fits_a fits_b same =
    sym (number_of-bytes_of-lt n a fits_a) ∙ ap number_of same ∙ number_of-bytes_of-lt n b fits_b

-- ---- joined

pub number_of-append : (xs ys : List ℕ) → number_of (xs ++ ys) ≡ number_of xs * 256 ^ length ys + number_of ys
unfolding number_of
number_of-append [] ys = omega arith
number_of-append (x ∷ xs) ys =
    let power : x * 256 ^ length (xs ++ ys) ≡ x * 256 ^ length xs * 256 ^ length ys =
    ap (λ t. x * 256 ^ t) (length-append xs ys) ∙ ap (λ t. x * t) (pow-add 256 (length xs) (length ys))
    ∙ sym (mul_assoc x (256 ^ length xs) (256 ^ length ys)) in
    omega (arith, power, number_of-append xs ys)

pub bytes_of-append : (m n a b : ℕ) → b < 256 ^ n → bytes_of (m + n) (a * 256 ^ n + b) ≡ bytes_of m a ++ bytes_of n b
unfolding bytes_of
bytes_of-append zero n a b fits = let e : 0 + n ≡ n = omega arith in rw e (bytes_of-low n n a b (omega arith))
bytes_of-append (suc m) n a b fits =
    let e : suc m + n ≡ suc (m + n) = omega arith in
    let whole : (a * 256 ^ n + b) / 256 ^ n ≡ a = div-mul-add a (256 ^ n) b fits in
    let power : 256 ^ (m + n) ≡ 256 ^ n * 256 ^ m =
    ap (λ t. 256 ^ t) (let f : m + n ≡ n + m = omega arith in f) ∙ pow-add 256 n m in
    let shifted : (a * 256 ^ n + b) / 256 ^ (m + n) ≡ a / 256 ^ m =
    ap (λ t. (a * 256 ^ n + b) / t) power ∙ sym (div-div-eq-div-mul (a * 256 ^ n + b) (256 ^ n) (256 ^ m))
    ∙ ap (λ t. t / 256 ^ m) whole in
    let byte : (a * 256 ^ n + b) / 256 ^ (m + n) % 256 ≡ a / 256 ^ m % 256 = ap (λ q. q % 256) shifted in
    rw e (rw (byte, bytes_of-append m n a b fits) refl)

-- ---- as std has them

pub to_be_bytes-is : (w : Width) (a : ℕ) → to_be_bytes w a ≡ bytes_of (byte_len w) a
to_be_bytes-is w a = bytes_high_first-is (byte_len w) a

pub from_be_bytes-16 : (xs : List ℕ) → length xs ≡ 2 → from_be_bytes w16 xs ≡ number_of xs
unfolding number_of
from_be_bytes-16 (a ∷ b ∷ []) size = omega arith
from_be_bytes-16 xs size = absurd (omega arith)

pub from_be_bytes-32 : (xs : List ℕ) → length xs ≡ 4 → from_be_bytes w32 xs ≡ number_of xs
unfolding number_of
from_be_bytes-32 (a ∷ b ∷ c ∷ d ∷ []) size = omega arith
from_be_bytes-32 xs size = absurd (omega arith)

pub from_be_bytes-64 : (xs : List ℕ) → length xs ≡ 8 → from_be_bytes w64 xs ≡ number_of xs
unfolding number_of
from_be_bytes-64 (a ∷ b ∷ c ∷ d ∷ e ∷ f ∷ g ∷ h ∷ []) size = omega arith
from_be_bytes-64 xs size = absurd (omega arith)

pub from_be_bytes-128 : (xs : List ℕ) → length xs ≡ 16 → from_be_bytes w128 xs ≡ number_of xs
unfolding number_of
from_be_bytes-128 (a ∷ b ∷ c ∷ d ∷ e ∷ f ∷ g ∷ h ∷ i ∷ j ∷ k ∷ l ∷ m ∷ n ∷ o ∷ p ∷ []) size = omega arith
from_be_bytes-128 xs size = absurd (omega arith)

-- ---- laws of counts that rose

-- a count that rose and doesn't fall afterwards has risen
pub rose_then : (a b c : ℕ) → Rose a b → b ≤ c → Rose a c
rose_then a b c (inl more) later = inl (omega arith)
rose_then a b c (inr last) later = inr (omega arith)

-- a count that didn't fall before it rose has risen
pub rose_after : (a b c : ℕ) → a ≤ b → Rose b c → Rose a c
rose_after a b c later (inl more) = inl (omega arith)
rose_after a b c later (inr last) = inr last

-- ---- the exclusive or of blocks, lane by lane

-- the sum of two vectors of 16 lanes
pub xor_is : (a b : List ℕ) → length a ≡ 16 → length b ≡ 16 → zip2 bit_xor a b ≡ xor_blocks a b
unfolding xor_blocks
xor_is a b la lb =
    fill_by_all (λ i. bit_xor (slice_index a i) (slice_index b i)) (zip2 bit_xor a b) 16 0 (length-zip2 bit_xor a b (la ∙ sym lb) ∙ la) (λ k h. get_or-zip2 bit_xor a b k 0 0 0 (omega (arith, la)) (omega (arith, lb)))
