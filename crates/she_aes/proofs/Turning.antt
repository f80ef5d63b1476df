-- How the bits of a state go to the planes and back.
use Rattle.std.proofs.Common.{◌≡◌, ℕ, ◌+◌, ◌*◌, ◌/◌, ◌%◌, ◌<◌, Bool, true, List, [], ◌∷◌, map, slice_index, slice_index_or, refl, ap, ◌∙◌, arith}
use Rattle.std.specs.Int.{bit_at}
use Rattle.std.proofs.lemmas.Bool.{agree_below, agree_below_at}
use Rattle.std.proofs.lemmas.List.{get_or-map}
use Rattle.she_aes.proofs.BitWords.{Word, Input, Sum, Right, Left, Part, value, leads, bit_led}

-- ---- the low and the high nibbles of each byte

abbrev joined : Word
joined = Sum (Part 0x0f0f0f0f (Input 0)) (Left 4 (Part 0x0f0f0f0f (Input 1)))

abbrev low_test : ℕ → ℕ → Bool
low_test r c = leads joined (8 * r + c) 0 (8 * r + c)

abbrev high_test : ℕ → ℕ → Bool
high_test r c = leads joined (8 * r + 4 + c) 1 (8 * r + c)

low_ok : agree_below (λ n. low_test (n / 4) (n % 4)) (λ _. true) 16 ≡ true
low_ok = refl

high_ok : agree_below (λ n. high_test (n / 4) (n % 4)) (λ _. true) 16 ≡ true
high_ok = refl

at_two : (test : ℕ → ℕ → Bool) → agree_below (λ n. test (n / 4) (n % 4)) (λ _. true) 16 ≡ true → (r c : ℕ) → r < 4 → c < 4 → test r c ≡ true
at_two test ok r c hr hc =
    let row : r ≡ (4 * r + c) / 4 = omega arith in
    let col : c ≡ (4 * r + c) % 4 = omega arith in
    ap (λ x. test x c) row ∙ ap (test ((4 * r + c) / 4)) col ∙ agree_below_at (λ n. test (n / 4) (n % 4)) (λ _. true) 16 (4 * r + c) ok (omega arith)

pub low_nibble_bit : (low high r c : ℕ) → r < 4 → c < 4 → bit_at (value joined (slice_index (low ∷ high ∷ []))) (8 * r + c) ≡ bit_at low (8 * r + c)
low_nibble_bit low high r c hr hc =
    bit_led joined (slice_index (low ∷ high ∷ [])) (8 * r + c) 0 (8 * r + c) (omega arith) (at_two low_test low_ok r c hr hc)

pub high_nibble_bit : (low high r c : ℕ) → r < 4 → c < 4 → bit_at (value joined (slice_index (low ∷ high ∷ []))) (8 * r + 4 + c) ≡ bit_at high (8 * r + c)
high_nibble_bit low high r c hr hc =
    bit_led joined (slice_index (low ∷ high ∷ [])) (8 * r + 4 + c) 1 (8 * r + c) (omega arith) (at_two high_test high_ok r c hr hc)

-- ---- the nibbles of four words turned

abbrev even_bits : Word → Word → Word
even_bits a b = Sum (Part 0x55555555 a) (Left 1 (Part 0x55555555 b))

abbrev odd_bits : Word → Word → Word
odd_bits a b = Sum (Part 0x55555555 (Right 1 a)) (Part 0xaaaaaaaa b)

abbrev even_pairs : Word → Word → Word
even_pairs a b = Sum (Part 0x33333333 a) (Left 2 (Part 0x33333333 b))

abbrev odd_pairs : Word → Word → Word
odd_pairs a b = Sum (Part 0x33333333 (Right 2 a)) (Part 0xcccccccc b)

abbrev pub turned_words : List Word
turned_words =
    even_pairs (even_bits (Input 0) (Input 1)) (even_bits (Input 2) (Input 3))
    ∷ even_pairs (odd_bits (Input 0) (Input 1)) (odd_bits (Input 2) (Input 3))
    ∷ odd_pairs (even_bits (Input 0) (Input 1)) (even_bits (Input 2) (Input 3))
    ∷ odd_pairs (odd_bits (Input 0) (Input 1)) (odd_bits (Input 2) (Input 3))
    ∷ []

abbrev turned_word : ℕ → Word
turned_word i = slice_index_or turned_words i (Input 0)

abbrev turn_test : ℕ → ℕ → ℕ → Bool
turn_test q i j = leads (turned_word i) (4 * q + j) j (4 * q + i)

turns_ok : agree_below (λ n. turn_test (n / 16) (n / 4 % 4) (n % 4)) (λ _. true) 128 ≡ true
turns_ok = refl

turn_at : (q i j : ℕ) → q < 8 → i < 4 → j < 4 → turn_test q i j ≡ true
turn_at q i j hq hi hj =
    let n : ℕ = 16 * q + 4 * i + j in
    let eq : q ≡ (16 * q + 4 * i + j) / 16 = omega arith in
    let ei : i ≡ (16 * q + 4 * i + j) / 4 % 4 = omega arith in
    let ej : j ≡ (16 * q + 4 * i + j) % 4 = omega arith in
    ap (λ x. turn_test x i j) eq ∙ ap (λ x. turn_test ((16 * q + 4 * i + j) / 16) x j) ei ∙ ap (λ x. turn_test ((16 * q + 4 * i + j) / 16) ((16 * q + 4 * i + j) / 4 % 4) x) ej
    ∙ agree_below_at (λ n. turn_test (n / 16) (n / 4 % 4) (n % 4)) (λ _. true) 128 (16 * q + 4 * i + j) turns_ok (omega arith)

pub turned_bit : (f : ℕ → ℕ) (q i j : ℕ) → q < 8 → i < 4 → j < 4 → bit_at (slice_index (map (λ e. value e f) turned_words) i) (4 * q + j) ≡ bit_at (f j) (4 * q + i)
turned_bit f q i j hq hi hj =
    ap (λ x. bit_at x (4 * q + j)) (get_or-map (λ e. value e f) turned_words i (Input 0) 0 hi)
    ∙ bit_led (turned_word i) f (4 * q + j) j (4 * q + i) (omega arith) (turn_at q i j hq hi hj)
