-- Columns as words: their bytes, their bits, and what MixColumns makes of them.
use Rattle.std.proofs.Common.{◌≡◌, ℕ, zero, suc, ◌+◌, ◌-◌, ◌*◌, ◌^◌, ◌<◌, true, List, [], ◌∷◌, slice_index, refl, sym, ap, ◌∙◌, arith, lit<}
use Rattle.std.specs.Prelude.{◌==◌}
use Rattle.std.specs.Int.{bit_at, w32, to_be_bytes}
use Rattle.std.specs.Int.Bits.{bit_xor, xor_lt}
use Rattle.std.proofs.lemmas.Bool.{agree_below}
use Rattle.std.proofs.lemmas.List.Elements.{All-cons, All-nil}
use Rattle.std.proofs.lemmas.Nat.Bits.{bit_at_cat_low, bit_at_cat_high}
use Rattle.basics.specs.Bytes.{IsBytes}
use Rattle.basics.specs.Numbers.{number_of}
use Rattle.basics.proofs.CallerLemmas.{to_be_bytes-is, bytes_of-number_of, number_of-lt}
use Rattle.she_aes.specs.Field.{product, cancelled, remainder, mul}
use Rattle.she_aes.specs.Cipher.{circulant, xor_blocks, add_round_key}
use Rattle.she_aes.specs.Columns.{in_columns}
use Rattle.she_aes.specs.ReadBytes.{ReadsBytes}
use Rattle.she_aes.specs.RoundTables.{mixed_column}
use Rattle.she_aes.proofs.BitWords.{Word, Input, Sum, Right, Left, Part, value, value_of_sums}
use Rattle.she_aes.proofs.RoundTables.{word_sum, alone_0, alone_1, alone_2, alone_3, sum_of_columns}
use Rattle.she_aes.proofs.SBoxTable.{same_at_bytes}

-- ---- four bytes

module _ (a b c d : ℕ) (la : a < 256) (lb : b < 256) (lc : c < 256) (ld : d < 256) where
  four_bytes : IsBytes 4 (a ∷ b ∷ c ∷ d ∷ [])
  four_bytes =
      let P : ℕ → Type 0 = λ x. x < 256 in
      record { size = refl; bytes = All-cons P a (b ∷ c ∷ d ∷ []) la (All-cons P b (c ∷ d ∷ []) lb (All-cons P c (d ∷ []) lc (All-cons P d [] ld (All-nil P)))) }

  pub bytes_again : to_be_bytes w32 (number_of (a ∷ b ∷ c ∷ d ∷ [])) ≡ a ∷ b ∷ c ∷ d ∷ []
  bytes_again = to_be_bytes-is w32 (number_of (a ∷ b ∷ c ∷ d ∷ [])) ∙ bytes_of-number_of 4 (a ∷ b ∷ c ∷ d ∷ []) four_bytes

  pub number_fits : number_of (a ∷ b ∷ c ∷ d ∷ []) < 2 ^ 32
  number_fits = number_of-lt 4 (a ∷ b ∷ c ∷ d ∷ []) four_bytes

  -- bit k of the byte in row r, counted from the lowest
  pub number_bit : (r k : ℕ) → r < 4 → k < 8 → bit_at (number_of (a ∷ b ∷ c ∷ d ∷ [])) (8 * r + k) ≡ bit_at (slice_index (d ∷ c ∷ b ∷ a ∷ []) r) k
  unfolding number_of
  number_bit zero k hr hk =
      let one : d * 1 + 0 ≡ d = omega arith in
      let place : 0 + k ≡ k = omega arith in
      bit_at_cat_low a 24 (b * 2 ^ 16 + (c * 2 ^ 8 + (d * 1 + 0))) (0 + k) (omega arith)
      ∙ bit_at_cat_low b 16 (c * 2 ^ 8 + (d * 1 + 0)) (0 + k) (omega arith)
      ∙ bit_at_cat_low c 8 (d * 1 + 0) (0 + k) (omega arith)
      ∙ ap (λ x. bit_at x (0 + k)) one ∙ ap (bit_at d) place
  number_bit (suc zero) k hr hk =
      let place : 8 + k - 8 ≡ k = omega arith in
      bit_at_cat_low a 24 (b * 2 ^ 16 + (c * 2 ^ 8 + (d * 1 + 0))) (8 + k) (omega arith)
      ∙ bit_at_cat_low b 16 (c * 2 ^ 8 + (d * 1 + 0)) (8 + k) (omega arith)
      ∙ bit_at_cat_high c 8 (d * 1 + 0) (8 + k) (omega arith) (omega arith) ∙ ap (bit_at c) place
  number_bit (suc (suc zero)) k hr hk =
      let place : 16 + k - 16 ≡ k = omega arith in
      bit_at_cat_low a 24 (b * 2 ^ 16 + (c * 2 ^ 8 + (d * 1 + 0))) (16 + k) (omega arith)
      ∙ bit_at_cat_high b 16 (c * 2 ^ 8 + (d * 1 + 0)) (16 + k) (omega arith) (omega arith) ∙ ap (bit_at b) place
  number_bit (suc (suc (suc zero))) k hr hk =
      let place : 24 + k - 24 ≡ k = omega arith in
      bit_at_cat_high a 24 (b * 2 ^ 16 + (c * 2 ^ 8 + (d * 1 + 0))) (24 + k) (omega arith) (omega arith) ∙ ap (bit_at a) place
  number_bit (suc (suc (suc (suc r)))) k hr hk = absurd (omega arith)

-- ---- the columns of a state

module _ (s : List ℕ) (bytes : ReadsBytes s) where
  counted_up : (f : ℕ → ℕ) (r : ℕ) → r < 4 → slice_index (f 3 ∷ f 2 ∷ f 1 ∷ f 0 ∷ []) r ≡ f (3 - r)
  counted_up f zero h = refl
  counted_up f (suc zero) h = refl
  counted_up f (suc (suc zero)) h = refl
  counted_up f (suc (suc (suc zero))) h = refl
  counted_up f (suc (suc (suc (suc r)))) h = absurd (omega arith)

  pub state_bit : (r c k : ℕ) → r < 4 → c < 4 → k < 8 → bit_at (slice_index (in_columns s) c) (8 * r + k) ≡ bit_at (slice_index s (4 * c + (3 - r))) k
  unfolding in_columns
  state_bit r zero k hr hc hk =
      number_bit (slice_index s 0) (slice_index s 1) (slice_index s 2) (slice_index s 3) (bytes 0) (bytes 1) (bytes 2) (bytes 3) r k hr hk ∙ ap (λ x. bit_at x k) (counted_up (λ i. slice_index s (0 + i)) r hr)
  state_bit r (suc zero) k hr hc hk =
      number_bit (slice_index s 4) (slice_index s 5) (slice_index s 6) (slice_index s 7) (bytes 4) (bytes 5) (bytes 6) (bytes 7) r k hr hk ∙ ap (λ x. bit_at x k) (counted_up (λ i. slice_index s (4 + i)) r hr)
  state_bit r (suc (suc zero)) k hr hc hk =
      number_bit (slice_index s 8) (slice_index s 9) (slice_index s 10) (slice_index s 11) (bytes 8) (bytes 9) (bytes 10) (bytes 11) r k hr hk ∙ ap (λ x. bit_at x k) (counted_up (λ i. slice_index s (8 + i)) r hr)
  state_bit r (suc (suc (suc zero))) k hr hc hk =
      number_bit (slice_index s 12) (slice_index s 13) (slice_index s 14) (slice_index s 15) (bytes 12) (bytes 13) (bytes 14) (bytes 15) r k hr hk ∙ ap (λ x. bit_at x k) (counted_up (λ i. slice_index s (12 + i)) r hr)
  state_bit r (suc (suc (suc (suc c)))) k hr hc hk = absurd (omega arith)

  pub column_fits : (c : ℕ) → c < 4 → slice_index (in_columns s) c < 2 ^ 32
  unfolding in_columns
  column_fits zero h = number_fits (slice_index s 0) (slice_index s 1) (slice_index s 2) (slice_index s 3) (bytes 0) (bytes 1) (bytes 2) (bytes 3)
  column_fits (suc zero) h = number_fits (slice_index s 4) (slice_index s 5) (slice_index s 6) (slice_index s 7) (bytes 4) (bytes 5) (bytes 6) (bytes 7)
  column_fits (suc (suc zero)) h = number_fits (slice_index s 8) (slice_index s 9) (slice_index s 10) (slice_index s 11) (bytes 8) (bytes 9) (bytes 10) (bytes 11)
  column_fits (suc (suc (suc zero))) h = number_fits (slice_index s 12) (slice_index s 13) (slice_index s 14) (slice_index s 15) (bytes 12) (bytes 13) (bytes 14) (bytes 15)
  column_fits (suc (suc (suc (suc c)))) h = absurd (omega arith)

-- ---- MixColumns, of one column

abbrev below : Word
below = Sum (Left 8 (Input 0)) (Right 24 (Input 0))

abbrev sums : Word
sums = Sum (Input 0) below

abbrev carries : Word
carries = Part 0x01010101 (Right 7 sums)

abbrev products : Word
products = Sum (Sum (Sum carries (Left 1 carries)) (Left 3 carries)) (Left 4 carries)

abbrev mixed : Word
mixed = Sum (Sum (Sum (Sum (Left 1 (Part 0x7f7f7f7f sums)) products) below) (Left 16 sums)) (Right 16 sums)

abbrev pub mixed_word : ℕ → ℕ
mixed_word x = value mixed (λ _. x)

one_0_ok : agree_below (λ b. mixed_word (number_of (b ∷ 0 ∷ 0 ∷ 0 ∷ [])) == mixed_column (b ∷ 0 ∷ 0 ∷ 0 ∷ [])) (λ _. true) 256 ≡ true
unfolding product cancelled remainder mul circulant number_of
one_0_ok = refl

one_1_ok : agree_below (λ b. mixed_word (number_of (0 ∷ b ∷ 0 ∷ 0 ∷ [])) == mixed_column (0 ∷ b ∷ 0 ∷ 0 ∷ [])) (λ _. true) 256 ≡ true
unfolding product cancelled remainder mul circulant number_of
one_1_ok = refl

one_2_ok : agree_below (λ b. mixed_word (number_of (0 ∷ 0 ∷ b ∷ 0 ∷ [])) == mixed_column (0 ∷ 0 ∷ b ∷ 0 ∷ [])) (λ _. true) 256 ≡ true
unfolding product cancelled remainder mul circulant number_of
one_2_ok = refl

one_3_ok : agree_below (λ b. mixed_word (number_of (0 ∷ 0 ∷ 0 ∷ b ∷ [])) == mixed_column (0 ∷ 0 ∷ 0 ∷ b ∷ [])) (λ _. true) 256 ≡ true
unfolding product cancelled remainder mul circulant number_of
one_3_ok = refl

mixed_sum : (x y : ℕ) → mixed_word (bit_xor x y) ≡ bit_xor (mixed_word x) (mixed_word y)
mixed_sum x y = value_of_sums mixed (λ _. x) (λ _. y)

module _ (a b c d : ℕ) (la : a < 256) (lb : b < 256) (lc : c < 256) (ld : d < 256) where
  abbrev n0 : ℕ
  n0 = number_of (a ∷ 0 ∷ 0 ∷ 0 ∷ [])

  abbrev n1 : ℕ
  n1 = number_of (0 ∷ b ∷ 0 ∷ 0 ∷ [])

  abbrev n2 : ℕ
  n2 = number_of (0 ∷ 0 ∷ c ∷ 0 ∷ [])

  abbrev n3 : ℕ
  n3 = number_of (0 ∷ 0 ∷ 0 ∷ d ∷ [])

  by_bytes : bit_xor (bit_xor n0 n1) (bit_xor n2 n3) ≡ number_of (a ∷ b ∷ c ∷ d ∷ [])
  by_bytes =
      let none : 0 < 256 = lit< tt in
      let e0 = alone_0 a in
      let e1 = alone_1 b in
      let e2 = alone_2 c in
      let e3 = alone_3 d in
      let top = word_sum a 0 0 0 0 b 0 0 la none none none none lb none none in
      let bottom = word_sum 0 0 c 0 0 0 0 d none none lc none none none none ld in
      let whole = word_sum (bit_xor a 0) (bit_xor 0 b) (bit_xor 0 0) (bit_xor 0 0) (bit_xor 0 0) (bit_xor 0 0) (bit_xor c 0) (bit_xor 0 d) (xor_lt 8 a 0 la none) (xor_lt 8 0 b none lb) none none none none (xor_lt 8 c 0 lc none) (xor_lt 8 0 d none ld) in
      cc

  pub mixed_is : mixed_word (number_of (a ∷ b ∷ c ∷ d ∷ [])) ≡ number_of (circulant 2 3 1 1 (a ∷ b ∷ c ∷ d ∷ []))
  mixed_is =
      ap mixed_word (sym by_bytes) ∙ mixed_sum (bit_xor n0 n1) (bit_xor n2 n3)
      ∙ ap (λ x. bit_xor x (mixed_word (bit_xor n2 n3))) (mixed_sum n0 n1) ∙ ap (bit_xor (bit_xor (mixed_word n0) (mixed_word n1))) (mixed_sum n2 n3)
      ∙ ap (λ x. bit_xor (bit_xor x (mixed_word n1)) (bit_xor (mixed_word n2) (mixed_word n3))) (same_at_bytes (λ b. mixed_word (number_of (b ∷ 0 ∷ 0 ∷ 0 ∷ []))) (λ b. mixed_column (b ∷ 0 ∷ 0 ∷ 0 ∷ [])) one_0_ok a la)
      ∙ ap (λ x. bit_xor (bit_xor (mixed_column (a ∷ 0 ∷ 0 ∷ 0 ∷ [])) x) (bit_xor (mixed_word n2) (mixed_word n3))) (same_at_bytes (λ b. mixed_word (number_of (0 ∷ b ∷ 0 ∷ 0 ∷ []))) (λ b. mixed_column (0 ∷ b ∷ 0 ∷ 0 ∷ [])) one_1_ok b lb)
      ∙ ap (λ x. bit_xor (bit_xor (mixed_column (a ∷ 0 ∷ 0 ∷ 0 ∷ [])) (mixed_column (0 ∷ b ∷ 0 ∷ 0 ∷ []))) (bit_xor x (mixed_word n3))) (same_at_bytes (λ b. mixed_word (number_of (0 ∷ 0 ∷ b ∷ 0 ∷ []))) (λ b. mixed_column (0 ∷ 0 ∷ b ∷ 0 ∷ [])) one_2_ok c lc)
      ∙ ap (λ x. bit_xor (bit_xor (mixed_column (a ∷ 0 ∷ 0 ∷ 0 ∷ [])) (mixed_column (0 ∷ b ∷ 0 ∷ 0 ∷ []))) (bit_xor (mixed_column (0 ∷ 0 ∷ c ∷ 0 ∷ [])) x)) (same_at_bytes (λ b. mixed_word (number_of (0 ∷ 0 ∷ 0 ∷ b ∷ []))) (λ b. mixed_column (0 ∷ 0 ∷ 0 ∷ b ∷ [])) one_3_ok d ld)
      ∙ sum_of_columns a b c d la lb lc ld

-- ---- AddRoundKey

module _ (k s x y : List ℕ) (key : ReadsBytes k) (bytes : ReadsBytes s) (is : x ≡ in_columns s) (key_is : y ≡ in_columns k) where
  abbrev sum_at : ℕ → List ℕ → List ℕ → ℕ
  sum_at c x y = bit_xor (slice_index x c) (slice_index y c)

  abbrev both : ℕ → List ℕ
  both n =
      bit_xor (slice_index s n) (slice_index k n) ∷ bit_xor (slice_index s (n + 1)) (slice_index k (n + 1)) ∷ bit_xor (slice_index s (n + 2)) (slice_index k (n + 2)) ∷ bit_xor (slice_index s (n + 3)) (slice_index k (n + 3)) ∷ []

  column_sum : (n : ℕ) → bit_xor (number_of (slice_index s n ∷ slice_index s (n + 1) ∷ slice_index s (n + 2) ∷ slice_index s (n + 3) ∷ [])) (number_of (slice_index k n ∷ slice_index k (n + 1) ∷ slice_index k (n + 2) ∷ slice_index k (n + 3) ∷ [])) ≡ number_of (both n)
  column_sum n =
      word_sum (slice_index s n) (slice_index s (n + 1)) (slice_index s (n + 2)) (slice_index s (n + 3)) (slice_index k n) (slice_index k (n + 1)) (slice_index k (n + 2)) (slice_index k (n + 3)) (bytes n) (bytes (n + 1)) (bytes (n + 2)) (bytes (n + 3)) (key n) (key (n + 1)) (key (n + 2)) (key (n + 3))

  pub key_added : sum_at 0 x y ∷ sum_at 1 x y ∷ sum_at 2 x y ∷ sum_at 3 x y ∷ [] ≡ in_columns (add_round_key k s)
  unfolding in_columns add_round_key xor_blocks
  key_added =
      let e0 = column_sum 0 in
      let e1 = column_sum 4 in
      let e2 = column_sum 8 in
      let e3 = column_sum 12 in
      ap (λ x. sum_at 0 x y ∷ sum_at 1 x y ∷ sum_at 2 x y ∷ sum_at 3 x y ∷ []) is
      ∙ ap (λ y. sum_at 0 (in_columns s) y ∷ sum_at 1 (in_columns s) y ∷ sum_at 2 (in_columns s) y ∷ sum_at 3 (in_columns s) y ∷ []) key_is
      ∙ (cc)
