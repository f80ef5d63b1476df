-- The tables of a round, against the field, and the column that four of their entries make.
use Rattle.std.proofs.Common.{◌≡◌, ℕ, zero, suc, ◌+◌, ◌*◌, ◌/◌, ◌%◌, ◌^◌, ◌<◌, Bool, true, List, [], ◌∷◌, length, slice_index, bit_and, refl, ap, ◌∙◌, arith}
use Rattle.std.specs.Prelude.{◌==◌}
use Rattle.std.specs.Int.{w32, to_be_bytes}
use Rattle.std.specs.Int.Bits.{bit_xor, xor_zero_l, xor_zero_r, xor_lt, xor_block}
use Rattle.std.proofs.lemmas.List.Elements.{All-cons, All-nil}
use Rattle.std.proofs.lemmas.Bool.{agree_below, agree_below_at, eqb-true}
use Rattle.basics.specs.Bytes.{IsBytes}
use Rattle.basics.specs.Numbers.{number_of}
use Rattle.basics.proofs.CallerLemmas.{to_be_bytes-is, bytes_of-number_of}
use Rattle.she_aes.specs.Field.{product, cancelled, remainder, mul, sub_byte}
use Rattle.she_aes.specs.FieldFacts.{mul-lt, sub_byte-lt}
use Rattle.she_aes.proofs.SBoxTable.{s_box, s_box_is}
use Rattle.she_aes.specs.Cipher.{column, circulant, sub_bytes, shift_rows, mix_columns}
use Rattle.she_aes.proofs.CipherFacts.{block_of_self}
use Rattle.she_aes.proofs.Mixing.{four, turned}
use Rattle.she_aes.specs.RoundTables.{AreRoundTables, mixed_column}
use Rattle.she_aes.specs.declared.by_tables.TheConstants.{ROW_0, ROW_1, ROW_2, ROW_3}

-- whether an entry is the number of what MixColumns makes of a column with this byte, which is computed once
abbrev is_entry : ℕ → (ℕ → List ℕ) → ℕ → Bool
is_entry entry column b = entry == mixed_column (column b)

row_0_ok : agree_below (λ s. is_entry (slice_index ROW_0 s) (λ b. b ∷ 0 ∷ 0 ∷ 0 ∷ []) (s_box s)) (λ _. true) 256 ≡ true
unfolding product cancelled remainder mul circulant number_of
row_0_ok = refl

row_1_ok : agree_below (λ s. is_entry (slice_index ROW_1 s) (λ b. 0 ∷ b ∷ 0 ∷ 0 ∷ []) (s_box s)) (λ _. true) 256 ≡ true
unfolding product cancelled remainder mul circulant number_of
row_1_ok = refl

row_2_ok : agree_below (λ s. is_entry (slice_index ROW_2 s) (λ b. 0 ∷ 0 ∷ b ∷ 0 ∷ []) (s_box s)) (λ _. true) 256 ≡ true
unfolding product cancelled remainder mul circulant number_of
row_2_ok = refl

row_3_ok : agree_below (λ s. is_entry (slice_index ROW_3 s) (λ b. 0 ∷ 0 ∷ 0 ∷ b ∷ []) (s_box s)) (λ _. true) 256 ≡ true
unfolding product cancelled remainder mul circulant number_of
row_3_ok = refl

row_0_rule : (s : ℕ) → s < 256 → slice_index ROW_0 s ≡ mixed_column (sub_byte s ∷ 0 ∷ 0 ∷ 0 ∷ [])
row_0_rule s fits =
    eqb-true (slice_index ROW_0 s) (mixed_column (s_box s ∷ 0 ∷ 0 ∷ 0 ∷ [])) (agree_below_at (λ s. is_entry (slice_index ROW_0 s) (λ b. b ∷ 0 ∷ 0 ∷ 0 ∷ []) (s_box s)) (λ _. true) 256 s row_0_ok fits)
    ∙ ap (λ b. mixed_column (b ∷ 0 ∷ 0 ∷ 0 ∷ [])) (s_box_is s fits)

row_1_rule : (s : ℕ) → s < 256 → slice_index ROW_1 s ≡ mixed_column (0 ∷ sub_byte s ∷ 0 ∷ 0 ∷ [])
row_1_rule s fits =
    eqb-true (slice_index ROW_1 s) (mixed_column (0 ∷ s_box s ∷ 0 ∷ 0 ∷ [])) (agree_below_at (λ s. is_entry (slice_index ROW_1 s) (λ b. 0 ∷ b ∷ 0 ∷ 0 ∷ []) (s_box s)) (λ _. true) 256 s row_1_ok fits)
    ∙ ap (λ b. mixed_column (0 ∷ b ∷ 0 ∷ 0 ∷ [])) (s_box_is s fits)

row_2_rule : (s : ℕ) → s < 256 → slice_index ROW_2 s ≡ mixed_column (0 ∷ 0 ∷ sub_byte s ∷ 0 ∷ [])
row_2_rule s fits =
    eqb-true (slice_index ROW_2 s) (mixed_column (0 ∷ 0 ∷ s_box s ∷ 0 ∷ [])) (agree_below_at (λ s. is_entry (slice_index ROW_2 s) (λ b. 0 ∷ 0 ∷ b ∷ 0 ∷ []) (s_box s)) (λ _. true) 256 s row_2_ok fits)
    ∙ ap (λ b. mixed_column (0 ∷ 0 ∷ b ∷ 0 ∷ [])) (s_box_is s fits)

row_3_rule : (s : ℕ) → s < 256 → slice_index ROW_3 s ≡ mixed_column (0 ∷ 0 ∷ 0 ∷ sub_byte s ∷ [])
row_3_rule s fits =
    eqb-true (slice_index ROW_3 s) (mixed_column (0 ∷ 0 ∷ 0 ∷ s_box s ∷ [])) (agree_below_at (λ s. is_entry (slice_index ROW_3 s) (λ b. 0 ∷ 0 ∷ 0 ∷ b ∷ []) (s_box s)) (λ _. true) 256 s row_3_ok fits)
    ∙ ap (λ b. mixed_column (0 ∷ 0 ∷ 0 ∷ b ∷ [])) (s_box_is s fits)

pub round_tables : AreRoundTables
round_tables = record { row_0 = row_0_rule; row_1 = row_1_rule; row_2 = row_2_rule; row_3 = row_3_rule }

pub third_rule : (s : ℕ) → s < 256 → bit_and (slice_index ROW_0 s / 2 ^ 8) 255 ≡ sub_byte s
third_rule = s_box_is

-- ---- the sum of four words, as bytes

-- the sum of two words of four bytes goes byte by byte
pub word_sum : (a b c d e f g h : ℕ) → a < 256 → b < 256 → c < 256 → d < 256 → e < 256 → f < 256 → g < 256 → h < 256 → bit_xor (number_of (a ∷ b ∷ c ∷ d ∷ [])) (number_of (e ∷ f ∷ g ∷ h ∷ [])) ≡ number_of (bit_xor a e ∷ bit_xor b f ∷ bit_xor c g ∷ bit_xor d h ∷ [])
unfolding number_of
word_sum a b c d e f g h la lb lc ld le lf lg lh =
    let last : bit_xor (d * 1 + 0) (h * 1 + 0) ≡ bit_xor d h * 1 + 0 =
    let x : d * 1 + 0 ≡ d = omega arith in
    let y : h * 1 + 0 ≡ h = omega arith in
    let z : bit_xor d h * 1 + 0 ≡ bit_xor d h = omega arith in
    cc in
    xor_block 24 a e (b * 2 ^ 16 + (c * 2 ^ 8 + (d * 1 + 0))) (f * 2 ^ 16 + (g * 2 ^ 8 + (h * 1 + 0))) (omega arith) (omega arith)
    ∙ ap (λ t. bit_xor a e * 2 ^ 24 + t) (xor_block 16 b f (c * 2 ^ 8 + (d * 1 + 0)) (g * 2 ^ 8 + (h * 1 + 0)) (omega arith) (omega arith)
    ∙ ap (λ t. bit_xor b f * 2 ^ 16 + t) (xor_block 8 c g (d * 1 + 0) (h * 1 + 0) (omega arith) (omega arith)
    ∙ ap (λ t. bit_xor c g * 2 ^ 8 + t) last))

bytes_of_word : (a b c d : ℕ) → a < 256 → b < 256 → c < 256 → d < 256 → to_be_bytes w32 (number_of (a ∷ b ∷ c ∷ d ∷ [])) ≡ a ∷ b ∷ c ∷ d ∷ []
bytes_of_word a b c d la lb lc ld =
    let P : ℕ → Type 0 = λ x. x < 256 in
    let word : List ℕ = a ∷ b ∷ c ∷ d ∷ [] in
    let is : IsBytes 4 word = record { size = refl; bytes = All-cons P a (b ∷ c ∷ d ∷ []) la (All-cons P b (c ∷ d ∷ []) lb (All-cons P c (d ∷ []) lc (All-cons P d [] ld (All-nil P)))) } in
    to_be_bytes-is w32 (number_of word) ∙ bytes_of-number_of 4 word is

no_1 : mul 1 0 ≡ 0
unfolding product cancelled remainder mul
no_1 = refl

no_2 : mul 2 0 ≡ 0
unfolding product cancelled remainder mul
no_2 = refl

no_3 : mul 3 0 ≡ 0
unfolding product cancelled remainder mul
no_3 = refl

pub alone_0 : (x : ℕ) → four x 0 0 0 ≡ x
alone_0 x = xor_zero_r (bit_xor x 0) ∙ xor_zero_r x

pub alone_1 : (x : ℕ) → four 0 x 0 0 ≡ x
alone_1 x = xor_zero_r (bit_xor 0 x) ∙ xor_zero_l x

pub alone_2 : (x : ℕ) → four 0 0 x 0 ≡ x
alone_2 x = xor_zero_l (bit_xor x 0) ∙ xor_zero_r x

pub alone_3 : (x : ℕ) → four 0 0 0 x ≡ x
alone_3 x = xor_zero_l (bit_xor 0 x) ∙ xor_zero_l x

-- what MixColumns gives for a column with one byte
single_0 : (x : ℕ) → circulant 2 3 1 1 (x ∷ 0 ∷ 0 ∷ 0 ∷ []) ≡ mul 2 x ∷ mul 1 x ∷ mul 1 x ∷ mul 3 x ∷ []
unfolding circulant
single_0 x =
    let z1 = no_1 in
    let z2 = no_2 in
    let z3 = no_3 in
    let e0 = alone_0 (mul 2 x) in
    let e1 = alone_3 (mul 1 x) in
    let e2 = alone_2 (mul 1 x) in
    let e3 = alone_1 (mul 3 x) in
    cc

single_1 : (x : ℕ) → circulant 2 3 1 1 (0 ∷ x ∷ 0 ∷ 0 ∷ []) ≡ mul 3 x ∷ mul 2 x ∷ mul 1 x ∷ mul 1 x ∷ []
unfolding circulant
single_1 x =
    let z1 = no_1 in
    let z2 = no_2 in
    let z3 = no_3 in
    let e0 = alone_1 (mul 3 x) in
    let e1 = alone_0 (mul 2 x) in
    let e2 = alone_3 (mul 1 x) in
    let e3 = alone_2 (mul 1 x) in
    cc

single_2 : (x : ℕ) → circulant 2 3 1 1 (0 ∷ 0 ∷ x ∷ 0 ∷ []) ≡ mul 1 x ∷ mul 3 x ∷ mul 2 x ∷ mul 1 x ∷ []
unfolding circulant
single_2 x =
    let z1 = no_1 in
    let z2 = no_2 in
    let z3 = no_3 in
    let e0 = alone_2 (mul 1 x) in
    let e1 = alone_1 (mul 3 x) in
    let e2 = alone_0 (mul 2 x) in
    let e3 = alone_3 (mul 1 x) in
    cc

single_3 : (x : ℕ) → circulant 2 3 1 1 (0 ∷ 0 ∷ 0 ∷ x ∷ []) ≡ mul 1 x ∷ mul 1 x ∷ mul 3 x ∷ mul 2 x ∷ []
unfolding circulant
single_3 x =
    let z1 = no_1 in
    let z2 = no_2 in
    let z3 = no_3 in
    let e0 = alone_3 (mul 1 x) in
    let e1 = alone_2 (mul 1 x) in
    let e2 = alone_1 (mul 3 x) in
    let e3 = alone_0 (mul 2 x) in
    cc

-- the bytes of the sum of the four words that these bytes give are the column that MixColumns gives
module _ (x y z w : ℕ) (lx : x < 256) (ly : y < 256) (lz : z < 256) (lw : w < 256) where
  rows : four (mul 2 x) (mul 3 y) (mul 1 z) (mul 1 w) ∷ four (mul 1 x) (mul 2 y) (mul 3 z) (mul 1 w) ∷ four (mul 1 x) (mul 1 y) (mul 2 z) (mul 3 w) ∷ four (mul 3 x) (mul 1 y) (mul 1 z) (mul 2 w) ∷ [] ≡ circulant 2 3 1 1 (x ∷ y ∷ z ∷ w ∷ [])
  unfolding circulant
  rows =
      let e1 = turned (mul 2 y) (mul 3 z) (mul 1 w) (mul 1 x) in
      let e2 = turned (mul 2 z) (mul 3 w) (mul 1 x) (mul 1 y) ∙ turned (mul 1 y) (mul 2 z) (mul 3 w) (mul 1 x) in
      let e3 = turned (mul 3 x) (mul 1 y) (mul 1 z) (mul 2 w) in
      cc

  byte : (p v : ℕ) → v < 256 → mul p v < 256
  byte p v h = mul-lt p v h

  both : (p q u v : ℕ) → u < 256 → v < 256 → bit_xor (mul p u) (mul q v) < 256
  both p q u v hu hv = xor_lt 8 (mul p u) (mul q v) (byte p u hu) (byte q v hv)

  all_four : (p q r s : ℕ) → four (mul p x) (mul q y) (mul r z) (mul s w) < 256
  all_four p q r s = xor_lt 8 (bit_xor (mul p x) (mul q y)) (bit_xor (mul r z) (mul s w)) (both p q x y lx ly) (both r s z w lz lw)

  sum_of_numbers : bit_xor (bit_xor (mixed_column (x ∷ 0 ∷ 0 ∷ 0 ∷ [])) (mixed_column (0 ∷ y ∷ 0 ∷ 0 ∷ []))) (bit_xor (mixed_column (0 ∷ 0 ∷ z ∷ 0 ∷ [])) (mixed_column (0 ∷ 0 ∷ 0 ∷ w ∷ []))) ≡ number_of (four (mul 2 x) (mul 3 y) (mul 1 z) (mul 1 w) ∷ four (mul 1 x) (mul 2 y) (mul 3 z) (mul 1 w) ∷ four (mul 1 x) (mul 1 y) (mul 2 z) (mul 3 w) ∷ four (mul 3 x) (mul 1 y) (mul 1 z) (mul 2 w) ∷ [])
  sum_of_numbers =
      let n0 = ap number_of (single_0 x) in
      let n1 = ap number_of (single_1 y) in
      let n2 = ap number_of (single_2 z) in
      let n3 = ap number_of (single_3 w) in
      let top = word_sum (mul 2 x) (mul 1 x) (mul 1 x) (mul 3 x) (mul 3 y) (mul 2 y) (mul 1 y) (mul 1 y) (byte 2 x lx) (byte 1 x lx) (byte 1 x lx) (byte 3 x lx) (byte 3 y ly) (byte 2 y ly) (byte 1 y ly) (byte 1 y ly) in
      let bottom = word_sum (mul 1 z) (mul 3 z) (mul 2 z) (mul 1 z) (mul 1 w) (mul 1 w) (mul 3 w) (mul 2 w) (byte 1 z lz) (byte 3 z lz) (byte 2 z lz) (byte 1 z lz) (byte 1 w lw) (byte 1 w lw) (byte 3 w lw) (byte 2 w lw) in
      let whole = word_sum (bit_xor (mul 2 x) (mul 3 y)) (bit_xor (mul 1 x) (mul 2 y)) (bit_xor (mul 1 x) (mul 1 y)) (bit_xor (mul 3 x) (mul 1 y)) (bit_xor (mul 1 z) (mul 1 w)) (bit_xor (mul 3 z) (mul 1 w)) (bit_xor (mul 2 z) (mul 3 w)) (bit_xor (mul 1 z) (mul 2 w)) (both 2 3 x y lx ly) (both 1 2 x y lx ly) (both 1 1 x y lx ly) (both 3 1 x y lx ly) (both 1 1 z w lz lw) (both 3 1 z w lz lw) (both 2 3 z w lz lw) (both 1 2 z w lz lw) in
      cc

  pub sum_of_columns : bit_xor (bit_xor (mixed_column (x ∷ 0 ∷ 0 ∷ 0 ∷ [])) (mixed_column (0 ∷ y ∷ 0 ∷ 0 ∷ []))) (bit_xor (mixed_column (0 ∷ 0 ∷ z ∷ 0 ∷ [])) (mixed_column (0 ∷ 0 ∷ 0 ∷ w ∷ []))) ≡ mixed_column (x ∷ y ∷ z ∷ w ∷ [])
  sum_of_columns = sum_of_numbers ∙ ap number_of rows

  pub sum_of_words : to_be_bytes w32 (bit_xor (bit_xor (mixed_column (x ∷ 0 ∷ 0 ∷ 0 ∷ [])) (mixed_column (0 ∷ y ∷ 0 ∷ 0 ∷ []))) (bit_xor (mixed_column (0 ∷ 0 ∷ z ∷ 0 ∷ [])) (mixed_column (0 ∷ 0 ∷ 0 ∷ w ∷ [])))) ≡ circulant 2 3 1 1 (x ∷ y ∷ z ∷ w ∷ [])
  sum_of_words =
      ap (to_be_bytes w32) sum_of_numbers
      ∙ bytes_of_word (four (mul 2 x) (mul 3 y) (mul 1 z) (mul 1 w)) (four (mul 1 x) (mul 2 y) (mul 3 z) (mul 1 w)) (four (mul 1 x) (mul 1 y) (mul 2 z) (mul 3 w)) (four (mul 3 x) (mul 1 y) (mul 1 z) (mul 2 w)) (all_four 2 3 1 1) (all_four 1 2 3 1) (all_four 1 1 2 3) (all_four 3 1 1 2)
      ∙ rows

-- the four entries at these bytes
pub entries_sum : (a b c d : ℕ) → a < 256 → b < 256 → c < 256 → d < 256 → to_be_bytes w32 (bit_xor (bit_xor (slice_index ROW_0 a) (slice_index ROW_1 b)) (bit_xor (slice_index ROW_2 c) (slice_index ROW_3 d))) ≡ circulant 2 3 1 1 (sub_byte a ∷ sub_byte b ∷ sub_byte c ∷ sub_byte d ∷ [])
entries_sum a b c d la lb lc ld =
    let e0 = row_0_rule a la in
    let e1 = row_1_rule b lb in
    let e2 = row_2_rule c lc in
    let e3 = row_3_rule d ld in
    let same : bit_xor (bit_xor (slice_index ROW_0 a) (slice_index ROW_1 b)) (bit_xor (slice_index ROW_2 c) (slice_index ROW_3 d)) ≡ bit_xor (bit_xor (mixed_column (sub_byte a ∷ 0 ∷ 0 ∷ 0 ∷ [])) (mixed_column (0 ∷ sub_byte b ∷ 0 ∷ 0 ∷ []))) (bit_xor (mixed_column (0 ∷ 0 ∷ sub_byte c ∷ 0 ∷ [])) (mixed_column (0 ∷ 0 ∷ 0 ∷ sub_byte d ∷ []))) = cc in
    ap (to_be_bytes w32) same ∙ sum_of_words (sub_byte a) (sub_byte b) (sub_byte c) (sub_byte d) (sub_byte-lt a) (sub_byte-lt b) (sub_byte-lt c) (sub_byte-lt d)

-- a column of the state after a round's maps, from the four bytes that it takes
pub column_is : (s : List ℕ) (k : ℕ) → k < 4 → circulant 2 3 1 1 (sub_byte (slice_index s (4 * k)) ∷ sub_byte (slice_index s ((4 * k + 5) % 16)) ∷ sub_byte (slice_index s ((4 * k + 10) % 16)) ∷ sub_byte (slice_index s ((4 * k + 15) % 16)) ∷ []) ≡ column (mix_columns (shift_rows (sub_bytes s))) k
unfolding mix_columns circulant shift_rows sub_bytes
column_is s zero h = refl
column_is s (suc zero) h = refl
column_is s (suc (suc zero)) h = refl
column_is s (suc (suc (suc zero))) h = refl
column_is s (suc (suc (suc (suc k)))) h = absurd (omega arith)

-- a state by its columns
pub by_columns : (s p q r t : List ℕ) → length s ≡ 16 → p ≡ column s 0 → q ≡ column s 1 → r ≡ column s 2 → t ≡ column s 3 → slice_index p 0 ∷ slice_index p 1 ∷ slice_index p 2 ∷ slice_index p 3 ∷ slice_index q 0 ∷ slice_index q 1 ∷ slice_index q 2 ∷ slice_index q 3 ∷ slice_index r 0 ∷ slice_index r 1 ∷ slice_index r 2 ∷ slice_index r 3 ∷ slice_index t 0 ∷ slice_index t 1 ∷ slice_index t 2 ∷ slice_index t 3 ∷ [] ≡ s
by_columns s p q r t long e0 e1 e2 e3 = rw (e0, e1, e2, e3) (block_of_self s long)
