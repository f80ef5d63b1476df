-- MixColumns and its inverse on vectors.
use Rattle.std.proofs.Common.{◌≡◌, ℕ, ◌+◌, ◌%◌, ◌^◌, ◌<◌, true, cond, leb, List, [], ◌∷◌, ◌++◌, map, length, replicate, refl, ap, subst, ◌∙◌, w8, Fits, slice_index}
use Rattle.std.specs.Prelude.{◌==◌}
use Rattle.std.specs.Int.Bits.{bit_xor, xor_assoc, xor_zero_r}
use Rattle.std.specs.Simd.Lanes.{zip2, sel_l, top, pick_l, Each1}
use Rattle.std.proofs.lemmas.Bool.{agree_below}
use Rattle.she_aes.specs.Field.{product, cancelled, remainder, mul}
use Rattle.she_aes.specs.FieldFacts.{mul-xor}
use Rattle.she_aes.proofs.SBoxTable.{same_at_bytes}
use Rattle.she_aes.specs.Cipher.{block_of, on_columns, circulant, mix_columns, inv_mix_columns}
use Rattle.she_aes.proofs.CipherFacts.{IsBlock-bytes, block_of_self}
use Rattle.she_aes.proofs.Mixing.{mix_columns-first}
use Rattle.she_aes.proofs.Tables.{one_rule, triple_rule, quadruple_rule, quintuple_rule, none_rule}
use Rattle.she_aes.proofs.Lanes.{IsVector, vector_is_block}

-- twice a byte, as the code computes it of one byte
abbrev twice : ℕ → ℕ
twice b = bit_xor ((b + b) % 2 ^ 8) (cond (top 7 (cond (leb 128 b) 255 0)) 27 0)

twice_ok : agree_below (λ b. twice b == mul 2 b) (λ _. true) 256 ≡ true
unfolding product cancelled remainder mul
twice_ok = refl

pub doubled : (v : List ℕ) → Each1 (Fits w8) v → zip2 bit_xor (zip2 (λ a b. (a + b) % 2 ^ 8) v v) (sel_l (map (top 7) (zip2 (λ a b. cond (leb a b) 255 0) (replicate (length v) 128) v)) (replicate (length v) 27) (replicate (length v) 0)) ≡ map (mul 2) v
doubled [] fits = refl
doubled (x ∷ v) fits =
    let head = same_at_bytes twice (mul 2) twice_ok x fits.0.fits in
    let tail = doubled v fits.1 in
    cc

-- a byte of a column times the matrix, from those of the column in turn
mixed : (a b c d : ℕ) → b < 256 → c < 256 → d < 256 → bit_xor (bit_xor (mul 2 (bit_xor a b)) b) (bit_xor c d) ≡ bit_xor (bit_xor (mul 2 a) (mul 3 b)) (bit_xor (mul 1 c) (mul 1 d))
mixed a b c d hb hc hd =
    let sum = mul-xor 2 a b in
    let three = triple_rule b hb in
    let assoc = xor_assoc (mul 2 a) (mul 2 b) b in
    let one_c = one_rule c hc in
    let one_d = one_rule d hd in
    cc

pub four_more : {a b c d e f g h : ℕ} {v w : List ℕ} → a ≡ e → b ≡ f → c ≡ g → d ≡ h → v ≡ w → a ∷ b ∷ c ∷ d ∷ v ≡ e ∷ f ∷ g ∷ h ∷ w
four_more p q r s t = cc

-- the byte below, in each column
abbrev pub below : List ℕ → List ℕ
below v = pick_l 0 (v ++ v) (1 ∷ 2 ∷ 3 ∷ 0 ∷ 5 ∷ 6 ∷ 7 ∷ 4 ∷ 9 ∷ 10 ∷ 11 ∷ 8 ∷ 13 ∷ 14 ∷ 15 ∷ 12 ∷ [])

-- the byte two below
abbrev opposite : List ℕ → List ℕ
opposite v = pick_l 0 (v ++ v) (2 ∷ 3 ∷ 0 ∷ 1 ∷ 6 ∷ 7 ∷ 4 ∷ 5 ∷ 10 ∷ 11 ∷ 8 ∷ 9 ∷ 14 ∷ 15 ∷ 12 ∷ 13 ∷ [])

abbrev sums : List ℕ → List ℕ
sums v = zip2 bit_xor v (below v)

abbrev Mixes : List ℕ → Type 0
Mixes v = zip2 bit_xor (zip2 bit_xor (map (mul 2) (sums v)) (below v)) (opposite (sums v)) ≡ mix_columns v

module _ (f : ℕ → ℕ) (h : (i : ℕ) → f i < 256) where
  entry_of : (i j k l : ℕ) → bit_xor (bit_xor (mul 2 (bit_xor (f i) (f j))) (f j)) (bit_xor (f k) (f l)) ≡ bit_xor (bit_xor (mul 2 (f i)) (mul 3 (f j))) (bit_xor (mul 1 (f k)) (mul 1 (f l)))
  entry_of i j k l = mixed (f i) (f j) (f k) (f l) (h j) (h k) (h l)

  mixes_block : Mixes (block_of f)
  unfolding mix_columns circulant
  mixes_block =
      four_more (entry_of 0 1 2 3) (entry_of 1 2 3 0) (entry_of 2 3 0 1) (entry_of 3 0 1 2)
      (four_more (entry_of 4 5 6 7) (entry_of 5 6 7 4) (entry_of 6 7 4 5) (entry_of 7 4 5 6)
      (four_more (entry_of 8 9 10 11) (entry_of 9 10 11 8) (entry_of 10 11 8 9) (entry_of 11 8 9 10)
      (four_more (entry_of 12 13 14 15) (entry_of 13 14 15 12) (entry_of 14 15 12 13) (entry_of 15 12 13 14) refl)))

pub mixes : (v d : List ℕ) → IsVector v → d ≡ map (mul 2) (sums v) → zip2 bit_xor (zip2 bit_xor d (below v)) (opposite (sums v)) ≡ mix_columns v
mixes v d is e =
    ap (λ t. zip2 bit_xor (zip2 bit_xor t (below v)) (opposite (sums v))) e ∙ subst Mixes (block_of_self v is.0) (mixes_block (λ i. slice_index v i) (IsBlock-bytes v (vector_is_block v is)))

-- ---- its inverse

-- what is mixed
abbrev prepared : List ℕ → List ℕ
prepared v = zip2 bit_xor v (map (mul 2) (map (mul 2) (zip2 bit_xor v (opposite v))))

-- a byte of a column times the circulant matrix of 5, 0, 4 and 0
prepared_byte : (a b c d : ℕ) → a < 256 → b < 256 → c < 256 → d < 256 → bit_xor a (mul 2 (mul 2 (bit_xor a c))) ≡ bit_xor (bit_xor (mul 5 a) (mul 0 b)) (bit_xor (mul 4 c) (mul 0 d))
prepared_byte a b c d ha hb hc hd =
    let once = ap (mul 2) (mul-xor 2 a c) in
    let twice_each = mul-xor 2 (mul 2 a) (mul 2 c) in
    let assoc = xor_assoc a (mul 2 (mul 2 a)) (mul 2 (mul 2 c)) in
    let five = quintuple_rule a ha in
    let four = quadruple_rule c hc in
    let no_b = none_rule b hb in
    let no_d = none_rule d hd in
    let end_b = xor_zero_r (mul 5 a) in
    let end_d = xor_zero_r (mul 4 c) in
    cc

module _ (f : ℕ → ℕ) (h : (i : ℕ) → f i < 256) where
  prepared_of : (i j k l : ℕ) → bit_xor (f i) (mul 2 (mul 2 (bit_xor (f i) (f k)))) ≡ bit_xor (bit_xor (mul 5 (f i)) (mul 0 (f j))) (bit_xor (mul 4 (f k)) (mul 0 (f l)))
  prepared_of i j k l = prepared_byte (f i) (f j) (f k) (f l) (h i) (h j) (h k) (h l)

  prepared_block : prepared (block_of f) ≡ on_columns (circulant 5 0 4 0) (block_of f)
  unfolding circulant
  prepared_block =
      four_more (prepared_of 0 1 2 3) (prepared_of 1 2 3 0) (prepared_of 2 3 0 1) (prepared_of 3 0 1 2)
      (four_more (prepared_of 4 5 6 7) (prepared_of 5 6 7 4) (prepared_of 6 7 4 5) (prepared_of 7 4 5 6)
      (four_more (prepared_of 8 9 10 11) (prepared_of 9 10 11 8) (prepared_of 10 11 8 9) (prepared_of 11 8 9 10)
      (four_more (prepared_of 12 13 14 15) (prepared_of 13 14 15 12) (prepared_of 14 15 12 13) (prepared_of 15 12 13 14) refl)))

pub unmixes : (v d e : List ℕ) → IsVector v → d ≡ map (mul 2) (zip2 bit_xor v (opposite v)) → e ≡ map (mul 2) d → mix_columns (zip2 bit_xor v e) ≡ inv_mix_columns v
unmixes v d e is first again =
    let bytes = IsBlock-bytes v (vector_is_block v is) in
    let same : zip2 bit_xor v e ≡ prepared v = ap (zip2 bit_xor v) (again ∙ ap (map (mul 2)) first) in
    let by_matrix = subst (λ (t : List ℕ). prepared t ≡ on_columns (circulant 5 0 4 0) t) (block_of_self v is.0) (prepared_block (λ i. slice_index v i) bytes) in
    ap mix_columns (same ∙ by_matrix) ∙ mix_columns-first v bytes
