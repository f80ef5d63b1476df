-- Blocks in pairs: the maps of a round on them, lane by lane.
use Rattle.std.proofs.Common.{◌≡◌, ℕ, ◌<◌, List, [], ◌∷◌, ◌++◌, map, length, replicate, refl, sym, ap, subst, ◌∙◌, arith, slice_index, get_or}
use Rattle.std.specs.Int.Bits.{bit_xor, xor_assoc, xor_comm, xor_lt}
use Rattle.std.specs.Simd.Lanes.{zip2, pick_l}
use Rattle.std.proofs.lemmas.List.{get_or-map, length-map}
use Rattle.std.proofs.lemmas.List.Elements.{All-from_get_or}
use Rattle.std.proofs.lemmas.List.FromFn.{fill_by_all}
use Rattle.std.proofs.lemmas.Simd.{map-map}
use Rattle.she_aes.specs.Field.{product, cancelled, remainder, mul, sub_byte}
use Rattle.she_aes.specs.FieldFacts.{xor_swap, mul-xor, mul-lt}
use Rattle.she_aes.specs.Cipher.{IsBlock, block_of, xor_blocks, add_round_key, sub_bytes, shift_rows, circulant, mix_columns}
use Rattle.she_aes.proofs.CipherFacts.{IsBlock-bytes, IsBlock-from, block_of_self, sub_bytes-bytes, shift_rows-bytes, mix_columns-bytes}
use Rattle.she_aes.specs.Substitution.{pair, inverse_by}
use Rattle.she_aes.specs.Pairs.{pair_of, in_pairs, without_constant}
use Rattle.she_aes.specs.declared.substitution.TheConstants.{LEFT, RIGHT, LEFT_PAIR, RIGHT_PAIR, LEFT_PAIR_DOUBLED, RIGHT_PAIR_DOUBLED, BYTE_OF_LOWER, BYTE_OF_UPPER}
use Rattle.she_aes.proofs.Tables.{one_rule, triple_rule}
use Rattle.she_aes.proofs.MixingLanes.{four_more, below}
use Rattle.she_aes.proofs.Pairing.{pair_of-xor, less_constant-lt, constant_twice, constants_cancel, pairs_cancel, pair_less_constant, s_box_rule, once_rule, doubled_rule, byte_rule}

-- ---- maps of the bytes of a block

-- two functions that agree at each byte, over a block
over_block : (f g : ℕ → ℕ) (s : List ℕ) → IsBlock s → ((b : ℕ) → b < 256 → f b ≡ g b) → map f s ≡ block_of (λ i. g (slice_index s i))
over_block f g s block same =
    fill_by_all (λ i. g (slice_index s i)) (map f s) 16 0 (length-map s f ∙ block.size) (λ k h. get_or-map f s k 0 0 (omega (arith, block.size)) ∙ same (get_or s k 0) (IsBlock-bytes s block k))

-- a fact of each block that is made of bytes
pub over_bytes : (P : List ℕ → Type 0) → ((f : ℕ → ℕ) → ((i : ℕ) → f i < 256) → P (block_of f)) → (s : List ℕ) → IsBlock s → P s
over_bytes P each s block = subst P (block_of_self s block.size) (each (λ i. slice_index s i) (IsBlock-bytes s block))

module _ (s : List ℕ) (block : IsBlock s) where
  pub substituted : map (inverse_by LEFT RIGHT) (in_pairs s) ≡ without_constant (sub_bytes s)
  unfolding in_pairs without_constant sub_bytes
  substituted =
      map-map (inverse_by LEFT RIGHT) pair_of s ∙ over_block (λ b. inverse_by LEFT RIGHT (pair_of b)) (λ b. bit_xor (sub_byte b) 0x63) s block s_box_rule

  pub substituted_once : map (inverse_by LEFT_PAIR RIGHT_PAIR) (in_pairs s) ≡ in_pairs (without_constant (sub_bytes s))
  unfolding in_pairs without_constant sub_bytes
  substituted_once =
      map-map (inverse_by LEFT_PAIR RIGHT_PAIR) pair_of s ∙ over_block (λ b. inverse_by LEFT_PAIR RIGHT_PAIR (pair_of b)) (λ b. pair_of (bit_xor (sub_byte b) 0x63)) s block once_rule

  pub substituted_doubled : map (inverse_by LEFT_PAIR_DOUBLED RIGHT_PAIR_DOUBLED) (in_pairs s) ≡ in_pairs (map (mul 2) (without_constant (sub_bytes s)))
  unfolding in_pairs without_constant sub_bytes
  substituted_doubled =
      map-map (inverse_by LEFT_PAIR_DOUBLED RIGHT_PAIR_DOUBLED) pair_of s ∙ over_block (λ b. inverse_by LEFT_PAIR_DOUBLED RIGHT_PAIR_DOUBLED (pair_of b)) (λ b. pair_of (mul 2 (bit_xor (sub_byte b) 0x63))) s block doubled_rule

  pub bytes_again : map (pair BYTE_OF_LOWER BYTE_OF_UPPER) (in_pairs s) ≡ without_constant s
  unfolding in_pairs without_constant
  bytes_again =
      map-map (pair BYTE_OF_LOWER BYTE_OF_UPPER) pair_of s ∙ over_block (λ b. pair BYTE_OF_LOWER BYTE_OF_UPPER (pair_of b)) (λ b. bit_xor b 0x63) s block byte_rule ∙ sym (over_block (λ b. bit_xor b 0x63) (λ b. bit_xor b 0x63) s block (λ b h. refl))

pub constant_again : (s : List ℕ) → without_constant (without_constant s) ≡ s
unfolding without_constant
constant_again [] = refl
constant_again (b ∷ s) = let head = constant_twice b in let tail = constant_again s in cc

pub IsBlock-without_constant : (s : List ℕ) → IsBlock s → IsBlock (without_constant s)
unfolding without_constant
IsBlock-without_constant s block = record {
  size = length-map s (λ b. bit_xor b 0x63) ∙ block.size;
  bytes = All-from_get_or (λ b. b < 256) (map (λ b. bit_xor b 0x63) s) 0 (λ i h. rw (get_or-map (λ b. bit_xor b 0x63) s i 0 0 (omega (arith, length-map s (λ b. bit_xor b 0x63)))) (less_constant-lt (get_or s i 0) (IsBlock-bytes s block i)));
}

length-sub_bytes : (s : List ℕ) → length (sub_bytes s) ≡ 16
unfolding sub_bytes
length-sub_bytes s = refl

length-shift_rows : (s : List ℕ) → length (shift_rows s) ≡ 16
unfolding shift_rows
length-shift_rows s = refl

length-mix_columns : (s : List ℕ) → length (mix_columns s) ≡ 16
unfolding mix_columns circulant
length-mix_columns s = refl

pub IsBlock-sub_bytes : (s : List ℕ) → IsBlock (sub_bytes s)
IsBlock-sub_bytes s = IsBlock-from (sub_bytes s) (length-sub_bytes s) (sub_bytes-bytes s)

pub IsBlock-shift_rows : (s : List ℕ) → IsBlock s → IsBlock (shift_rows s)
IsBlock-shift_rows s block = IsBlock-from (shift_rows s) (length-shift_rows s) (shift_rows-bytes s (IsBlock-bytes s block))

pub IsBlock-mix_columns : (s : List ℕ) → IsBlock s → IsBlock (mix_columns s)
IsBlock-mix_columns s block = IsBlock-from (mix_columns s) (length-mix_columns s) (mix_columns-bytes s (IsBlock-bytes s block))

-- ---- ShiftRows

rows_of_bytes : (f : ℕ → ℕ) → ((i : ℕ) → f i < 256) → shift_rows (in_pairs (block_of f)) ≡ in_pairs (shift_rows (block_of f))
unfolding shift_rows in_pairs
rows_of_bytes f h = refl

pub rows_of_pairs : (s : List ℕ) → IsBlock s → shift_rows (in_pairs s) ≡ in_pairs (shift_rows s)
rows_of_pairs = over_bytes (λ s. shift_rows (in_pairs s) ≡ in_pairs (shift_rows s)) rows_of_bytes

rows_substituted_of_bytes : (f : ℕ → ℕ) → ((i : ℕ) → f i < 256) → sub_bytes (shift_rows (block_of f)) ≡ shift_rows (sub_bytes (block_of f))
unfolding shift_rows sub_bytes
rows_substituted_of_bytes f h = refl

pub rows_substituted : (s : List ℕ) → IsBlock s → sub_bytes (shift_rows s) ≡ shift_rows (sub_bytes s)
rows_substituted = over_bytes (λ s. sub_bytes (shift_rows s) ≡ shift_rows (sub_bytes s)) rows_substituted_of_bytes

-- ---- AddRoundKey

module _ (f g : ℕ → ℕ) (hf : (i : ℕ) → f i < 256) (hg : (i : ℕ) → g i < 256) where
  cancel : (i : ℕ) → bit_xor (pair_of (bit_xor (f i) 0x63)) (pair_of (bit_xor (g i) 0x63)) ≡ pair_of (bit_xor (f i) (g i))
  cancel i = pairs_cancel (f i) (g i) (hf i) (hg i)

  key_added_of_bytes : add_round_key (in_pairs (without_constant (block_of g))) (in_pairs (without_constant (block_of f))) ≡ in_pairs (add_round_key (block_of g) (block_of f))
  unfolding add_round_key xor_blocks in_pairs without_constant
  key_added_of_bytes =
      four_more (cancel 0) (cancel 1) (cancel 2) (cancel 3)
      (four_more (cancel 4) (cancel 5) (cancel 6) (cancel 7)
      (four_more (cancel 8) (cancel 9) (cancel 10) (cancel 11)
      (four_more (cancel 12) (cancel 13) (cancel 14) (cancel 15) refl)))

  last_cancel : (i : ℕ) → bit_xor (bit_xor (f i) 0x63) (bit_xor (g i) 0x63) ≡ bit_xor (f i) (g i)
  last_cancel i = constants_cancel (f i) (g i)

  last_key_added_of_bytes : add_round_key (without_constant (block_of g)) (without_constant (block_of f)) ≡ add_round_key (block_of g) (block_of f)
  unfolding add_round_key xor_blocks without_constant
  last_key_added_of_bytes =
      four_more (last_cancel 0) (last_cancel 1) (last_cancel 2) (last_cancel 3)
      (four_more (last_cancel 4) (last_cancel 5) (last_cancel 6) (last_cancel 7)
      (four_more (last_cancel 8) (last_cancel 9) (last_cancel 10) (last_cancel 11)
      (four_more (last_cancel 12) (last_cancel 13) (last_cancel 14) (last_cancel 15) refl)))

module _ (k s : List ℕ) (key : IsBlock k) (block : IsBlock s) where
  pub key_added : add_round_key (in_pairs (without_constant k)) (in_pairs (without_constant s)) ≡ in_pairs (add_round_key k s)
  key_added =
      over_bytes (λ k. add_round_key (in_pairs (without_constant k)) (in_pairs (without_constant s)) ≡ in_pairs (add_round_key k s)) (λ g hg. over_bytes (λ s. add_round_key (in_pairs (without_constant (block_of g))) (in_pairs (without_constant s)) ≡ in_pairs (add_round_key (block_of g) s)) (λ f hf. key_added_of_bytes f g hf hg) s block) k key

  pub last_key_added : add_round_key (without_constant k) (without_constant s) ≡ add_round_key k s
  last_key_added =
      over_bytes (λ k. add_round_key (without_constant k) (without_constant s) ≡ add_round_key k s) (λ g hg. over_bytes (λ s. add_round_key (without_constant (block_of g)) (without_constant s) ≡ add_round_key (block_of g) s) (λ f hf. last_key_added_of_bytes f g hf hg) s block) k key

-- ---- MixColumns

-- the byte above, in each column
abbrev pub above : List ℕ → List ℕ
above v = pick_l 0 (v ++ v) (3 ∷ 0 ∷ 1 ∷ 2 ∷ 7 ∷ 4 ∷ 5 ∷ 6 ∷ 11 ∷ 8 ∷ 9 ∷ 10 ∷ 15 ∷ 12 ∷ 13 ∷ 14 ∷ [])

-- twice each byte and once the byte below it
abbrev pub sums : List ℕ → List ℕ → List ℕ
sums once doubled = zip2 bit_xor doubled (below once)

abbrev pub mixed : List ℕ → List ℕ → List ℕ
mixed once doubled = zip2 bit_xor (zip2 bit_xor (sums once doubled) (below (sums once doubled))) (above once)

-- a byte of a column times the matrix
mixed_byte : (a b c d : ℕ) → b < 256 → c < 256 → d < 256 → bit_xor (bit_xor (bit_xor (mul 2 a) b) (bit_xor (mul 2 b) c)) d ≡ bit_xor (bit_xor (mul 2 a) (mul 3 b)) (bit_xor (mul 1 c) (mul 1 d))
mixed_byte a b c d hb hc hd =
    let swapped = xor_swap (mul 2 a) b (mul 2 b) c in
    let back = xor_swap (mul 2 a) (mul 2 b) b c in
    let first = xor_assoc (mul 2 a) b (bit_xor (mul 2 b) c) in
    let second = xor_assoc b (mul 2 b) c in
    let commuted = xor_comm b (mul 2 b) in
    let three = triple_rule b hb in
    let third = xor_assoc (mul 2 a) (mul 3 b) c in
    let fourth = xor_assoc (bit_xor (mul 2 a) (mul 3 b)) c d in
    let one_c = one_rule c hc in
    let one_d = one_rule d hd in
    cc

-- a byte of a column times the matrix, in pairs
mixed_pair : (a b c d : ℕ) → a < 256 → b < 256 → c < 256 → d < 256 → bit_xor (bit_xor (bit_xor (pair_of (mul 2 a)) (pair_of b)) (bit_xor (pair_of (mul 2 b)) (pair_of c))) (pair_of d) ≡ pair_of (bit_xor (bit_xor (mul 2 a) (mul 3 b)) (bit_xor (mul 1 c) (mul 1 d)))
mixed_pair a b c d ha hb hc hd =
    let x = mul 2 a in
    let y = mul 2 b in
    let hx : x < 256 = mul-lt 2 a ha in
    let hy : y < 256 = mul-lt 2 b hb in
    let xb = bit_xor x b in
    let yc = bit_xor y c in
    let hxb : xb < 256 = xor_lt 8 x b hx hb in
    let hyc : yc < 256 = xor_lt 8 y c hy hc in
    let bytes : bit_xor (bit_xor xb yc) d ≡ bit_xor (bit_xor x (mul 3 b)) (bit_xor (mul 1 c) (mul 1 d)) =
    mixed_byte a b c d hb hc hd in
    let first = pair_of-xor x b hx hb in
    let second = pair_of-xor y c hy hc in
    let both = pair_of-xor xb yc hxb hyc in
    let all = pair_of-xor (bit_xor xb yc) d (xor_lt 8 xb yc hxb hyc) hd in
    cc

module _ (f : ℕ → ℕ) (h : (i : ℕ) → f i < 256) where
  lane : (i j k l : ℕ) → bit_xor (bit_xor (bit_xor (pair_of (mul 2 (f i))) (pair_of (f j))) (bit_xor (pair_of (mul 2 (f j))) (pair_of (f k)))) (pair_of (f l)) ≡ pair_of (bit_xor (bit_xor (mul 2 (f i)) (mul 3 (f j))) (bit_xor (mul 1 (f k)) (mul 1 (f l))))
  lane i j k l = mixed_pair (f i) (f j) (f k) (f l) (h i) (h j) (h k) (h l)

  mixed_of_bytes : mixed (in_pairs (block_of f)) (in_pairs (map (mul 2) (block_of f))) ≡ in_pairs (mix_columns (block_of f))
  unfolding mix_columns circulant in_pairs
  mixed_of_bytes =
      four_more (lane 0 1 2 3) (lane 1 2 3 0) (lane 2 3 0 1) (lane 3 0 1 2)
      (four_more (lane 4 5 6 7) (lane 5 6 7 4) (lane 6 7 4 5) (lane 7 4 5 6)
      (four_more (lane 8 9 10 11) (lane 9 10 11 8) (lane 10 11 8 9) (lane 11 8 9 10)
      (four_more (lane 12 13 14 15) (lane 13 14 15 12) (lane 14 15 12 13) (lane 15 12 13 14) refl)))

pub mixed_pairs : (s : List ℕ) → IsBlock s → mixed (in_pairs s) (in_pairs (map (mul 2) s)) ≡ in_pairs (mix_columns s)
mixed_pairs = over_bytes (λ s. mixed (in_pairs s) (in_pairs (map (mul 2) s)) ≡ in_pairs (mix_columns s)) mixed_of_bytes

-- a column of the constant is mixed to itself
constant_mixed : bit_xor (bit_xor (mul 2 0x63) (mul 3 0x63)) (bit_xor (mul 1 0x63) (mul 1 0x63)) ≡ 0x63
unfolding product cancelled remainder mul
constant_mixed = refl

mixed_less_constant : (a b c d : ℕ) → bit_xor (bit_xor (mul 2 (bit_xor a 0x63)) (mul 3 (bit_xor b 0x63))) (bit_xor (mul 1 (bit_xor c 0x63)) (mul 1 (bit_xor d 0x63))) ≡ bit_xor (bit_xor (bit_xor (mul 2 a) (mul 3 b)) (bit_xor (mul 1 c) (mul 1 d))) 0x63
mixed_less_constant a b c d =
    let of_a = mul-xor 2 a 0x63 in
    let of_b = mul-xor 3 b 0x63 in
    let of_c = mul-xor 1 c 0x63 in
    let of_d = mul-xor 1 d 0x63 in
    let left = xor_swap (mul 2 a) (mul 2 0x63) (mul 3 b) (mul 3 0x63) in
    let right = xor_swap (mul 1 c) (mul 1 0x63) (mul 1 d) (mul 1 0x63) in
    let both = xor_swap (bit_xor (mul 2 a) (mul 3 b)) (bit_xor (mul 2 0x63) (mul 3 0x63)) (bit_xor (mul 1 c) (mul 1 d)) (bit_xor (mul 1 0x63) (mul 1 0x63)) in
    let constant = constant_mixed in
    cc

module _ (f : ℕ → ℕ) where
  offset : (i j k l : ℕ) → bit_xor (bit_xor (mul 2 (bit_xor (f i) 0x63)) (mul 3 (bit_xor (f j) 0x63))) (bit_xor (mul 1 (bit_xor (f k) 0x63)) (mul 1 (bit_xor (f l) 0x63))) ≡ bit_xor (bit_xor (bit_xor (mul 2 (f i)) (mul 3 (f j))) (bit_xor (mul 1 (f k)) (mul 1 (f l)))) 0x63
  offset i j k l = mixed_less_constant (f i) (f j) (f k) (f l)

  less_constant_of_bytes : mix_columns (without_constant (block_of f)) ≡ without_constant (mix_columns (block_of f))
  unfolding mix_columns circulant without_constant
  less_constant_of_bytes =
      four_more (offset 0 1 2 3) (offset 1 2 3 0) (offset 2 3 0 1) (offset 3 0 1 2)
      (four_more (offset 4 5 6 7) (offset 5 6 7 4) (offset 6 7 4 5) (offset 7 4 5 6)
      (four_more (offset 8 9 10 11) (offset 9 10 11 8) (offset 10 11 8 9) (offset 11 8 9 10)
      (four_more (offset 12 13 14 15) (offset 13 14 15 12) (offset 14 15 12 13) (offset 15 12 13 14) refl)))

pub mixed_without_constant : (s : List ℕ) → IsBlock s → mix_columns (without_constant s) ≡ without_constant (mix_columns s)
mixed_without_constant = over_bytes (λ s. mix_columns (without_constant s) ≡ without_constant (mix_columns s)) (λ f h. less_constant_of_bytes f)

-- ---- a round key as a round adds it

module _ (f : ℕ → ℕ) (h : (i : ℕ) → f i < 256) where
  less : (i : ℕ) → bit_xor (pair_of (f i)) 0x8e ≡ pair_of (bit_xor (f i) 0x63)
  less i = pair_less_constant (f i) (h i)

  added_of_bytes : zip2 bit_xor (in_pairs (block_of f)) (replicate 16 0x8e) ≡ in_pairs (without_constant (block_of f))
  unfolding in_pairs without_constant
  added_of_bytes =
      four_more (less 0) (less 1) (less 2) (less 3)
      (four_more (less 4) (less 5) (less 6) (less 7)
      (four_more (less 8) (less 9) (less 10) (less 11)
      (four_more (less 12) (less 13) (less 14) (less 15) refl)))

pub added_pairs : (s : List ℕ) → IsBlock s → zip2 bit_xor (in_pairs s) (replicate 16 0x8e) ≡ in_pairs (without_constant s)
added_pairs = over_bytes (λ s. zip2 bit_xor (in_pairs s) (replicate 16 0x8e) ≡ in_pairs (without_constant s)) added_of_bytes

-- ---- the last round key, from what the last round adds

constant_added : (s : List ℕ) → zip2 bit_xor s (replicate (length s) 0x63) ≡ without_constant s
unfolding without_constant
constant_added [] = refl
constant_added (b ∷ s) = let tail = constant_added s in cc

pub constant_added_again : (k : List ℕ) → IsBlock k → {added : List ℕ} → added ≡ without_constant k → zip2 bit_xor added (replicate 16 0x63) ≡ k
constant_added_again k key is =
    let long : length (without_constant k) ≡ 16 = (IsBlock-without_constant k key).size in
    ap (λ s. zip2 bit_xor s (replicate 16 0x63)) is ∙ subst (λ (n : ℕ). zip2 bit_xor (without_constant k) (replicate n 0x63) ≡ without_constant (without_constant k)) long (constant_added (without_constant k)) ∙ constant_again k
