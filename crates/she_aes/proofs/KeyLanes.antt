-- The next round key on vectors, in pairs.
use Rattle.std.proofs.Common.{◌≡◌, ℕ, ◌<◌, List, [], ◌∷◌, ◌++◌, replicate, refl, sym, ap, ◌∙◌, lit<}
use Rattle.std.specs.Int.Bits.{bit_xor, xor_assoc, xor_zero_r, xor_lt}
use Rattle.std.specs.Simd.Lanes.{zip2, pick_l}
use Rattle.she_aes.specs.Field.{sub_byte}
use Rattle.she_aes.specs.FieldFacts.{sub_byte-lt}
use Rattle.she_aes.specs.Cipher.{IsBlock, block_of, sub_bytes, xor_words, sub_word, rot_word}
use Rattle.she_aes.specs.KeySteps.{next_round_key}
use Rattle.she_aes.specs.Pairs.{pair_of, in_pairs, without_constant}
use Rattle.she_aes.proofs.MixingLanes.{four_more}
use Rattle.she_aes.proofs.Pairing.{pair_of-xor, pair_of-zero, pair_less_constant, pairs_cancel}
use Rattle.she_aes.proofs.PairLanes.{over_bytes}

abbrev zeros : List ℕ
zeros = replicate 16 0

-- each word and the one before it
abbrev words : List ℕ → List ℕ
words v = zip2 bit_xor v (pick_l 0 (zeros ++ v) (0 ∷ 0 ∷ 0 ∷ 0 ∷ 16 ∷ 17 ∷ 18 ∷ 19 ∷ 20 ∷ 21 ∷ 22 ∷ 23 ∷ 24 ∷ 25 ∷ 26 ∷ 27 ∷ []))

-- each word and those before it
abbrev all_before : List ℕ → List ℕ
all_before v = zip2 bit_xor (words v) (pick_l 0 (zeros ++ words v) (0 ∷ 0 ∷ 0 ∷ 0 ∷ 0 ∷ 0 ∷ 0 ∷ 0 ∷ 16 ∷ 17 ∷ 18 ∷ 19 ∷ 20 ∷ 21 ∷ 22 ∷ 23 ∷ []))

-- what is added to each word, where w is the key substituted and q the pair of a power of x
abbrev added : ℕ → List ℕ → List ℕ
added q w =
    zip2 bit_xor (pick_l 0 (w ++ w) (13 ∷ 14 ∷ 15 ∷ 12 ∷ 13 ∷ 14 ∷ 15 ∷ 12 ∷ 13 ∷ 14 ∷ 15 ∷ 12 ∷ 13 ∷ 14 ∷ 15 ∷ 12 ∷ [])) (zip2 bit_xor (q ∷ 0 ∷ 0 ∷ 0 ∷ q ∷ 0 ∷ 0 ∷ 0 ∷ q ∷ 0 ∷ 0 ∷ 0 ∷ q ∷ 0 ∷ 0 ∷ 0 ∷ []) (replicate 16 0x8e))

-- a byte of each of the four words, where x is the pair of what is added
module _ (t x : ℕ) (ht : t < 256) (is : x ≡ pair_of t) where
  one_word : (a : ℕ) → a < 256 → bit_xor (bit_xor (bit_xor (pair_of a) 0) 0) x ≡ pair_of (bit_xor a t)
  one_word a ha =
      ap (λ y. bit_xor y x) (xor_zero_r (bit_xor (pair_of a) 0) ∙ xor_zero_r (pair_of a)) ∙ ap (bit_xor (pair_of a)) is ∙ sym (pair_of-xor a t ha ht)

  two_words : (a b : ℕ) → a < 256 → b < 256 → bit_xor (bit_xor (bit_xor (pair_of b) (pair_of a)) 0) x ≡ pair_of (bit_xor b (bit_xor a t))
  two_words a b ha hb =
      ap (λ y. bit_xor y x) (xor_zero_r (bit_xor (pair_of b) (pair_of a))) ∙ xor_assoc (pair_of b) (pair_of a) x ∙ ap (λ y. bit_xor (pair_of b) (bit_xor (pair_of a) y)) is ∙ ap (bit_xor (pair_of b)) (sym (pair_of-xor a t ha ht)) ∙ sym (pair_of-xor b (bit_xor a t) hb (xor_lt 8 a t ha ht))

  three_words : (a b c : ℕ) → a < 256 → b < 256 → c < 256 → bit_xor (bit_xor (bit_xor (pair_of c) (pair_of b)) (bit_xor (pair_of a) 0)) x ≡ pair_of (bit_xor c (bit_xor b (bit_xor a t)))
  three_words a b c ha hb hc =
      let hat = xor_lt 8 a t ha ht in
      let hbat = xor_lt 8 b (bit_xor a t) hb hat in
      let alone = xor_zero_r (pair_of a) in
      let first = xor_assoc (bit_xor (pair_of c) (pair_of b)) (pair_of a) x in
      let second = xor_assoc (pair_of c) (pair_of b) (bit_xor (pair_of a) x) in
      let one = pair_of-xor a t ha ht in
      let two = pair_of-xor b (bit_xor a t) hb hat in
      let three = pair_of-xor c (bit_xor b (bit_xor a t)) hc hbat in
      cc

  four_words : (a b c d : ℕ) → a < 256 → b < 256 → c < 256 → d < 256 → bit_xor (bit_xor (bit_xor (pair_of d) (pair_of c)) (bit_xor (pair_of b) (pair_of a))) x ≡ pair_of (bit_xor d (bit_xor c (bit_xor b (bit_xor a t))))
  four_words a b c d ha hb hc hd =
      let hat = xor_lt 8 a t ha ht in
      let hbat = xor_lt 8 b (bit_xor a t) hb hat in
      let hcbat = xor_lt 8 c (bit_xor b (bit_xor a t)) hc hbat in
      let first = xor_assoc (bit_xor (pair_of d) (pair_of c)) (bit_xor (pair_of b) (pair_of a)) x in
      let second = xor_assoc (pair_of b) (pair_of a) x in
      let third = xor_assoc (pair_of d) (pair_of c) (bit_xor (pair_of b) (bit_xor (pair_of a) x)) in
      let one = pair_of-xor a t ha ht in
      let two = pair_of-xor b (bit_xor a t) hb hat in
      let three = pair_of-xor c (bit_xor b (bit_xor a t)) hc hbat in
      let four = pair_of-xor d (bit_xor c (bit_xor b (bit_xor a t))) hd hcbat in
      cc

module _ (p : ℕ) (hp : p < 256) (f : ℕ → ℕ) (h : (i : ℕ) → f i < 256) where
  -- what is added in the first row, and in another
  abbrev top : ℕ
  top = bit_xor (sub_byte (f 13)) p

  abbrev row : ℕ → ℕ
  row i = bit_xor (sub_byte (f i)) 0

  top-lt : top < 256
  top-lt = xor_lt 8 (sub_byte (f 13)) p (sub_byte-lt (f 13)) hp

  row-lt : (i : ℕ) → row i < 256
  row-lt i = xor_lt 8 (sub_byte (f i)) 0 (sub_byte-lt (f i)) (lit< tt)

  -- the same in pairs
  abbrev top_pair : ℕ
  top_pair = bit_xor (pair_of (bit_xor (sub_byte (f 13)) 0x63)) (bit_xor (pair_of p) 0x8e)

  abbrev row_pair : ℕ → ℕ
  row_pair i = bit_xor (pair_of (bit_xor (sub_byte (f i)) 0x63)) (bit_xor 0 0x8e)

  top_is : top_pair ≡ pair_of top
  top_is =
      ap (bit_xor (pair_of (bit_xor (sub_byte (f 13)) 0x63))) (pair_less_constant p hp) ∙ pairs_cancel (sub_byte (f 13)) p (sub_byte-lt (f 13)) hp

  row_is : (i : ℕ) → row_pair i ≡ pair_of (row i)
  row_is i =
      ap (λ z. bit_xor (pair_of (bit_xor (sub_byte (f i)) 0x63)) (bit_xor z 0x8e)) (sym pair_of-zero) ∙ ap (bit_xor (pair_of (bit_xor (sub_byte (f i)) 0x63))) (pair_less_constant 0 (lit< tt)) ∙ pairs_cancel (sub_byte (f i)) 0 (sub_byte-lt (f i)) (lit< tt)

  steps_of_bytes : zip2 bit_xor (all_before (in_pairs (block_of f))) (added (pair_of p) (in_pairs (without_constant (sub_bytes (block_of f))))) ≡ in_pairs (next_round_key p (block_of f))
  unfolding next_round_key sub_bytes xor_words sub_word rot_word in_pairs without_constant
  steps_of_bytes =
      four_more
      (one_word top top_pair top-lt top_is (f 0) (h 0)) (one_word (row 14) (row_pair 14) (row-lt 14) (row_is 14) (f 1) (h 1)) (one_word (row 15) (row_pair 15) (row-lt 15) (row_is 15) (f 2) (h 2)) (one_word (row 12) (row_pair 12) (row-lt 12) (row_is 12) (f 3) (h 3))
      (four_more
      (two_words top top_pair top-lt top_is (f 0) (f 4) (h 0) (h 4)) (two_words (row 14) (row_pair 14) (row-lt 14) (row_is 14) (f 1) (f 5) (h 1) (h 5)) (two_words (row 15) (row_pair 15) (row-lt 15) (row_is 15) (f 2) (f 6) (h 2) (h 6)) (two_words (row 12) (row_pair 12) (row-lt 12) (row_is 12) (f 3) (f 7) (h 3) (h 7))
      (four_more
      (three_words top top_pair top-lt top_is (f 0) (f 4) (f 8) (h 0) (h 4) (h 8)) (three_words (row 14) (row_pair 14) (row-lt 14) (row_is 14) (f 1) (f 5) (f 9) (h 1) (h 5) (h 9)) (three_words (row 15) (row_pair 15) (row-lt 15) (row_is 15) (f 2) (f 6) (f 10) (h 2) (h 6) (h 10)) (three_words (row 12) (row_pair 12) (row-lt 12) (row_is 12) (f 3) (f 7) (f 11) (h 3) (h 7) (h 11))
      (four_more
      (four_words top top_pair top-lt top_is (f 0) (f 4) (f 8) (f 12) (h 0) (h 4) (h 8) (h 12)) (four_words (row 14) (row_pair 14) (row-lt 14) (row_is 14) (f 1) (f 5) (f 9) (f 13) (h 1) (h 5) (h 9) (h 13)) (four_words (row 15) (row_pair 15) (row-lt 15) (row_is 15) (f 2) (f 6) (f 10) (f 14) (h 2) (h 6) (h 10) (h 14)) (four_words (row 12) (row_pair 12) (row-lt 12) (row_is 12) (f 3) (f 7) (f 11) (f 15) (h 3) (h 7) (h 11) (h 15)) refl)))

pub steps : (p : ℕ) → p < 256 → (k : List ℕ) → IsBlock k → (q : ℕ) (v w : List ℕ) → q ≡ pair_of p → v ≡ in_pairs k → w ≡ in_pairs (without_constant (sub_bytes k)) → zip2 bit_xor (all_before v) (added q w) ≡ in_pairs (next_round_key p k)
steps p hp k key q v w q_is v_is w_is =
    ap (λ v. zip2 bit_xor (all_before v) (added q w)) v_is ∙ ap (λ q. zip2 bit_xor (all_before (in_pairs k)) (added q w)) q_is ∙ ap (λ w. zip2 bit_xor (all_before (in_pairs k)) (added (pair_of p) w)) w_is ∙ over_bytes (λ k. zip2 bit_xor (all_before (in_pairs k)) (added (pair_of p) (in_pairs (without_constant (sub_bytes k)))) ≡ in_pairs (next_round_key p k)) (λ f h. steps_of_bytes p hp f h) k key
