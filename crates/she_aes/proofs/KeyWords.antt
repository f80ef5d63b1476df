-- The words of a key, one by one.
use Rattle.std.proofs.Common.{◌≡◌, ℕ, zero, suc, ◌+◌, ◌-◌, ◌*◌, ◌/◌, ◌%◌, ◌<◌, ◌≤◌, List, [], ◌∷◌, ◌++◌, length, get_or, refl, ap, sym, ◌∙◌, arith, lit<, slice_index, slice_index_or, inl, inr}
use Rattle.std.proofs.lemmas.List.{length_push, get_or_append_left}
use Rattle.std.proofs.lemmas.List.FromFn.{get_or-map-range_with_len}
use Rattle.she_aes.proofs.CipherFacts.{block_of_self}
use Rattle.she_aes.specs.Cipher.{block_of, word_of, word, xor_words, sub_word, rot_word, power_of_x, rcon, added_word, next_word, words_up_to, key_words, round_key, round_keys}
use Rattle.she_aes.specs.KeySteps.{next_round_key}
use Rattle.std.proofs.lemmas.Bool.{cases_lt, ne_eqb}
use Rattle.std.proofs.Math.Seq.{get_or-append_seam}

pub length-words_up_to : (key : List ℕ) (n : ℕ) → length (words_up_to key n) ≡ n + 4
unfolding words_up_to
length-words_up_to key zero = refl
length-words_up_to key (suc n) = length_push (words_up_to key n) _ ∙ omega (arith, length-words_up_to key n)

-- the first four words are those of the key
first_four : (key : List ℕ) (n i : ℕ) → i < 4 → get_or (words_up_to key n) i [] ≡ word_of (λ j. slice_index key (4 * i + j))
unfolding words_up_to
first_four key zero i h =
    get_or-map-range_with_len (λ i. word_of (λ j. slice_index key (4 * i + j))) 0 4 i i [] h (omega arith)
first_four key (suc n) i h =
    get_or_append_left (words_up_to key n) _ [] i (omega (arith, length-words_up_to key n)) ∙ first_four key n i h

-- the first round key is the key
pub round_key-zero : (key : List ℕ) → length key ≡ 16 → round_key (key_words key) 0 ≡ key
unfolding round_key key_words
round_key-zero key l =
    rw (first_four key 40 0 (lit< tt), first_four key 40 1 (lit< tt), first_four key 40 2 (lit< tt), first_four key 40 3 (lit< tt)) (block_of_self key l)

-- the round keys begin with the key
pub round_keys-head : (key : List ℕ) → length key ≡ 16 → get_or (round_keys key) 0 [] ≡ key
unfolding round_keys
round_keys-head key l = round_key-zero key l

pub get_or-round_keys : (key : List ℕ) (n : ℕ) → n < 11 → get_or (round_keys key) n [] ≡ round_key (key_words key) n
unfolding round_keys
get_or-round_keys key n h = get_or-map-range_with_len (round_key (key_words key)) 0 11 n n [] h (omega arith)

-- ---- a round key at a time

-- each word after the first four, from those before it
word_is : (key : List ℕ) (n i : ℕ) → 4 ≤ i → i < n + 4 → word (words_up_to key n) i ≡ xor_words (word (words_up_to key n) (i - 4)) (added_word i (word (words_up_to key n) (i - 1)))
unfolding words_up_to next_word
word_is key zero i low high = absurd (omega arith)
word_is key (suc n) i low high =
    let ws = words_up_to key n in
    let next = next_word ws in
    let long = length-words_up_to key n in
    let kept : (k : ℕ) → k < n + 4 → word (ws ++ next ∷ []) k ≡ word ws k = λ k h. get_or_append_left ws (next ∷ []) [] k (omega arith) in
    elim (cases_lt i (n + 4)) [
      | inl h ↦ kept i h ∙ word_is key n i low h ∙ ap (λ w. xor_words w (added_word i (word ws (i - 1)))) (sym (kept (i - 4) (omega arith))) ∙ ap (λ w. xor_words (word (ws ++ next ∷ []) (i - 4)) (added_word i w)) (sym (kept (i - 1) (omega arith)))
      | inr h ↦
          let here : i ≡ length ws = omega arith in
          ap (λ k. word (ws ++ next ∷ []) k) here ∙ get_or-append_seam ws next [] []
          ∙ ap (λ k. xor_words (word ws (k - 4)) (added_word k (word ws (k - 1)))) (sym here)
          ∙ ap (λ w. xor_words w (added_word i (word ws (i - 1)))) (sym (kept (i - 4) (omega arith))) ∙ ap (λ w. xor_words (word (ws ++ next ∷ []) (i - 4)) (added_word i w)) (sym (kept (i - 1) (omega arith)))
    ]

first_added : (i : ℕ) (w : List ℕ) → i % 4 ≡ 0 → added_word i w ≡ xor_words (sub_word (rot_word w)) (rcon (i / 4))
unfolding added_word
first_added i w e = rw e refl

other_added : (i : ℕ) (w : List ℕ) → 0 < i % 4 → added_word i w ≡ w
unfolding added_word
other_added i w h = rw (ne_eqb (i % 4) 0 (λ e. absurd (omega arith))) refl

-- four words, one after another
abbrev joined : List ℕ → List ℕ → List ℕ → List ℕ → List ℕ
joined a b c d = block_of (λ i. slice_index (slice_index_or (a ∷ b ∷ c ∷ d ∷ []) (i / 4) []) (i % 4))

four_same : {a b c d e f g h : List ℕ} → a ≡ e → b ≡ f → c ≡ g → d ≡ h → joined a b c d ≡ joined e f g h
four_same p q r s = cc

module _ (key : List ℕ) (r : ℕ) (h : r < 10) where
  abbrev w : ℕ → List ℕ
  w c = word (key_words key) (4 * r + c)

  abbrev n : ℕ → List ℕ
  n c = word (key_words key) (4 * (r + 1) + c)

  n_is : (c : ℕ) → c < 4 → n c ≡ xor_words (w c) (added_word (4 * (r + 1) + c) (word (key_words key) (4 * (r + 1) + c - 1)))
  unfolding key_words
  n_is c l =
      let back : 4 * (r + 1) + c - 4 ≡ 4 * r + c = omega arith in
      word_is key 40 (4 * (r + 1) + c) (omega arith) (omega arith) ∙ ap (λ k. xor_words (word (key_words key) k) (added_word (4 * (r + 1) + c) (word (key_words key) (4 * (r + 1) + c - 1)))) back

  n_first : n 0 ≡ xor_words (w 0) (xor_words (sub_word (rot_word (w 3))) (rcon (r + 1)))
  n_first =
      let last : 4 * (r + 1) + 0 - 1 ≡ 4 * r + 3 = omega arith in
      let round : (4 * (r + 1) + 0) / 4 ≡ r + 1 = omega arith in
      n_is 0 (omega arith)
      ∙ ap (λ x. xor_words (w 0) x) (first_added (4 * (r + 1) + 0) _ (omega arith) ∙ ap (λ k. xor_words (sub_word (rot_word (word (key_words key) k))) (rcon ((4 * (r + 1) + 0) / 4))) last ∙ ap (λ k. xor_words (sub_word (rot_word (w 3))) (rcon k)) round)

  n_other : (c : ℕ) → 0 < c → c < 4 → n c ≡ xor_words (w c) (word (key_words key) (4 * (r + 1) + (c - 1)))
  n_other c low l =
      let before : 4 * (r + 1) + c - 1 ≡ 4 * (r + 1) + (c - 1) = omega arith in
      n_is c l ∙ ap (λ x. xor_words (w c) x) (other_added (4 * (r + 1) + c) _ (omega arith) ∙ ap (λ k. word (key_words key) k) before)

  -- the same from the four words before alone
  chained : ℕ → List ℕ
  chained p =
      let a = xor_words (w 0) (xor_words (sub_word (rot_word (w 3))) (p ∷ 0 ∷ 0 ∷ 0 ∷ [])) in
      let b = xor_words (w 1) a in
      let c = xor_words (w 2) b in
      joined a b c (xor_words (w 3) c)

  chained_is : chained (power_of_x r) ≡ joined (n 0) (n 1) (n 2) (n 3)
  unfolding chained rcon
  chained_is =
      let less : r + 1 - 1 ≡ r = omega arith in
      let a : n 0 ≡ xor_words (w 0) (xor_words (sub_word (rot_word (w 3))) (power_of_x r ∷ 0 ∷ 0 ∷ 0 ∷ [])) = n_first ∙ ap (λ k. xor_words (w 0) (xor_words (sub_word (rot_word (w 3))) (power_of_x k ∷ 0 ∷ 0 ∷ 0 ∷ []))) less in
      let b = n_other 1 (omega arith) (omega arith) ∙ ap (λ x. xor_words (w 1) x) a in
      let c = n_other 2 (omega arith) (omega arith) ∙ ap (λ x. xor_words (w 2) x) b in
      let d = n_other 3 (omega arith) (omega arith) ∙ ap (λ x. xor_words (w 3) x) c in
      sym (four_same a b c d)

  -- the round key after that of round r
  pub next_is : next_round_key (power_of_x r) (round_key (key_words key) r) ≡ round_key (key_words key) (r + 1)
  unfolding next_round_key round_key xor_words sub_word rot_word chained
  next_is = chained_is
