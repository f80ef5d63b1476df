-- The rounds of the cipher, over what a schedule holds, and those of its inverse.
use Rattle.std.proofs.Common.{◌≡◌, ℕ, zero, suc, ◌+◌, ◌-◌, ◌<◌, ◌≤◌, List, [], length, get_or, refl, sym, ap, ◌∙◌, arith, lit<}
use Rattle.she_aes.specs.Cipher.{IsBlock, xor_blocks, add_round_key, sub_bytes, shift_rows, mix_columns, key_words, round_key, round_keys, after_rounds, cipher, enc, inv_sub_bytes, inv_shift_rows, inv_mix_columns, undone_rounds, inverse_cipher, dec}
use Rattle.she_aes.proofs.CipherFacts.{IsBlock-bytes, IsBlock-from, after_rounds-bytes}
use Rattle.she_aes.specs.Pairs.{in_pairs, without_constant}
use Rattle.she_aes.specs.RoundKeys.{IsAddedUnder}
use Rattle.she_aes.proofs.KeyWords.{round_key-zero, get_or-round_keys}
use Rattle.she_aes.proofs.KeyPairs.{IsBlock-round_key, added_at, last_added}

-- what the code's rounds in pairs give
abbrev Rounds : List ℕ → List ℕ → List ℕ → Type 0
Rounds added state next =
    (k s : List ℕ) → IsBlock k → IsBlock s → added ≡ in_pairs (without_constant k) → state ≡ in_pairs s → next ≡ in_pairs (add_round_key k (mix_columns (shift_rows (sub_bytes s))))

abbrev RoundsLast : List ℕ → List ℕ → List ℕ → Type 0
RoundsLast added state out =
    (k s : List ℕ) → IsBlock k → IsBlock s → added ≡ without_constant k → state ≡ in_pairs s → out ≡ add_round_key k (shift_rows (sub_bytes s))

pub length-after_rounds : (words : List (List ℕ)) (block : List ℕ) (n : ℕ) → length (after_rounds words block n) ≡ 16
unfolding after_rounds add_round_key xor_blocks
length-after_rounds words block zero = refl
length-after_rounds words block (suc n) = refl

-- ---- with the key and the block of a schedule

module _ (key block : List ℕ) (added : List (List ℕ)) (are : IsAddedUnder key added) where
  first_state : add_round_key key block ≡ after_rounds (key_words key) block 0
  unfolding after_rounds
  first_state = ap (λ k. add_round_key k block) (sym (round_key-zero key are.key_is_block.size))

  -- a round key, and the last, from what the code makes of what is added
  pub middle_key : (n : ℕ) → n < 9 → {made : List ℕ} → ((k : List ℕ) → IsBlock k → get_or added n [] ≡ in_pairs (without_constant k) → made ≡ k) → made ≡ round_key (key_words key) (suc n)
  middle_key n h makes =
      makes (round_key (key_words key) (suc n)) (IsBlock-round_key key are.key_is_block (suc n)) (added_at key added are.of_key n h)

  pub last_key : {made : List ℕ} → ((k : List ℕ) → IsBlock k → get_or added 9 [] ≡ without_constant k → made ≡ k) → made ≡ round_key (key_words key) 10
  last_key makes =
      makes (round_key (key_words key) 10) (IsBlock-round_key key are.key_is_block 10) (last_added key added are.of_key)

  -- the rounds in pairs
  module _ (of_block : IsBlock block) where
    after : (n : ℕ) → IsBlock (after_rounds (key_words key) block n)
    after n =
        IsBlock-from (after_rounds (key_words key) block n) (length-after_rounds (key_words key) block n) (after_rounds-bytes key block n (IsBlock-bytes key are.key_is_block) (IsBlock-bytes block of_block))

    more : (n : ℕ) → n < 9 → {state next : List ℕ} → Rounds (get_or added n []) state next → state ≡ in_pairs (after_rounds (key_words key) block n) → next ≡ in_pairs (after_rounds (key_words key) block (suc n))
    unfolding after_rounds
    more n h rounds so_far =
        rounds (round_key (key_words key) (suc n)) (after_rounds (key_words key) block n) (IsBlock-round_key key are.key_is_block (suc n)) (after n) (added_at key added are.of_key n h) so_far

    pub all_rounds : {s0 s1 s2 s3 s4 s5 s6 s7 s8 s9 out : List ℕ} → s0 ≡ in_pairs (add_round_key key block) → Rounds (get_or added 0 []) s0 s1 → Rounds (get_or added 1 []) s1 s2 → Rounds (get_or added 2 []) s2 s3 → Rounds (get_or added 3 []) s3 s4 → Rounds (get_or added 4 []) s4 s5 → Rounds (get_or added 5 []) s5 s6 → Rounds (get_or added 6 []) s6 s7 → Rounds (get_or added 7 []) s7 s8 → Rounds (get_or added 8 []) s8 s9 → RoundsLast (get_or added 9 []) s9 out → out ≡ enc key block
    unfolding cipher enc
    all_rounds first e0 e1 e2 e3 e4 e5 e6 e7 e8 last =
        let h0 = first ∙ ap in_pairs first_state in
        let h1 = more 0 (lit< tt) e0 h0 in
        let h2 = more 1 (lit< tt) e1 h1 in
        let h3 = more 2 (lit< tt) e2 h2 in
        let h4 = more 3 (lit< tt) e3 h3 in
        let h5 = more 4 (lit< tt) e4 h4 in
        let h6 = more 5 (lit< tt) e5 h5 in
        let h7 = more 6 (lit< tt) e6 h6 in
        let h8 = more 7 (lit< tt) e7 h7 in
        let h9 = more 8 (lit< tt) e8 h8 in
        last (round_key (key_words key) 10) (after_rounds (key_words key) block 9) (IsBlock-round_key key are.key_is_block 10) (after 9) (last_added key added are.of_key) h9

-- ---- the inverse, over round keys that are those of the key

module _ (key block : List ℕ) (keys : List (List ℕ)) (made : keys ≡ round_keys key) where
  undo_last : inv_sub_bytes (inv_shift_rows (add_round_key (get_or keys 10 []) block)) ≡ undone_rounds (key_words key) block 0
  unfolding undone_rounds
  undo_last = rw (made, get_or-round_keys key 10 (lit< tt)) refl

  undo_more : (s : List ℕ) (n : ℕ) → 1 ≤ n → n < 10 → s ≡ undone_rounds (key_words key) block (n - 1) → inv_sub_bytes (inv_shift_rows (inv_mix_columns (add_round_key (get_or keys (10 - n) []) s))) ≡ undone_rounds (key_words key) block (n + 1 - 1)
  unfolding undone_rounds
  undo_more s n low high so_far =
      let this : n + 1 - 1 ≡ suc (n - 1) = omega arith in
      let key_of : 10 - n ≡ 9 - (n - 1) = omega arith in
      rw (made, get_or-round_keys key (10 - n) (omega arith), so_far, this, key_of) refl

  undo_first : (s : List ℕ) (n : ℕ) → n ≡ 10 → s ≡ undone_rounds (key_words key) block (n - 1) → add_round_key (get_or keys 0 []) s ≡ dec key block
  unfolding inverse_cipher dec
  undo_first s n ten so_far = rw (made, get_or-round_keys key 0 (lit< tt), so_far, ten) refl

  pub all_undone : {s9 s8 s7 s6 s5 s4 s3 s2 s1 s0 out : List ℕ} → s9 ≡ inv_sub_bytes (inv_shift_rows (add_round_key (get_or keys 10 []) block)) → s8 ≡ inv_sub_bytes (inv_shift_rows (inv_mix_columns (add_round_key (get_or keys 9 []) s9))) → s7 ≡ inv_sub_bytes (inv_shift_rows (inv_mix_columns (add_round_key (get_or keys 8 []) s8))) → s6 ≡ inv_sub_bytes (inv_shift_rows (inv_mix_columns (add_round_key (get_or keys 7 []) s7))) → s5 ≡ inv_sub_bytes (inv_shift_rows (inv_mix_columns (add_round_key (get_or keys 6 []) s6))) → s4 ≡ inv_sub_bytes (inv_shift_rows (inv_mix_columns (add_round_key (get_or keys 5 []) s5))) → s3 ≡ inv_sub_bytes (inv_shift_rows (inv_mix_columns (add_round_key (get_or keys 4 []) s4))) → s2 ≡ inv_sub_bytes (inv_shift_rows (inv_mix_columns (add_round_key (get_or keys 3 []) s3))) → s1 ≡ inv_sub_bytes (inv_shift_rows (inv_mix_columns (add_round_key (get_or keys 2 []) s2))) → s0 ≡ inv_sub_bytes (inv_shift_rows (inv_mix_columns (add_round_key (get_or keys 1 []) s1))) → out ≡ add_round_key (get_or keys 0 []) s0 → out ≡ dec key block
  all_undone e9 e8 e7 e6 e5 e4 e3 e2 e1 e0 first =
      let h9 = e9 ∙ undo_last in
      let h8 = e8 ∙ undo_more _ 1 (lit< tt) (lit< tt) h9 in
      let h7 = e7 ∙ undo_more _ 2 (lit< tt) (lit< tt) h8 in
      let h6 = e6 ∙ undo_more _ 3 (lit< tt) (lit< tt) h7 in
      let h5 = e5 ∙ undo_more _ 4 (lit< tt) (lit< tt) h6 in
      let h4 = e4 ∙ undo_more _ 5 (lit< tt) (lit< tt) h5 in
      let h3 = e3 ∙ undo_more _ 6 (lit< tt) (lit< tt) h4 in
      let h2 = e2 ∙ undo_more _ 7 (lit< tt) (lit< tt) h3 in
      let h1 = e1 ∙ undo_more _ 8 (lit< tt) (lit< tt) h2 in
      let h0 = e0 ∙ undo_more _ 9 (lit< tt) (lit< tt) h1 in
      first ∙ undo_first _ 10 refl h0
