-- The cipher with its S-box read from a table: it is the cipher. Examples are computed by it, in a tenth of the time,
-- since by its definition the S-box searches an inverse among 256 bytes.
use Rattle.std.specs.Prelude.{◌≡◌, ℕ, zero, suc, ◌-◌, ◌/◌, ◌%◌, ◌==◌, nat_lt, if◌then◌else◌, List, [], ◌∷◌, ◌++◌, length, map, slice_index}
use Rattle.std.proofs.Common.{refl, ap, ◌∙◌, arith}
use Rattle.std.specs.List.{range_with_len}
use Rattle.std.proofs.lemmas.Bool.{cond_both}
use Rattle.std.proofs.lemmas.Bool.Decides.{nat_tests}
use Rattle.she_aes.specs.Field.{sub_byte}
use Rattle.she_aes.specs.Cipher.{block_of, word_of, xor_blocks, add_round_key, sub_bytes, shift_rows, mix_columns, xor_words, sub_word, rot_word, rcon, added_word, word, next_word, words_up_to, key_words, round_key, after_rounds, cipher, enc}
use Rattle.she_aes.specs.Modes.{cbc}
use Rattle.she_aes.proofs.SBoxTable.{s_box, s_box_is}

-- the S-box, of a byte by the table
unfoldable pub tabled_byte : ℕ → ℕ
tabled_byte b = if nat_lt b 256 then s_box b else sub_byte b

tabled_byte_is : (b : ℕ) → tabled_byte b ≡ sub_byte b
unfolding tabled_byte
tabled_byte_is b =
    cond_both (nat_lt b 256) (s_box b) (sub_byte b) (λ x. x ≡ sub_byte b) (λ e. s_box_is b (grind (arith, nat_tests))) (λ e. refl)

-- maps by functions with the same values
map_same : (f g : ℕ → ℕ) → ((x : ℕ) → f x ≡ g x) → (xs : List ℕ) → map f xs ≡ map g xs
map_same f g same [] = refl
map_same f g same (x ∷ xs) = ap (λ y. y ∷ map f xs) (same x) ∙ ap (λ ys. g x ∷ ys) (map_same f g same xs)

-- ---- the key expansion

unfoldable pub tabled_word : List ℕ → List ℕ
tabled_word w = word_of (λ i. tabled_byte (slice_index w i))

tabled_word_is : (w : List ℕ) → tabled_word w ≡ sub_word w
unfolding tabled_word sub_word
tabled_word_is w =
    map_same (λ i. tabled_byte (slice_index w i)) (λ i. sub_byte (slice_index w i)) (λ i. tabled_byte_is (slice_index w i)) (range_with_len 0 4)

unfoldable pub tabled_added : ℕ → List ℕ → List ℕ
tabled_added i w = if i % 4 == 0 then xor_words (tabled_word (rot_word w)) (rcon (i / 4)) else w

tabled_added_is : (i : ℕ) (w : List ℕ) → tabled_added i w ≡ added_word i w
unfolding tabled_added added_word
tabled_added_is i w = ap (λ x. if i % 4 == 0 then xor_words x (rcon (i / 4)) else w) (tabled_word_is (rot_word w))

unfoldable pub tabled_next : List (List ℕ) → List ℕ
tabled_next words = xor_words (word words (length words - 4)) (tabled_added (length words) (word words (length words - 1)))

tabled_next_is : (words : List (List ℕ)) → tabled_next words ≡ next_word words
unfolding tabled_next next_word
tabled_next_is words = ap (λ x. xor_words (word words (length words - 4)) x) (tabled_added_is (length words) (word words (length words - 1)))

unfoldable pub tabled_words : List ℕ → ℕ → List (List ℕ)
tabled_words key zero = words_up_to key zero
tabled_words key (suc n) = tabled_words key n ++ tabled_next (tabled_words key n) ∷ []

tabled_words_is : (key : List ℕ) (n : ℕ) → tabled_words key n ≡ words_up_to key n
unfolding tabled_words words_up_to
tabled_words_is key zero = refl
tabled_words_is key (suc n) =
    ap (λ (ws : List (List ℕ)). ws ++ tabled_next ws ∷ []) (tabled_words_is key n)
    ∙ ap (λ w. words_up_to key n ++ w ∷ []) (tabled_next_is (words_up_to key n))

-- ---- the rounds

unfoldable pub tabled_bytes : List ℕ → List ℕ
tabled_bytes s = block_of (λ i. tabled_byte (slice_index s i))

tabled_bytes_is : (s : List ℕ) → tabled_bytes s ≡ sub_bytes s
unfolding tabled_bytes sub_bytes
tabled_bytes_is s =
    map_same (λ i. tabled_byte (slice_index s i)) (λ i. sub_byte (slice_index s i)) (λ i. tabled_byte_is (slice_index s i)) (range_with_len 0 16)

unfoldable pub tabled_rounds : List (List ℕ) → List ℕ → ℕ → List ℕ
tabled_rounds words block zero = add_round_key (round_key words 0) block
tabled_rounds words block (suc n) =
    add_round_key (round_key words (suc n)) (mix_columns (shift_rows (tabled_bytes (tabled_rounds words block n))))

tabled_rounds_is : (words : List (List ℕ)) (block : List ℕ) (n : ℕ) → tabled_rounds words block n ≡ after_rounds words block n
unfolding tabled_rounds after_rounds
tabled_rounds_is words block zero = refl
tabled_rounds_is words block (suc n) =
    ap (λ s. add_round_key (round_key words (suc n)) (mix_columns (shift_rows s)))
    (ap tabled_bytes (tabled_rounds_is words block n) ∙ tabled_bytes_is (after_rounds words block n))

unfoldable pub tabled_cipher : List (List ℕ) → List ℕ → List ℕ
tabled_cipher words block = add_round_key (round_key words 10) (shift_rows (tabled_bytes (tabled_rounds words block 9)))

tabled_cipher_is : (words : List (List ℕ)) (block : List ℕ) → tabled_cipher words block ≡ cipher words block
unfolding tabled_cipher cipher
tabled_cipher_is words block =
    ap (λ s. add_round_key (round_key words 10) (shift_rows s))
    (ap tabled_bytes (tabled_rounds_is words block 9) ∙ tabled_bytes_is (after_rounds words block 9))

-- a block encrypted
unfoldable pub enc_by_table : List ℕ → List ℕ → List ℕ
enc_by_table key block = tabled_cipher (tabled_words key 40) block

pub enc_by_table_is : (key block : List ℕ) → enc_by_table key block ≡ enc key block
unfolding enc_by_table enc key_words
enc_by_table_is key block =
    ap (λ words. tabled_cipher words block) (tabled_words_is key 40) ∙ tabled_cipher_is (key_words key) block

-- ---- CBC

unfoldable pub cbc_by_table : List ℕ → List ℕ → List (List ℕ) → List (List ℕ)
cbc_by_table key before [] = []
cbc_by_table key before (plain ∷ text) =
    let cipher = enc_by_table key (xor_blocks plain before) in cipher ∷ cbc_by_table key cipher text

pub cbc_by_table_is : (key before : List ℕ) (text : List (List ℕ)) → cbc_by_table key before text ≡ cbc key before text
unfolding cbc_by_table cbc
cbc_by_table_is key before [] = refl
cbc_by_table_is key before (plain ∷ text) =
    let c : List ℕ = enc key (xor_blocks plain before) in
    ap (λ x. x ∷ cbc_by_table key x text) (enc_by_table_is key (xor_blocks plain before)) ∙ ap (λ xs. c ∷ xs) (cbc_by_table_is key c text)
