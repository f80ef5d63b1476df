-- Facts about the cipher: blocks go to blocks.
use Rattle.std.proofs.Common.{◌≡◌, ℕ, zero, suc, ◌+◌, ◌-◌, ◌*◌, ◌/◌, ◌%◌, ◌<◌, List, [], length, slice_index, map, All}
use Rattle.std.proofs.Common.{inl, inr, refl, sym, arith, lit<}
use Rattle.std.specs.Prelude.{◌==◌}
use Rattle.std.specs.List.{range_with_len}
use Rattle.std.specs.Int.Bits.{bit_xor, xor_lt}
use Rattle.std.proofs.lemmas.Bool.{cases_lt, cond_both}
use Rattle.std.proofs.lemmas.List.{get_or_past}
use Rattle.std.proofs.lemmas.List.Elements.{All-get_or, All-from_get_or, All-push, All-replicate}
use Rattle.std.proofs.lemmas.List.FromFn.{get_or-map-range_with_len, length-map-range_with_len, fill_by_all}
use Rattle.she_aes.specs.Field.{mul, sub_byte, inv_sub_byte}
use Rattle.she_aes.specs.FieldFacts.{mul-lt, sub_byte-lt, inv_sub_byte-lt}
use Rattle.she_aes.specs.ReadBytes.{ReadsBytes}
use Rattle.she_aes.specs.Cipher.{block_of, word_of, IsBlock, xor_blocks, add_round_key, sub_bytes, cell, shift_rows}
use Rattle.she_aes.specs.Cipher.{circulant, on_columns, mix_columns, xor_words, sub_word, rot_word, power_of_x, rcon}
use Rattle.she_aes.specs.Cipher.{added_word, word, next_word, words_up_to, key_words, round_key, after_rounds, cipher}
use Rattle.she_aes.specs.Cipher.{enc, inv_sub_bytes, inv_shift_rows, inv_mix_columns, undone_rounds, inverse_cipher}
use Rattle.she_aes.specs.Cipher.{dec, zero_block}

pub IsBlock-bytes : (s : List ℕ) → IsBlock s → ReadsBytes s
IsBlock-bytes s block i =
    elim (cases_lt i (length s)) [
      | inl h ↦ All-get_or (λ b. b < 256) s i 0 h block.bytes
      | inr h ↦ rw (get_or_past s i 0 h) (lit< tt)
    ]

pub IsBlock-from : (s : List ℕ) → length s ≡ 16 → ReadsBytes s → IsBlock s
IsBlock-from s long bytes = record { size = long; bytes = All-from_get_or (λ b. b < 256) s 0 (λ i h. bytes i) }

-- a list made of bytes
made_bytes : (n : ℕ) (f : ℕ → ℕ) → ((i : ℕ) → f i < 256) → ReadsBytes (map f (range_with_len 0 n))
made_bytes n f each i =
    elim (cases_lt i n) [
      | inl h ↦ rw (get_or-map-range_with_len f 0 n i i 0 h (omega arith)) (each i)
      | inr h ↦ rw (get_or_past (map f (range_with_len 0 n)) i 0 (omega (arith, length-map-range_with_len f 0 n)))
          (lit< tt)
    ]

-- a block, byte by byte
pub block_of_self : (s : List ℕ) → length s ≡ 16 → block_of (λ i. slice_index s i) ≡ s
block_of_self s l = sym (fill_by_all (λ i. slice_index s i) s 16 0 l (λ k h. refl))

-- the block of zero bytes
pub IsBlock-zero_block : IsBlock zero_block
IsBlock-zero_block = record { size = refl; bytes = All-replicate (λ b. b < 256) 16 0 (lit< tt) }

-- ---- the maps of a round

pub length-xor_blocks : (a b : List ℕ) → length (xor_blocks a b) ≡ 16
unfolding xor_blocks
length-xor_blocks a b = refl

pub xor_blocks-bytes : (a b : List ℕ) → ReadsBytes a → ReadsBytes b → ReadsBytes (xor_blocks a b)
unfolding xor_blocks
xor_blocks-bytes a b h k =
    made_bytes 16 (λ i. bit_xor (slice_index a i) (slice_index b i))
    (λ i. xor_lt 8 (slice_index a i) (slice_index b i) (h i) (k i))

pub IsBlock-xor_blocks : (a b : List ℕ) → IsBlock a → IsBlock b → IsBlock (xor_blocks a b)
unfolding xor_blocks
IsBlock-xor_blocks a b h k =
    IsBlock-from (xor_blocks a b) refl (xor_blocks-bytes a b (IsBlock-bytes a h) (IsBlock-bytes b k))

pub add_round_key-bytes : (key s : List ℕ) → ReadsBytes key → ReadsBytes s → ReadsBytes (add_round_key key s)
unfolding add_round_key
add_round_key-bytes key s h k = xor_blocks-bytes s key k h

pub sub_bytes-bytes : (s : List ℕ) → ReadsBytes (sub_bytes s)
unfolding sub_bytes
sub_bytes-bytes s = made_bytes 16 (λ i. sub_byte (slice_index s i)) (λ i. sub_byte-lt (slice_index s i))

pub inv_sub_bytes-bytes : (s : List ℕ) → ReadsBytes (inv_sub_bytes s)
unfolding inv_sub_bytes
inv_sub_bytes-bytes s = made_bytes 16 (λ i. inv_sub_byte (slice_index s i)) (λ i. inv_sub_byte-lt (slice_index s i))

pub shift_rows-bytes : (s : List ℕ) → ReadsBytes s → ReadsBytes (shift_rows s)
unfolding shift_rows
shift_rows-bytes s h =
    made_bytes 16 (λ i. cell s (i % 4) (i / 4 + i % 4)) (λ i. h (i % 4 + 4 * ((i / 4 + i % 4) % 4)))

pub inv_shift_rows-bytes : (s : List ℕ) → ReadsBytes s → ReadsBytes (inv_shift_rows s)
unfolding inv_shift_rows
inv_shift_rows-bytes s h =
    made_bytes 16 (λ i. cell s (i % 4) (i / 4 + 4 - i % 4)) (λ i. h (i % 4 + 4 * ((i / 4 + 4 - i % 4) % 4)))

-- the byte of on_columns (circulant a b c d) s in a row and a column
mixed : ℕ → ℕ → ℕ → ℕ → List ℕ → ℕ → ℕ → ℕ
mixed a b c d s row col =
    bit_xor (bit_xor (mul a (cell s row col)) (mul b (cell s ((row + 1) % 4) col)))
    (bit_xor (mul c (cell s ((row + 2) % 4) col)) (mul d (cell s ((row + 3) % 4) col)))

mixed-lt : (a b c d : ℕ) (s : List ℕ) → ReadsBytes s → (row col : ℕ) → mixed a b c d s row col < 256
unfolding mixed
mixed-lt a b c d s h row col =
    let byte = λ (k : ℕ) (r : ℕ). mul-lt k (cell s r col) (h (r + 4 * (col % 4))) in
    xor_lt 8 _ _ (xor_lt 8 _ _ (byte a row) (byte b ((row + 1) % 4)))
    (xor_lt 8 _ _ (byte c ((row + 2) % 4)) (byte d ((row + 3) % 4)))

on_columns-bytes : (a b c d : ℕ) (s : List ℕ) → ReadsBytes s → ReadsBytes (on_columns (circulant a b c d) s)
unfolding circulant mixed
on_columns-bytes a b c d s h =
    made_bytes 16 (λ i. mixed a b c d s (i % 4) (i / 4)) (λ i. mixed-lt a b c d s h (i % 4) (i / 4))

pub mix_columns-bytes : (s : List ℕ) → ReadsBytes s → ReadsBytes (mix_columns s)
unfolding mix_columns
mix_columns-bytes s h = on_columns-bytes 2 3 1 1 s h

pub inv_mix_columns-bytes : (s : List ℕ) → ReadsBytes s → ReadsBytes (inv_mix_columns s)
unfolding inv_mix_columns
inv_mix_columns-bytes s h = on_columns-bytes 14 11 13 9 s h

-- ---- the words of a key

xor_words-bytes : (v w : List ℕ) → ReadsBytes v → ReadsBytes w → ReadsBytes (xor_words v w)
unfolding xor_words
xor_words-bytes v w h k =
    made_bytes 4 (λ i. bit_xor (slice_index v i) (slice_index w i))
    (λ i. xor_lt 8 (slice_index v i) (slice_index w i) (h i) (k i))

sub_word-bytes : (w : List ℕ) → ReadsBytes (sub_word w)
unfolding sub_word
sub_word-bytes w = made_bytes 4 (λ i. sub_byte (slice_index w i)) (λ i. sub_byte-lt (slice_index w i))

pub power_of_x-lt : (n : ℕ) → power_of_x n < 256
unfolding power_of_x
power_of_x-lt zero = lit< tt
power_of_x-lt (suc n) = mul-lt 2 (power_of_x n) (power_of_x-lt n)

rcon-bytes : (i : ℕ) → ReadsBytes (rcon i)
unfolding rcon
rcon-bytes i zero = power_of_x-lt (i - 1)
rcon-bytes i (suc zero) = lit< tt
rcon-bytes i (suc (suc zero)) = lit< tt
rcon-bytes i (suc (suc (suc zero))) = lit< tt
rcon-bytes i (suc (suc (suc (suc j)))) = lit< tt

added_word-bytes : (i : ℕ) (w : List ℕ) → ReadsBytes w → ReadsBytes (added_word i w)
unfolding added_word
added_word-bytes i w h =
    cond_both (i % 4 == 0) (xor_words (sub_word (rot_word w)) (rcon (i / 4))) w ReadsBytes
    (λ _. xor_words-bytes (sub_word (rot_word w)) (rcon (i / 4)) (sub_word-bytes (rot_word w)) (rcon-bytes (i / 4)))
    (λ _. h)

word-bytes : (ws : List (List ℕ)) → All ReadsBytes ws → (i : ℕ) → ReadsBytes (word ws i)
word-bytes ws h i =
    elim (cases_lt i (length ws)) [
      | inl l ↦ All-get_or ReadsBytes ws i [] l h
      | inr l ↦ rw (get_or_past ws i [] l) (λ j. lit< tt)
    ]

next_word-bytes : (ws : List (List ℕ)) → All ReadsBytes ws → ReadsBytes (next_word ws)
unfolding next_word
next_word-bytes ws h =
    xor_words-bytes (word ws (length ws - 4)) (added_word (length ws) (word ws (length ws - 1)))
    (word-bytes ws h (length ws - 4))
    (added_word-bytes (length ws) (word ws (length ws - 1)) (word-bytes ws h (length ws - 1)))

words_up_to-bytes : (key : List ℕ) (n : ℕ) → ReadsBytes key → All ReadsBytes (words_up_to key n)
unfolding words_up_to
words_up_to-bytes key zero h =
    λ k d l. rw (get_or-map-range_with_len (λ i. word_of (λ j. slice_index key (4 * i + j))) 0 4 k k d l (omega arith))
    (made_bytes 4 (λ j. slice_index key (4 * k + j)) (λ j. h (4 * k + j)))
words_up_to-bytes key (suc n) h =
    let so_far = words_up_to-bytes key n h in
    All-push ReadsBytes (words_up_to key n) (next_word (words_up_to key n)) so_far
    (next_word-bytes (words_up_to key n) so_far)

pub round_key-bytes : (key : List ℕ) (round : ℕ) → ReadsBytes key → ReadsBytes (round_key (key_words key) round)
unfolding round_key key_words
round_key-bytes key round h =
    made_bytes 16 (λ i. slice_index (word (words_up_to key 40) (4 * round + i / 4)) (i % 4))
    (λ i. word-bytes (words_up_to key 40) (words_up_to-bytes key 40 h) (4 * round + i / 4) (i % 4))

-- ---- the cipher

pub after_rounds-bytes : (key block : List ℕ) (n : ℕ) → ReadsBytes key → ReadsBytes block
    → ReadsBytes (after_rounds (key_words key) block n)
unfolding after_rounds
after_rounds-bytes key block zero k b =
    add_round_key-bytes (round_key (key_words key) 0) block (round_key-bytes key 0 k) b
after_rounds-bytes key block (suc n) k b =
    let words = key_words key in
    let s = shift_rows (sub_bytes (after_rounds words block n)) in
    add_round_key-bytes (round_key words (suc n)) (mix_columns s) (round_key-bytes key (suc n) k)
    (mix_columns-bytes s
    (shift_rows-bytes (sub_bytes (after_rounds words block n)) (sub_bytes-bytes (after_rounds words block n))))

enc-bytes : (key block : List ℕ) → ReadsBytes key → ReadsBytes (enc key block)
unfolding enc cipher
enc-bytes key block k =
    let s = after_rounds (key_words key) block 9 in
    add_round_key-bytes (round_key (key_words key) 10) (shift_rows (sub_bytes s)) (round_key-bytes key 10 k)
    (shift_rows-bytes (sub_bytes s) (sub_bytes-bytes s))

pub length-enc : (key block : List ℕ) → length (enc key block) ≡ 16
unfolding enc cipher add_round_key xor_blocks
length-enc key block = refl

pub length-dec : (key block : List ℕ) → length (dec key block) ≡ 16
unfolding dec inverse_cipher add_round_key xor_blocks
length-dec key block = refl

-- what is encrypted under a block is a block
pub IsBlock-enc : (key block : List ℕ) → IsBlock key → IsBlock (enc key block)
unfolding enc cipher add_round_key xor_blocks
IsBlock-enc key block k = IsBlock-from (enc key block) refl (enc-bytes key block (IsBlock-bytes key k))

pub undone_rounds-bytes : (words : List (List ℕ)) (block : List ℕ) (n : ℕ) → ReadsBytes (undone_rounds words block n)
unfolding undone_rounds
undone_rounds-bytes words block zero = inv_sub_bytes-bytes _
undone_rounds-bytes words block (suc n) = inv_sub_bytes-bytes _

-- what is decrypted under a block is a block
pub IsBlock-dec : (key block : List ℕ) → IsBlock key → IsBlock (dec key block)
unfolding dec inverse_cipher add_round_key xor_blocks
IsBlock-dec key block k =
    IsBlock-from (dec key block) refl
    (add_round_key-bytes (round_key (key_words key) 0) (undone_rounds (key_words key) block 9)
    (round_key-bytes key 0 (IsBlock-bytes key k)) (undone_rounds-bytes (key_words key) block 9))
