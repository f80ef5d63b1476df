-- AES-128 (FIPS 197, section 5). A block is a list of 16 bytes. It fills the state column by column: byte i
-- stands in row i mod 4 and column i div 4.
use Rattle.std.specs.Prelude.{ℕ, zero, suc, ◌+◌, ◌-◌, ◌*◌, ◌/◌, ◌%◌, ◌==◌, if◌then◌else◌, List, [], ◌∷◌, ◌++◌, length}
use Rattle.std.specs.Prelude.{map, slice_index, slice_index_or, bit_xor}
use Rattle.std.specs.List.{range_with_len}
pub use Rattle.basics.specs.Blocks.{block_of, IsBlock, zero_block}
unfoldable pub use Rattle.basics.specs.Blocks.{xor_blocks}
use Rattle.she_aes.specs.Field.{mul, sub_byte, inv_sub_byte}

-- the word with the bytes f 0 to f 3
abbrev pub word_of : (ℕ → ℕ) → List ℕ
word_of f = map f (range_with_len 0 4)

-- ---- the maps of a round (section 5.1)

unfoldable pub add_round_key : List ℕ → List ℕ → List ℕ
add_round_key key s = xor_blocks s key

unfoldable pub sub_bytes : List ℕ → List ℕ
sub_bytes s = block_of (λ i. sub_byte (slice_index s i))

-- the byte in a row, and in a column counted modulo 4
abbrev pub cell : List ℕ → ℕ → ℕ → ℕ
cell s row col = slice_index s (row + 4 * (col % 4))

-- row r moves left by r places
unfoldable pub shift_rows : List ℕ → List ℕ
shift_rows s = block_of (λ i. cell s (i % 4) (i / 4 + i % 4))

-- a column times the circulant matrix whose first row is a b c d
unfoldable pub circulant : ℕ → ℕ → ℕ → ℕ → List ℕ → List ℕ
circulant a b c d column =
    word_of (λ row. bit_xor (bit_xor (mul a (slice_index column row)) (mul b (slice_index column ((row + 1) % 4))))
    (bit_xor (mul c (slice_index column ((row + 2) % 4))) (mul d (slice_index column ((row + 3) % 4)))))

-- the column with this number
abbrev pub column : List ℕ → ℕ → List ℕ
column s col = word_of (λ row. cell s row col)

-- a map of columns, on each column
abbrev pub on_columns : (List ℕ → List ℕ) → List ℕ → List ℕ
on_columns f s = f (column s 0) ++ f (column s 1) ++ f (column s 2) ++ f (column s 3)

unfoldable pub mix_columns : List ℕ → List ℕ
mix_columns s = on_columns (circulant 2 3 1 1) s

-- ---- the key expansion (section 5.2)

unfoldable pub xor_words : List ℕ → List ℕ → List ℕ
xor_words v w = word_of (λ i. bit_xor (slice_index v i) (slice_index w i))

unfoldable pub sub_word : List ℕ → List ℕ
sub_word w = word_of (λ i. sub_byte (slice_index w i))

-- the first byte moves to the end
unfoldable pub rot_word : List ℕ → List ℕ
rot_word w = word_of (λ i. slice_index w ((i + 1) % 4))

-- x to the power n, in the field
unfoldable pub power_of_x : ℕ → ℕ
power_of_x zero = 1
power_of_x (suc n) = mul 2 (power_of_x n)

unfoldable pub rcon : ℕ → List ℕ
rcon i = power_of_x (i - 1) ∷ 0 ∷ 0 ∷ 0 ∷ []

-- what is added to word i - 4 to give word i, if word i - 1 is w
unfoldable pub added_word : ℕ → List ℕ → List ℕ
added_word i w = if i % 4 == 0 then xor_words (sub_word (rot_word w)) (rcon (i / 4)) else w

-- word i of a list of words
abbrev pub word : List (List ℕ) → ℕ → List ℕ
word words i = slice_index_or words i []

-- the word that comes after these words
unfoldable pub next_word : List (List ℕ) → List ℕ
next_word words = xor_words (word words (length words - 4)) (added_word (length words) (word words (length words - 1)))

-- the four words of the key, and n more
unfoldable pub words_up_to : List ℕ → ℕ → List (List ℕ)
words_up_to key zero = map (λ i. word_of (λ j. slice_index key (4 * i + j))) (range_with_len 0 4)
words_up_to key (suc n) = words_up_to key n ++ next_word (words_up_to key n) ∷ []

-- the 44 words of a key
unfoldable pub key_words : List ℕ → List (List ℕ)
key_words key = words_up_to key 40

-- the key of a round: its four words, one after another
unfoldable pub round_key : List (List ℕ) → ℕ → List ℕ
round_key words round = block_of (λ i. slice_index (word words (4 * round + i / 4)) (i % 4))

-- the eleven round keys of a key
unfoldable pub round_keys : List ℕ → List (List ℕ)
round_keys key = map (round_key (key_words key)) (range_with_len 0 11)

-- ---- the cipher (section 5.1)

-- the state after this many of the rounds that have MixColumns
unfoldable pub after_rounds : List (List ℕ) → List ℕ → ℕ → List ℕ
after_rounds words block zero = add_round_key (round_key words 0) block
after_rounds words block (suc n) =
    add_round_key (round_key words (suc n)) (mix_columns (shift_rows (sub_bytes (after_rounds words block n))))

-- the cipher with these 44 words: nine such rounds, and a tenth without MixColumns
unfoldable pub cipher : List (List ℕ) → List ℕ → List ℕ
cipher words block = add_round_key (round_key words 10) (shift_rows (sub_bytes (after_rounds words block 9)))

-- the block encrypted under the key
unfoldable pub enc : List ℕ → List ℕ → List ℕ
enc key block = cipher (key_words key) block

-- ---- decryption (section 5.3)

unfoldable pub inv_sub_bytes : List ℕ → List ℕ
inv_sub_bytes s = block_of (λ i. inv_sub_byte (slice_index s i))

-- row r moves right by r places
unfoldable pub inv_shift_rows : List ℕ → List ℕ
inv_shift_rows s = block_of (λ i. cell s (i % 4) (i / 4 + 4 - i % 4))

unfoldable pub inv_mix_columns : List ℕ → List ℕ
inv_mix_columns s = on_columns (circulant 0x0e 0x0b 0x0d 0x09) s

-- the state with the round without MixColumns undone, and this many of the others
unfoldable pub undone_rounds : List (List ℕ) → List ℕ → ℕ → List ℕ
undone_rounds words block zero = inv_sub_bytes (inv_shift_rows (add_round_key (round_key words 10) block))
undone_rounds words block (suc n) =
    inv_sub_bytes
    (inv_shift_rows (inv_mix_columns (add_round_key (round_key words (9 - n)) (undone_rounds words block n))))

-- the inverse cipher with these 44 words
unfoldable pub inverse_cipher : List (List ℕ) → List ℕ → List ℕ
inverse_cipher words block = add_round_key (round_key words 0) (undone_rounds words block 9)

-- the block decrypted under the key
unfoldable pub dec : List ℕ → List ℕ → List ℕ
dec key block = inverse_cipher (key_words key) block
