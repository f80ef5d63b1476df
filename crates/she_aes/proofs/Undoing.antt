-- Decryption undoes encryption, and the other way round.
use Rattle.std.proofs.Common.{◌≡◌, ℕ, zero, suc, ◌-◌, ◌<◌, ◌≤◌, List, length, slice_index, refl, sym, ap, ◌∙◌, arith, lit≤}
use Rattle.std.specs.Int.Bits.{bit_xor, xor_assoc, xor_self, xor_zero_r}
use Rattle.std.proofs.lemmas.List.FromFn.{fill_by_all, get_or-map-range_with_len}
use Rattle.she_aes.specs.Field.{sub_byte, inv_sub_byte}
use Rattle.she_aes.specs.Cipher.{block_of, IsBlock, xor_blocks, add_round_key, sub_bytes, shift_rows, circulant, mix_columns, key_words, round_key, after_rounds, cipher, enc, inv_sub_bytes, inv_shift_rows, inv_mix_columns, undone_rounds, inverse_cipher, dec}
use Rattle.she_aes.specs.ReadBytes.{ReadsBytes}
use Rattle.she_aes.proofs.CipherFacts.{block_of_self, IsBlock-bytes, add_round_key-bytes, sub_bytes-bytes, shift_rows-bytes, inv_shift_rows-bytes, inv_mix_columns-bytes, round_key-bytes, after_rounds-bytes, undone_rounds-bytes}
use Rattle.she_aes.proofs.SBoxFacts.{inv_sub_byte-sub_byte, sub_byte-inv_sub_byte}
use Rattle.she_aes.proofs.Mixing.{inv_mix_columns-mix_columns, mix_columns-inv_mix_columns}

-- ---- each map of a round

-- a block by its bytes
by_bytes : (f : ℕ → ℕ) (s : List ℕ) → length s ≡ 16 → ((i : ℕ) → i < 16 → f i ≡ slice_index s i) → block_of f ≡ s
by_bytes f s long each = sym (fill_by_all f s 16 0 long (λ i h. sym (each i h)))

byte_of : (f : ℕ → ℕ) (i : ℕ) → i < 16 → slice_index (block_of f) i ≡ f i
byte_of f i h = get_or-map-range_with_len f 0 16 i i 0 h (omega arith)

xor_twice : (a b : ℕ) → bit_xor (bit_xor a b) b ≡ a
xor_twice a b = xor_assoc a b b ∙ ap (λ t. bit_xor a t) (xor_self b) ∙ xor_zero_r a

pub xor_blocks-xor_blocks : (s t : List ℕ) → length s ≡ 16 → xor_blocks (xor_blocks s t) t ≡ s
unfolding xor_blocks
xor_blocks-xor_blocks s t long =
    by_bytes _ s long (λ i h. ap (λ b. bit_xor b (slice_index t i)) (byte_of (λ i. bit_xor (slice_index s i) (slice_index t i)) i h) ∙ xor_twice (slice_index s i) (slice_index t i))

add_round_key-twice : (key s : List ℕ) → length s ≡ 16 → add_round_key key (add_round_key key s) ≡ s
unfolding add_round_key
add_round_key-twice key s long = xor_blocks-xor_blocks s key long

inv_sub_bytes-sub_bytes : (s : List ℕ) → length s ≡ 16 → ReadsBytes s → inv_sub_bytes (sub_bytes s) ≡ s
unfolding inv_sub_bytes sub_bytes
inv_sub_bytes-sub_bytes s long bytes =
    by_bytes (λ i. inv_sub_byte (slice_index (block_of (λ i. sub_byte (slice_index s i))) i)) s long (λ i h. ap inv_sub_byte (byte_of (λ i. sub_byte (slice_index s i)) i h) ∙ inv_sub_byte-sub_byte (slice_index s i) (bytes i))

sub_bytes-inv_sub_bytes : (s : List ℕ) → length s ≡ 16 → ReadsBytes s → sub_bytes (inv_sub_bytes s) ≡ s
unfolding inv_sub_bytes sub_bytes
sub_bytes-inv_sub_bytes s long bytes =
    by_bytes (λ i. sub_byte (slice_index (block_of (λ i. inv_sub_byte (slice_index s i))) i)) s long (λ i h. ap sub_byte (byte_of (λ i. inv_sub_byte (slice_index s i)) i h) ∙ sub_byte-inv_sub_byte (slice_index s i) (bytes i))

inv_shift_rows-shift_rows : (s : List ℕ) → length s ≡ 16 → inv_shift_rows (shift_rows s) ≡ s
unfolding inv_shift_rows shift_rows
inv_shift_rows-shift_rows s long = block_of_self s long

shift_rows-inv_shift_rows : (s : List ℕ) → length s ≡ 16 → shift_rows (inv_shift_rows s) ≡ s
unfolding inv_shift_rows shift_rows
shift_rows-inv_shift_rows s long = block_of_self s long

-- ---- a round

length-add_round_key : (key s : List ℕ) → length (add_round_key key s) ≡ 16
unfolding add_round_key xor_blocks
length-add_round_key key s = refl

length-sub_bytes : (s : List ℕ) → length (sub_bytes s) ≡ 16
unfolding sub_bytes
length-sub_bytes s = refl

length-inv_sub_bytes : (s : List ℕ) → length (inv_sub_bytes s) ≡ 16
unfolding inv_sub_bytes
length-inv_sub_bytes s = refl

length-shift_rows : (s : List ℕ) → length (shift_rows s) ≡ 16
unfolding shift_rows
length-shift_rows s = refl

length-inv_shift_rows : (s : List ℕ) → length (inv_shift_rows s) ≡ 16
unfolding inv_shift_rows
length-inv_shift_rows s = refl

length-mix_columns : (s : List ℕ) → length (mix_columns s) ≡ 16
unfolding mix_columns circulant
length-mix_columns s = refl

length-inv_mix_columns : (s : List ℕ) → length (inv_mix_columns s) ≡ 16
unfolding inv_mix_columns circulant
length-inv_mix_columns s = refl

-- a round whose key is k, of a state s
module _ (k s : List ℕ) (long : length s ≡ 16) (bytes : ReadsBytes s) where
  substitution_undone : inv_sub_bytes (inv_shift_rows (shift_rows (sub_bytes s))) ≡ s
  substitution_undone =
      ap inv_sub_bytes (inv_shift_rows-shift_rows (sub_bytes s) (length-sub_bytes s)) ∙ inv_sub_bytes-sub_bytes s long bytes

  round_undone : inv_sub_bytes (inv_shift_rows (inv_mix_columns (add_round_key k (add_round_key k (mix_columns (shift_rows (sub_bytes s))))))) ≡ s
  round_undone =
      let shifted = shift_rows (sub_bytes s) in
      ap (λ t. inv_sub_bytes (inv_shift_rows (inv_mix_columns t))) (add_round_key-twice k (mix_columns shifted) (length-mix_columns shifted)) ∙ ap (λ t. inv_sub_bytes (inv_shift_rows t)) (inv_mix_columns-mix_columns shifted (length-shift_rows (sub_bytes s)) (shift_rows-bytes (sub_bytes s) (sub_bytes-bytes s))) ∙ substitution_undone

  last_undone : inv_sub_bytes (inv_shift_rows (add_round_key k (add_round_key k (shift_rows (sub_bytes s))))) ≡ s
  last_undone =
      ap (λ t. inv_sub_bytes (inv_shift_rows t)) (add_round_key-twice k (shift_rows (sub_bytes s)) (length-shift_rows (sub_bytes s))) ∙ substitution_undone

  substitution_redone : shift_rows (sub_bytes (inv_sub_bytes (inv_shift_rows s))) ≡ s
  substitution_redone =
      ap shift_rows (sub_bytes-inv_sub_bytes (inv_shift_rows s) (length-inv_shift_rows s) (inv_shift_rows-bytes s bytes)) ∙ shift_rows-inv_shift_rows s long

last_redone : (k s : List ℕ) → length s ≡ 16 → ReadsBytes s → ReadsBytes k → add_round_key k (shift_rows (sub_bytes (inv_sub_bytes (inv_shift_rows (add_round_key k s))))) ≡ s
last_redone k s long bytes key_bytes =
    let keyed = add_round_key k s in
    ap (λ t. add_round_key k t) (substitution_redone k keyed (length-add_round_key k s) (add_round_key-bytes k s key_bytes bytes)) ∙ add_round_key-twice k s long

round_redone : (k s : List ℕ) → length s ≡ 16 → ReadsBytes s → ReadsBytes k → add_round_key k (mix_columns (shift_rows (sub_bytes (inv_sub_bytes (inv_shift_rows (inv_mix_columns (add_round_key k s))))))) ≡ s
round_redone k s long bytes key_bytes =
    let keyed = add_round_key k s in
    let keyed_bytes = add_round_key-bytes k s key_bytes bytes in
    ap (λ t. add_round_key k (mix_columns t)) (substitution_redone k (inv_mix_columns keyed) (length-inv_mix_columns keyed) (inv_mix_columns-bytes keyed keyed_bytes)) ∙ ap (λ t. add_round_key k t) (mix_columns-inv_mix_columns keyed (length-add_round_key k s) keyed_bytes) ∙ add_round_key-twice k s long

-- ---- the cipher

length-after_rounds : (words : List (List ℕ)) (block : List ℕ) (n : ℕ) → length (after_rounds words block n) ≡ 16
unfolding after_rounds
length-after_rounds words block zero = length-add_round_key _ _
length-after_rounds words block (suc n) = length-add_round_key _ _

length-undone_rounds : (words : List (List ℕ)) (block : List ℕ) (n : ℕ) → length (undone_rounds words block n) ≡ 16
unfolding undone_rounds
length-undone_rounds words block zero = length-inv_sub_bytes _
length-undone_rounds words block (suc n) = length-inv_sub_bytes _

module _ (key block : List ℕ) (k : IsBlock key) (b : IsBlock block) where
  -- the rounds of a block's ciphertext, undone from the end on, are those of the block
  rounds_undone : (n : ℕ) → n ≤ 9 → undone_rounds (key_words key) (cipher (key_words key) block) n ≡ after_rounds (key_words key) block (9 - n)
  unfolding undone_rounds after_rounds cipher
  rounds_undone zero h =
      let words = key_words key in
      last_undone (round_key words 10) (after_rounds words block 9) (length-after_rounds words block 9) (after_rounds-bytes key block 9 (IsBlock-bytes key k) (IsBlock-bytes block b))
  rounds_undone (suc n) h =
      let words = key_words key in
      let here : 9 - n ≡ suc (8 - n) = omega arith in
      let next : 9 - suc n ≡ 8 - n = omega arith in
      rw (rounds_undone n (omega arith), here, next) (round_undone (round_key words (suc (8 - n))) (after_rounds words block (8 - n)) (length-after_rounds words block (8 - n)) (after_rounds-bytes key block (8 - n) (IsBlock-bytes key k) (IsBlock-bytes block b)))

  pub dec-enc : dec key (enc key block) ≡ block
  unfolding dec enc inverse_cipher after_rounds
  dec-enc =
      let words = key_words key in
      ap (λ t. add_round_key (round_key words 0) t) (rounds_undone 9 (lit≤ tt)) ∙ add_round_key-twice (round_key words 0) block b.size

  -- the rounds of a block's decryption are those of the block, undone from the end on
  rounds_redone : (n : ℕ) → n ≤ 9 → after_rounds (key_words key) (inverse_cipher (key_words key) block) n ≡ undone_rounds (key_words key) block (9 - n)
  unfolding undone_rounds after_rounds inverse_cipher
  rounds_redone zero h =
      let words = key_words key in
      add_round_key-twice (round_key words 0) (undone_rounds words block 9) (length-undone_rounds words block 9)
  rounds_redone (suc n) h =
      let words = key_words key in
      let here : 9 - n ≡ suc (8 - n) = omega arith in
      let same : 9 - (8 - n) ≡ suc n = omega arith in
      let next : 9 - suc n ≡ 8 - n = omega arith in
      rw (rounds_redone n (omega arith), here, same, next) (round_redone (round_key words (suc n)) (undone_rounds words block (8 - n)) (length-undone_rounds words block (8 - n)) (undone_rounds-bytes words block (8 - n)) (round_key-bytes key (suc n) (IsBlock-bytes key k)))

  pub enc-dec : enc key (dec key block) ≡ block
  unfolding dec enc cipher undone_rounds
  enc-dec =
      let words = key_words key in
      ap (λ t. add_round_key (round_key words 10) (shift_rows (sub_bytes t))) (rounds_redone 9 (lit≤ tt)) ∙ last_redone (round_key words 10) block b.size (IsBlock-bytes block b) (round_key-bytes key 10 (IsBlock-bytes key k))
