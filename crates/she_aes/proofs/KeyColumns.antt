-- The key expansion and the rounds in columns.
use Rattle.std.proofs.Common.{◌≡◌, ℕ, zero, suc, ◌+◌, ◌*◌, ◌%◌, ◌<◌, List, [], ◌∷◌, get_or, slice_index, refl, sym, ap, ◌∙◌, arith, lit<, replicate}
use Rattle.std.proofs.Common.{subst}
use Rattle.std.specs.Int.{w32, to_be_bytes, from_be_bytes}
use Rattle.std.specs.Int.Bits.{bit_xor, xor_lt}
use Rattle.std.proofs.lemmas.List.Elements.{All-cons, All-replicate}
use Rattle.std.proofs.lemmas.List.FromFn.{get_or-map-range_with_len}
use Rattle.basics.specs.Numbers.{number_of}
use Rattle.basics.proofs.CallerLemmas.{from_be_bytes-32}
use Rattle.she_aes.specs.Field.{product, cancelled, remainder, mul, sub_byte}
use Rattle.she_aes.specs.FieldFacts.{sub_byte-lt}
use Rattle.she_aes.specs.ReadBytes.{ReadsBytes}
use Rattle.she_aes.specs.Cipher.{IsBlock, column, xor_words, sub_word, rot_word, power_of_x, key_words, round_key, round_keys, after_rounds, add_round_key, sub_bytes, shift_rows, mix_columns, cipher, enc}
use Rattle.she_aes.proofs.CipherFacts.{IsBlock-bytes, IsBlock-from, power_of_x-lt, after_rounds-bytes, IsBlock-enc}
use Rattle.she_aes.specs.Columns.{in_columns}
use Rattle.she_aes.specs.KeySteps.{next_round_key}
use Rattle.she_aes.specs.RoundKeys.{plain_keys, IsPlainUnder}
use Rattle.she_aes.proofs.KeyPairs.{IsBlock-round_key}
use Rattle.she_aes.proofs.KeyWords.{round_key-zero, get_or-round_keys, next_is}
use Rattle.she_aes.proofs.RoundTables.{word_sum}
use Rattle.she_aes.proofs.ColumnWords.{bytes_again}
use Rattle.she_aes.proofs.RoundSteps.{length-after_rounds}

-- ---- the next round key

sum_bytes : (v w : List ℕ) → ReadsBytes v → ReadsBytes w → ReadsBytes (xor_words v w)
unfolding xor_words
sum_bytes v w h k zero = xor_lt 8 (slice_index v 0) (slice_index w 0) (h 0) (k 0)
sum_bytes v w h k (suc zero) = xor_lt 8 (slice_index v 1) (slice_index w 1) (h 1) (k 1)
sum_bytes v w h k (suc (suc zero)) = xor_lt 8 (slice_index v 2) (slice_index w 2) (h 2) (k 2)
sum_bytes v w h k (suc (suc (suc zero))) = xor_lt 8 (slice_index v 3) (slice_index w 3) (h 3) (k 3)
sum_bytes v w h k (suc (suc (suc (suc i)))) = lit< tt

-- the number of the first four bytes
abbrev number_of_word : List ℕ → ℕ
number_of_word v = number_of (slice_index v 0 ∷ slice_index v 1 ∷ slice_index v 2 ∷ slice_index v 3 ∷ [])

words_sum : (v w : List ℕ) → ReadsBytes v → ReadsBytes w → bit_xor (number_of_word v) (number_of_word w) ≡ number_of_word (xor_words v w)
unfolding xor_words
words_sum v w h k =
    word_sum (slice_index v 0) (slice_index v 1) (slice_index v 2) (slice_index v 3) (slice_index w 0) (slice_index w 1) (slice_index w 2) (slice_index w 3) (h 0) (h 1) (h 2) (h 3) (k 0) (k 1) (k 2) (k 3)

module _ (p : ℕ) (k : List ℕ) (hp : p < 256) (key : IsBlock k) where
  reads : ReadsBytes k
  reads = IsBlock-bytes k key

  of_column : (c : ℕ) → ReadsBytes (column k c)
  of_column c zero = reads (0 + 4 * (c % 4))
  of_column c (suc zero) = reads (1 + 4 * (c % 4))
  of_column c (suc (suc zero)) = reads (2 + 4 * (c % 4))
  of_column c (suc (suc (suc zero))) = reads (3 + 4 * (c % 4))
  of_column c (suc (suc (suc (suc i)))) = lit< tt

  abbrev turned : List ℕ
  turned = sub_word (rot_word (column k 3))

  of_turned : ReadsBytes turned
  unfolding sub_word
  of_turned zero = sub_byte-lt _
  of_turned (suc zero) = sub_byte-lt _
  of_turned (suc (suc zero)) = sub_byte-lt _
  of_turned (suc (suc (suc zero))) = sub_byte-lt _
  of_turned (suc (suc (suc (suc i)))) = lit< tt

  abbrev power : List ℕ
  power = p ∷ 0 ∷ 0 ∷ 0 ∷ []

  of_power : ReadsBytes power
  of_power zero = hp
  of_power (suc zero) = lit< tt
  of_power (suc (suc zero)) = lit< tt
  of_power (suc (suc (suc zero))) = lit< tt
  of_power (suc (suc (suc (suc i)))) = lit< tt

  abbrev w0 : List ℕ
  w0 = xor_words (column k 0) (xor_words turned power)

  abbrev w1 : List ℕ
  w1 = xor_words (column k 1) w0

  abbrev w2 : List ℕ
  w2 = xor_words (column k 2) w1

  abbrev w3 : List ℕ
  w3 = xor_words (column k 3) w2

  pub next_columns : (q t : ℕ) (x : List ℕ) → q ≡ number_of (p ∷ 0 ∷ 0 ∷ 0 ∷ []) → t ≡ number_of (sub_word (rot_word (column k 3))) → x ≡ in_columns k → bit_xor (slice_index x 0) (bit_xor t q) ∷ bit_xor (slice_index x 1) (bit_xor (slice_index x 0) (bit_xor t q)) ∷ bit_xor (slice_index x 2) (bit_xor (slice_index x 1) (bit_xor (slice_index x 0) (bit_xor t q))) ∷ bit_xor (slice_index x 3) (bit_xor (slice_index x 2) (bit_xor (slice_index x 1) (bit_xor (slice_index x 0) (bit_xor t q)))) ∷ [] ≡ in_columns (next_round_key p k)
  unfolding in_columns next_round_key xor_words sub_word rot_word
  next_columns q t x q_is t_is x_is =
      let b0 = sum_bytes turned power of_turned of_power in
      let b1 = sum_bytes (column k 0) (xor_words turned power) (of_column 0) b0 in
      let b2 = sum_bytes (column k 1) w0 (of_column 1) b1 in
      let b3 = sum_bytes (column k 2) w1 (of_column 2) b2 in
      let e0 = words_sum turned power of_turned of_power in
      let e1 = words_sum (column k 0) (xor_words turned power) (of_column 0) b0 in
      let e2 = words_sum (column k 1) w0 (of_column 1) b1 in
      let e3 = words_sum (column k 2) w1 (of_column 2) b2 in
      let e4 = words_sum (column k 3) w2 (of_column 3) b3 in
      let x0 = ap (λ x. slice_index x 0) x_is in
      let x1 = ap (λ x. slice_index x 1) x_is in
      let x2 = ap (λ x. slice_index x 2) x_is in
      let x3 = ap (λ x. slice_index x 3) x_is in
      cc

-- ---- the last column, turned and substituted

turned_block : (a b c d : ℕ) → a < 256 → b < 256 → c < 256 → d < 256 → IsBlock (a ∷ b ∷ c ∷ d ∷ replicate 12 0)
turned_block a b c d la lb lc ld =
    let P : ℕ → Type 0 = λ x. x < 256 in
    let zeros : List ℕ = replicate 12 0 in
    record { size = refl; bytes = All-cons P a (b ∷ c ∷ d ∷ replicate 12 0) la (All-cons P b (c ∷ d ∷ replicate 12 0) lb (All-cons P c (d ∷ replicate 12 0) lc (All-cons P d (replicate 12 0) ld (All-replicate P 12 0 (lit< tt))))) }

pub last_column : (k : List ℕ) → IsBlock k → {x b : List ℕ} → x ≡ in_columns k → b ≡ to_be_bytes w32 (slice_index x 3) → b ≡ slice_index k 12 ∷ slice_index k 13 ∷ slice_index k 14 ∷ slice_index k 15 ∷ []
unfolding in_columns
last_column k key is e =
    let h = IsBlock-bytes k key in
    e ∙ ap (λ x. to_be_bytes w32 (slice_index x 3)) is ∙ bytes_again (slice_index k 12) (slice_index k 13) (slice_index k 14) (slice_index k 15) (h 12) (h 13) (h 14) (h 15)

pub turned_by_box : (k : List ℕ) → IsBlock k → (b : List ℕ) {n : ℕ} {r : List ℕ} → b ≡ slice_index k 12 ∷ slice_index k 13 ∷ slice_index k 14 ∷ slice_index k 15 ∷ [] → n ≡ from_be_bytes w32 (slice_index b 1 ∷ slice_index b 2 ∷ slice_index b 3 ∷ slice_index b 0 ∷ []) → ((s : List ℕ) → IsBlock s → n ∷ 0 ∷ 0 ∷ 0 ∷ [] ≡ in_columns s → r ≡ in_columns (sub_bytes s)) → slice_index r 0 ≡ number_of (sub_word (rot_word (column k 3)))
unfolding in_columns sub_bytes sub_word rot_word number_of
turned_by_box k key b bytes number boxes =
    let h = IsBlock-bytes k key in
    let word = number ∙ from_be_bytes-32 (slice_index b 1 ∷ slice_index b 2 ∷ slice_index b 3 ∷ slice_index b 0 ∷ []) refl ∙ ap (λ b. number_of (slice_index b 1 ∷ slice_index b 2 ∷ slice_index b 3 ∷ slice_index b 0 ∷ [])) bytes in
    let t : List ℕ = slice_index k 13 ∷ slice_index k 14 ∷ slice_index k 15 ∷ slice_index k 12 ∷ replicate 12 0 in
    ap (λ r. slice_index r 0) (boxes t (turned_block (slice_index k 13) (slice_index k 14) (slice_index k 15) (slice_index k 12) (h 13) (h 14) (h 15) (h 12)) (ap (λ n. n ∷ 0 ∷ 0 ∷ 0 ∷ []) word))

pub turned_by_bytes : (k b : List ℕ) {p q r s n : ℕ} → b ≡ slice_index k 12 ∷ slice_index k 13 ∷ slice_index k 14 ∷ slice_index k 15 ∷ [] → p ≡ sub_byte (slice_index b 1) → q ≡ sub_byte (slice_index b 2) → r ≡ sub_byte (slice_index b 3) → s ≡ sub_byte (slice_index b 0) → n ≡ from_be_bytes w32 (p ∷ q ∷ r ∷ s ∷ []) → n ≡ number_of (sub_word (rot_word (column k 3)))
unfolding sub_word rot_word
turned_by_bytes k b {p = p} {q = q} {r = r} {s = s} bytes ep eq er es number =
    let fp = ep ∙ ap (λ b. sub_byte (slice_index b 1)) bytes in
    let fq = eq ∙ ap (λ b. sub_byte (slice_index b 2)) bytes in
    let fr = er ∙ ap (λ b. sub_byte (slice_index b 3)) bytes in
    let fs = es ∙ ap (λ b. sub_byte (slice_index b 0)) bytes in
    number ∙ from_be_bytes-32 (p ∷ q ∷ r ∷ s ∷ []) refl ∙ (cc)

-- ---- all round keys

ten_same : {a b c d e f g h i j k l m n o p q r s t : List ℕ} → a ≡ k → b ≡ l → c ≡ m → d ≡ n → e ≡ o → f ≡ p → g ≡ q → h ≡ r → i ≡ s → j ≡ t → a ∷ b ∷ c ∷ d ∷ e ∷ f ∷ g ∷ h ∷ i ∷ j ∷ [] ≡ k ∷ l ∷ m ∷ n ∷ o ∷ p ∷ q ∷ r ∷ s ∷ t ∷ []
ten_same e0 e1 e2 e3 e4 e5 e6 e7 e8 e9 = cc

abbrev pub IsNext : ℕ → List ℕ → List ℕ → Type 0
IsNext q x y =
    (p : ℕ) (k : List ℕ) → p < 256 → IsBlock k → q ≡ number_of (p ∷ 0 ∷ 0 ∷ 0 ∷ []) → x ≡ in_columns k → y ≡ in_columns (next_round_key p k)

abbrev pub AreBytes : List ℕ → List ℕ → Type 0
AreBytes x b = (s : List ℕ) → IsBlock s → x ≡ in_columns s → b ≡ s

module _ (key : List ℕ) (block : IsBlock key) where
  abbrev rk : ℕ → List ℕ
  rk r = round_key (key_words key) r

  more : (r : ℕ) → r < 10 → {q : ℕ} {x y : List ℕ} → q ≡ number_of (power_of_x r ∷ 0 ∷ 0 ∷ 0 ∷ []) → IsNext q x y → x ≡ in_columns (rk r) → y ≡ in_columns (rk (r + 1))
  more r h power next is =
      next (power_of_x r) (rk r) (power_of_x-lt r) (IsBlock-round_key key block r) power is ∙ ap in_columns (next_is key r h)

  pub keys_in_turn : {k0 k1 k2 k3 k4 k5 k6 k7 k8 k9 k10 b1 b2 b3 b4 b5 b6 b7 b8 b9 b10 : List ℕ} → k0 ≡ in_columns key → IsNext 0x01000000 k0 k1 → IsNext 0x02000000 k1 k2 → IsNext 0x04000000 k2 k3 → IsNext 0x08000000 k3 k4 → IsNext 0x10000000 k4 k5 → IsNext 0x20000000 k5 k6 → IsNext 0x40000000 k6 k7 → IsNext 0x80000000 k7 k8 → IsNext 0x1b000000 k8 k9 → IsNext 0x36000000 k9 k10 → AreBytes k1 b1 → AreBytes k2 b2 → AreBytes k3 b3 → AreBytes k4 b4 → AreBytes k5 b5 → AreBytes k6 b6 → AreBytes k7 b7 → AreBytes k8 b8 → AreBytes k9 b9 → AreBytes k10 b10 → b1 ∷ b2 ∷ b3 ∷ b4 ∷ b5 ∷ b6 ∷ b7 ∷ b8 ∷ b9 ∷ b10 ∷ [] ≡ plain_keys key
  unfolding product cancelled remainder mul power_of_x number_of plain_keys
  keys_in_turn e0 n1 n2 n3 n4 n5 n6 n7 n8 n9 n10 a1 a2 a3 a4 a5 a6 a7 a8 a9 a10 =
      let h0 = e0 ∙ ap in_columns (sym (round_key-zero key block.size)) in
      let h1 = more 0 (lit< tt) refl n1 h0 in
      let h2 = more 1 (lit< tt) refl n2 h1 in
      let h3 = more 2 (lit< tt) refl n3 h2 in
      let h4 = more 3 (lit< tt) refl n4 h3 in
      let h5 = more 4 (lit< tt) refl n5 h4 in
      let h6 = more 5 (lit< tt) refl n6 h5 in
      let h7 = more 6 (lit< tt) refl n7 h6 in
      let h8 = more 7 (lit< tt) refl n8 h7 in
      let h9 = more 8 (lit< tt) refl n9 h8 in
      let h10 = more 9 (lit< tt) refl n10 h9 in
      ten_same (a1 (rk 1) (IsBlock-round_key key block 1) h1) (a2 (rk 2) (IsBlock-round_key key block 2) h2) (a3 (rk 3) (IsBlock-round_key key block 3) h3) (a4 (rk 4) (IsBlock-round_key key block 4) h4) (a5 (rk 5) (IsBlock-round_key key block 5) h5) (a6 (rk 6) (IsBlock-round_key key block 6) h6) (a7 (rk 7) (IsBlock-round_key key block 7) h7) (a8 (rk 8) (IsBlock-round_key key block 8) h8) (a9 (rk 9) (IsBlock-round_key key block 9) h9) (a10 (rk 10) (IsBlock-round_key key block 10) h10)

-- ---- the rounds

abbrev pub IsRound : List ℕ → List ℕ → List ℕ → Type 0
IsRound key x y =
    (s : List ℕ) → IsBlock s → IsBlock key → x ≡ in_columns s → y ≡ in_columns (add_round_key key (mix_columns (shift_rows (sub_bytes s))))

abbrev pub IsLastRound : List ℕ → List ℕ → List ℕ → Type 0
IsLastRound key x y =
    (s : List ℕ) → IsBlock s → IsBlock key → x ≡ in_columns s → y ≡ in_columns (add_round_key key (shift_rows (sub_bytes s)))

module _ (key block : List ℕ) (rounds : List (List ℕ)) (are : IsPlainUnder key rounds) where
  pub plain_at : (n : ℕ) → n < 10 → get_or rounds n [] ≡ round_key (key_words key) (suc n)
  unfolding plain_keys
  plain_at n h =
      ap (λ ks. get_or ks n []) are.of_key ∙ get_or-map-range_with_len (round_key (key_words key)) 1 10 n (suc n) [] h (omega arith)

  -- a round key of the list that the inverse takes
  pub plain_key : (n : ℕ) → n < 10 → get_or rounds n [] ≡ get_or (round_keys key) (suc n) []
  plain_key n h = plain_at n h ∙ sym (get_or-round_keys key (suc n) (omega arith))

  pub first_state : add_round_key key block ≡ after_rounds (key_words key) block 0
  unfolding after_rounds
  first_state = ap (λ k. add_round_key k block) (sym (round_key-zero key are.key_is_block.size))

  -- a round over bytes
  pub round_more : (s next : List ℕ) (n : ℕ) → n < 9 → next ≡ add_round_key (get_or rounds n []) (mix_columns (shift_rows (sub_bytes s))) → s ≡ after_rounds (key_words key) block n → next ≡ after_rounds (key_words key) block (n + 1)
  unfolding after_rounds
  round_more s next n h e so_far =
      let this : n + 1 ≡ suc n = omega arith in
      rw (this, sym so_far, sym (plain_at n (omega arith))) e

  pub round_last : (s out : List ℕ) → out ≡ add_round_key (get_or rounds 9 []) (shift_rows (sub_bytes s)) → s ≡ after_rounds (key_words key) block 9 → out ≡ enc key block
  unfolding cipher enc
  round_last s out e so_far = rw (sym so_far, sym (plain_at 9 (lit< tt))) e

  -- the rounds in columns
  module _ (of_block : IsBlock block) where
    after : (n : ℕ) → IsBlock (after_rounds (key_words key) block n)
    after n =
        IsBlock-from (after_rounds (key_words key) block n) (length-after_rounds (key_words key) block n) (after_rounds-bytes key block n (IsBlock-bytes key are.key_is_block) (IsBlock-bytes block of_block))

    more_round : (n : ℕ) → n < 9 → {x y : List ℕ} → IsRound (get_or rounds n []) x y → x ≡ in_columns (after_rounds (key_words key) block n) → y ≡ in_columns (after_rounds (key_words key) block (suc n))
    unfolding after_rounds
    more_round n h round so_far =
        let at = plain_at n (omega arith) in
        let is_key = subst IsBlock (sym at) (IsBlock-round_key key are.key_is_block (suc n)) in
        round (after_rounds (key_words key) block n) (after n) is_key so_far
        ∙ ap (λ k. in_columns (add_round_key k (mix_columns (shift_rows (sub_bytes (after_rounds (key_words key) block n)))))) at

    pub all_in_columns : {s0 s1 s2 s3 s4 s5 s6 s7 s8 s9 s10 b : List ℕ} → s0 ≡ in_columns (add_round_key key block) → IsRound (get_or rounds 0 []) s0 s1 → IsRound (get_or rounds 1 []) s1 s2 → IsRound (get_or rounds 2 []) s2 s3 → IsRound (get_or rounds 3 []) s3 s4 → IsRound (get_or rounds 4 []) s4 s5 → IsRound (get_or rounds 5 []) s5 s6 → IsRound (get_or rounds 6 []) s6 s7 → IsRound (get_or rounds 7 []) s7 s8 → IsRound (get_or rounds 8 []) s8 s9 → IsLastRound (get_or rounds 9 []) s9 s10 → AreBytes s10 b → b ≡ enc key block
    unfolding cipher enc after_rounds
    all_in_columns first e0 e1 e2 e3 e4 e5 e6 e7 e8 last bytes =
        let h0 = first ∙ ap (λ k. in_columns (add_round_key k block)) (sym (round_key-zero key are.key_is_block.size)) in
        let h1 = more_round 0 (lit< tt) e0 h0 in
        let h2 = more_round 1 (lit< tt) e1 h1 in
        let h3 = more_round 2 (lit< tt) e2 h2 in
        let h4 = more_round 3 (lit< tt) e3 h3 in
        let h5 = more_round 4 (lit< tt) e4 h4 in
        let h6 = more_round 5 (lit< tt) e5 h5 in
        let h7 = more_round 6 (lit< tt) e6 h6 in
        let h8 = more_round 7 (lit< tt) e7 h7 in
        let h9 = more_round 8 (lit< tt) e8 h8 in
        let at = plain_at 9 (lit< tt) in
        let is_key = subst IsBlock (sym at) (IsBlock-round_key key are.key_is_block 10) in
        let end = last (after_rounds (key_words key) block 9) (after 9) is_key h9 ∙ ap (λ k. in_columns (add_round_key k (shift_rows (sub_bytes (after_rounds (key_words key) block 9))))) at in
        bytes (enc key block) (IsBlock-enc key block are.key_is_block) end
