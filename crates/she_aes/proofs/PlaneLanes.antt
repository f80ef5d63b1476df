-- SubBytes by planes: each lane has the bits of a byte, and what the circuits give has those of its S-box.
use Rattle.std.proofs.Common.{◌≡◌, ℕ, zero, suc, ◌+◌, ◌-◌, ◌*◌, ◌/◌, ◌%◌, ◌^◌, ◌<◌, List, [], ◌∷◌, length, slice_index, sym, ap, ◌∙◌, arith, lit<}
use Rattle.std.specs.Int.{bit_at}
use Rattle.std.specs.Int.Bits.{bit_xor, xor_lt}
use Rattle.std.proofs.lemmas.List.{ext_get_or, length-map}
use Rattle.std.proofs.lemmas.List.FromFn.{get_or-map-range_with_len}
use Rattle.std.proofs.lemmas.Nat.Bits.{same_from_bits_below}
use Rattle.basics.specs.Numbers.{number_of}
use Rattle.she_aes.specs.Field.{sub_byte}
use Rattle.she_aes.specs.Cipher.{IsBlock, sub_bytes}
use Rattle.she_aes.proofs.CipherFacts.{IsBlock-bytes, sub_bytes-bytes}
use Rattle.she_aes.specs.Columns.{in_columns}
use Rattle.she_aes.specs.ReadBytes.{ReadsBytes}
use Rattle.she_aes.specs.Gates.{substituted_bits}
use Rattle.she_aes.proofs.BitWords.{bit_of_sum, bit_of_right}
use Rattle.she_aes.proofs.GateLanes.{lane, bit_of_lane, box_lane, bits_of_byte, box_bit}
use Rattle.she_aes.proofs.ColumnWords.{number_bit, state_bit, column_fits}

-- in each nibble of four words, bit i of word j goes to bit j of word i
abbrev pub IsTurned : List ℕ → List ℕ → Type 0
IsTurned before after =
    (q i j : ℕ) → q < 8 → i < 4 → j < 4 → bit_at (slice_index after i) (4 * q + j) ≡ bit_at (slice_index before j) (4 * q + i)

abbrev pub ArePlanes : List ℕ → List ℕ → Type 0
ArePlanes columns planes =
    (r c k : ℕ) → r < 4 → c < 4 → k < 8 → bit_at (slice_index planes k) (8 * r + c) ≡ bit_at (slice_index columns c) (8 * r + k)

abbrev pub AreColumns : List ℕ → List ℕ → Type 0
AreColumns planes columns =
    (r c k : ℕ) → r < 4 → c < 4 → k < 8 → bit_at (slice_index columns c) (8 * r + k) ≡ bit_at (slice_index planes k) (8 * r + c)

-- ---- the planes

module _ (x t : List ℕ) (turned : IsTurned x t) (r c : ℕ) (hr : r < 4) (hc : c < 4) where
  low_plane : (i : ℕ) → i < 4 → bit_at (slice_index t i) (8 * r + c) ≡ bit_at (slice_index x c) (8 * r + i)
  low_plane i hi =
      let there : 8 * r + c ≡ 4 * (2 * r) + c = omega arith in
      let here : 4 * (2 * r) + i ≡ 8 * r + i = omega arith in
      ap (bit_at (slice_index t i)) there ∙ turned (2 * r) i c (omega arith) hi hc ∙ ap (bit_at (slice_index x c)) here

  high_plane : (i : ℕ) → i < 4 → bit_at (slice_index t i / 2 ^ 4) (8 * r + c) ≡ bit_at (slice_index x c) (8 * r + (4 + i))
  high_plane i hi =
      let there : 4 + (8 * r + c) ≡ 4 * (2 * r + 1) + c = omega arith in
      let here : 4 * (2 * r + 1) + i ≡ 8 * r + (4 + i) = omega arith in
      bit_of_right (slice_index t i) 4 (8 * r + c)
      ∙ ap (bit_at (slice_index t i)) there ∙ turned (2 * r + 1) i c (omega arith) hi hc ∙ ap (bit_at (slice_index x c)) here

  pub plane_bit : (k : ℕ) → k < 8 → bit_at (slice_index (slice_index t 0 ∷ slice_index t 1 ∷ slice_index t 2 ∷ slice_index t 3 ∷ slice_index t 0 / 2 ^ 4 ∷ slice_index t 1 / 2 ^ 4 ∷ slice_index t 2 / 2 ^ 4 ∷ slice_index t 3 / 2 ^ 4 ∷ []) k) (8 * r + c) ≡ bit_at (slice_index x c) (8 * r + k)
  plane_bit zero h = low_plane 0 (lit< tt)
  plane_bit (suc zero) h = low_plane 1 (lit< tt)
  plane_bit (suc (suc zero)) h = low_plane 2 (lit< tt)
  plane_bit (suc (suc (suc zero))) h = low_plane 3 (lit< tt)
  plane_bit (suc (suc (suc (suc zero)))) h = high_plane 0 (lit< tt)
  plane_bit (suc (suc (suc (suc (suc zero))))) h = high_plane 1 (lit< tt)
  plane_bit (suc (suc (suc (suc (suc (suc zero)))))) h = high_plane 2 (lit< tt)
  plane_bit (suc (suc (suc (suc (suc (suc (suc zero))))))) h = high_plane 3 (lit< tt)
  plane_bit (suc (suc (suc (suc (suc (suc (suc (suc k)))))))) h = absurd (omega arith)

-- ---- and back

abbrev HasNibbles : ℕ → ℕ → ℕ → Type 0
HasNibbles low high n =
    ((r c : ℕ) → r < 4 → c < 4 → bit_at n (8 * r + c) ≡ bit_at low (8 * r + c)) × ((r c : ℕ) → r < 4 → c < 4 → bit_at n (8 * r + 4 + c) ≡ bit_at high (8 * r + c))

module _ (p : List ℕ) (a b c d : ℕ) (ha : HasNibbles (slice_index p 0) (slice_index p 4) a) (hb : HasNibbles (slice_index p 1) (slice_index p 5) b) (hc : HasNibbles (slice_index p 2) (slice_index p 6) c) (hd : HasNibbles (slice_index p 3) (slice_index p 7) d) (t : List ℕ) (turned : IsTurned (a ∷ b ∷ c ∷ d ∷ []) t) where
  module _ (r i : ℕ) (hr : r < 4) (hi : i < 4) where
    low_column : (j : ℕ) → j < 4 → bit_at (slice_index t i) (8 * r + j) ≡ bit_at (slice_index (a ∷ b ∷ c ∷ d ∷ []) j) (8 * r + i)
    low_column j hj =
        let there : 8 * r + j ≡ 4 * (2 * r) + j = omega arith in
        let here : 4 * (2 * r) + i ≡ 8 * r + i = omega arith in
        ap (bit_at (slice_index t i)) there ∙ turned (2 * r) i j (omega arith) hi hj ∙ ap (bit_at (slice_index (a ∷ b ∷ c ∷ d ∷ []) j)) here

    high_column : (j : ℕ) → j < 4 → bit_at (slice_index t i) (8 * r + (4 + j)) ≡ bit_at (slice_index (a ∷ b ∷ c ∷ d ∷ []) j) (8 * r + 4 + i)
    high_column j hj =
        let there : 8 * r + (4 + j) ≡ 4 * (2 * r + 1) + j = omega arith in
        let here : 4 * (2 * r + 1) + i ≡ 8 * r + 4 + i = omega arith in
        ap (bit_at (slice_index t i)) there ∙ turned (2 * r + 1) i j (omega arith) hi hj ∙ ap (bit_at (slice_index (a ∷ b ∷ c ∷ d ∷ []) j)) here

    column_bit : (k : ℕ) → k < 8 → bit_at (slice_index t i) (8 * r + k) ≡ bit_at (slice_index p k) (8 * r + i)
    column_bit zero h = low_column 0 (lit< tt) ∙ ha.0 r i hr hi
    column_bit (suc zero) h = low_column 1 (lit< tt) ∙ hb.0 r i hr hi
    column_bit (suc (suc zero)) h = low_column 2 (lit< tt) ∙ hc.0 r i hr hi
    column_bit (suc (suc (suc zero))) h = low_column 3 (lit< tt) ∙ hd.0 r i hr hi
    column_bit (suc (suc (suc (suc zero)))) h = high_column 0 (lit< tt) ∙ ha.1 r i hr hi
    column_bit (suc (suc (suc (suc (suc zero))))) h = high_column 1 (lit< tt) ∙ hb.1 r i hr hi
    column_bit (suc (suc (suc (suc (suc (suc zero)))))) h = high_column 2 (lit< tt) ∙ hc.1 r i hr hi
    column_bit (suc (suc (suc (suc (suc (suc (suc zero))))))) h = high_column 3 (lit< tt) ∙ hd.1 r i hr hi
    column_bit (suc (suc (suc (suc (suc (suc (suc (suc k)))))))) h = absurd (omega arith)

  pub are_columns : AreColumns p t
  are_columns r i k hr hi hk = column_bit r i hr hi k hk

-- ---- SubBytes

constant_bit : (r k : ℕ) → r < 4 → k < 8 → bit_at 0x63636363 (8 * r + k) ≡ bit_at 0x63 k
unfolding number_of
constant_bit zero k hr hk = number_bit 0x63 0x63 0x63 0x63 (lit< tt) (lit< tt) (lit< tt) (lit< tt) 0 k (lit< tt) hk
constant_bit (suc zero) k hr hk = number_bit 0x63 0x63 0x63 0x63 (lit< tt) (lit< tt) (lit< tt) (lit< tt) 1 k (lit< tt) hk
constant_bit (suc (suc zero)) k hr hk = number_bit 0x63 0x63 0x63 0x63 (lit< tt) (lit< tt) (lit< tt) (lit< tt) 2 k (lit< tt) hk
constant_bit (suc (suc (suc zero))) k hr hk = number_bit 0x63 0x63 0x63 0x63 (lit< tt) (lit< tt) (lit< tt) (lit< tt) 3 k (lit< tt) hk
constant_bit (suc (suc (suc (suc r)))) k hr hk = absurd (omega arith)

module _ (s x z b o : List ℕ) (block : IsBlock s) (is : x ≡ in_columns s) (long : length z ≡ 8) (planes : ArePlanes x z) (boxed : b ≡ substituted_bits z) (columns : AreColumns b o) where
  reads : ReadsBytes s
  reads = IsBlock-bytes s block

  module _ (r c : ℕ) (hr : r < 4) (hc : c < 4) where
    -- the byte in this row, counted from the lowest, and column
    abbrev byte : ℕ
    byte = slice_index s (4 * c + (3 - r))

    byte_of_lane : lane (8 * r + c) z ≡ bits_of_byte byte
    byte_of_lane =
        ext_get_or 0 (lane (8 * r + c) z) (bits_of_byte byte) (length-map z (λ n. bit_at n (8 * r + c)) ∙ long) (λ k h.
        let within : k < 8 = omega (arith, length-map z (λ n. bit_at n (8 * r + c)), long) in
        bit_of_lane (8 * r + c) z k ∙ planes r c k hr hc within
        ∙ ap (λ y. bit_at (slice_index y c) (8 * r + k)) is ∙ state_bit s reads r c k hr hc within
        ∙ sym (get_or-map-range_with_len (bit_at byte) 0 8 k k 0 within (omega arith)))

    box_of_lane : (k : ℕ) → k < 8 → bit_at (slice_index o c) (8 * r + k) ≡ slice_index (substituted_bits (bits_of_byte byte)) k
    box_of_lane k hk =
        columns r c k hr hc hk ∙ ap (λ y. bit_at (slice_index y k) (8 * r + c)) boxed
        ∙ sym (bit_of_lane (8 * r + c) (substituted_bits z) k)
        ∙ ap (λ y. slice_index y k) (sym (box_lane (8 * r + c) z) ∙ ap substituted_bits byte_of_lane)

    box_with_constant : (k : ℕ) → k < 8 → bit_at (bit_xor (slice_index o c) 0x63636363) (8 * r + k) ≡ bit_at (slice_index (in_columns (sub_bytes s)) c) (8 * r + k)
    unfolding sub_bytes
    box_with_constant k hk =
        bit_of_sum (slice_index o c) 0x63636363 (8 * r + k)
        ∙ ap (λ y. bit_xor y (bit_at 0x63636363 (8 * r + k))) (box_of_lane k hk)
        ∙ ap (bit_xor (slice_index (substituted_bits (bits_of_byte byte)) k)) (constant_bit r k hr hk)
        ∙ box_bit byte k (reads (4 * c + (3 - r))) hk
        ∙ ap (λ y. bit_at y k) (sym (get_or-map-range_with_len (λ i. sub_byte (slice_index s i)) 0 16 (4 * c + (3 - r)) (4 * c + (3 - r)) 0 (omega arith) (omega arith)))
        ∙ sym (state_bit (sub_bytes s) (sub_bytes-bytes s) r c k hr hc hk)

  column_is : (c : ℕ) → c < 4 → slice_index o c < 2 ^ 32 → bit_xor (slice_index o c) 0x63636363 ≡ slice_index (in_columns (sub_bytes s)) c
  column_is c hc fits =
      same_from_bits_below 32 (bit_xor (slice_index o c) 0x63636363) (slice_index (in_columns (sub_bytes s)) c) (xor_lt 32 (slice_index o c) 0x63636363 fits (lit< tt)) (column_fits (sub_bytes s) (sub_bytes-bytes s) c hc) (λ p h.
      let place : p ≡ 8 * (p / 8) + p % 8 = omega arith in
      ap (bit_at (bit_xor (slice_index o c) 0x63636363)) place
      ∙ box_with_constant (p / 8) c (omega arith) hc (p % 8) (omega arith)
      ∙ ap (bit_at (slice_index (in_columns (sub_bytes s)) c)) (sym place))

  pub substituted_is : ((i : ℕ) → i < 4 → slice_index o i < 2 ^ 32) → bit_xor (slice_index o 0) 0x63636363 ∷ bit_xor (slice_index o 1) 0x63636363 ∷ bit_xor (slice_index o 2) 0x63636363 ∷ bit_xor (slice_index o 3) 0x63636363 ∷ [] ≡ in_columns (sub_bytes s)
  unfolding in_columns
  substituted_is fits =
      let e0 = column_is 0 (lit< tt) (fits 0 (lit< tt)) in
      let e1 = column_is 1 (lit< tt) (fits 1 (lit< tt)) in
      let e2 = column_is 2 (lit< tt) (fits 2 (lit< tt)) in
      let e3 = column_is 3 (lit< tt) (fits 3 (lit< tt)) in
      cc
