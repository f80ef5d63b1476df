-- A circuit over words is the circuit over each of their bits, and the circuits of the S-box give its bits.
use Rattle.std.proofs.Common.{◌≡◌, ℕ, ◌%◌, ◌<◌, Bool, true, List, [], ◌∷◌, ◌++◌, map, length, slice_index, bit_and, refl, sym, ap, ◌∙◌, arith, inl, inr}
use Rattle.std.specs.Prelude.{◌==◌}
use Rattle.std.specs.Int.{bit_at}
use Rattle.std.specs.Int.Bits.{bit_xor}
use Rattle.std.specs.List.{range_with_len}
use Rattle.std.proofs.lemmas.Bool.{agree_below, agree_below_at, eqb-true, cases_lt}
use Rattle.std.proofs.lemmas.List.{get_or-map, get_or_past, length-map, map-append}
use Rattle.std.proofs.lemmas.Nat.Bits.{bit_at-zero}
use Rattle.she_aes.specs.Field.{sub_byte}
use Rattle.she_aes.specs.Gates.{Gate, Sum, Product, Circuit, value_of, values_after, through, sums_gates, norm_gates, inverse_gates, byte_gates, factors, products, substituted_bits}
use Rattle.she_aes.proofs.BitWords.{bit_of_sum, bit_of_product}
use Rattle.she_aes.proofs.SBoxTable.{s_box, s_box_is}

module _ (p : ℕ) where
  -- the bits of words in this lane
  abbrev pub lane : List ℕ → List ℕ
  lane words = map (λ n. bit_at n p) words

  pub bit_of_lane : (words : List ℕ) (i : ℕ) → slice_index (lane words) i ≡ bit_at (slice_index words i) p
  bit_of_lane words i =
      elim (cases_lt i (length words)) [
        | inl h ↦ get_or-map (λ n. bit_at n p) words i 0 0 h
        | inr h ↦ get_or_past (lane words) i 0 (omega (arith, length-map words (λ n. bit_at n p))) ∙ sym (bit_at-zero p) ∙ ap (λ n. bit_at n p) (sym (get_or_past words i 0 h))
      ]

  gate_lane : (g : Gate) (words : List ℕ) → value_of g (lane words) ≡ bit_at (value_of g words) p
  gate_lane (Sum i j) words =
      ap (λ x. bit_xor x (slice_index (lane words) j)) (bit_of_lane words i) ∙ ap (bit_xor (bit_at (slice_index words i) p)) (bit_of_lane words j)
      ∙ sym (bit_of_sum (slice_index words i) (slice_index words j) p)
  gate_lane (Product i j) words =
      ap (λ x. bit_and x (slice_index (lane words) j)) (bit_of_lane words i) ∙ ap (bit_and (bit_at (slice_index words i) p)) (bit_of_lane words j)
      ∙ sym (bit_of_product (slice_index words i) (slice_index words j) p)

  gates_lane : (gates : List Gate) (words : List ℕ) → values_after gates (lane words) ≡ lane (values_after gates words)
  gates_lane [] words = refl
  gates_lane (g ∷ gates) words =
      ap (λ x. values_after gates (lane words ++ x ∷ [])) (gate_lane g words)
      ∙ ap (values_after gates) (sym (map-append (λ n. bit_at n p) words (value_of g words ∷ [])))
      ∙ gates_lane gates (words ++ value_of g words ∷ [])

  picked_lane : (words places : List ℕ) → map (slice_index (lane words)) places ≡ lane (map (slice_index words) places)
  picked_lane words [] = refl
  picked_lane words (i ∷ places) =
      ap (λ x. x ∷ map (slice_index (lane words)) places) (bit_of_lane words i) ∙ ap (λ xs. bit_at (slice_index words i) p ∷ xs) (picked_lane words places)

  through_lane : (circuit : Circuit) (words : List ℕ) → through circuit (lane words) ≡ lane (through circuit words)
  through_lane circuit words =
      ap (λ x. map (slice_index (values_after circuit.gates x)) circuit.outputs) (picked_lane words (range_with_len 0 circuit.inputs))
      ∙ ap (λ x. map (slice_index x) circuit.outputs) (gates_lane circuit.gates (map (slice_index words) (range_with_len 0 circuit.inputs)))
      ∙ picked_lane (values_after circuit.gates (map (slice_index words) (range_with_len 0 circuit.inputs))) circuit.outputs

  abbrev one_product : List ℕ → List ℕ → ℕ → ℕ
  one_product inverse sums i = bit_and (slice_index inverse (i % 9)) (slice_index sums (slice_index factors i))

  each_lane : (inverse sums places : List ℕ) → map (one_product (lane inverse) (lane sums)) places ≡ lane (map (one_product inverse sums) places)
  each_lane inverse sums [] = refl
  each_lane inverse sums (i ∷ places) =
      let k : ℕ = slice_index factors i in
      let one : one_product (lane inverse) (lane sums) i ≡ bit_at (one_product inverse sums i) p =
      ap (λ x. bit_and x (slice_index (lane sums) (slice_index factors i))) (bit_of_lane inverse (i % 9)) ∙ ap (bit_and (bit_at (slice_index inverse (i % 9)) p)) (bit_of_lane sums (slice_index factors i))
      ∙ sym (bit_of_product (slice_index inverse (i % 9)) (slice_index sums (slice_index factors i)) p) in
      ap (λ x. x ∷ map (one_product (lane inverse) (lane sums)) places) one ∙ ap (λ xs. bit_at (one_product inverse sums i) p ∷ xs) (each_lane inverse sums places)

  products_lane : (inverse sums : List ℕ) → products (lane inverse) (lane sums) ≡ lane (products inverse sums)
  unfolding products
  products_lane inverse sums = each_lane inverse sums (range_with_len 0 18)

  pub box_lane : (words : List ℕ) → substituted_bits (lane words) ≡ lane (substituted_bits words)
  unfolding substituted_bits
  box_lane words =
      let sums : List ℕ = through sums_gates words in
      let e = through_lane sums_gates words in
      let norm = ap (through norm_gates) e ∙ through_lane norm_gates (through sums_gates words) in
      let inverse = ap (through inverse_gates) norm ∙ through_lane inverse_gates (through norm_gates (through sums_gates words)) in
      ap (λ s. through byte_gates (products (through inverse_gates (through norm_gates (through sums_gates (lane words)))) s)) e
      ∙ ap (λ i. through byte_gates (products i (lane (through sums_gates words)))) inverse
      ∙ ap (through byte_gates) (products_lane (through inverse_gates (through norm_gates (through sums_gates words))) (through sums_gates words))
      ∙ through_lane byte_gates (products (through inverse_gates (through norm_gates (through sums_gates words))) (through sums_gates words))

-- ---- the bits of the S-box, for all 256 bytes

abbrev pub bits_of_byte : ℕ → List ℕ
bits_of_byte b = map (bit_at b) (range_with_len 0 8)

abbrev with_constant : List ℕ → ℕ → ℕ
with_constant bits k = bit_xor (slice_index bits k) (bit_at 0x63 k)

-- whether these are the bits of a byte less the constant
abbrev are_bits : List ℕ → ℕ → Bool
are_bits bits b = agree_below (λ k. with_constant bits k == bit_at b k) (λ _. true) 8

box_ok : agree_below (λ b. are_bits (substituted_bits (bits_of_byte b)) (s_box b)) (λ _. true) 256 ≡ true
unfolding substituted_bits products sums_gates norm_gates inverse_gates byte_gates
box_ok = refl

pub box_bit : (b k : ℕ) → b < 256 → k < 8 → bit_xor (slice_index (substituted_bits (bits_of_byte b)) k) (bit_at 0x63 k) ≡ bit_at (sub_byte b) k
box_bit b k hb hk =
    let bits : List ℕ = substituted_bits (bits_of_byte b) in
    let all : are_bits (substituted_bits (bits_of_byte b)) (s_box b) ≡ true = agree_below_at (λ b. are_bits (substituted_bits (bits_of_byte b)) (s_box b)) (λ _. true) 256 b box_ok hb in
    eqb-true (with_constant (substituted_bits (bits_of_byte b)) k) (bit_at (s_box b) k) (agree_below_at (λ k. with_constant (substituted_bits (bits_of_byte b)) k == bit_at (s_box b) k) (λ _. true) 8 k all hk)
    ∙ ap (λ x. bit_at x k) (s_box_is b hb)
