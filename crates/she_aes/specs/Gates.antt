-- The S-box as circuits of gates, each of which adds or multiplies two bits, or the bits of two words one by one. (J.
-- Boyar and R. Peralta, A new combinational logic minimization technique with applications to cryptology, 2010.)
use Rattle.std.specs.Prelude.{ℕ, ◌%◌, List, [], ◌∷◌, ◌++◌, map, slice_index, bit_and, bit_xor}
use Rattle.std.specs.List.{range_with_len}

-- a gate takes two of the values so far, by their places
pub data Gate : Type 0 where
  Sum : ℕ → ℕ → Gate
  Product : ℕ → ℕ → Gate

-- a circuit: how many values go in, the gates in turn, and the places of the values that come out
pub record Circuit : Type 0 where
  pub inputs : ℕ
  pub gates : List Gate
  pub outputs : List ℕ

abbrev pub value_of : Gate → List ℕ → ℕ
value_of (Sum i j) values = bit_xor (slice_index values i) (slice_index values j)
value_of (Product i j) values = bit_and (slice_index values i) (slice_index values j)

-- the values after these gates
abbrev pub values_after : List Gate → List ℕ → List ℕ
values_after [] values = values
values_after (gate ∷ gates) values = values_after gates (values ++ value_of gate values ∷ [])

-- what comes out of a circuit
abbrev pub through : Circuit → List ℕ → List ℕ
through circuit values =
    let all = values_after circuit.gates (map (slice_index values) (range_with_len 0 circuit.inputs)) in
    map (slice_index all) circuit.outputs

-- the lowest bit of a byte, and sums of its bits
unfoldable pub sums_gates : Circuit
sums_gates =
    record {
      inputs = 8;
      gates =
          Sum 4 2 ∷ Sum 7 1 ∷ Sum 7 4 ∷ Sum 7 2 ∷ Sum 6 5 ∷ Sum 12 0 ∷ Sum 13 4 ∷ Sum 9 8 ∷ Sum 13 7 ∷ Sum 13 1 ∷
          Sum 17 11 ∷ Sum 3 15 ∷ Sum 19 2 ∷ Sum 19 6 ∷ Sum 20 0 ∷ Sum 20 12 ∷ Sum 21 10 ∷ Sum 0 24 ∷ Sum 23 24 ∷
          Sum 23 11 ∷ Sum 12 24 ∷ Sum 9 28 ∷ Sum 7 28 ∷ [];
      outputs =
          0 ∷ 13 ∷ 16 ∷ 18 ∷ 14 ∷ 17 ∷ 22 ∷ 25 ∷ 11 ∷ 10 ∷ 23 ∷ 24 ∷ 15 ∷ 9 ∷ 8 ∷ 20 ∷ 28 ∷ 26 ∷ 30 ∷ 27 ∷ 21 ∷ 29 ∷ [];
    }

-- the element of the field of 16 that is inverted in place of the byte: four bits
unfoldable pub norm_gates : Circuit
norm_gates =
    record {
      inputs = 22;
      gates =
          Product 12 15 ∷ Product 3 6 ∷ Sum 23 22 ∷ Product 4 0 ∷ Sum 25 22 ∷ Product 13 16 ∷ Product 5 1 ∷ Sum 28 27 ∷
          Product 2 7 ∷ Sum 30 27 ∷ Product 9 11 ∷ Product 14 17 ∷ Sum 33 32 ∷ Product 8 10 ∷ Sum 35 32 ∷ Sum 24 34 ∷
          Sum 26 36 ∷ Sum 29 34 ∷ Sum 31 36 ∷ Sum 37 20 ∷ Sum 38 19 ∷ Sum 39 21 ∷ Sum 40 18 ∷ [];
      outputs = 41 ∷ 42 ∷ 43 ∷ 44 ∷ [];
    }

-- sums of the four bits of its inverse
unfoldable pub inverse_gates : Circuit
inverse_gates =
    record {
      inputs = 4;
      gates =
          Sum 0 1 ∷ Product 0 2 ∷ Sum 3 5 ∷ Product 4 6 ∷ Sum 7 1 ∷ Sum 2 3 ∷ Sum 1 5 ∷ Product 10 9 ∷ Sum 11 3 ∷
          Sum 2 12 ∷ Sum 6 12 ∷ Product 3 14 ∷ Sum 15 13 ∷ Sum 6 15 ∷ Product 8 17 ∷ Sum 4 18 ∷ Sum 19 16 ∷ Sum 8 12 ∷
          Sum 8 19 ∷ Sum 12 16 ∷ Sum 21 20 ∷ [];
      outputs = 23 ∷ 16 ∷ 12 ∷ 22 ∷ 19 ∷ 8 ∷ 21 ∷ 24 ∷ 20 ∷ [];
    }

-- the byte that the S-box gives, less its constant, from the products
unfoldable pub byte_gates : Circuit
byte_gates =
    record {
      inputs = 18;
      gates =
          Sum 15 16 ∷ Sum 10 11 ∷ Sum 5 13 ∷ Sum 9 10 ∷ Sum 2 12 ∷ Sum 2 5 ∷ Sum 7 8 ∷ Sum 0 3 ∷ Sum 6 7 ∷ Sum 16 17 ∷
          Sum 12 20 ∷ Sum 22 25 ∷ Sum 4 18 ∷ Sum 3 26 ∷ Sum 18 29 ∷ Sum 14 29 ∷ Sum 24 30 ∷ Sum 21 30 ∷ Sum 4 31 ∷
          Sum 33 34 ∷ Sum 1 35 ∷ Sum 31 35 ∷ Sum 28 34 ∷ Sum 20 32 ∷ Sum 36 37 ∷ Sum 25 38 ∷ Sum 23 38 ∷ Sum 19 37 ∷
          Sum 36 43 ∷ Sum 27 42 ∷ [];
      outputs = 41 ∷ 40 ∷ 45 ∷ 44 ∷ 43 ∷ 47 ∷ 46 ∷ 39 ∷ [];
    }

-- which of the sums the products take; the inverse's are taken in turn
abbrev pub factors : List ℕ
factors = 15 ∷ 6 ∷ 0 ∷ 16 ∷ 1 ∷ 7 ∷ 11 ∷ 17 ∷ 10 ∷ 12 ∷ 3 ∷ 4 ∷ 13 ∷ 5 ∷ 2 ∷ 9 ∷ 14 ∷ 8 ∷ []

unfoldable pub products : List ℕ → List ℕ → List ℕ
products inverse sums =
    map (λ i. bit_and (slice_index inverse (i % 9)) (slice_index sums (slice_index factors i))) (range_with_len 0 18)

-- the bits of the S-box of a byte less its constant, from the bits of the byte
unfoldable pub substituted_bits : List ℕ → List ℕ
substituted_bits bits =
    let sums = through sums_gates bits in
    through byte_gates (products (through inverse_gates (through norm_gates sums)) sums)
