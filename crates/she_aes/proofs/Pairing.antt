-- Pairs of elements of the field of 16: they add as their bytes do, and the tables give the S-box of the bytes.
use Rattle.std.proofs.Common.{◌≡◌, ℕ, ◌%◌, ◌^◌, ◌<◌, true, List, map, refl, sym, ap, ◌∙◌, lit<}
use Rattle.std.specs.Prelude.{◌==◌}
use Rattle.std.specs.Int.Bits.{bit_xor, xor_assoc, xor_zero_r, xor_lt}
use Rattle.std.proofs.lemmas.Nat.{and_mask, xor_mod, xor_shr, mod_below, div_below}
use Rattle.std.proofs.lemmas.Bool.{agree_below, agree_below_at, eqb-true}
use Rattle.she_aes.specs.Field.{product, cancelled, remainder, mul, sub_byte}
use Rattle.she_aes.specs.FieldFacts.{xor_swap}
use Rattle.she_aes.specs.Lookups.{entry}
use Rattle.she_aes.specs.Substitution.{low_nibble, high_nibble, pair, inverse_by}
use Rattle.she_aes.specs.Pairs.{pair_of, in_pairs}
use Rattle.she_aes.specs.declared.substitution.TheConstants.{LOW, HIGH, LEFT, RIGHT, LEFT_PAIR, RIGHT_PAIR, LEFT_PAIR_DOUBLED, RIGHT_PAIR_DOUBLED, BYTE_OF_LOWER, BYTE_OF_UPPER}
use Rattle.she_aes.proofs.SBoxTable.{same_at_bytes, s_box, s_box_is}

-- ---- the pair of a sum

-- a table that takes the sum of two nibbles to the sum of what it takes them to
abbrev IsAdditive : List ℕ → Type 0
IsAdditive table =
    agree_below (λ i. agree_below (λ j. entry table (bit_xor i j) == bit_xor (entry table i) (entry table j)) (λ _. true) 16) (λ _. true) 16 ≡ true

additive_at : (table : List ℕ) → IsAdditive table → (i j : ℕ) → i < 16 → j < 16 → entry table (bit_xor i j) ≡ bit_xor (entry table i) (entry table j)
additive_at table all i j hi hj =
    let row = agree_below_at (λ i. agree_below (λ j. entry table (bit_xor i j) == bit_xor (entry table i) (entry table j)) (λ _. true) 16) (λ _. true) 16 i all hi in
    eqb-true (entry table (bit_xor i j)) (bit_xor (entry table i) (entry table j)) (agree_below_at (λ j. entry table (bit_xor i j) == bit_xor (entry table i) (entry table j)) (λ _. true) 16 j row hj)

low_adds : IsAdditive LOW
low_adds = refl

high_adds : IsAdditive HIGH
high_adds = refl

low_is_rest : (b : ℕ) → low_nibble b ≡ b % 2 ^ 4
low_is_rest b = and_mask b 4

low_nibble-lt : (b : ℕ) → low_nibble b < 16
low_nibble-lt b = rw (low_is_rest b) (mod_below b (2 ^ 4) (lit< tt))

high_nibble-lt : (b : ℕ) → b < 256 → high_nibble b < 16
high_nibble-lt b h = div_below b (2 ^ 4) 16 (lit< tt) h

low_nibble-xor : (a b : ℕ) → low_nibble (bit_xor a b) ≡ bit_xor (low_nibble a) (low_nibble b)
low_nibble-xor a b = rw (low_is_rest (bit_xor a b), low_is_rest a, low_is_rest b) (xor_mod a b 4)

pub pair_of-xor : (a b : ℕ) → a < 256 → b < 256 → pair_of (bit_xor a b) ≡ bit_xor (pair_of a) (pair_of b)
unfolding pair_of
pair_of-xor a b ha hb =
    let low : entry LOW (low_nibble (bit_xor a b)) ≡ bit_xor (entry LOW (low_nibble a)) (entry LOW (low_nibble b)) =
    ap (entry LOW) (low_nibble-xor a b) ∙ additive_at LOW low_adds (low_nibble a) (low_nibble b) (low_nibble-lt a) (low_nibble-lt b) in
    let high : entry HIGH (high_nibble (bit_xor a b)) ≡ bit_xor (entry HIGH (high_nibble a)) (entry HIGH (high_nibble b)) =
    ap (entry HIGH) (xor_shr a b 4) ∙ additive_at HIGH high_adds (high_nibble a) (high_nibble b) (high_nibble-lt a ha) (high_nibble-lt b hb) in
    ap (λ t. bit_xor t (entry HIGH (high_nibble (bit_xor a b)))) low ∙ ap (λ t. bit_xor (bit_xor (entry LOW (low_nibble a)) (entry LOW (low_nibble b))) t) high ∙ xor_swap (entry LOW (low_nibble a)) (entry LOW (low_nibble b)) (entry HIGH (high_nibble a)) (entry HIGH (high_nibble b))

-- ---- the constant of the S-box

pub less_constant-lt : (b : ℕ) → b < 256 → bit_xor b 0x63 < 256
less_constant-lt b h = xor_lt 8 b 0x63 h (lit< tt)

pub constant_twice : (b : ℕ) → bit_xor (bit_xor b 0x63) 0x63 ≡ b
constant_twice b = xor_assoc b 0x63 0x63 ∙ xor_zero_r b

-- of two bytes that both lack it
pub constants_cancel : (a b : ℕ) → bit_xor (bit_xor a 0x63) (bit_xor b 0x63) ≡ bit_xor a b
constants_cancel a b = xor_swap a 0x63 b 0x63 ∙ xor_zero_r (bit_xor a b)

pub pairs_cancel : (a b : ℕ) → a < 256 → b < 256 → bit_xor (pair_of (bit_xor a 0x63)) (pair_of (bit_xor b 0x63)) ≡ pair_of (bit_xor a b)
pairs_cancel a b ha hb =
    sym (pair_of-xor (bit_xor a 0x63) (bit_xor b 0x63) (less_constant-lt a ha) (less_constant-lt b hb)) ∙ ap pair_of (constants_cancel a b)

pub pair_of-constant : pair_of 0x63 ≡ 0x8e
unfolding pair_of
pair_of-constant = refl

pub pair_of-zero : pair_of 0 ≡ 0
unfolding pair_of
pair_of-zero = refl

pub pair_less_constant : (b : ℕ) → b < 256 → bit_xor (pair_of b) 0x8e ≡ pair_of (bit_xor b 0x63)
pair_less_constant b h = ap (bit_xor (pair_of b)) (sym pair_of-constant) ∙ sym (pair_of-xor b 0x63 h (lit< tt))

-- ---- what the tables give, for all 256 bytes

s_box_ok : agree_below (λ b. inverse_by LEFT RIGHT (pair_of b) == bit_xor (s_box b) 0x63) (λ _. true) 256 ≡ true
unfolding pair_of
s_box_ok = refl

pub s_box_rule : (b : ℕ) → b < 256 → inverse_by LEFT RIGHT (pair_of b) ≡ bit_xor (sub_byte b) 0x63
s_box_rule b lt =
    same_at_bytes (λ b. inverse_by LEFT RIGHT (pair_of b)) (λ b. bit_xor (s_box b) 0x63) s_box_ok b lt
    ∙ ap (λ s. bit_xor s 0x63) (s_box_is b lt)

once_ok : agree_below (λ b. inverse_by LEFT_PAIR RIGHT_PAIR (pair_of b) == pair_of (bit_xor (s_box b) 0x63)) (λ _. true) 256 ≡ true
unfolding pair_of
once_ok = refl

pub once_rule : (b : ℕ) → b < 256 → inverse_by LEFT_PAIR RIGHT_PAIR (pair_of b) ≡ pair_of (bit_xor (sub_byte b) 0x63)
once_rule b lt =
    same_at_bytes (λ b. inverse_by LEFT_PAIR RIGHT_PAIR (pair_of b)) (λ b. pair_of (bit_xor (s_box b) 0x63)) once_ok b lt
    ∙ ap (λ s. pair_of (bit_xor s 0x63)) (s_box_is b lt)

doubled_ok : agree_below (λ b. inverse_by LEFT_PAIR_DOUBLED RIGHT_PAIR_DOUBLED (pair_of b) == pair_of (mul 2 (bit_xor (s_box b) 0x63))) (λ _. true) 256 ≡ true
unfolding product cancelled remainder mul pair_of
doubled_ok = refl

pub doubled_rule : (b : ℕ) → b < 256 → inverse_by LEFT_PAIR_DOUBLED RIGHT_PAIR_DOUBLED (pair_of b) ≡ pair_of (mul 2 (bit_xor (sub_byte b) 0x63))
doubled_rule b lt =
    same_at_bytes (λ b. inverse_by LEFT_PAIR_DOUBLED RIGHT_PAIR_DOUBLED (pair_of b)) (λ b. pair_of (mul 2 (bit_xor (s_box b) 0x63))) doubled_ok b lt
    ∙ ap (λ s. pair_of (mul 2 (bit_xor s 0x63))) (s_box_is b lt)

byte_ok : agree_below (λ b. pair BYTE_OF_LOWER BYTE_OF_UPPER (pair_of b) == bit_xor b 0x63) (λ _. true) 256 ≡ true
unfolding pair_of
byte_ok = refl

pub byte_rule : (b : ℕ) → b < 256 → pair BYTE_OF_LOWER BYTE_OF_UPPER (pair_of b) ≡ bit_xor b 0x63
byte_rule = same_at_bytes (λ b. pair BYTE_OF_LOWER BYTE_OF_UPPER (pair_of b)) (λ b. bit_xor b 0x63) byte_ok

-- ---- each byte as its pair

pub pairs_are : (s : List ℕ) → map (pair LOW HIGH) s ≡ in_pairs s
unfolding in_pairs pair_of
pairs_are s = refl
