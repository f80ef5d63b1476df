-- SubBytes and its inverse by look-ups: each vector is a map of the bytes, and all that is looked up is a place.
use Rattle.std.proofs.Common.{◌≡◌, ℕ, ◌+◌, ◌*◌, ◌/◌, ◌^◌, ◌<◌, true, cond, leb, List, [], ◌∷◌, map, length, get_or, replicate, All, IsTrue, bit_and, refl, sym, ap, ◌∙◌, arith, w8}
use Rattle.std.specs.Prelude.{◌==◌}
use Rattle.std.specs.Int.Bits.{bit_xor}
use Rattle.std.specs.Simd.Lanes.{zip2}
use Rattle.std.proofs.lemmas.Bool.{agree_below, agree_below_at}
use Rattle.std.proofs.lemmas.Float.{T_from_true}
use Rattle.std.proofs.lemmas.List.{get_or-map, length-map, ext_get_or}
use Rattle.std.proofs.lemmas.Simd.{Each1-from_get_or, zip2_of_maps, splat_is_map, map-map, swz_l, SwzOk, SwzOk-from_Each1, length-swz_l, get_or-swz_l}
use Rattle.she_aes.specs.Field.{inv_affine, inv_sub_byte}
use Rattle.she_aes.specs.FieldFacts.{inv_affine-lt}
use Rattle.she_aes.proofs.SBoxTable.{same_at_bytes}
use Rattle.she_aes.proofs.SBoxFacts.{inv_of, inv_of_is}
use Rattle.she_aes.specs.Cipher.{inv_sub_bytes}
use Rattle.she_aes.specs.Lookups.{is_place, entry}
use Rattle.she_aes.specs.Substitution.{low_nibble, high_nibble, pair, total, from_upper, from_total, first, second, inverse_by}
use Rattle.she_aes.specs.declared.substitution.TheConstants.{LOW_OF_INVERSE, HIGH_OF_INVERSE, LEFT_OF_INVERSE, RIGHT_OF_INVERSE}
use Rattle.she_aes.proofs.Lanes.{IsVector, byte_of_vector, map_is_block}

-- ---- a look-up

pub look_up_fits : (places : List ℕ) → length places ≡ 16 → All (λ place. IsTrue (is_place place)) places → SwzOk w8 16 16 0 places
look_up_fits places long each =
    SwzOk-from_Each1 w8 16 1 16 0 places refl (omega (arith, long)) (Each1-from_get_or _ places 0 (λ i h. T_from_true _ (each i 0 h)))

pub look_up_is : (table places : List ℕ) → length places ≡ 16 → swz_l w8 16 table 0 places ≡ map (entry table) places
look_up_is table places long =
    ext_get_or 0 _ _ (length-swz_l w8 16 table 0 places ∙ sym (length-map places (entry table))) (λ i h.
    let within : i < 16 = omega (arith, length-swz_l w8 16 table 0 places, long) in
    let row : 16 * ((0 + i) / 16) + get_or places i 0 ≡ get_or places i 0 = omega arith in
    get_or-swz_l w8 16 table 0 places i (omega (arith, long)) ∙ ap (λ k. cond (leb 128 (get_or places i 0)) 0 (get_or table k 0)) row ∙ sym (get_or-map (entry table) places i 0 0 (omega (arith, long))))

-- ---- places, for all 256 bytes

-- a map of bytes that gives places
abbrev pub GivesPlaces : (ℕ → ℕ) → Type 0
GivesPlaces f = (b : ℕ) → b < 256 → IsTrue (is_place (f b))

abbrev all_places : (ℕ → ℕ) → Type 0
all_places f = agree_below (λ b. is_place (f b)) (λ _. true) 256 ≡ true

fits_at : (f : ℕ → ℕ) → all_places f → GivesPlaces f
fits_at f ok b h = agree_below_at (λ b. is_place (f b)) (λ _. true) 256 b ok h

pub low_nibble_fits : GivesPlaces low_nibble
low_nibble_fits = fits_at low_nibble refl

pub high_nibble_fits : GivesPlaces high_nibble
high_nibble_fits = fits_at high_nibble refl

pub total_fits : GivesPlaces total
total_fits = fits_at total refl

pub from_upper_fits : GivesPlaces from_upper
from_upper_fits = fits_at from_upper refl

pub from_total_fits : GivesPlaces from_total
from_total_fits = fits_at from_total refl

pub first_fits : GivesPlaces first
first_fits = fits_at first refl

pub second_fits : GivesPlaces second
second_fits = fits_at second refl

-- ---- the inverse S-box, for all 256 bytes

abbrev by_tables_of_inverse : ℕ → ℕ
by_tables_of_inverse b = inverse_by LEFT_OF_INVERSE RIGHT_OF_INVERSE (pair LOW_OF_INVERSE HIGH_OF_INVERSE b)

inverse_s_box_ok : agree_below (λ b. by_tables_of_inverse b == inv_of (inv_affine b)) (λ _. true) 256 ≡ true
unfolding inv_affine
inverse_s_box_ok = refl

inverse_s_box_rule : (b : ℕ) → b < 256 → by_tables_of_inverse b ≡ inv_sub_byte b
unfolding inv_sub_byte
inverse_s_box_rule b lt =
    same_at_bytes by_tables_of_inverse (λ b. inv_of (inv_affine b)) inverse_s_box_ok b lt ∙ inv_of_is (inv_affine b) (inv_affine-lt b)

-- ---- each vector, as a map of the bytes

pub inverse_of : (left right v : List ℕ) {f s : List ℕ} → f ≡ map first v → s ≡ map second v → zip2 bit_xor (map (entry left) f) (map (entry right) s) ≡ map (inverse_by left right) v
inverse_of left right v e h =
    zip2_of_maps bit_xor (λ p. entry left (first p)) (λ p. entry right (second p)) v (ap (map (entry left)) e ∙ map-map (entry left) first v) (ap (map (entry right)) h ∙ map-map (entry right) second v)

module _ (v : List ℕ) (is : IsVector v) where
  pub places : (f : ℕ → ℕ) → GivesPlaces f → {js : List ℕ} → js ≡ map f v → All (λ place. IsTrue (is_place place)) js
  places f fits e i d h =
      let l : i < length v = omega (arith, ap length e, length-map v f) in
      ap (λ js. is_place (get_or js i d)) e ∙ ap is_place (get_or-map f v i 0 d l) ∙ fits (get_or v i 0) (byte_of_vector v is i (omega (arith, is.0)))

  pub looked : (table : List ℕ) (f : ℕ → ℕ) {js r : List ℕ} → r ≡ map (entry table) js → js ≡ map f v → r ≡ map (λ b. entry table (f b)) v
  looked table f e h = e ∙ ap (map (entry table)) h ∙ map-map (entry table) f v

  pub summed : (f g : ℕ → ℕ) {xs ys : List ℕ} → xs ≡ map f v → ys ≡ map g v → zip2 bit_xor xs ys ≡ map (λ b. bit_xor (f b) (g b)) v
  summed f g e h = zip2_of_maps bit_xor f g v e h

  lows : (f : ℕ → ℕ) {xs : List ℕ} → xs ≡ map f v → zip2 bit_and xs (replicate 16 15) ≡ map (λ b. low_nibble (f b)) v
  lows f e = zip2_of_maps bit_and f (λ _. 15) v e (splat_is_map v 16 15 is.0)

  highs : (f : ℕ → ℕ) {xs : List ℕ} → xs ≡ map f v → zip2 (λ a b. a / 2 ^ b) xs (replicate 16 4) ≡ map (λ b. high_nibble (f b)) v
  highs f e = zip2_of_maps (λ a b. a / 2 ^ b) f (λ _. 4) v e (splat_is_map v 16 4 is.0)

  map_self : (l : List ℕ) → l ≡ map (λ b. b) l
  map_self [] = refl
  map_self (x ∷ l) = ap (λ t. x ∷ t) (map_self l)

  pub low_is : zip2 bit_and v (replicate 16 15) ≡ map low_nibble v
  low_is = lows (λ b. b) (map_self v)

  pub high_is : zip2 (λ a b. a / 2 ^ b) v (replicate 16 4) ≡ map high_nibble v
  high_is = highs (λ b. b) (map_self v)

  -- what two tables take the bytes for
  pub pair_is : (lo hi : List ℕ) → {r s : List ℕ} → r ≡ map (entry lo) (zip2 bit_and v (replicate 16 15)) → s ≡ map (entry hi) (zip2 (λ a b. a / 2 ^ b) v (replicate 16 4)) → zip2 bit_xor r s ≡ map (pair lo hi) v
  pair_is lo hi e h =
      summed (λ b. entry lo (low_nibble b)) (λ b. entry hi (high_nibble b)) (looked lo low_nibble e low_is) (looked hi high_nibble h high_is)

  -- the two elements of each pair together
  pub total_is : zip2 bit_xor (zip2 (λ a b. a / 2 ^ b) v (replicate 16 4)) (zip2 bit_and v (replicate 16 15)) ≡ map total v
  total_is = summed high_nibble low_nibble high_is low_is

  pub inv_sub_bytes_is : {p r : List ℕ} → p ≡ map (pair LOW_OF_INVERSE HIGH_OF_INVERSE) v → r ≡ map (inverse_by LEFT_OF_INVERSE RIGHT_OF_INVERSE) p → r ≡ inv_sub_bytes v
  unfolding inv_sub_bytes
  inv_sub_bytes_is e h =
      h ∙ ap (map (inverse_by LEFT_OF_INVERSE RIGHT_OF_INVERSE)) e ∙ map-map (inverse_by LEFT_OF_INVERSE RIGHT_OF_INVERSE) (pair LOW_OF_INVERSE HIGH_OF_INVERSE) v ∙ map_is_block by_tables_of_inverse inv_sub_byte v is inverse_s_box_rule
