-- The key expansion in pairs, and what the rounds add of it.
use Rattle.std.proofs.Common.{◌≡◌, ℕ, suc, ◌+◌, ◌<◌, List, [], ◌∷◌, map, length, get_or, refl, sym, ap, ◌∙◌, arith, lit<}
use Rattle.std.proofs.lemmas.List.{get_or_append_left}
use Rattle.std.proofs.lemmas.List.FromFn.{get_or-map-range_with_len, length-map-range_with_len}
use Rattle.std.specs.List.{range_with_len}
use Rattle.she_aes.specs.Field.{product, cancelled, remainder, mul}
use Rattle.she_aes.specs.Cipher.{IsBlock, power_of_x, key_words, round_key}
use Rattle.she_aes.proofs.CipherFacts.{IsBlock-bytes, IsBlock-from, power_of_x-lt, round_key-bytes}
use Rattle.she_aes.specs.KeySteps.{next_round_key}
use Rattle.she_aes.specs.Pairs.{pair_of, in_pairs, without_constant}
use Rattle.she_aes.specs.RoundKeys.{added_key, last_added_key, added_keys}
use Rattle.she_aes.proofs.KeyWords.{round_key-zero, next_is}

-- ---- the pairs of the powers of x

pair_0 : 0x11 ≡ pair_of (power_of_x 0)
unfolding product cancelled remainder mul power_of_x pair_of
pair_0 = refl

pair_1 : 0xdc ≡ pair_of (power_of_x 1)
unfolding product cancelled remainder mul power_of_x pair_of
pair_1 = refl

pair_2 : 0xfd ≡ pair_of (power_of_x 2)
unfolding product cancelled remainder mul power_of_x pair_of
pair_2 = refl

pair_3 : 0x57 ≡ pair_of (power_of_x 3)
unfolding product cancelled remainder mul power_of_x pair_of
pair_3 = refl

pair_4 : 0xe6 ≡ pair_of (power_of_x 4)
unfolding product cancelled remainder mul power_of_x pair_of
pair_4 = refl

pair_5 : 0x2d ≡ pair_of (power_of_x 5)
unfolding product cancelled remainder mul power_of_x pair_of
pair_5 = refl

pair_6 : 0x6e ≡ pair_of (power_of_x 6)
unfolding product cancelled remainder mul power_of_x pair_of
pair_6 = refl

pair_7 : 0x7 ≡ pair_of (power_of_x 7)
unfolding product cancelled remainder mul power_of_x pair_of
pair_7 = refl

pair_8 : 0x7c ≡ pair_of (power_of_x 8)
unfolding product cancelled remainder mul power_of_x pair_of
pair_8 = refl

pair_9 : 0xea ≡ pair_of (power_of_x 9)
unfolding product cancelled remainder mul power_of_x pair_of
pair_9 = refl

-- ---- a round key at a time

length-round_key : (words : List (List ℕ)) (round : ℕ) → length (round_key words round) ≡ 16
unfolding round_key
length-round_key words round = refl

pub IsBlock-round_key : (key : List ℕ) → IsBlock key → (round : ℕ) → IsBlock (round_key (key_words key) round)
IsBlock-round_key key block round =
    IsBlock-from (round_key (key_words key) round) (length-round_key (key_words key) round) (round_key-bytes key round (IsBlock-bytes key block))

-- what the code's step gives, what a round adds of a key in pairs, and the last round
abbrev Steps : ℕ → List ℕ → List ℕ → Type 0
Steps q k next = (p : ℕ) (s : List ℕ) → p < 256 → IsBlock s → q ≡ pair_of p → k ≡ in_pairs s → next ≡ in_pairs (next_round_key p s)

abbrev Adds : List ℕ → List ℕ → Type 0
Adds k added = (s : List ℕ) → IsBlock s → k ≡ in_pairs s → added ≡ in_pairs (without_constant s)

abbrev AddsLast : List ℕ → List ℕ → Type 0
AddsLast k added = (s : List ℕ) → IsBlock s → k ≡ in_pairs s → added ≡ without_constant s

module _ (key : List ℕ) (block : IsBlock key) where
  abbrev Is : ℕ → List ℕ → Type 0
  Is round k = k ≡ in_pairs (round_key (key_words key) round)

  next : (round q : ℕ) → round < 10 → q ≡ pair_of (power_of_x round) → (k l : List ℕ) → Steps q k l → Is round k → Is (round + 1) l
  next round q high power k l steps is =
      steps (power_of_x round) (round_key (key_words key) round) (power_of_x-lt round) (IsBlock-round_key key block round) power is ∙ ap in_pairs (next_is key round high)

  added : (round : ℕ) (k a : List ℕ) → Adds k a → Is round k → a ≡ added_key key round
  added round k a adds is = adds (round_key (key_words key) round) (IsBlock-round_key key block round) is

  pub added_in_turn : {k0 k1 k2 k3 k4 k5 k6 k7 k8 k9 k10 a1 a2 a3 a4 a5 a6 a7 a8 a9 a10 : List ℕ} → k0 ≡ in_pairs key → Steps 0x11 k0 k1 → Steps 0xdc k1 k2 → Steps 0xfd k2 k3 → Steps 0x57 k3 k4 → Steps 0xe6 k4 k5 → Steps 0x2d k5 k6 → Steps 0x6e k6 k7 → Steps 0x7 k7 k8 → Steps 0x7c k8 k9 → Steps 0xea k9 k10 → Adds k1 a1 → Adds k2 a2 → Adds k3 a3 → Adds k4 a4 → Adds k5 a5 → Adds k6 a6 → Adds k7 a7 → Adds k8 a8 → Adds k9 a9 → AddsLast k10 a10 → a1 ∷ a2 ∷ a3 ∷ a4 ∷ a5 ∷ a6 ∷ a7 ∷ a8 ∷ a9 ∷ a10 ∷ [] ≡ added_keys key
  unfolding added_keys
  added_in_turn first s0 s1 s2 s3 s4 s5 s6 s7 s8 s9 e1 e2 e3 e4 e5 e6 e7 e8 e9 e10 =
      let h0 = first ∙ ap in_pairs (sym (round_key-zero key block.size)) in
      let h1 = next 0 0x11 (lit< tt) pair_0 _ _ s0 h0 in
      let h2 = next 1 0xdc (lit< tt) pair_1 _ _ s1 h1 in
      let h3 = next 2 0xfd (lit< tt) pair_2 _ _ s2 h2 in
      let h4 = next 3 0x57 (lit< tt) pair_3 _ _ s3 h3 in
      let h5 = next 4 0xe6 (lit< tt) pair_4 _ _ s4 h4 in
      let h6 = next 5 0x2d (lit< tt) pair_5 _ _ s5 h5 in
      let h7 = next 6 0x6e (lit< tt) pair_6 _ _ s6 h6 in
      let h8 = next 7 0x7 (lit< tt) pair_7 _ _ s7 h7 in
      let h9 = next 8 0x7c (lit< tt) pair_8 _ _ s8 h8 in
      let h10 = next 9 0xea (lit< tt) pair_9 _ _ s9 h9 in
      let g1 = added 1 _ _ e1 h1 in
      let g2 = added 2 _ _ e2 h2 in
      let g3 = added 3 _ _ e3 h3 in
      let g4 = added 4 _ _ e4 h4 in
      let g5 = added 5 _ _ e5 h5 in
      let g6 = added 6 _ _ e6 h6 in
      let g7 = added 7 _ _ e7 h7 in
      let g8 = added 8 _ _ e8 h8 in
      let g9 = added 9 _ _ e9 h9 in
      let g10 = e10 (round_key (key_words key) 10) (IsBlock-round_key key block 10) h10 in
      cc

-- ---- what a schedule holds

module _ (key : List ℕ) (added : List (List ℕ)) (made : added ≡ added_keys key) where
  pub added_at : (n : ℕ) → n < 9 → get_or added n [] ≡ added_key key (suc n)
  unfolding added_keys
  added_at n h =
      ap (λ ks. get_or ks n []) made ∙ get_or_append_left (map (added_key key) (range_with_len 1 9)) (last_added_key key ∷ []) [] n (omega (arith, length-map-range_with_len (added_key key) 1 9)) ∙ get_or-map-range_with_len (added_key key) 1 9 n (suc n) [] h (omega arith)

  pub last_added : get_or added 9 [] ≡ last_added_key key
  unfolding added_keys
  last_added = ap (λ ks. get_or ks 9 []) made
