-- What a chart tells has none of the characters that would have to be escaped
use Rattle.std.specs.Prelude.{◌≡◌, ℕ, zero, suc, ◌+◌, ◌-◌, ◌/◌, ◌%◌, ◌<◌, ◌≤◌, ◌==◌, ◌&&◌, ◌||◌, ◌⊎◌, nat_le, true, false, IsTrue, List, [], ◌∷◌, ◌++◌, All, length, slice_index}
use Rattle.std.specs.List.{list_all, flat_map}
use Rattle.std.specs.Char.{is_ascii_digit}
use Rattle.std.specs.Fmt.{decimal, digits, digits_onto, digit_glyph}
use Rattle.std.proofs.Common.{refl, sym, subst, ◌∙◌, arith, inl, inr}
use Rattle.std.proofs.lemmas.Bool.{agree_below, agree_below_at, and_from, and_parts, or_cases, leb-true, eqb-true, cond_both}
use Rattle.std.proofs.lemmas.List.Elements.{All-head, All-tail}
use Rattle.std.proofs.lemmas.List.Folds.{list_all-append}
use Rattle.basics.specs.Bytes.{IsBytes}
use Rattle.basics.specs.Numbers.{bytes_of}
use Rattle.basics.proofs.CallerLemmas.{IsBytes-bytes_of}
use Rattle.hex.specs.Hex.{encode_with, encode_lower, lower_digits}
use Rattle.bus_config.specs.Names.{is_letter, is_name_byte, is_name}
use Rattle.text_lines.specs.Spaced.{spaced}
use Rattle.chart_commands.specs.Grammar.{is_content, is_content_text}

-- ---- texts

pub both_content : (a b : List ℕ) → is_content_text a ≡ true → is_content_text b ≡ true → is_content_text (a ++ b) ≡ true
both_content a b h k = list_all-append is_content a b ∙ and_from (is_content_text a) (is_content_text b) h k

pub one_more_content : (c : ℕ) (text : List ℕ) → is_content c ≡ true → is_content_text text ≡ true → is_content_text (c ∷ text) ≡ true
one_more_content c text h k = and_from (is_content c) (is_content_text text) h k

-- each of these words has none
abbrev pub AreContent : List (List ℕ) → Type 0
AreContent [] = Unit {0}
AreContent (word ∷ words) = (is_content_text word ≡ true) × AreContent words

pub spaced_content : (words : List (List ℕ)) → AreContent words → is_content_text (spaced words) ≡ true
spaced_content [] are = refl
spaced_content (word ∷ words) are = both_content word (spaced words) are.0 (spaced_content words are.1)

-- ---- digits

glyph_content : (d : ℕ) → d < 10 → is_content (digit_glyph false d) ≡ true
glyph_content d h = agree_below_at (λ (x : ℕ). is_content (digit_glyph false x)) (λ (x : ℕ). true) 10 d refl h

digits_content : (k n : ℕ) (text : List ℕ) → is_content_text text ≡ true → is_content_text (digits_onto k 10 false n text) ≡ true
digits_content zero n text h = h
digits_content (suc k) n text h =
    let last : ℕ = digit_glyph false (n % 10) in
    let here : is_content_text (last ∷ text) ≡ true = one_more_content last text (glyph_content (n % 10) (omega arith)) h in
    cond_both (n / 10 == 0) (last ∷ text) (digits_onto k 10 false (n / 10) (last ∷ text)) (λ (xs : List ℕ). is_content_text xs ≡ true)
    (λ e. here) (λ e. digits_content k (n / 10) (last ∷ text) here)

pub decimal_content : (n : ℕ) → is_content_text (decimal n) ≡ true
unfolding digits
decimal_content n = digits_content 64 n [] refl

hex_digit_content : (d : ℕ) → d < 16 → is_content (slice_index lower_digits d) ≡ true
hex_digit_content d h = agree_below_at (λ (x : ℕ). is_content (slice_index lower_digits x)) (λ (x : ℕ). true) 16 d refl h

pub hex_content : (bytes : List ℕ) → All (λ b. b < 256) bytes → is_content_text (encode_lower bytes) ≡ true
unfolding encode_with
hex_content [] are = refl
hex_content (b ∷ bytes) are =
    let fits : b < 256 = All-head (λ x. x < 256) b bytes are in
    one_more_content (slice_index lower_digits (b / 16)) (slice_index lower_digits (b % 16) ∷ encode_lower bytes)
    (hex_digit_content (b / 16) (omega (arith, fits)))
    (one_more_content (slice_index lower_digits (b % 16)) (encode_lower bytes) (hex_digit_content (b % 16) (omega arith))
    (hex_content bytes (All-tail (λ x. x < 256) b bytes are)))

pub id_content : (id : ℕ) → is_content_text (encode_lower (bytes_of 2 id)) ≡ true
id_content id = hex_content (bytes_of 2 id) (IsBytes-bytes_of 2 id).bytes

pub freshness_content : (v : ℕ) → is_content_text (encode_lower (bytes_of 8 v)) ≡ true
freshness_content v = hex_content (bytes_of 8 v) (IsBytes-bytes_of 8 v).bytes

pub blocks_content : (blocks : List (List ℕ)) → All (IsBytes 16) blocks → is_content_text (flat_map encode_lower blocks) ≡ true
blocks_content [] are = refl
blocks_content (block ∷ blocks) are =
    both_content (encode_lower block) (flat_map encode_lower blocks) (hex_content block (All-head (IsBytes 16) block blocks are).bytes)
    (blocks_content blocks (All-tail (IsBytes 16) block blocks are))

-- ---- names

in_range : (low n c : ℕ) → agree_below (λ (d : ℕ). is_content (low + d)) (λ (d : ℕ). true) n ≡ true → low ≤ c → c < low + n → is_content c ≡ true
in_range low n c table from to =
    let place : low + (c - low) ≡ c = omega (arith, from) in
    let inside : c - low < n = omega (arith, from, to) in
    subst (λ (x : ℕ). is_content x ≡ true) place (agree_below_at (λ (d : ℕ). is_content (low + d)) (λ (d : ℕ). true) n (c - low) table inside)

within : (low high c : ℕ) → (nat_le low c && nat_le c high) ≡ true → (low ≤ c) × (c ≤ high)
within low high c h =
    let parts = and_parts (nat_le low c) (nat_le c high) h in
    (leb-true low c parts.0, leb-true c high parts.1)

is_this : (d c : ℕ) → is_content d ≡ true → (c == d) ≡ true → is_content c ≡ true
is_this d c right e = subst (λ (x : ℕ). is_content x ≡ true) (sym (eqb-true c d e)) right

letter_or_digit : (c : ℕ) → ((is_letter c ≡ true) ⊎ (is_ascii_digit c ≡ true)) → is_content c ≡ true
letter_or_digit c (inl letter) =
    let at = within 97 122 c letter in
    in_range 97 26 c refl at.0 (omega (arith, at.1))
letter_or_digit c (inr digit) =
    let at = within 48 57 c digit in
    in_range 48 10 c refl at.0 (omega (arith, at.1))

name_byte_content : (c : ℕ) → is_name_byte c ≡ true → is_content c ≡ true
name_byte_content c h = elim (or_cases (is_letter c || is_ascii_digit c || (c == 45)) (c == 95) h) [
  | inr e ↦ is_this 95 c refl e
  | inl g ↦ elim (or_cases (is_letter c || is_ascii_digit c) (c == 45) g) [
    | inr e ↦ is_this 45 c refl e
    | inl f ↦ letter_or_digit c (or_cases (is_letter c) (is_ascii_digit c) f)
  ]
]

all_content : (text : List ℕ) → list_all is_name_byte text ≡ true → is_content_text text ≡ true
all_content [] h = refl
all_content (c ∷ text) h =
    let parts = and_parts (is_name_byte c) (list_all is_name_byte text) h in
    one_more_content c text (name_byte_content c parts.0) (all_content text parts.1)

pub name_content : (name : List ℕ) → IsTrue (is_name name) → is_content_text name ≡ true
name_content name named =
    all_content name (and_parts (nat_le 1 (length name) && nat_le (length name) 16 && is_letter (slice_index name 0)) (list_all is_name_byte name) named).1
