-- Bytes that are written as digits are read again, and so are lines of values whose words are.
use Rattle.std.proofs.Common.{◌≡◌, ℕ, zero, suc, ◌+◌, ◌*◌, ◌/◌, ◌%◌, ◌<◌, ◌≤◌, Bool, true, List, [], ◌∷◌, ◌++◌, length, map, All, Some, Result, Ok, refl, sym, ◌∙◌, ap, arith, inl, inr, lit<, append-nil, append_assoc}
use Rattle.std.specs.Prelude.{◌==◌, ◌&&◌, not, nat_le, slice_index}
use Rattle.std.specs.List.{list_all}
use Rattle.std.specs.Result.{result_ok}
use Rattle.std.proofs.lemmas.Bool.{and_parts, cases_lt}
use Rattle.std.proofs.lemmas.List.{get_or_past}
use Rattle.std.proofs.lemmas.List.Folds.{list_all-append}
use Rattle.std.proofs.lemmas.List.Elements.{All-get_or, All-head, All-tail}
use Rattle.basics.specs.Bytes.{IsBytes}
use Rattle.hex.specs.Hex as hex
use Rattle.hex.specs.Hex.{decode_of, decode_sized, encode_lower, encode_with, lower_digits}
use Rattle.hex.proofs.HexLemmas.{length-encode_with, decode_of-encode_lower, decode_sized-twice}
use Rattle.text_lines.specs.declared.fault.Cause.{Cause}
use Rattle.text_lines.specs.Forms.{hex_bytes_form, bytes_form}
use Rattle.text_lines.specs.Readings.{read_from}
use Rattle.text_lines.specs.Lines.{TextLine}
use Rattle.text_lines.specs.Written.{is_word_byte, is_plain_word, is_writable, bytes_word}
use Rattle.text_lines.proofs.Folds.{read_from-ok, limited-few, length_pushed}

-- bytes, read at any place
pub digits_of : (n : ℕ) (bytes : List ℕ) → IsBytes n bytes → hex.IsBytes bytes
digits_of n bytes are i =
    elim (cases_lt i (length bytes)) [
      | inl h ↦ All-get_or (λ b. b < 256) bytes i 0 h are.bytes
      | inr h ↦ rw (get_or_past bytes i 0 h) (lit< tt)
    ]

-- a word of 2 * n digits reads as the n bytes that it was written for
pub sized_encode : (n : ℕ) (bytes : List ℕ) → IsBytes n bytes → result_ok (decode_sized (encode_lower bytes) n) ≡ Some bytes
sized_encode n bytes are =
    let twice : length (encode_lower bytes) ≡ 2 * n = let size = are.size in omega (arith, length-encode_with lower_digits bytes) in
    ap result_ok (decode_sized-twice (encode_lower bytes) n twice ∙ decode_of-encode_lower bytes (digits_of n bytes are))

-- a test that holds at these lengths
long_enough : (least most n count : ℕ) → least ≤ count → count ≤ most → n ≡ 2 * count → (nat_le least (n / 2) && nat_le (n / 2) most) ≡ true
long_enough least most n count above below twice = let half : n / 2 ≡ count = omega arith in rw half (grind arith)

pub hex_bytes_form-encode : (least most : ℕ) (bytes : List ℕ) → least ≤ length bytes → length bytes ≤ most → IsBytes (length bytes) bytes
    → hex_bytes_form least most (encode_lower bytes) ≡ Some bytes
unfolding hex_bytes_form
hex_bytes_form-encode least most bytes above below are =
    rw (long_enough least most (length (encode_lower bytes)) (length bytes) above below (length-encode_with lower_digits bytes))
    (ap result_ok (decode_of-encode_lower bytes (digits_of (length bytes) bytes are)))

-- digits, at least two
bytes_form-digits : (word : List ℕ) → 1 < length word → bytes_form word ≡ result_ok (decode_of word)
unfolding bytes_form
bytes_form-digits [] long = absurd (omega arith)
bytes_form-digits (c ∷ []) long = absurd (omega arith)
bytes_form-digits (c ∷ d ∷ rest) long = refl

bytes_form-dash : bytes_form (45 ∷ []) ≡ Some []
unfolding bytes_form
bytes_form-dash = refl

pub bytes_form-word : (bytes : List ℕ) → IsBytes (length bytes) bytes → bytes_form (bytes_word bytes) ≡ Some bytes
bytes_form-word [] are = bytes_form-dash
bytes_form-word (b ∷ bytes) are =
    bytes_form-digits (encode_lower (b ∷ bytes)) (omega (arith, length-encode_with lower_digits (b ∷ bytes)))
    ∙ ap result_ok (decode_of-encode_lower (b ∷ bytes) (digits_of (length (b ∷ bytes)) (b ∷ bytes) are))

-- a byte of a written word that may also stand first in a line
abbrev is_digit_like : ℕ → Bool
is_digit_like c = is_word_byte c && not (c == 35)

-- the test of the first n digits
abbrev digits_below : ℕ → Bool
digits_below zero = true
digits_below (suc n) = is_digit_like (slice_index lower_digits n) && digits_below n

digits_below-at : (n d : ℕ) → digits_below n ≡ true → d < n → is_digit_like (slice_index lower_digits d) ≡ true
digits_below-at zero d h lt = absurd (omega arith)
digits_below-at (suc n) d h lt =
    let parts = and_parts (is_digit_like (slice_index lower_digits n)) (digits_below n) h in
    elim (cases_lt d n) [
      | inl below ↦ digits_below-at n d parts.1 below
      | inr top ↦ let same : d ≡ n = omega arith in rw same parts.0
    ]

digit_like : (d : ℕ) → d < 16 → is_digit_like (slice_index lower_digits d) ≡ true
digit_like d lt = digits_below-at 16 d refl lt

-- digits that are written are plain
pub digits_plain : (bytes : List ℕ) → hex.IsBytes bytes → list_all is_word_byte (encode_lower bytes) ≡ true
unfolding encode_with
digits_plain [] h = refl
digits_plain (b ∷ bytes) h =
    let fits : b < 256 = h 0 in
    let high = and_parts (is_word_byte (slice_index lower_digits (b / 16))) _ (digit_like (b / 16) (omega arith)) in
    let low = and_parts (is_word_byte (slice_index lower_digits (b % 16))) _ (digit_like (b % 16) (omega arith)) in
    rw (high.0, low.0) (digits_plain bytes (λ i. h (suc i)))

-- and the first is no `#`
pub first_digit : (bytes : List ℕ) → 0 < length bytes → hex.IsBytes bytes → not (slice_index (encode_lower bytes) 0 == 35) ≡ true
unfolding encode_with
first_digit [] some h = absurd (omega arith)
first_digit (b ∷ bytes) some h =
    let fits : b < 256 = h 0 in
    (and_parts (is_word_byte (slice_index lower_digits (b / 16))) _ (digit_like (b / 16) (omega arith))).1

pub plain_word : (n : ℕ) (bytes : List ℕ) → 0 < n → IsBytes n bytes → is_plain_word (encode_lower bytes) ≡ true
plain_word n bytes some are =
    let digits = digits_plain bytes (digits_of n bytes are) in
    let twice = length-encode_with lower_digits bytes in
    let size = are.size in
    rw digits (let more : 0 < length (encode_lower bytes) = omega arith in grind arith)

pub bytes_word-plain : (bytes : List ℕ) → IsBytes (length bytes) bytes → is_plain_word (bytes_word bytes) ≡ true
bytes_word-plain [] are = refl
bytes_word-plain (b ∷ bytes) are = plain_word (length (b ∷ bytes)) (b ∷ bytes) (omega arith) are

pub list_all-both : (a b : List ℕ) → list_all is_word_byte a ≡ true → list_all is_word_byte b ≡ true → list_all is_word_byte (a ++ b) ≡ true
list_all-both a b h k = list_all-append is_word_byte a b ∙ (rw h k)

pub all_writable : {A : Type 0} (P : A → Type 0) (words : A → List (List ℕ)) → ((x : A) → P x → is_writable (words x) ≡ true)
    → (lines : List A) → All P lines → list_all is_writable (map words lines) ≡ true
all_writable P words writable [] h = refl
all_writable P words writable (line ∷ lines) h =
    rw (writable line (All-head P line lines h)) (all_writable P words writable lines (All-tail P line lines h))

-- reading lines whose words are those of values
pub read_from-words : {A : Type 0} (P : A → Type 0) (means : List (List ℕ) → Result A Cause) (words : A → List (List ℕ)) → ((x : A) → P x → means (words x) ≡ Ok x)
    → (most : ℕ) (seen : List A) (lines : List TextLine) (xs : List A) → map (λ line. line.words) lines ≡ map words xs → All P xs → length seen + length xs ≤ most
    → read_from (λ _ ws. means ws) most seen lines ≡ Ok (seen ++ xs)
unfolding read_from
read_from-words P means words reads most seen [] [] e h few = ap Ok (sym (append-nil seen))
read_from-words P means words reads most seen [] (x ∷ xs) e h few = cc e
read_from-words P means words reads most seen (line ∷ lines) [] e h few = cc e
read_from-words {A} P means words reads most seen (line ∷ lines) (x ∷ xs) e h few =
    let here : line.words ≡ words x = cc e in
    let others : map (λ line. line.words) lines ≡ map words xs = cc e in
    let size = length_pushed seen x in
    read_from-ok (λ _ ws. means ws) most seen line lines x (limited-few most (length seen) (means line.words) (omega arith) ∙ ap means here ∙ reads x (All-head P x xs h))
    ∙ read_from-words P means words reads most (seen ++ x ∷ []) lines xs others (All-tail P x xs h) (omega arith)
    ∙ ap Ok (append_assoc seen (x ∷ []) xs)
