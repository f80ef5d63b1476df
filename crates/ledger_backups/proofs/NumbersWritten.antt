-- Decimal numbers are plain words, and are read again
use Rattle.std.proofs.Common.{◌≡◌, ℕ, zero, suc, ◌<◌, ◌≤◌, ◌^◌, Bool, true, cond, List, [], ◌∷◌, length, Some, None, refl, ap, arith, lit<}
use Rattle.std.specs.Prelude.{◌&&◌, nat_le, slice_index_or}
use Rattle.std.specs.List.{list_all}
use Rattle.std.specs.Fmt.{decimal}
use Rattle.std.specs.Str.Parse.{AllDigits}
use Rattle.std.specs.Char.{is_ascii_digit}
use Rattle.std.proofs.lemmas.Bool.{and_parts}
use Rattle.std.proofs.lemmas.Fmt.{decimal_is_IsNumeral, first_decimal, decimal_digit}
use Rattle.std.proofs.lemmas.Str.Parse.{digit_from_value}
use Rattle.text_lines.specs.Forms.{is_number, number_form}
use Rattle.text_lines.specs.Written.{is_word_byte, is_plain_word}

decimal_digits : (word : List ℕ) → AllDigits 10 word → list_all is_ascii_digit word ≡ true
decimal_digits [] h = refl
decimal_digits (c ∷ word) h = let range = digit_from_value c h.0 in let digit : is_ascii_digit c ≡ true = grind arith in rw digit (decimal_digits word h.1)

digit_plain : (c : ℕ) → is_ascii_digit c ≡ true → is_word_byte c ≡ true
digit_plain c h = grind arith

digits_plain : (word : List ℕ) → list_all is_ascii_digit word ≡ true → list_all is_word_byte word ≡ true
digits_plain [] h = refl
digits_plain (c ∷ word) h =
    let parts = and_parts (is_ascii_digit c) (list_all is_ascii_digit word) h in
    rw (digit_plain c parts.0) (digits_plain word parts.1)

pub number_plain : (n : ℕ) → n < 2 ^ 64 → is_plain_word (decimal n) ≡ true
number_plain n small =
    let numeral = (decimal_is_IsNumeral n small).0 in
    let plain = digits_plain (decimal n) (decimal_digits (decimal n) numeral.1) in
    let some = numeral.0 in
    rw plain (grind arith)

-- only the number 0 begins with 0
decimal_is_number : (n : ℕ) → n < 2 ^ 64 → is_number (decimal n) ≡ true
decimal_is_number zero small = ap is_number (decimal_digit 0 (lit< tt))
decimal_is_number (suc n) small =
    let numeral = (decimal_is_IsNumeral (suc n) small).0 in
    let first = first_decimal (suc n) (omega arith) small in
    leading (decimal (suc n)) numeral.0 (decimal_digits (decimal (suc n)) numeral.1) first
  where
    leading : (digits : List ℕ) → 0 < length digits → list_all is_ascii_digit digits ≡ true → 48 < slice_index_or digits 0 0 → is_number digits ≡ true
    leading digits some all first = grind arith

within : (a : Bool) (value least most : ℕ) → a ≡ true → least ≤ value → value ≤ most → cond (a && nat_le least value && nat_le value most) (Some value) None ≡ Some value
within a value least most h above below = grind arith

pub number_written : (least most n : ℕ) → n < 2 ^ 64 → least ≤ n → n ≤ most → number_form least most (decimal n) ≡ Some n
unfolding number_form
number_written least most n small above below =
    let value = (decimal_is_IsNumeral n small).1 in
    rw value (within (is_number (decimal n)) n least most (decimal_is_number n small) above below)
