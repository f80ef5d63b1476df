-- Words that are numbers: what `from_utf8` and `parse` make of them.
use Rattle.std.proofs.Common.{◌≡◌, ℕ, ◌<◌, ◌≤◌, ◌^◌, Bool, true, false, List, [], ◌∷◌, length, Some, None, Result, Ok, Err, refl, subst, inl, inr, arith, cond}
use Rattle.std.specs.Prelude.{◌&&◌, nat_lt, nat_le, MatchResult}
use Rattle.std.specs.List.{list_all}
use Rattle.std.specs.Result.{result_ok}
use Rattle.std.specs.Char.{is_ascii_digit}
use Rattle.std.specs.Str.Parse.{AllDigits, IsNumeral, digits_value, without_leading_plus, ParsesUnsigned}
use Rattle.std.proofs.lemmas.Bool.{and_parts, cases_lt}
use Rattle.text_lines.specs.Forms.{is_number, number_form}

-- decimal digits by the test are digits in the radix
AllDigits-list_all : (word : List ℕ) → list_all is_ascii_digit word ≡ true → AllDigits 10 word
AllDigits-list_all [] h = tt
AllDigits-list_all (c ∷ word) h =
    let parts = and_parts (is_ascii_digit c) (list_all is_ascii_digit word) h in
    (grind arith, AllDigits-list_all word parts.1)

-- a number is one digit or more
pub IsNumeral-is_number : (word : List ℕ) → is_number word ≡ true → IsNumeral 10 word
IsNumeral-is_number word h =
    let front = and_parts (nat_lt 0 (length word) && list_all is_ascii_digit word) _ h in
    let parts = and_parts (nat_lt 0 (length word)) (list_all is_ascii_digit word) front.0 in
    (grind arith, AllDigits-list_all word parts.1)

-- and has no sign
pub unsigned-is_number : (word : List ℕ) → is_number word ≡ true → without_leading_plus word ≡ word
unsigned-is_number [] h = refl
unsigned-is_number (c ∷ word) h = grind arith

-- an answer that isn't Ok is not that of a text
pub no_error : {T E : Type 0} (r : Result T E) (P : T → Type 0) (Q : E → Type 0) → None ≡ result_ok r → MatchResult r P Q → ((e : E) → Q e → ⊥) → ⊥
no_error (Ok x) P Q h m f = cc h
no_error (Err e) P Q h m f = f e m

-- what holds of the value of an Ok
pub value_holds : {T E : Type 0} (r : Result T E) (P : T → Type 0) (Q : E → Type 0) (x : T) → Some x ≡ result_ok r → MatchResult r P Q → P x
value_holds {T} (Ok y) P Q x h m = let same : y ≡ x = cc h in subst P same m
value_holds (Err e) P Q x h m = cc h

-- a text that isn't parsed writes no number of 64 bits
pub parse_refused : {E : Type 0} (word : List ℕ) (r : Result ℕ E) → None ≡ result_ok r → ParsesUnsigned 64 10 word r
    → IsNumeral 10 (without_leading_plus word) × (digits_value 10 (without_leading_plus word) < 2 ^ 64) → ⊥
parse_refused word (Ok x) h p = cc h
parse_refused word (Err e) h p = p

-- no number past the bound is given
past_bound : (a : Bool) (value most : ℕ) → most < value → cond (a && nat_le value most) (Some value) None ≡ None
past_bound true value most h = grind arith
past_bound false value most h = refl

-- a number past 64 bits is past every bound
pub number_form-large : (least most : ℕ) (word : List ℕ) → is_number word ≡ true → most < 2 ^ 64
    → (IsNumeral 10 (without_leading_plus word) × (digits_value 10 (without_leading_plus word) < 2 ^ 64) → ⊥)
    → number_form least most word ≡ None
unfolding number_form
number_form-large least most word h fits large =
    let plain = unsigned-is_number word h in
    let past : most < digits_value 10 word = elim (cases_lt most (digits_value 10 word)) [
      | inl lt ↦ lt
      | inr ge ↦ absurd (large (rw plain (IsNumeral-is_number word h, omega arith)))
    ] in
    past_bound _ (digits_value 10 word) most past

-- a number that is given is in its range
in_range : (a : Bool) (value least most n : ℕ) → cond (a && nat_le least value && nat_le value most) (Some value) None ≡ Some n → (least ≤ n) × (n ≤ most)
in_range a value least most n h = (grind arith, grind arith)

pub number_in_range : (least most : ℕ) (word : List ℕ) (n : ℕ) → number_form least most word ≡ Some n → (least ≤ n) × (n ≤ most)
unfolding number_form
number_in_range least most word n h = in_range (is_number word) (digits_value 10 word) least most n h

pub number_within : (least most : ℕ) (word : List ℕ) (n : ℕ) → number_form least most word ≡ Some n → n ≤ most
number_within least most word n h = (number_in_range least most word n h).1
