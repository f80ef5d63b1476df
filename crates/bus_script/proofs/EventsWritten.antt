-- Events that are written in canonical form are read again.
use Rattle.std.proofs.Common.{◌≡◌, ℕ, zero, suc, ◌<◌, ◌≤◌, ◌^◌, ◌*◌, Bool, true, false, cond, List, [], ◌∷◌, length, Some, None, refl, ◌∙◌, ap, inl, inr, arith, lit<}
use Rattle.std.specs.Prelude.{◌&&◌, nat_le, slice_index, slice_index_or, codes, option_map}
use Rattle.std.specs.List.{list_all}
use Rattle.std.specs.Fmt.{decimal}
use Rattle.std.specs.Str.{bytes_eq}
use Rattle.std.specs.Str.Parse.{AllDigits}
use Rattle.std.specs.Char.{is_ascii_digit}
use Rattle.std.proofs.lemmas.Bool.{and_parts, cases_Bool}
use Rattle.std.proofs.lemmas.Fmt.{decimal_is_IsNumeral, first_decimal, decimal_digit}
use Rattle.std.proofs.lemmas.Str.Parse.{digit_from_value}
use Rattle.std.proofs.lemmas.Slice.Eq.{bytes_eq-Decides}
use Rattle.std.proofs.lemmas.List.Elements.{All-nil, All-cons}
use Rattle.basics.specs.Bytes.{IsBytes}
use Rattle.hex.specs.Hex.{encode_lower, lower_digits}
use Rattle.hex.proofs.HexLemmas.{length-encode_with}
use Rattle.cut_disk.specs.declared.Torn.{Torn}
use Rattle.cut_disk.specs.declared.Torn.TheVariants.{Keep, Old, Half, Fill}
use Rattle.key_slots.specs.Flags.{bit}
use Rattle.key_slots.specs.declared.memory.Flags.{Flags}
use Rattle.secoc_words.specs.DiskForms.{torn_form}
use Rattle.text_lines.specs.Forms.{is_number, number_form}
use Rattle.secoc_words.specs.KeyForms.{uid_form, flag_form, flags_form}
use Rattle.secoc_words.specs.Written.{flags_text}
use Rattle.text_lines.specs.Written.{is_word_byte, is_plain_word}
use Rattle.text_lines.proofs.CallerLemmas.{sized_encode, plain_word}
use Rattle.bus_script.specs.EventForms.{event_uid_form}
use Rattle.bus_script.specs.Canon.{torn_word}
use Rattle.bus_script.specs.ScriptEvents.{IsTorn}

-- ---- words of other lengths differ

differ : (a b : List ℕ) → (length a ≡ length b → ⊥) → bytes_eq a b ≡ false
differ a b h = elim (cases_Bool (bytes_eq a b)) [
  | inl same ↦ absurd (h (ap length ((bytes_eq-Decides a b).0 same)))
  | inr other ↦ other
]

digits_twice : (bytes : List ℕ) → length (encode_lower bytes) ≡ 2 * length bytes
digits_twice bytes = length-encode_with lower_digits bytes

-- ---- the identifier of an event

pub uid_written : (own uid : List ℕ) → IsBytes 15 uid → event_uid_form own (encode_lower uid) ≡ Some uid
unfolding event_uid_form uid_form
uid_written own uid is =
    let other : bytes_eq (encode_lower uid) (codes "-") ≡ false =
    differ (encode_lower uid) (codes "-") (λ e. let twice = digits_twice uid in let size = is.size in let one : length (codes "-") ≡ 1 = refl in omega arith) in
    rw other (sized_encode 15 uid is)

-- ---- numbers

decimal_digits : (word : List ℕ) → AllDigits 10 word → list_all is_ascii_digit word ≡ true
decimal_digits [] h = refl
decimal_digits (c ∷ word) h = let range = digit_from_value c h.0 in let digit : is_ascii_digit c ≡ true = grind arith in rw digit (decimal_digits word h.1)

digit_plain : (c : ℕ) → is_ascii_digit c ≡ true → is_word_byte c ≡ true
digit_plain c h = grind arith

digits_plain : (word : List ℕ) → list_all is_ascii_digit word ≡ true → list_all is_word_byte word ≡ true
digits_plain [] h = refl
digits_plain (c ∷ word) h =
    let parts = and_parts (is_ascii_digit c) (list_all is_ascii_digit word) h in
    rw (digit_plain c parts.0) (digits_plain word parts.1)

pub number_plain : (n : ℕ) → n < 2 ^ 64 → is_plain_word (decimal n) ≡ true
number_plain n small =
    let numeral = (decimal_is_IsNumeral n small).0 in
    let plain = digits_plain (decimal n) (decimal_digits (decimal n) numeral.1) in
    let some = numeral.0 in
    rw plain (grind arith)

-- only the number 0 begins with 0
decimal_is_number : (n : ℕ) → n < 2 ^ 64 → is_number (decimal n) ≡ true
decimal_is_number zero small = ap is_number (decimal_digit 0 (lit< tt))
decimal_is_number (suc n) small =
    let numeral = (decimal_is_IsNumeral (suc n) small).0 in
    let first = first_decimal (suc n) (omega arith) small in
    leading (decimal (suc n)) numeral.0 (decimal_digits (decimal (suc n)) numeral.1) first
  where
    leading : (digits : List ℕ) → 0 < length digits → list_all is_ascii_digit digits ≡ true → 48 < slice_index_or digits 0 0 → is_number digits ≡ true
    leading digits some all first = grind arith

within : (a : Bool) (value least most : ℕ) → a ≡ true → least ≤ value → value ≤ most → cond (a && nat_le least value && nat_le value most) (Some value) None ≡ Some value
within a value least most h above below = grind arith

pub number_written : (least most n : ℕ) → n < 2 ^ 64 → least ≤ n → n ≤ most → number_form least most (decimal n) ≡ Some n
unfolding number_form
number_written least most n small above below =
    let value = (decimal_is_IsNumeral n small).1 in
    rw value (within (is_number (decimal n)) n least most (decimal_is_number n small) above below)

-- ---- flags

flag_digit : Bool → ℕ
flag_digit false = 48
flag_digit true = 49

bit_digit : (b : Bool) → decimal (bit b) ≡ flag_digit b ∷ []
unfolding flag_digit
bit_digit false = decimal_digit 0 (lit< tt)
bit_digit true = decimal_digit 1 (lit< tt)

flag_read : (b : Bool) → flag_form (flag_digit b) ≡ Some b
unfolding flag_digit
flag_read false = refl
flag_read true = refl

flag_plain : (b : Bool) → is_word_byte (flag_digit b) ≡ true
unfolding flag_digit
flag_plain false = refl
flag_plain true = refl

five_digits : (f : Flags) → flags_text f ≡ flag_digit f.write ∷ flag_digit f.boot ∷ flag_digit f.debugger ∷ flag_digit f.usage ∷ flag_digit f.wildcard ∷ []
five_digits f = rw (bit_digit f.write, bit_digit f.boot, bit_digit f.debugger, bit_digit f.usage, bit_digit f.wildcard) refl

pub flags_written : (f : Flags) → flags_form (flags_text f) ≡ Some f
unfolding flags_form
flags_written f =
    ap flags_form (five_digits f)
    ∙ (rw (flag_read f.write, flag_read f.boot, flag_read f.debugger, flag_read f.usage, flag_read f.wildcard) refl)

pub flags_plain : (f : Flags) → is_plain_word (flags_text f) ≡ true
flags_plain f =
    ap is_plain_word (five_digits f)
    ∙ (rw (flag_plain f.write, flag_plain f.boot, flag_plain f.debugger, flag_plain f.usage, flag_plain f.wildcard) refl)

-- ---- what a power cut leaves

one_byte : (b : ℕ) → b < 256 → IsBytes 1 (b ∷ [])
one_byte b h = record { size = refl; bytes = All-cons (λ c. c < 256) b [] h (All-nil (λ c. c < 256)) }

fill_written : (b : ℕ) → b < 256 → torn_form (encode_lower (b ∷ [])) ≡ Some (Fill b)
unfolding torn_form
fill_written b h =
    let word : List ℕ = encode_lower (b ∷ []) in
    let two : length word ≡ 2 = digits_twice (b ∷ []) in
    let keep : bytes_eq word (codes "keep") ≡ false = differ word (codes "keep") (λ e. let four : length (codes "keep") ≡ 4 = refl in omega arith) in
    let old : bytes_eq word (codes "old") ≡ false = differ word (codes "old") (λ e. let three : length (codes "old") ≡ 3 = refl in omega arith) in
    let half : bytes_eq word (codes "half") ≡ false = differ word (codes "half") (λ e. let four : length (codes "half") ≡ 4 = refl in omega arith) in
    rw (keep, old, half) (ap (option_map (λ bytes. Fill (slice_index bytes 0))) (sized_encode 1 (b ∷ []) (one_byte b h)))

pub torn_written : (torn : Torn) → IsTorn torn → torn_form (torn_word torn) ≡ Some torn
unfolding torn_form
torn_written Keep h = refl
torn_written Old h = refl
torn_written Half h = refl
torn_written (Fill b) h = fill_written b h

pub torn_plain : (torn : Torn) → IsTorn torn → is_plain_word (torn_word torn) ≡ true
torn_plain Keep h = refl
torn_plain Old h = refl
torn_plain Half h = refl
torn_plain (Fill b) h = plain_word 1 (b ∷ []) (lit< tt) (one_byte b h)
