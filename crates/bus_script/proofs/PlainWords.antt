-- The words of a line are plain
use Rattle.std.proofs.Common.{◌≡◌, ℕ, ◌<◌, ◌^◌, Bool, true, false, Option, None, Some, List, [], ◌∷◌, ◌++◌, length, refl, ◌∙◌, arith, lit<, inl, inr}
use Rattle.std.specs.Prelude.{IfSome, get_or}
use Rattle.std.specs.Fmt.{decimal}
use Rattle.std.specs.List.{flat_map, All}
use Rattle.std.specs.Str.Parse.{AllDigits}
use Rattle.std.proofs.lemmas.Bool.{cases_lt}
use Rattle.std.proofs.lemmas.Fmt.{decimal_is_IsNumeral}
use Rattle.std.proofs.lemmas.Str.Parse.{digit_from_value}
use Rattle.std.proofs.lemmas.List.{get_or_past}
use Rattle.std.proofs.lemmas.List.Elements.{All-get_or, All-head, All-tail}
use Rattle.std.proofs.lemmas.List.Sums.{list_all-from_AllPass}
use Rattle.std.proofs.lemmas.List.Folds.{list_all-append}
use Rattle.basics.specs.Bytes.{IsBytes}
use Rattle.basics.specs.Numbers.{bytes_of}
use Rattle.basics.proofs.CallerLemmas.{IsBytes-bytes_of}
use Rattle.hex.specs.Hex as hex
use Rattle.hex.specs.Hex.{encode_lower, is_hex_digit}
use Rattle.hex.proofs.HexLemmas.{decode_of-encode_lower, decode_of-ok}
use Rattle.key_slots.specs.declared.refusals.Erc.{Erc}
use Rattle.key_slots.specs.declared.refusals.Erc.TheVariants.{KeyNotAvailable, KeyInvalid, KeyEmpty, NoSecureBoot, KeyWriteProtected, KeyUpdateError, SequenceError}
use Rattle.key_slots.specs.Names.{erc_name}
use Rattle.bus_machine.specs.declared.lines.Line.{Line}
use Rattle.bus_machine.specs.declared.lines.Line.TheVariants.{Sent, Accepted, FreshnessFailure, VerificationFailure, Keyed, Loaded, Boot, Up, Armed, NoFrame, Refused}
use Rattle.bus_machine.specs.declared.lines.Refusal.{Refusal}
use Rattle.bus_machine.specs.declared.lines.Refusal.TheVariants.{Down, NoRoute, BadLength, Key, Exhausted, MemoryFailure, NotFormatted, Damaged, BadSlot, BadBound}
use Rattle.bus_script.specs.LineTexts.{told_words, refusal_words, source_word, boot_word}
use Rattle.bus_machine.specs.LineKinds.{IsLine, IsRefusal}
use Rattle.bus_script.proofs.Cutting.{is_plain, is_plain_word, are_plain}

-- ---- digits

-- bytes, read at any place
pub read_anywhere : (n : ℕ) (bytes : List ℕ) → IsBytes n bytes → hex.IsBytes bytes
read_anywhere n bytes are i =
    elim (cases_lt i (length bytes)) [
      | inl h ↦ All-get_or (λ b. b < 256) bytes i 0 h are.bytes
      | inr h ↦ rw (get_or_past bytes i 0 h) (lit< tt)
    ]

hex_is_plain : (c : ℕ) → is_hex_digit c ≡ true → is_plain c ≡ true
hex_is_plain c h = grind arith

pub hex_plain : (n : ℕ) (bytes : List ℕ) → IsBytes n bytes → is_plain_word (encode_lower bytes) ≡ true
hex_plain n bytes are =
    let are_digits = (decode_of-ok (encode_lower bytes) bytes (decode_of-encode_lower bytes (read_anywhere n bytes are))).1 in
    list_all-from_AllPass is_plain (encode_lower bytes) (λ i d m. hex_is_plain (get_or (encode_lower bytes) i d) (are_digits i d m))

digits_plain : (digits : List ℕ) → AllDigits 10 digits → is_plain_word digits ≡ true
digits_plain [] h = refl
digits_plain (c ∷ digits) h =
    let range = digit_from_value c h.0 in
    let here : is_plain c ≡ true = grind arith in
    rw here (digits_plain digits h.1)

pub decimal_plain : (n : ℕ) → n < 2 ^ 64 → is_plain_word (decimal n) ≡ true
decimal_plain n fits = digits_plain (decimal n) (decimal_is_IsNumeral n fits).0.1

both_plain : (a b : List ℕ) → is_plain_word a ≡ true → is_plain_word b ≡ true → is_plain_word (a ++ b) ≡ true
both_plain a b h k = list_all-append is_plain a b ∙ (rw h k)

blocks_plain : (blocks : List (List ℕ)) → All (IsBytes 16) blocks → is_plain_word (flat_map encode_lower blocks) ≡ true
blocks_plain [] are = refl
blocks_plain (block ∷ blocks) are =
    both_plain (encode_lower block) (flat_map encode_lower blocks) (hex_plain 16 block (All-head (IsBytes 16) block blocks are))
    (blocks_plain blocks (All-tail (IsBytes 16) block blocks are))

-- ---- lines

erc_plain : (refusal : Erc) → is_plain_word (erc_name refusal) ≡ true
erc_plain KeyNotAvailable = refl
erc_plain KeyInvalid = refl
erc_plain KeyEmpty = refl
erc_plain NoSecureBoot = refl
erc_plain KeyWriteProtected = refl
erc_plain KeyUpdateError = refl
erc_plain SequenceError = refl

refusal_plain : (refusal : Refusal) → IsRefusal refusal → are_plain (refusal_words refusal) ≡ true
refusal_plain Down h = refl
refusal_plain NoRoute h = refl
refusal_plain BadLength h = refl
refusal_plain (Key refusal) h = rw (erc_plain refusal) refl
refusal_plain Exhausted h = refl
refusal_plain MemoryFailure h = refl
refusal_plain NotFormatted h = refl
refusal_plain (Damaged place) h = rw (decimal_plain place (omega arith)) refl
refusal_plain (BadSlot slot) h = rw (decimal_plain slot (omega arith)) refl
refusal_plain (BadBound cell) h = rw (decimal_plain cell (omega arith)) refl

source_plain : (source : Option ℕ) → IfSome source (λ event. event < 2 ^ 32) → is_plain_word (source_word source) ≡ true
source_plain None h = refl
source_plain (Some event) h = decimal_plain event (omega arith)

boot_plain : (good : Bool) → is_plain_word (boot_word good) ≡ true
boot_plain true = refl
boot_plain false = refl

pub told_plain : (line : Line) → IsLine line → are_plain (told_words line) ≡ true
told_plain (Sent id v pdu) h =
    rw (
      hex_plain 2 (bytes_of 2 id) (IsBytes-bytes_of 2 id),
      hex_plain 8 (bytes_of 8 v) (IsBytes-bytes_of 8 v),
      hex_plain (length pdu) pdu h.2.are_bytes,
    ) refl
told_plain (Accepted id v payload source) h =
    rw (
      hex_plain 2 (bytes_of 2 id) (IsBytes-bytes_of 2 id),
      hex_plain 8 (bytes_of 8 v) (IsBytes-bytes_of 8 v),
      hex_plain (length payload) payload h.2.are_bytes,
      source_plain source h.3,
    ) refl
told_plain FreshnessFailure h = refl
told_plain VerificationFailure h = refl
told_plain (Keyed slot) h = rw (decimal_plain slot (omega arith)) refl
told_plain (Loaded reply) h = rw (blocks_plain reply.m4 h.m4, hex_plain 16 reply.m5 h.m5) refl
told_plain (Boot good) h = rw (boot_plain good) refl
told_plain Up h = refl
told_plain Armed h = refl
told_plain NoFrame h = refl
told_plain (Refused refusal) h = refusal_plain refusal h
