-- The words of a line are read back as that line, so lines are told apart by their words
use Rattle.std.proofs.Common.{◌≡◌, ℕ, ◌<◌, ◌^◌, true, false, cond, Option, None, Some, Result, Ok, Err, List, [], ◌∷◌, ◌++◌, length, take, drop, refl, sym, ◌∙◌, ap, arith, append-nil, subst, inl, inr}
use Rattle.std.specs.Prelude.{IfSome, codes, bytes_eq}
use Rattle.std.specs.Fmt.{decimal}
use Rattle.std.specs.List.{flat_map, All}
use Rattle.std.specs.Str.Parse.{AllDigits, digits_value}
use Rattle.std.proofs.lemmas.Fmt.{decimal_is_IsNumeral}
use Rattle.std.proofs.lemmas.Bool.{cases_Bool}
use Rattle.std.proofs.lemmas.List.Elements.{All-head, All-tail}
use Rattle.std.proofs.lemmas.Slice.Eq.{bytes_eq-Decides}
use Rattle.std.proofs.Math.Seq.{take-append_seam, drop-append_seam}
use Rattle.basics.specs.Bytes.{IsBytes}
use Rattle.basics.specs.Numbers.{number_of, bytes_of}
use Rattle.basics.proofs.CallerLemmas.{IsBytes-bytes_of, number_of-bytes_of-lt}
use Rattle.hex.specs.Hex.{encode_lower, decode_of, lower_digits}
use Rattle.hex.proofs.HexLemmas.{length-encode_with, decode_of-encode_lower}
use Rattle.key_slots.specs.declared.refusals.Erc.{Erc}
use Rattle.key_slots.specs.declared.refusals.Erc.TheVariants.{KeyNotAvailable, KeyInvalid, KeyEmpty, NoSecureBoot, KeyWriteProtected, KeyUpdateError, SequenceError}
use Rattle.key_slots.specs.Names.{erc_name}
use Rattle.bus_machine.specs.declared.lines.Line.{Line}
use Rattle.bus_machine.specs.declared.lines.Line.TheVariants.{Sent, Accepted, FreshnessFailure, VerificationFailure, Keyed, Loaded, Boot, Up, Armed, NoFrame, Refused}
use Rattle.bus_machine.specs.declared.lines.Refusal.{Refusal}
use Rattle.bus_machine.specs.declared.lines.Refusal.TheVariants.{Down, NoRoute, BadLength, Key, Exhausted, MemoryFailure, NotFormatted, Damaged, BadSlot, BadBound}
use Rattle.bus_script.specs.LineTexts.{told_words, refusal_words, source_word}
use Rattle.bus_machine.specs.LineKinds.{IsLine, IsRefusal}
use Rattle.bus_script.proofs.PlainWords.{read_anywhere}

-- ---- reading words

-- the bytes of hexadecimal digits
abbrev ok_or_none : {E : Type 0} → Result (List ℕ) E → List ℕ
ok_or_none (Ok bytes) = bytes
ok_or_none (Err e) = []

abbrev bytes_in : List ℕ → List ℕ
bytes_in word = ok_or_none (decode_of word)

abbrev read_source : List ℕ → Option ℕ
read_source word = cond (bytes_eq word (codes "none")) None (Some (digits_value 10 word))

abbrev read_erc : List ℕ → Erc
read_erc word =
    cond (bytes_eq word (codes "KEY_NOT_AVAILABLE")) KeyNotAvailable
    (cond (bytes_eq word (codes "KEY_INVALID")) KeyInvalid
    (cond (bytes_eq word (codes "KEY_EMPTY")) KeyEmpty
    (cond (bytes_eq word (codes "NO_SECURE_BOOT")) NoSecureBoot
    (cond (bytes_eq word (codes "KEY_WRITE_PROTECTED")) KeyWriteProtected
    (cond (bytes_eq word (codes "KEY_UPDATE_ERROR")) KeyUpdateError SequenceError)))))

abbrev read_refusal : List (List ℕ) → Refusal
read_refusal [] = Down
read_refusal (word ∷ []) =
    cond (bytes_eq word (codes "Down")) Down
    (cond (bytes_eq word (codes "NoRoute")) NoRoute
    (cond (bytes_eq word (codes "BadLength")) BadLength
    (cond (bytes_eq word (codes "Exhausted")) Exhausted
    (cond (bytes_eq word (codes "MEMORY_FAILURE")) MemoryFailure
    (cond (bytes_eq word (codes "NotFormatted")) NotFormatted (Key (read_erc word)))))))
read_refusal (word ∷ number ∷ rest) =
    cond (bytes_eq word (codes "Damaged")) (Damaged (digits_value 10 number))
    (cond (bytes_eq word (codes "BadSlot")) (BadSlot (digits_value 10 number)) (BadBound (digits_value 10 number)))

-- the line with this first word and these words after it
abbrev read_alone : List ℕ → Line
read_alone word =
    cond (bytes_eq word (codes "FRESHNESSFAILURE")) FreshnessFailure
    (cond (bytes_eq word (codes "VERIFICATIONFAILURE")) VerificationFailure
    (cond (bytes_eq word (codes "up")) Up Armed))

abbrev read_with_one : List ℕ → List ℕ → Line
read_with_one word value =
    cond (bytes_eq word (codes "keyed")) (Keyed (digits_value 10 value))
    (cond (bytes_eq word (codes "boot")) (Boot (bytes_eq value (codes "ok"))) NoFrame)

abbrev read_behind : List ℕ → List (List ℕ) → Line
read_behind word [] = read_alone word
read_behind word (a ∷ []) = read_with_one word a
read_behind word (a ∷ b ∷ []) =
    Loaded (record { m4 = bytes_in (take 32 a) ∷ bytes_in (drop 32 a) ∷ []; m5 = bytes_in b })
read_behind word (a ∷ b ∷ c ∷ []) = Sent (number_of (bytes_in a)) (number_of (bytes_in b)) (bytes_in c)
read_behind word (a ∷ b ∷ c ∷ d ∷ []) = NoFrame
read_behind word (a ∷ b ∷ c ∷ d ∷ e ∷ rest) = Accepted (number_of (bytes_in a)) (number_of (bytes_in b)) (bytes_in c) (read_source e)

abbrev read_words : List (List ℕ) → Line
read_words [] = NoFrame
read_words (word ∷ rest) = cond (bytes_eq word (codes "refused")) (Refused (read_refusal rest)) (read_behind word rest)

-- ---- words are read as what they were written for

bytes_in-hex : (n : ℕ) (bytes : List ℕ) → IsBytes n bytes → bytes_in (encode_lower bytes) ≡ bytes
bytes_in-hex n bytes are = ap ok_or_none (decode_of-encode_lower bytes (read_anywhere n bytes are))

id_back : (id : ℕ) → id < 2 ^ 16 → number_of (bytes_in (encode_lower (bytes_of 2 id))) ≡ id
id_back id fits = ap number_of (bytes_in-hex 2 (bytes_of 2 id) (IsBytes-bytes_of 2 id)) ∙ number_of-bytes_of-lt 2 id fits

freshness_back : (v : ℕ) → v < 2 ^ 64 → number_of (bytes_in (encode_lower (bytes_of 8 v))) ≡ v
freshness_back v fits = ap number_of (bytes_in-hex 8 (bytes_of 8 v) (IsBytes-bytes_of 8 v)) ∙ number_of-bytes_of-lt 8 v fits

number_back : (n : ℕ) → n < 2 ^ 64 → digits_value 10 (decimal n) ≡ n
number_back n fits = (decimal_is_IsNumeral n fits).1

-- a number is not the word `none`
number_is_no_word : (n : ℕ) → n < 2 ^ 64 → decimal n ≡ codes "none" → ⊥
number_is_no_word n fits e = let first = (subst (AllDigits 10) e (decimal_is_IsNumeral n fits).0.1).0 in grind arith

source_back : (source : Option ℕ) → IfSome source (λ event. event < 2 ^ 32) → read_source (source_word source) ≡ source
source_back None h = refl
source_back (Some event) h =
    let fits : event < 2 ^ 64 = omega arith in
    let other : bytes_eq (decimal event) (codes "none") ≡ false =
    elim (cases_Bool (bytes_eq (decimal event) (codes "none"))) [
      | inl same ↦ absurd (number_is_no_word event fits ((bytes_eq-Decides (decimal event) (codes "none")).0 same))
      | inr other ↦ other
    ] in
    rw other (ap (λ (n : ℕ). Some n) (number_back event fits))

two_back : (first second : List ℕ) → IsBytes 16 first → IsBytes 16 second
    → bytes_in (take 32 (encode_lower first ++ (encode_lower second ++ []))) ∷ bytes_in (drop 32 (encode_lower first ++ (encode_lower second ++ []))) ∷ []
    ≡ first ∷ second ∷ []
two_back first second one two =
    let front : length (encode_lower first) ≡ 32 = let size = one.size in omega (arith, length-encode_with lower_digits first) in
    let before : take 32 (encode_lower first ++ (encode_lower second ++ [])) ≡ encode_lower first =
    ap (λ (n : ℕ). take n (encode_lower first ++ (encode_lower second ++ []))) (sym front) ∙ take-append_seam (encode_lower first) (encode_lower second ++ []) in
    let behind : drop 32 (encode_lower first ++ (encode_lower second ++ [])) ≡ encode_lower second ++ [] =
    ap (λ (n : ℕ). drop n (encode_lower first ++ (encode_lower second ++ []))) (sym front) ∙ drop-append_seam (encode_lower first) (encode_lower second ++ []) in
    rw (
      before,
      behind,
      append-nil (encode_lower second),
      bytes_in-hex 16 first one,
      bytes_in-hex 16 second two,
    ) refl

blocks_back : (blocks : List (List ℕ)) → length blocks ≡ 2 → All (IsBytes 16) blocks
    → bytes_in (take 32 (flat_map encode_lower blocks)) ∷ bytes_in (drop 32 (flat_map encode_lower blocks)) ∷ [] ≡ blocks
blocks_back [] size are = absurd (omega arith)
blocks_back (first ∷ []) size are = absurd (omega arith)
blocks_back (first ∷ second ∷ []) size are =
    let rest = All-tail (IsBytes 16) first (second ∷ []) are in
    two_back first second (All-head (IsBytes 16) first (second ∷ []) are) (All-head (IsBytes 16) second [] rest)
blocks_back (first ∷ second ∷ third ∷ blocks) size are = absurd (omega arith)

erc_back : (refusal : Erc) → read_refusal (erc_name refusal ∷ []) ≡ Key refusal
erc_back KeyNotAvailable = refl
erc_back KeyInvalid = refl
erc_back KeyEmpty = refl
erc_back NoSecureBoot = refl
erc_back KeyWriteProtected = refl
erc_back KeyUpdateError = refl
erc_back SequenceError = refl

refusal_back : (refusal : Refusal) → IsRefusal refusal → read_refusal (refusal_words refusal) ≡ refusal
refusal_back Down h = refl
refusal_back NoRoute h = refl
refusal_back BadLength h = refl
refusal_back (Key refusal) h = erc_back refusal
refusal_back Exhausted h = refl
refusal_back MemoryFailure h = refl
refusal_back NotFormatted h = refl
refusal_back (Damaged place) h = ap (λ (n : ℕ). Damaged n) (number_back place (omega arith))
refusal_back (BadSlot slot) h = ap (λ (n : ℕ). BadSlot n) (number_back slot (omega arith))
refusal_back (BadBound cell) h = ap (λ (n : ℕ). BadBound n) (number_back cell (omega arith))

line_back : (line : Line) → IsLine line → read_words (told_words line) ≡ line
line_back (Sent id v pdu) h = rw (id_back id h.0, freshness_back v h.1, bytes_in-hex (length pdu) pdu h.2.are_bytes) refl
line_back (Accepted id v payload source) h =
    rw (id_back id h.0, freshness_back v h.1, bytes_in-hex (length payload) payload h.2.are_bytes, source_back source h.3) refl
line_back FreshnessFailure h = refl
line_back VerificationFailure h = refl
line_back (Keyed slot) h = ap (λ (n : ℕ). Keyed n) (number_back slot (omega arith))
line_back (Loaded reply) h = rw (blocks_back reply.m4 h.two h.m4, bytes_in-hex 16 reply.m5 h.m5) refl
line_back (Boot true) h = refl
line_back (Boot false) h = refl
line_back Up h = refl
line_back Armed h = refl
line_back NoFrame h = refl
line_back (Refused refusal) h = ap (λ (r : Refusal). Refused r) (refusal_back refusal h)

-- lines are told apart by their words
pub same_told : (line other : Line) → IsLine line → IsLine other → told_words line ≡ told_words other → line ≡ other
same_told line other h k e = sym (line_back line h) ∙ ap read_words e ∙ line_back other k
