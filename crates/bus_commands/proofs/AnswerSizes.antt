-- How many bytes an answer has at most, and the answers of lines together.
use Rattle.std.proofs.Common.{◌≡◌, ◌<◌, ◌≤◌, ◌+◌, ◌-◌, ◌*◌, ℕ, List, [], ◌∷◌, ◌++◌, length, take, get_or, codes, refl, ap, subst, sym, ◌∙◌, inl, inr, arith, append_assoc, append-nil}
use Rattle.std.proofs.lemmas.List.{length-append, length-take, take_more}
use Rattle.basics.specs.Numbers.{bytes_of}
use Rattle.basics.proofs.CallerLemmas.{length-bytes_of}
use Rattle.hex.specs.Hex.{encode_lower, lower_digits}
use Rattle.hex.proofs.HexLemmas.{length-encode_with}
use Rattle.secured_pdu.specs.Frame.{IsFrame}
use Rattle.secured_pdu.proofs.CallerLemmas.{length-secured_frame}
use Rattle.secured_pdu.specs.Verdict.{Outcome, Accepted, FreshnessFailure, VerificationFailure, Verdict}
use Rattle.secoc_words.specs.declared.frames.FrameLine.{FrameLine}
use Rattle.secoc_words.specs.declared.judges.JudgeLine.{JudgeLine}
use Rattle.secoc_words.specs.Texts.{outcome_text, bad_length_text}
use Rattle.bus_commands.specs.Texts.{TellsFrame, TellsJudgement, TellsEach}

two_digits_each : (bytes : List ℕ) → length (encode_lower bytes) ≡ 2 * length bytes
two_digits_each bytes = length-encode_with lower_digits bytes

-- ---- an answer of `frame`

pub frame_text_size : (l : FrameLine) (text : List ℕ) → TellsFrame l text → length text ≡ 2 * (length l.payload + 4) + 1
frame_text_size l text told =
    let frame = told.0 in
    let size : length frame ≡ length l.payload + 4 = ap length told.1.frame_is ∙ length-secured_frame l.key l.id l.payload l.freshness in
    let whole : length text ≡ length (encode_lower frame ++ 10 ∷ []) = ap length told.2 in
    omega (arith, whole, length-append (encode_lower frame) (10 ∷ []), two_digits_each frame, size)

-- ---- an answer of `judge`

accepted_text_size : (payload : List ℕ) (freshness : ℕ) → length (outcome_text (Accepted payload freshness)) ≡ 38 + 2 * length payload
accepted_text_size payload freshness =
    let digits : List ℕ = encode_lower (bytes_of 8 freshness) in
    let blank : List ℕ = codes " " in
    let rest : List ℕ = encode_lower payload in
    let blank_size : length blank ≡ 1 = refl in
    let digits_size : length digits ≡ 16 = two_digits_each (bytes_of 8 freshness) ∙ ap (λ n. 2 * n) (length-bytes_of 8 freshness) in
    omega (
      arith,
      blank_size,
      digits_size,
      two_digits_each payload,
      length-append (digits ++ blank ++ rest) (10 ∷ []),
      length-append (digits ++ blank) rest,
      length-append digits blank,
    )

-- the verdict on a frame has no more bytes than its acceptance
outcome_text_fits : (key : List ℕ) (id counter : ℕ) (frame : List ℕ) (outcome : Outcome) → IsFrame frame → Verdict key id counter 256 frame outcome
    → length (outcome_text outcome) ≤ 38 + 2 * (length frame - 4)
outcome_text_fits key id counter frame (Accepted payload freshness) size verdict =
    let short : length payload ≤ length frame - 4 = omega (arith, ap length verdict.1, length-take (length frame - 4) frame) in
    omega (arith, accepted_text_size payload freshness, short)
outcome_text_fits key id counter frame FreshnessFailure size verdict =
    let told : length (outcome_text FreshnessFailure) ≡ 17 = refl in
    omega (arith, told)
outcome_text_fits key id counter frame VerificationFailure size verdict =
    let told : length (outcome_text VerificationFailure) ≡ 20 = refl in
    omega (arith, told)

pub judgement_text_fits : (l : JudgeLine) (text : List ℕ) (n : ℕ) → (IsFrame l.pdu → length l.pdu ≤ n + 4) → TellsJudgement l text → length text ≤ 38 + 2 * n
judgement_text_fits l text n within (inl bad) = let size : length bad_length_text ≡ 10 = refl in omega (arith, ap length bad.1, size)
judgement_text_fits l text n within (inr told) =
    let fits : length text ≤ 38 + 2 * (length l.pdu - 4) =
    subst (λ (t : List ℕ). length t ≤ 38 + 2 * (length l.pdu - 4)) (sym told.3) (outcome_text_fits l.key l.id l.counter l.pdu told.1 told.0 told.2) in
    omega (arith, fits, within told.0)

-- ---- the answers of lines

-- the last line's answer ends the text
last_answer : {A : Type 0} (Tells : A → List ℕ → Type 0) (lines : List A) (l : A) (text : List ℕ) → TellsEach Tells (lines ++ l ∷ []) text
    → (before answer : List ℕ) × TellsEach Tells lines before × Tells l answer × (text ≡ before ++ answer)
last_answer Tells [] l text each = ([], each.0, refl, each.2, each.4 ∙ ap (λ t. each.0 ++ t) each.3 ∙ append-nil each.0)
last_answer Tells (x ∷ xs) l text each =
    let rest = last_answer Tells xs l each.1 each.3 in (
      each.0 ++ rest.0,
      rest.1,
      (each.0, rest.0, each.2, rest.2, refl),
      rest.3,
      each.4 ∙ ap (λ t. each.0 ++ t) rest.4 ∙ sym (append_assoc each.0 rest.0 rest.1),
    )

-- the loop over lines, at the line at an index
pub answers_fit-at : {A : Type 0} (Tells : A → List ℕ → Type 0) (lines : List A) (i : ℕ) (l : A) (most bytes sum : ℕ)
    → i < length lines → l ≡ get_or lines i l → sum ≡ most + bytes
    → ((text : List ℕ) → TellsEach Tells (take i lines) text → length text ≤ most) → ((text : List ℕ) → Tells l text → length text ≤ bytes)
    → (text : List ℕ) → TellsEach Tells (take (i + 1) lines) text → length text ≤ sum
answers_fit-at Tells lines i l most bytes sum within is added fit one text each =
    let next : take (i + 1) lines ≡ take i lines ++ l ∷ [] = take_more lines i l within ∙ ap (λ x. take i lines ++ x ∷ []) (sym is) in
    let last = last_answer Tells (take i lines) l text (subst (λ xs. TellsEach Tells xs text) next each) in
    omega (arith, added, ap length last.4, length-append last.0 last.1, fit last.0 last.2, one last.1 last.3)
