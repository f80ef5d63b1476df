-- The object of an answer is that of its finding
use Rattle.std.proofs.Common.{◌≡◌, ℕ, ◌+◌, ◌*◌, ◌-◌, ◌≤◌, Bool, true, false, List, [], ◌∷◌, ◌++◌, length, take, drop, refl, sym, ap, ◌∙◌, subst, arith, append_assoc, length-append}
use Rattle.std.specs.Prelude.{codes, ◌&&◌, if◌then◌else◌}
use Rattle.std.specs.Fmt.{decimal}
use Rattle.std.proofs.Math.Seq.{take-append_seam, drop-append_seam}
use Rattle.basics.specs.Numbers.{bytes_of}
use Rattle.hex.specs.Hex.{encode_lower, lower_digits}
use Rattle.hex.proofs.HexLemmas.{length-encode_with}
use Rattle.secured_pdu.specs.Verdict.{Outcome, Accepted, FreshnessFailure, VerificationFailure}
use Rattle.text_lines.specs.Texts.{line}
use Rattle.can_logs.specs.Findings.{Finding, other, too_short, verdict, front_text, finding_text, tally_of, is_accepted_tally}
use Rattle.basics.proofs.CallerLemmas.{length-bytes_of}
use Rattle.watch_commands.specs.declared.options.WatchOptions.{WatchOptions}
use Rattle.watch_commands.specs.Stamps.{LineStamp, lead_text}
use Rattle.watch_commands.specs.Watching.{told_text, finding_line}
use Rattle.watch_commands.specs.Objects.{finding_object}
use Rattle.watch_commands.specs.Answers.{IsAnswerTo, front_object, said_object}

-- of an accepted frame: the word, the freshness and the payload
accepted_said : (fresh payload : List ℕ) → length fresh ≡ 16
    → said_object true (codes "VERIFICATIONSUCCESS " ++ fresh ++ codes " " ++ payload)
    ≡ (codes "VERIFICATIONSUCCESS" ++ codes "\",\"freshness\":\"" ++ fresh ++ codes "\",\"payload\":\"" ++ payload) ++ line (codes "\"}")
accepted_said fresh payload sixteen =
    let first : take 16 ((fresh ++ codes " ") ++ payload) ≡ fresh =
    ap (take 16) (append_assoc fresh (codes " ") payload) ∙ ap (λ n. take n (fresh ++ (codes " " ++ payload))) (sym sixteen) ∙ take-append_seam fresh (codes " " ++ payload) in
    let seventeen : 17 ≡ length (fresh ++ codes " ") = omega (arith, sixteen, length-append fresh (codes " ")) in
    let rest : drop 17 ((fresh ++ codes " ") ++ payload) ≡ payload =
    ap (λ n. drop n ((fresh ++ codes " ") ++ payload)) seventeen ∙ drop-append_seam (fresh ++ codes " ") payload in
    ap (λ f. (((codes "VERIFICATIONSUCCESS" ++ codes "\",\"freshness\":\"") ++ f ++ codes "\",\"payload\":\"") ++ drop 17 ((fresh ++ codes " ") ++ payload)) ++ line (codes "\"}")) first
    ∙ ap (λ p. (((codes "VERIFICATIONSUCCESS" ++ codes "\",\"freshness\":\"") ++ fresh ++ codes "\",\"payload\":\"") ++ p) ++ line (codes "\"}")) rest

-- what an answer says of a frame, between its front and its line feed
pub record Says (number : ℕ) (head : List ℕ) (accepted : Bool) (answer : List ℕ) (f : Finding) : Type 0 where
  pub said : List ℕ
  pub answer_is : answer ≡ front_text number head ++ (said ++ 10 ∷ [])
  pub long : accepted ≡ true → 37 ≤ length said
  pub object : finding_object f ≡ front_object (decimal number) head ++ said_object accepted said

says_short : (number : ℕ) (head said : List ℕ) → (front_object (decimal number) head ++ said) ++ line (codes "\"}") ≡ front_object (decimal number) head ++ said_object false said
says_short number head said = append_assoc (front_object (decimal number) head) said (line (codes "\"}"))

joined : (f w a fresh b payload l : List ℕ) → ((f ++ w) ++ (((a ++ fresh) ++ b) ++ payload)) ++ l ≡ f ++ (((((w ++ a) ++ fresh) ++ b) ++ payload) ++ l)
joined f w a fresh b payload l = simp append_assoc

digits_twice_of : (bytes : List ℕ) → length (encode_lower bytes) ≡ 2 * length bytes
digits_twice_of bytes = length-encode_with lower_digits bytes

freshness_digits : (freshness : ℕ) → length (encode_lower (bytes_of 8 freshness)) ≡ 16
freshness_digits freshness = omega (arith, digits_twice_of (bytes_of 8 freshness), length-bytes_of 8 freshness)

long_said : (w fresh word : List ℕ) → length w ≡ 20 → length fresh ≡ 16 → 37 ≤ length (((w ++ fresh) ++ codes " ") ++ word)
long_said w fresh word twenty sixteen = omega (arith, length-append ((w ++ fresh) ++ codes " ") word, length-append (w ++ fresh) (codes " "), length-append w fresh)

pub says : (number : ℕ) (head : List ℕ) (accepted : Bool) (answer : List ℕ) (f : Finding) → IsAnswerTo number head accepted answer f
    → Says number head accepted answer f
says number head accepted answer (other kind) is = absurd is
says number head accepted answer (too_short n p can) (number_is, can_is, accepted_is, is) = record {
  said = codes "BadLength";
  answer_is = is ∙ ap (λ (k : ℕ). front_text k can ++ line (codes "BadLength")) number_is ∙ ap (λ h. front_text number h ++ line (codes "BadLength")) can_is;
  long = λ is_true. let clash : true ≡ false = sym is_true ∙ accepted_is in cc;
  object = ap (λ (k : ℕ). finding_object (too_short k p can)) number_is ∙ ap (λ h. finding_object (too_short number p h)) can_is
      ∙ says_short number head (codes "BadLength") ∙ ap (λ (b : Bool). front_object (decimal number) head ++ said_object b (codes "BadLength")) (sym accepted_is);
}
says number head accepted answer (verdict n p can (Accepted payload freshness)) (number_is, can_is, accepted_is, is) =
    let fresh : List ℕ = encode_lower (bytes_of 8 freshness) in
    let word : List ℕ = encode_lower payload in
    let outcome : Outcome = Accepted payload freshness in record {
      said = codes "VERIFICATIONSUCCESS " ++ fresh ++ codes " " ++ word;
      answer_is = is ∙ ap (λ (k : ℕ). finding_text (verdict k p can outcome)) number_is ∙ ap (λ h. finding_text (verdict number p h outcome)) can_is;
      long = λ is_true. long_said (codes "VERIFICATIONSUCCESS ") fresh word refl (freshness_digits freshness);
      object = ap (λ (k : ℕ). finding_object (verdict k p can outcome)) number_is ∙ ap (λ h. finding_object (verdict number p h outcome)) can_is
          ∙ joined (front_object (decimal number) head) (codes "VERIFICATIONSUCCESS") (codes "\",\"freshness\":\"") fresh (codes "\",\"payload\":\"") word (line (codes "\"}"))
          ∙ ap (λ s. front_object (decimal number) head ++ s) (sym (accepted_said fresh word (freshness_digits freshness)))
          ∙ ap (λ (b : Bool). front_object (decimal number) head ++ said_object b (codes "VERIFICATIONSUCCESS " ++ fresh ++ codes " " ++ word)) (sym accepted_is);
    }
says number head accepted answer (verdict n p can FreshnessFailure) (number_is, can_is, accepted_is, is) = record {
  said = codes "FRESHNESSFAILURE";
  answer_is = is ∙ ap (λ (k : ℕ). finding_text (verdict k p can FreshnessFailure)) number_is ∙ ap (λ h. finding_text (verdict number p h FreshnessFailure)) can_is;
  long = λ is_true. let clash : true ≡ false = sym is_true ∙ accepted_is in cc;
  object = ap (λ (k : ℕ). finding_object (verdict k p can FreshnessFailure)) number_is ∙ ap (λ h. finding_object (verdict number p h FreshnessFailure)) can_is
      ∙ says_short number head (codes "FRESHNESSFAILURE") ∙ ap (λ (b : Bool). front_object (decimal number) head ++ said_object b (codes "FRESHNESSFAILURE")) (sym accepted_is);
}
says number head accepted answer (verdict n p can VerificationFailure) (number_is, can_is, accepted_is, is) = record {
  said = codes "VERIFICATIONFAILURE";
  answer_is = is ∙ ap (λ (k : ℕ). finding_text (verdict k p can VerificationFailure)) number_is ∙ ap (λ h. finding_text (verdict number p h VerificationFailure)) can_is;
  long = λ is_true. let clash : true ≡ false = sym is_true ∙ accepted_is in cc;
  object = ap (λ (k : ℕ). finding_object (verdict k p can VerificationFailure)) number_is ∙ ap (λ h. finding_object (verdict number p h VerificationFailure)) can_is
      ∙ says_short number head (codes "VERIFICATIONFAILURE") ∙ ap (λ (b : Bool). front_object (decimal number) head ++ said_object b (codes "VERIFICATIONFAILURE")) (sym accepted_is);
}

-- ---- what is printed

accepted_of : (number : ℕ) (head : List ℕ) (accepted : Bool) (answer : List ℕ) (f : Finding) → IsAnswerTo number head accepted answer f
    → is_accepted_tally (tally_of f) ≡ accepted
accepted_of number head accepted answer (other kind) is = absurd is
accepted_of number head accepted answer (too_short n p can) (number_is, can_is, accepted_is, is) = sym accepted_is
accepted_of number head accepted answer (verdict n p can outcome) (number_is, can_is, accepted_is, is) = sym accepted_is

told_in_full : (left_out : Bool) (text : List ℕ) → left_out ≡ false → text ≡ (if left_out then [] else text)
told_in_full true text is = cc
told_in_full false text is = refl

-- of a frame that isn't left out the answer is printed behind its time and channel
pub told_full : (options : WatchOptions) (stamp : LineStamp) (number : ℕ) (head : List ℕ) (accepted : Bool) (answer : List ℕ) (f : Finding)
    → IsAnswerTo number head accepted answer f → (accepted && options.quiet) ≡ false
    → lead_text options stamp ++ finding_line options.json f ≡ told_text options (record { finding = f; stamp = stamp })
told_full options stamp number head accepted answer (other kind) is told = absurd is
told_full options stamp number head accepted answer (too_short n p can) is told =
    told_in_full (is_accepted_tally (tally_of (too_short n p can)) && options.quiet) (lead_text options stamp ++ finding_line options.json (too_short n p can))
    (ap (λ (b : Bool). b && options.quiet) (accepted_of number head accepted answer (too_short n p can) is) ∙ told)
told_full options stamp number head accepted answer (verdict n p can outcome) is told =
    told_in_full (is_accepted_tally (tally_of (verdict n p can outcome)) && options.quiet) (lead_text options stamp ++ finding_line options.json (verdict n p can outcome))
    (ap (λ (b : Bool). b && options.quiet) (accepted_of number head accepted answer (verdict n p can outcome) is) ∙ told)

as_object : (json : Bool) (object words : List ℕ) → json ≡ true → object ≡ (if json then object else words)
as_object true object words is = refl
as_object false object words is = cc

said_in : (digits head said answer : List ℕ) → answer ≡ (((digits ++ codes " ") ++ head) ++ codes " ") ++ (said ++ 10 ∷ [])
    → take (length answer - 1 - (length digits + length head + 2)) (drop (length digits + length head + 2) answer) ≡ said
said_in digits head said answer is =
    let front : List ℕ = ((digits ++ codes " ") ++ head) ++ codes " " in
    let size : length digits + length head + 2 ≡ length front =
    omega (arith, length-append ((digits ++ codes " ") ++ head) (codes " "), length-append (digits ++ codes " ") head, length-append digits (codes " ")) in
    let rest : drop (length digits + length head + 2) answer ≡ said ++ 10 ∷ [] =
    ap (λ (n : ℕ). drop n answer) size ∙ ap (drop (length front)) is ∙ drop-append_seam front (said ++ 10 ∷ []) in
    let left : length answer - 1 - (length digits + length head + 2) ≡ length said =
    omega (arith, ap length is, length-append front (said ++ 10 ∷ []), length-append said (10 ∷ []), size) in
    ap (λ (t : List ℕ). take (length answer - 1 - (length digits + length head + 2)) t) rest
    ∙ ap (λ (n : ℕ). take n (said ++ 10 ∷ [])) left ∙ take-append_seam said (10 ∷ [])

-- of an accepted frame this part has its word, a space, the freshness and a space
pub said_long : (number : ℕ) (head : List ℕ) (accepted : Bool) (answer : List ℕ) (f : Finding) (digits : List ℕ) → IsAnswerTo number head accepted answer f
    → digits ≡ decimal number → accepted ≡ true
    → 37 ≤ length (take (length answer - 1 - (length digits + length head + 2)) (drop (length digits + length head + 2) answer))
said_long number head accepted answer f digits is digits_are is_true =
    let s : Says number head accepted answer f = says number head accepted answer f is in
    subst (λ (d : List ℕ). 37 ≤ length (take (length answer - 1 - (length d + length head + 2)) (drop (length d + length head + 2) answer))) (sym digits_are)
    (subst (λ (t : List ℕ). 37 ≤ length t) (sym (said_in (decimal number) head s.said answer s.answer_is)) (s.long is_true))

-- the object is made of the part of the answer behind its front
pub told_object : (json : Bool) (number : ℕ) (head : List ℕ) (accepted : Bool) (answer : List ℕ) (f : Finding) (digits : List ℕ)
    → IsAnswerTo number head accepted answer f → digits ≡ decimal number → json ≡ true
    → front_object digits head
    ++ said_object accepted (take (length answer - 1 - (length digits + length head + 2)) (drop (length digits + length head + 2) answer))
    ≡ finding_line json f
told_object json number head accepted answer f digits is digits_are as_json =
    let s : Says number head accepted answer f = says number head accepted answer f is in
    ap (λ (d : List ℕ). front_object d head
    ++ said_object accepted (take (length answer - 1 - (length d + length head + 2)) (drop (length d + length head + 2) answer))) digits_are
    ∙ ap (λ (t : List ℕ). front_object (decimal number) head ++ said_object accepted t) (said_in (decimal number) head s.said answer s.answer_is)
    ∙ sym s.object
    ∙ as_object json (finding_object f) (finding_text f) as_json
