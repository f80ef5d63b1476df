-- Laws of the answer to a question.
use Rattle.std.proofs.Common.{◌≡◌, ◌≢◌, ℕ, ◌^◌, ◌<◌, ◌≤◌, List, [], ◌∷◌, ◌++◌, length, take, codes, get_or, refl, sym, ap, ◌∙◌, arith}
use Rattle.std.proofs.lemmas.List.{append_cancel_left, length-append, take_at}
use Rattle.basics.specs.Numbers.{number_of, bytes_of}
use Rattle.basics.proofs.CallerLemmas.{length-bytes_of, number_of-bytes_of-lt, same_number}
use Rattle.she_cmac.specs.Cmac.{cmac}
use Rattle.secured_pdu.specs.Frame.{authenticated_input, IsPayload}
use Rattle.secured_pdu.proofs.CallerLemmas.{length-input, parts_same}
use Rattle.counter_answers.specs.Answering.{answer_input, answer_of, IsQuestion, TellsWith, AnswersWith, SharesMac}
use Rattle.counter_answers.specs.declared.answering.CounterQuestion.{CounterQuestion}

abbrev pub label : List ℕ
label = codes "RATHONSI COUNTER OF A ROUTE, IN ANSWER TO A QUESTION:"

-- the parts of the input, each with what is before it
abbrev upto_id : CounterQuestion → List ℕ
upto_id q = label ++ bytes_of 2 q.id

abbrev upto_direction : CounterQuestion → List ℕ
upto_direction q = upto_id q ++ (q.direction ∷ [])

abbrev upto_asker : CounterQuestion → List ℕ
upto_asker q = upto_direction q ++ bytes_of 4 q.asker

abbrev upto_answerer : CounterQuestion → List ℕ
upto_answerer q = upto_asker q ++ bytes_of 4 q.answerer

abbrev upto_nonce : CounterQuestion → List ℕ
upto_nonce q = upto_answerer q ++ q.nonce

length-id : (q : CounterQuestion) → length (upto_id q) ≡ 55
length-id q = (let l : length label ≡ 53 = refl in omega (arith, l, length-append label (bytes_of 2 q.id), length-bytes_of 2 q.id))

length-direction : (q : CounterQuestion) → length (upto_direction q) ≡ 56
length-direction q = (let o : length (q.direction ∷ []) ≡ 1 = refl in omega (arith, o, length-id q, length-append (upto_id q) (q.direction ∷ [])))

length-asker : (q : CounterQuestion) → length (upto_asker q) ≡ 60
length-asker q = omega (arith, length-direction q, length-append (upto_direction q) (bytes_of 4 q.asker), length-bytes_of 4 q.asker)

length-answerer : (q : CounterQuestion) → length (upto_answerer q) ≡ 64
length-answerer q = omega (arith, length-asker q, length-append (upto_asker q) (bytes_of 4 q.answerer), length-bytes_of 4 q.answerer)

length-nonce : (q : CounterQuestion) → IsQuestion q → length (upto_nonce q) ≡ 80
length-nonce q h = (let n = h.is_nonce in omega (arith, n, length-answerer q, length-append (upto_answerer q) q.nonce))

pub length-answer_input : (q : CounterQuestion) (counter : ℕ) → IsQuestion q → length (answer_input q counter) ≡ 88
unfolding answer_input
length-answer_input q counter h = omega (arith, length-nonce q h, length-append (upto_nonce q) (bytes_of 8 counter), length-bytes_of 8 counter)

pub no_pdu : (q : CounterQuestion) (counter id : ℕ) (payload : List ℕ) (freshness : ℕ) → IsQuestion q → IsPayload payload → answer_input q counter ≢ authenticated_input id payload freshness
no_pdu q counter id payload freshness h p e =
    absurd (omega (arith, ap length e, length-answer_input q counter h, length-input id payload freshness, p.1))

pub no_update : (q : CounterQuestion) (counter : ℕ) (message : List ℕ) → IsQuestion q → length message ≤ 48 → answer_input q counter ≢ message
no_update q counter message h few e = absurd (omega (arith, ap length e, length-answer_input q counter h, few))

-- the label begins with an R, which is 82
begins : (q : CounterQuestion) (counter : ℕ) → get_or (answer_input q counter) 0 0 ≡ 82
unfolding answer_input
begins q counter = refl

pub no_boot : (q : CounterQuestion) (counter : ℕ) (rest : List ℕ) → answer_input q counter ≢ 0 ∷ rest
no_boot q counter rest e = absurd (omega (arith, begins q counter, ap (λ (l : List ℕ). get_or l 0 0) e))

-- the question of these parts
abbrev of_parts : ℕ → ℕ → ℕ → ℕ → List ℕ → CounterQuestion
of_parts id direction asker answerer nonce = record { id = id; direction = direction; asker = asker; answerer = answerer; nonce = nonce }

-- two questions with the same parts
same_question : (q p : CounterQuestion) → q.id ≡ p.id → q.direction ≡ p.direction → q.asker ≡ p.asker → q.answerer ≡ p.answerer → q.nonce ≡ p.nonce → q ≡ p
same_question q p a b c d e =
    ap (λ (x : ℕ). of_parts x q.direction q.asker q.answerer q.nonce) a
    ∙ (ap (λ (x : ℕ). of_parts p.id x q.asker q.answerer q.nonce) b
    ∙ (ap (λ (x : ℕ). of_parts p.id p.direction x q.answerer q.nonce) c
    ∙ (ap (λ (x : ℕ). of_parts p.id p.direction p.asker x q.nonce) d ∙ ap (λ (x : List ℕ). of_parts p.id p.direction p.asker p.answerer x) e)))

pub same_from_answer_input : (q p : CounterQuestion) (counter other : ℕ) → IsQuestion q → IsQuestion p → counter < 2 ^ 64 → other < 2 ^ 64 → answer_input q counter ≡ answer_input p other → (q ≡ p) × (counter ≡ other)
unfolding answer_input
same_from_answer_input q p counter other hq hp fits fits' e =
    let ends = parts_same (upto_nonce q) (upto_nonce p) (bytes_of 8 counter) (bytes_of 8 other) (length-nonce q hq ∙ sym (length-nonce p hp)) e in
    let nonces = parts_same (upto_answerer q) (upto_answerer p) q.nonce p.nonce (length-answerer q ∙ sym (length-answerer p)) ends.0 in
    let answerers = parts_same (upto_asker q) (upto_asker p) (bytes_of 4 q.answerer) (bytes_of 4 p.answerer) (length-asker q ∙ sym (length-asker p)) nonces.0 in
    let askers = parts_same (upto_direction q) (upto_direction p) (bytes_of 4 q.asker) (bytes_of 4 p.asker) (length-direction q ∙ sym (length-direction p)) answerers.0 in
    let ways = parts_same (upto_id q) (upto_id p) (q.direction ∷ []) (p.direction ∷ []) (length-id q ∙ sym (length-id p)) askers.0 in
    let ids = append_cancel_left label (bytes_of 2 q.id) (bytes_of 2 p.id) ways.0 in (
      same_question q p (same_number 2 q.id p.id hq.id_fits hp.id_fits ids) (ap (λ (l : List ℕ). get_or l 0 0) ways.1) (same_number 4 q.asker p.asker hq.asker_fits hp.asker_fits askers.1)
          (same_number 4 q.answerer p.answerer hq.answerer_fits hp.answerer_fits answerers.1) nonces.1,
      same_number 8 counter other fits fits' ends.1,
    )

-- the two parts of one answer
answer_parts : (mac mac' : List ℕ) (counter counter' : ℕ) → answer_of counter mac ≡ answer_of counter' mac' → (bytes_of 8 counter ≡ bytes_of 8 counter') × (mac ≡ mac')
unfolding answer_of
answer_parts mac mac' counter counter' e = parts_same (bytes_of 8 counter) (bytes_of 8 counter') mac mac' (length-bytes_of 8 counter ∙ sym (length-bytes_of 8 counter')) e

-- the first eight bytes of an answer are its counter
pub first_is : (mac : List ℕ) (counter : ℕ) (answer : List ℕ) → TellsWith mac counter answer → number_of (take 8 answer) ≡ counter
unfolding answer_of
first_is mac counter answer t =
    ap (λ (a : List ℕ). number_of (take 8 a)) t.answer_is
    ∙ (ap number_of (take_at (bytes_of 8 counter) mac 8 (length-bytes_of 8 counter)) ∙ number_of-bytes_of-lt 8 counter t.fits)

pub one_counter_told : (mac mac' : List ℕ) (counter counter' : ℕ) (answer : List ℕ) → TellsWith mac counter answer → TellsWith mac' counter' answer → counter ≡ counter'
one_counter_told mac mac' counter counter' answer t s = same_number 8 counter counter' t.fits s.fits (answer_parts mac mac' counter counter' (sym t.answer_is ∙ s.answer_is)).0

pub one_question : (key : List ℕ) (q p : CounterQuestion) (counter other : ℕ) (answer : List ℕ) → IsQuestion q → IsQuestion p → AnswersWith key q counter answer → AnswersWith key p other answer → q ≢ p
    → SharesMac key (answer_input q counter) (answer_input p other)
one_question key q p counter other answer hq hp t s apart = record {
  other = λ e. apart (same_from_answer_input q p counter other hq hp t.fits s.fits e).0;
  same = (answer_parts (cmac key (answer_input q counter)) (cmac key (answer_input p other)) counter other (sym t.answer_is ∙ s.answer_is)).1;
}
