-- What ties calls together.
use Rattle.std.proofs.Common.{◌≡◌, ℕ, suc, ◌+◌, ◌-◌, inl, inr, List, ◌∷◌, ◌++◌, length, take, drop, drop-cons, replicate, sym, ap, subst, ◌∙◌, arith, length-take, length-drop}
use Rattle.std.proofs.lemmas.List.{take_at, take-append-drop}
use Rattle.std.proofs.lemmas.Bool.{cases_eq}
use Rattle.she_cmac.specs.Cmac.{cmac}
use Rattle.freshness_routes.specs.declared.routes.Direction.TheVariants.{Receives}
use Rattle.secured_pdu.specs.Frame.{authenticated_input, assembled, secured_frame, IsPayload, IsFrame}
use Rattle.secured_pdu.proofs.CallerLemmas.{same_from_Ahead, same_from_Verdict, accepted_parts, failed_parts}
use Rattle.secured_pdu.specs.Verdict.{Outcome, Verdict, Accepted, VerificationFailure, payload_of, low_of}
use Rattle.store_plan.specs.Plans.{IsEmptyPlan}
use Rattle.rathonsi_c.specs.declared.secoc.RathonsiVerdict.{RathonsiVerdict}
use Rattle.rathonsi_c.specs.declared.route.RathonsiRoute.{RathonsiRoute}
use Rattle.rathonsi_c.specs.declared.steps.RathonsiInput.{RathonsiInput}
use Rattle.rathonsi_c.specs.Images.{ImageKey}
use Rattle.rathonsi_c.specs.Routes.{IsFreshnessOnly, SentBy, Opens, RouteReady, ReceiveAnswers, bounded_answer, is_booted}
use Rattle.rathonsi_c.specs.Steps.{InputOf, SentWith, CandidateOf, JudgedBy, JudgesBy, ReceiveMacAnswers}
use Rattle.rathonsi_c.specs.Opening.{route_of, OpensRoutes}
use Rattle.rathonsi_c.specs.Lives.{Memory, PoweredUp}
use Rattle.rathonsi_c.proofs.ImageLaws.{bound_once}
use Rattle.rathonsi_c.proofs.AnswerLaws.{damaged_keeps_none}
use Rattle.rathonsi_c.proofs.SyncLaws.{judged_ready, one_key}

-- the bytes of an input
pub input_bytes : (id : ℕ) (payload : List ℕ) (freshness : ℕ) (input : RathonsiInput) → length (authenticated_input id payload freshness) ≡ length payload + 10
    → InputOf id payload freshness input → take input.size input.bytes ≡ authenticated_input id payload freshness
input_bytes id payload freshness input long i =
    let in_bytes = authenticated_input id payload freshness in
    ap (take input.size) i.bytes_are ∙ take_at in_bytes (replicate (60 - length payload) 0) input.size (long ∙ sym i.size_is)

pub sent_in_steps : (r : RathonsiRoute) (image payload key pdu : List ℕ) (input : RathonsiInput) → length (authenticated_input r.data_id payload (r.counter + 1)) ≡ length payload + 10
    → IsPayload payload → ImageKey image r.slot (is_booted r) key → InputOf r.data_id payload (r.counter + 1) input
    → SentWith r payload (cmac key (take input.size input.bytes)) pdu → SentBy r image payload pdu
unfolding secured_frame
sent_in_steps r image payload key pdu input long p k i s = record {
  key = key;
  keyed = k;
  secured = record {
    is_payload = p;
    frame_is = s ∙ ap (λ (m : List ℕ). assembled payload (r.counter + 1) (cmac key m)) (input_bytes r.data_id payload (r.counter + 1) input long i);
  };
}

-- a frame by its parts
frame_is : (pdu : List ℕ) → IsFrame pdu → pdu ≡ payload_of pdu ++ low_of pdu ∷ drop (length pdu - 3) pdu
frame_is pdu frame =
    let n = length pdu - 4 in
    let after : suc (length pdu - 4) ≡ length pdu - 3 = omega (arith, frame.0) in
    sym (take-append-drop n pdu)
    ∙ ap (λ (rest : List ℕ). payload_of pdu ++ rest) (drop-cons pdu n 0 (omega (arith, frame.0)) ∙ ap (λ k. low_of pdu ∷ drop k pdu) after)

-- the verdict by the MAC of the PDU's input is the receiver's
judged_verdict : (r : RathonsiRoute) (pdu key : List ℕ) (input : RathonsiInput) (outcome : Outcome) → CandidateOf r pdu input
    → length (authenticated_input r.data_id (payload_of pdu) input.freshness) ≡ length (payload_of pdu) + 10 → JudgedBy (cmac key (take input.size input.bytes)) pdu input.freshness outcome
    → Verdict key r.data_id r.counter r.window pdu outcome
judged_verdict r pdu key input outcome covers long judged =
    let frame = covers.candidate.is_frame in
    let payload = payload_of pdu in
    let low = low_of pdu in
    let tag = drop (length pdu - 3) pdu in
    let mac : List ℕ = cmac key (authenticated_input r.data_id (payload_of pdu) input.freshness) in
    let same : cmac key (take input.size input.bytes) ≡ cmac key (authenticated_input r.data_id (payload_of pdu) input.freshness) = ap (cmac key) (input_bytes r.data_id (payload_of pdu) input.freshness input long covers.covers) in
    let is_payload : IsPayload (payload_of pdu) = (omega (arith, frame.0, length-take (length pdu - 4) pdu), omega (arith, frame.1, length-take (length pdu - 4) pdu)) in
    let three : length (drop (length pdu - 3) pdu) ≡ 3 = omega (arith, frame.0, length-drop (length pdu - 3) pdu) in
    elim judged [
      | inl (agrees, e) ↦ subst (λ (o : Outcome). Verdict key r.data_id r.counter r.window pdu o) (sym e)
          (subst (λ (f : List ℕ). Verdict key r.data_id r.counter r.window f (Accepted (payload_of pdu) input.freshness)) (sym (frame_is pdu frame))
          (accepted_parts key r.data_id r.counter r.window (payload_of pdu) (low_of pdu) (drop (length pdu - 3) pdu) input.freshness is_payload three covers.candidate.ahead (agrees ∙ ap (take 3) same)))
      | inr (differs, e) ↦ subst (λ (o : Outcome). Verdict key r.data_id r.counter r.window pdu o) (sym e)
          (subst (λ (f : List ℕ). Verdict key r.data_id r.counter r.window f VerificationFailure) (sym (frame_is pdu frame))
          (failed_parts key r.data_id r.counter r.window (payload_of pdu) (low_of pdu) (drop (length pdu - 3) pdu) input.freshness three covers.candidate.ahead (λ agrees. differs (agrees ∙ sym (ap (take 3) same)))))
    ]

-- a receiver that is ready judges the PDU by the MAC
judged_in_steps : (r : RathonsiRoute) (image pdu key mac : List ℕ) (bound : ℕ) (input : RathonsiInput) (v : RathonsiVerdict) → ¬ IsFreshnessOnly r → RouteReady r Receives image key bound → CandidateOf r pdu input
    → ReceiveMacAnswers r image pdu input mac v → JudgesBy r image pdu mac v
judged_in_steps r image pdu key mac bound input v not_alone ready covers answers = elim answers [
  | inl (short, e) ↦ absurd (short covers.candidate.is_frame)
  | inr (long, asked) ↦ elim asked [
    | inl (alone, e) ↦ absurd (not_alone alone)
    | inr (_, rest) ↦ elim rest [
      | inl (out, e) ↦ absurd (out (record { ranges = ready.ranges; opened = ready.opened }))
      | inr (in_use, own) ↦ elim own [
        | inl (others, e) ↦ absurd (others.no_bound bound ready.kept)
        | inr (ours, sound) ↦ elim sound [
          | inl (damaged, e) ↦ absurd (damaged_keeps_none image r.cell r.data_id Receives bound damaged ready.kept)
          | inr (whole, fresh) ↦ elim fresh [
            | inl (none, e) ↦ absurd (none input.freshness covers.candidate)
            | inr (some, told) ↦ elim told [
              | inl (other, e) ↦ absurd (other covers)
              | inr (its, says) ↦ says
            ]
          ]
        ]
      ]
    ]
  ]
]

-- a route of which the freshness alone is asked is refused both times
refused_alone : (r : RathonsiRoute) (image pdu mac : List ℕ) (input : RathonsiInput) (one two : RathonsiVerdict) → IsFrame pdu → IsFreshnessOnly r → ReceiveAnswers r image pdu one → ReceiveMacAnswers r image pdu input mac two → one ≡ two
refused_alone r image pdu mac input one two frame alone first second = elim first [
  | inl (short, _) ↦ absurd (short frame)
  | inr (_, asked) ↦ elim asked [
    | inr (not_alone, _) ↦ absurd (not_alone alone)
    | inl (_, e) ↦ elim second [
      | inl (short, _) ↦ absurd (short frame)
      | inr (_, asked_again) ↦ elim asked_again [
        | inr (not_alone, _) ↦ absurd (not_alone alone)
        | inl (_, f) ↦ e ∙ sym f
      ]
    ]
  ]
]

received_so : (r : RathonsiRoute) (image pdu key : List ℕ) (bound : ℕ) (input : RathonsiInput) (one two : RathonsiVerdict) → ¬ IsFreshnessOnly r → RouteReady r Receives image key bound → CandidateOf r pdu input
    → length (authenticated_input r.data_id (payload_of pdu) input.freshness) ≡ length (payload_of pdu) + 10
    → ReceiveAnswers r image pdu one → ReceiveMacAnswers r image pdu input (cmac key (take input.size input.bytes)) two → one ≡ two
received_so r image pdu key bound input one two own ready covers long first second =
    let j = judged_ready r image pdu key bound one covers.candidate.is_frame own ready first in
    let k = judged_in_steps r image pdu key (cmac key (take input.size input.bytes)) bound input two own ready covers second in
    let small = ready.ranges.window_is in
    let same_freshness : k.freshness ≡ input.freshness = same_from_Ahead r.counter r.window (low_of pdu) k.freshness input.freshness small.1 k.candidate.ahead covers.candidate.ahead in
    let judged = subst (λ f. JudgedBy (cmac key (take input.size input.bytes)) pdu f k.outcome) same_freshness k.judged in
    let verdict = judged_verdict r pdu key input k.outcome covers long judged in
    let same_key : j.key ≡ key = one_key image r.slot r j.key key j.ready.keyed ready.keyed in
    let same_outcome : j.outcome ≡ k.outcome =
    same_from_Verdict key r.data_id r.counter r.window pdu j.outcome k.outcome small (subst (λ (x : List ℕ). Verdict x r.data_id r.counter r.window pdu j.outcome) same_key j.verdict) verdict in
    let same_bound : j.bound ≡ k.bound = bound_once image r.cell r.data_id Receives j.bound k.bound j.ready.kept k.kept in
    j.is ∙ (ap (λ b. bounded_answer b j.outcome) same_bound ∙ (ap (λ (o : Outcome). bounded_answer k.bound o) same_outcome ∙ sym k.is))

pub received_in_steps : (r : RathonsiRoute) (image pdu key : List ℕ) (bound : ℕ) (input : RathonsiInput) (one two : RathonsiVerdict) → RouteReady r Receives image key bound → CandidateOf r pdu input
    → length (authenticated_input r.data_id (payload_of pdu) input.freshness) ≡ length (payload_of pdu) + 10
    → ReceiveAnswers r image pdu one → ReceiveMacAnswers r image pdu input (cmac key (take input.size input.bytes)) two → one ≡ two
received_in_steps r image pdu key bound input one two ready covers long first second = elim (cases_eq r.freshness_only 1) [
  | inl alone ↦ refused_alone r image pdu (cmac key (take input.size input.bytes)) input one two covers.candidate.is_frame alone first second
  | inr own ↦ received_so r image pdu key bound input one two own ready covers long first second
]

-- routes that were opened together, as the routes of a caller
pub powered : (routes opened : List RathonsiRoute) (a : Memory) → OpensRoutes routes a.image opened → IsEmptyPlan a.plan → ((k : ℕ) → a.routes k ≡ route_of opened k) → PoweredUp (length opened) a
powered routes opened a o empty same = record {
  empty = empty;
  apart = record {
    cells = λ j k x y ne e. o.apart.cells j k x y ne (ap (λ (r : RathonsiRoute). r.cell) (sym (same j)) ∙ (e ∙ ap (λ (r : RathonsiRoute). r.cell) (same k)));
    ids = λ j k x y ne e f. o.apart.ids j k x y ne (ap (λ (r : RathonsiRoute). r.data_id) (sym (same j)) ∙ (e ∙ ap (λ (r : RathonsiRoute). r.data_id) (same k)))
        (ap (λ (r : RathonsiRoute). r.direction) (sym (same j)) ∙ (f ∙ ap (λ (r : RathonsiRoute). r.direction) (same k)));
  };
  opened = λ k x. (route_of routes k, subst (λ (r : RathonsiRoute). Opens (route_of routes k) a.image r) (sym (same k)) (o.opens.each k (let e = o.opens.count in omega arith)));
}
