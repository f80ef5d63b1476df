-- The two PDUs that are made of a payload and a freshness join, and are judged as one Secured I-PDU.
use Rattle.std.proofs.Common.{◌≡◌, ℕ, ◌+◌, List, [], ◌∷◌, ◌++◌, length, take, drop, refl, sym, ap, ◌∙◌, subst, arith, length-drop, length-append}
use Rattle.std.specs.Prelude.{Option, None, Some}
use Rattle.std.proofs.lemmas.List.{take_at, drop_at, length-take-le, length_push, take-append-drop}
use Rattle.secured_pdu.specs.Frame.{Secured}
use Rattle.secured_pdu.proofs.CallerLemmas.{length-secured_frame, payload_of_secured}
use Rattle.secured_pdu.specs.Verdict.{Outcome, Accepted, Verdict}
use Rattle.secured_pdu.proofs.CallerLemmas.{same_from_Verdict, Verdict_of_secured}
use Rattle.pdu_collection.specs.declared.pair_lines.Head.{Head}
use Rattle.pdu_collection.specs.Collection.{Place, link_of, IsAuthentic, joined_pdu}
use Rattle.pdu_collection.specs.Joining.{Kind, authentic, cryptographic, other_kind, Arrival, link_in, link, arrival_at, partner_at, IsLatestOfKind, IsSingle}
use Rattle.pdu_collection.specs.Joined.{IsPduAt, NextJoins, joined_with}
use Rattle.pdu_collection.specs.Answering.{HasLength, Said, bad_length, waits, judged, made, SaysOf, SaysMade}
use Rattle.pdu_collection.specs.Made.{JudgedAsOne}
use Rattle.pdu_collection.proofs.NextJoined.{at_new, partner_new, joins}
use Rattle.pdu_collection.proofs.OneJoining.{same_partners}

-- ---- one that waits is joined by the next one of the other kind with its link

none_at : (arrivals : List Arrival) (partner : Option ℕ) → IsPduAt arrivals partner None → partner ≡ None
none_at arrivals None is = refl
none_at arrivals (Some j) is = absurd is

pdu_at : (arrivals : List Arrival) (j : ℕ) (joined : Option (List ℕ)) → IsPduAt arrivals (Some j) joined → joined ≡ Some (arrival_at arrivals j).pdu
pdu_at arrivals j None is = absurd is
pdu_at arrivals j (Some pdu) is = ap (λ p. Some p) is

module _ (place : Place) (before : List Arrival) (kind next_kind : Kind) (pdu next_pdu : List ℕ) (others : other_kind next_kind ≡ kind)
    (same : link_in place kind pdu ≡ link_in place next_kind next_pdu) where
  abbrev first : Arrival
  first = record { kind = kind; pdu = pdu }

  abbrev second : Arrival
  second = record { kind = next_kind; pdu = next_pdu }

  abbrev both : List Arrival
  both = before ++ first ∷ []

  joins_first : (joined : Option (List ℕ)) → NextJoins place before first None → NextJoins place both second joined → joined ≡ Some pdu
  joins_first joined alone next =
      let n : ℕ = length before in
      let none : partner_at alone.partners n ≡ None = none_at before (partner_at alone.partners n) alone.pdu_is in
      let size : length both ≡ n + 1 = length_push before first in
      let here : arrival_at both n ≡ first = at_new before first in
      let latest : IsLatestOfKind both (other_kind next_kind) (length both) n = record {
        earlier = omega (arith, size);
        kind_is = ap (λ (a : Arrival). a.kind) here ∙ sym others;
        latest = λ k a b. absurd (omega (arith, a, b, size));
      } in
      let single : IsSingle alone.partners (length both) n = record {
        joins_none = none;
        joined_by_none = λ k a b. absurd (omega (arith, a, b, size));
      } in
      let more = (joins place both second alone.partners n alone.joining latest single (ap (link place) here ∙ same)).0 in
      let unique : next.partners ≡ alone.partners ++ Some n ∷ [] =
      same_partners place (both ++ second ∷ []) next.partners (alone.partners ++ Some n ∷ []) next.joining more in
      let at_end : partner_at next.partners (length both) ≡ Some n =
      ap (λ q. partner_at q (length both)) unique ∙ partner_new alone.partners (Some n) (length both) alone.joining.as_many in
      pdu_at both n joined (subst (λ p. IsPduAt both p joined) at_end next.pdu_is) ∙ ap (λ (a : Arrival). Some a.pdu) here

  -- so it is judged together with the one that waited
  says_second : (head : Head) (counter : ℕ) (said : Said) → head.place ≡ place → HasLength place next_kind next_pdu
      → NextJoins place before first None → SaysOf head both counter next_kind next_pdu said
      → (outcome : Outcome) × (said ≡ judged outcome) × Verdict head.key head.id counter 256 (joined_with next_kind next_pdu pdu) outcome
  says_second head counter bad_length place_is right alone says = absurd (says (subst (λ p. HasLength p next_kind next_pdu) (sym place_is) right))
  says_second head counter waits place_is right alone says =
      let e = joins_first None alone (subst (λ p. NextJoins p both second None) place_is says.1) in cc
  says_second head counter (judged outcome) place_is right alone (length_is, (joined, next, verdict)) =
      let e = joins_first (Some joined) alone (subst (λ p. NextJoins p both second (Some joined)) place_is next) in
      let is : joined ≡ pdu = cc in
      (outcome, refl, subst (λ p. Verdict head.key head.id counter 256 (joined_with next_kind next_pdu p) outcome) is verdict)
  says_second head counter (made payload part) place_is right alone says = absurd says

-- ---- the two PDUs of a payload and a freshness

module _ (key : List ℕ) (id : ℕ) (place : Place) (payload : List ℕ) (freshness : ℕ) (part frame : List ℕ) (right : IsAuthentic place payload)
    (secured : Secured key id payload freshness frame) (part_is : part ≡ drop (length payload) frame ++ link_of place payload) where
  size_is : length frame ≡ length payload + 4
  size_is = ap length secured.frame_is ∙ length-secured_frame key id payload freshness

  behind : length (drop (length payload) frame) ≡ 4
  behind = omega (arith, length-drop (length payload) frame, size_is)

  link_size : length (link_of place payload) ≡ place.size
  link_size = length-take-le place.size (drop place.at payload) (omega (arith, length-drop place.at payload, right.1))

  part_size : length part ≡ 4 + place.size
  part_size = ap length part_is ∙ omega (arith, length-append (drop (length payload) frame) (link_of place payload), behind, link_size)

  part_link : link_of place payload ≡ drop 4 part
  part_link = sym (ap (drop 4) part_is ∙ drop_at (drop (length payload) frame) (link_of place payload) 4 behind)

  together : joined_pdu payload part ≡ frame
  together =
      let front : take (length payload) frame ≡ payload =
      ap (λ n. take n frame) (omega (arith, size_is)) ∙ payload_of_secured key id payload freshness frame secured in
      let four : take 4 part ≡ drop (length payload) frame = ap (take 4) part_is ∙ take_at (drop (length payload) frame) (link_of place payload) 4 behind in
      ap (λ p. payload ++ p) four ∙ ap (λ p. p ++ drop (length payload) frame) (sym front) ∙ take-append-drop (length payload) frame

judged_as_one : (head : Head) (counter : ℕ) (payload : List ℕ) (freshness : ℕ) (said : Said) (frame : List ℕ) → Secured head.key head.id payload freshness frame
    → (outcome : Outcome) × (said ≡ judged outcome) × Verdict head.key head.id counter 256 frame outcome → JudgedAsOne head counter payload freshness said
judged_as_one head counter payload freshness said frame secured (outcome, said_is, verdict) = record {
  frame = frame;
  secured = secured;
  outcome = outcome;
  said_is = said_is;
  verdict = verdict;
  in_time = λ ahead. same_from_Verdict head.key head.id counter 256 frame outcome (Accepted payload freshness) (omega arith, omega arith) verdict
      (Verdict_of_secured head.key head.id counter 256 payload freshness frame secured ahead);
}

module _ (head : Head) (before : List Arrival) (first_counter counter freshness : ℕ) (payload part : List ℕ) (said : Said)
    (makes : SaysMade head freshness payload (made payload part)) where
  pub payload_first : SaysOf head before first_counter authentic payload waits
      → SaysOf head (before ++ record { kind = authentic; pdu = payload } ∷ []) counter cryptographic part said
      → JudgedAsOne head counter payload freshness said
  payload_first waited says =
      let (frame, secured, part_is) = makes.2 in
      let found = says_second head.place before authentic cryptographic payload part refl (part_link head.key head.id head.place payload freshness part frame makes.0 secured part_is)
      head counter said refl (part_size head.key head.id head.place payload freshness part frame makes.0 secured part_is) waited.1 says in
      judged_as_one head counter payload freshness said frame secured
      (found.0, found.1, subst (λ f. Verdict head.key head.id counter 256 f found.0) (together head.key head.id head.place payload freshness part frame makes.0 secured part_is) found.2)

  pub part_first : SaysOf head before first_counter cryptographic part waits
      → SaysOf head (before ++ record { kind = cryptographic; pdu = part } ∷ []) counter authentic payload said
      → JudgedAsOne head counter payload freshness said
  part_first waited says =
      let (frame, secured, part_is) = makes.2 in
      let found = says_second head.place before cryptographic authentic part payload refl (sym (part_link head.key head.id head.place payload freshness part frame makes.0 secured part_is))
      head counter said refl makes.0 waited.1 says in
      judged_as_one head counter payload freshness said frame secured
      (found.0, found.1, subst (λ f. Verdict head.key head.id counter 256 f found.0) (together head.key head.id head.place payload freshness part frame makes.0 secured part_is) found.2)
