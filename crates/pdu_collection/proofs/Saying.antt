-- What is said of arrivals, put together.
use Rattle.std.proofs.Common.{◌≡◌, ℕ, List, [], ◌∷◌, ◌++◌, take, refl, sym, ap, ◌∙◌, subst, append-nil, append_assoc}
use Rattle.std.specs.Prelude.{Option, None, Some, Result, Ok, Err, IfOk, IfErr}
use Rattle.secured_pdu.specs.Verdict.{Verdict}
use Rattle.secoc_words.specs.Counting.{AddsVerdict}
use Rattle.secoc_words.proofs.CallerLemmas.{next_counter-verdict}
use Rattle.pdu_collection.specs.declared.joiner.BadLength.{BadLength}
use Rattle.pdu_collection.specs.declared.answering.Receiver.{Receiver}
use Rattle.pdu_collection.specs.declared.pair_lines.Head.{Head}
use Rattle.pdu_collection.specs.Joining.{Kind, Arrival}
use Rattle.pdu_collection.specs.Joined.{JoinerState, NextJoins, Given, IsToldOf, Arrives, joined_with}
use Rattle.pdu_collection.specs.Answering.{HasLength, bad_length, waits, judged, said_text}
use Rattle.pdu_collection.specs.Receiving.{Arrived, AnswersArrival}

-- what a joiner told of an arrival
pub Arrived_of : (old new : JoinerState) (kind : Kind) (pdu room joined : List ℕ) (told : Result (Option ℕ) BadLength)
    → IfErr told (λ _. (HasLength old.place kind pdu → ⊥) × (new ≡ old) × (joined ≡ room)) → IfOk told (λ _. HasLength old.place kind pdu)
    → IfOk told (Arrives old new (record { kind = kind; pdu = pdu }) room joined) → Arrived old new kind pdu joined told
Arrived_of old new kind pdu room joined (Ok size) refused right arrives = (right, (room, arrives))
Arrived_of old new kind pdu room joined (Err bad) refused right arrives = (refused.0, refused.1)

-- two words and a line feed that were added
pub words_added : (old a b t1 t2 t3 t4 : List ℕ) → t1 ≡ old ++ a → t2 ≡ t1 ++ 32 ∷ [] → t3 ≡ t2 ++ b → t4 ≡ t3 ++ 10 ∷ []
    → t4 ≡ old ++ (((a ++ 32 ∷ []) ++ b) ++ 10 ∷ [])
words_added old a b t1 t2 t3 t4 e1 e2 e3 e4 =
    let two : t2 ≡ old ++ (a ++ 32 ∷ []) = e2 ∙ ap (λ t. t ++ 32 ∷ []) e1 ∙ append_assoc old a (32 ∷ []) in
    let three : t3 ≡ old ++ ((a ++ 32 ∷ []) ++ b) = e3 ∙ ap (λ t. t ++ b) two ∙ append_assoc old (a ++ 32 ∷ []) b in
    e4 ∙ ap (λ t. t ++ 10 ∷ []) three ∙ append_assoc old ((a ++ 32 ∷ []) ++ b) (10 ∷ [])

-- what an arrival joins fits what is said
joins_none : (next : Arrival) (joined : Option (List ℕ)) (before after : List ℕ) → IsToldOf next joined before after None → joined ≡ None
joins_none next None before after t = refl
joins_none next (Some pdu) before after t = absurd t

joins_some : (next : Arrival) (joined : Option (List ℕ)) (before after : List ℕ) (size : ℕ) → IsToldOf next joined before after (Some size)
    → (pdu : List ℕ) × (joined ≡ Some pdu) × (take size after ≡ joined_with next.kind next.pdu pdu)
joins_some next None before after size t = absurd t
joins_some next (Some pdu) before after size t = (pdu, refl, t.0)

module _ (head : Head) (before : JoinerState) (counter : ℕ) (kind : Kind) (pdu text : List ℕ) (place_is : before.place ≡ head.place) where
  abbrev next : Arrival
  next = record { kind = kind; pdu = pdu }

  abbrev old : Receiver
  old = record { joiner = before; counter = counter }

  -- the arrival is given to the joiner
  given_next : (new : JoinerState) (room joined : List ℕ) (size : Option ℕ) (a : Arrives before new next room joined size) (arrivals : List Arrival)
      → Given before arrivals → NextJoins head.place arrivals next a.joined × Given new (arrivals ++ next ∷ [])
  given_next new room joined size a arrivals g =
      let both = a.given arrivals g in
      (subst (λ p. NextJoins p arrivals next a.joined) place_is both.0, both.1)

  -- a PDU of a wrong length
  pub said_bad_length : (new : JoinerState) (after : List ℕ) → (HasLength before.place kind pdu → ⊥) → new ≡ before
      → after ≡ text ++ said_text bad_length → AnswersArrival head old (record { joiner = new; counter = counter }) kind pdu text after
  said_bad_length new after wrong same after_is =
      let wrong_here : HasLength head.place kind pdu → ⊥ = λ h. wrong (subst (λ p. HasLength p kind pdu) (sym place_is) h) in (
        bad_length,
        after_is,
        ap (λ (s : JoinerState). s.place) same,
        refl,
        λ arrivals g. (
          wrong_here,
          subst (Given new) (sym (append-nil arrivals)) (subst (λ s. Given s arrivals) (sym same) g),
        ),
      )

  -- a PDU that joins none
  pub said_waits : (new : JoinerState) (after room joined : List ℕ) → HasLength before.place kind pdu → Arrives before new next room joined None
      → after ≡ text ++ said_text waits → AnswersArrival head old (record { joiner = new; counter = counter }) kind pdu text after
  said_waits new after room joined right a after_is =
      let right_here : HasLength head.place kind pdu = subst (λ p. HasLength p kind pdu) place_is right in (
        waits,
        after_is,
        a.place_is,
        refl,
        λ arrivals g.
            let both = given_next new room joined None a arrivals g in
            ((right_here, subst (NextJoins head.place arrivals next) (joins_none next a.joined room joined a.tells) both.0), both.1),
      )

  -- a PDU that joins one, and what is judged of both
  pub said_judged : (new : JoinerState) (behind : ℕ) (after room joined : List ℕ) (size : ℕ) → HasLength before.place kind pdu
      → Arrives before new next room joined (Some size)
      → AddsVerdict head.key head.id 256 counter behind (take size joined) text after
      → AnswersArrival head old (record { joiner = new; counter = behind }) kind pdu text after
  said_judged new behind after room joined size right a (outcome, verdict, after_is, behind_is) =
      let right_here : HasLength head.place kind pdu = subst (λ p. HasLength p kind pdu) place_is right in
      let (partner, joined_is, text_is) = joins_some next a.joined room joined size a.tells in (
        judged outcome,
        after_is,
        a.place_is,
        behind_is ∙ next_counter-verdict 0 counter outcome,
        λ arrivals g.
            let both = given_next new room joined (Some size) a arrivals g in (
              (
                right_here,
                (
                  partner,
                  subst (NextJoins head.place arrivals next) joined_is both.0,
                  subst (λ f. Verdict head.key head.id counter 256 f outcome) text_is verdict,
                ),
              ),
              both.1,
            ),
      )
