-- The parts of a PDU, and what their MAC covers.
use Rattle.std.proofs.Common.{◌≡◌, ℕ, ◌-◌, ◌≤◌, inl, inr, List, [], ◌∷◌, ◌++◌, length, get_or, take, drop, refl, sym, ap, subst, ◌∙◌, arith, append_assoc, length-append}
use Rattle.std.proofs.lemmas.List.{take_at, drop_at, get_or_at}
use Rattle.secured_pdu.specs.Frame.{Ahead, IsFrame}
use Rattle.secured_pdu.proofs.CallerLemmas.{same_from_Ahead}
use Rattle.secured_pdu.specs.Verdict.{Accepted, payload_of, low_of}
use Rattle.secured_pdu.specs.Judged.{outcome_of}
use Rattle.secured_pdu.specs.declared.verdict.Judgement.{Judgement}
use Rattle.secured_pdu.specs.declared.verdict.Judgement.TheVariants as judgement
use Rattle.rathonsi_c.specs.declared.route.RathonsiRoute.{RathonsiRoute}
use Rattle.rathonsi_c.specs.declared.steps.RathonsiInput.{RathonsiInput}
use Rattle.rathonsi_c.specs.Causes.{IfCause}
use Rattle.rathonsi_c.specs.Steps.{InputOf, IsCandidate, CandidateOf, JudgedBy}

pub take_three : (xs : List ℕ) → 3 ≤ length xs → take 3 xs ≡ get_or xs 0 0 ∷ get_or xs 1 0 ∷ get_or xs 2 0 ∷ []
take_three (a ∷ b ∷ c ∷ xs) h = refl
take_three xs h = absurd (omega arith)

module _ (pdu payload : List ℕ) (low : ℕ) (tag : List ℕ) (is : pdu ≡ payload ++ low ∷ tag) (long : length tag ≡ 3) where
  pub low_is : low_of pdu ≡ low
  low_is = ap low_of is ∙ get_or_at payload low tag 0 (length (payload ++ low ∷ tag) - 4) (omega (arith, length-append payload (low ∷ tag)))

  pub payload_is : payload_of pdu ≡ payload
  payload_is = ap payload_of is ∙ take_at payload (low ∷ tag) (length (payload ++ low ∷ tag) - 4) (omega (arith, length-append payload (low ∷ tag)))

  tag_is : drop (length pdu - 3) pdu ≡ tag
  tag_is =
      let split : pdu ≡ (payload ++ low ∷ []) ++ tag = is ∙ sym (append_assoc payload (low ∷ []) tag) in
      ap (λ (f : List ℕ). drop (length f - 3) f) split
      ∙ drop_at (payload ++ low ∷ []) tag (length ((payload ++ low ∷ []) ++ tag) - 3) (omega (arith, length-append (payload ++ low ∷ []) tag))

  -- the judgement by a MAC, as an outcome
  pub judged_by : (mac : List ℕ) (freshness : ℕ) (says : Judgement) → IfCause (tag ≡ take 3 mac) (judgement.Accepted freshness) (λ other. other ≡ judgement.VerificationFailure) says → JudgedBy mac pdu freshness (outcome_of payload says)
  judged_by mac freshness says h = elim h [
    | inl (same, e) ↦ inl (tag_is ∙ same, ap (outcome_of payload) e ∙ ap (λ (q : List ℕ). Accepted q freshness) (sym payload_is))
    | inr (other, e) ↦ inr ((λ same. other (sym tag_is ∙ same)), ap (outcome_of payload) e)
  ]

  -- the one freshness that the PDU can have
  pub candidate_is : (r : RathonsiRoute) (freshness : ℕ) → IsFrame pdu → Ahead r.counter r.window low freshness → IsCandidate r pdu freshness
  candidate_is r freshness frame ahead = record { is_frame = frame; ahead = subst (λ l. Ahead r.counter r.window l freshness) (sym low_is) ahead }

  pub none_ahead : (r : RathonsiRoute) → ((freshness : ℕ) → ¬ Ahead r.counter r.window low freshness) → (freshness : ℕ) → ¬ IsCandidate r pdu freshness
  none_ahead r none freshness candidate = none freshness (subst (λ l. Ahead r.counter r.window l freshness) low_is candidate.ahead)

  -- an input is that of the PDU exactly if it is that of its parts
  pub covers_pdu : (r : RathonsiRoute) (freshness : ℕ) (input : RathonsiInput) → IsFrame pdu → Ahead r.counter r.window low freshness → InputOf r.data_id payload freshness input → CandidateOf r pdu input
  covers_pdu r freshness input frame ahead covers = record {
    candidate = subst (λ v. IsCandidate r pdu v) (sym covers.freshness_is) (candidate_is r freshness frame ahead);
    covers = subst (λ v. InputOf r.data_id (payload_of pdu) v input) (sym covers.freshness_is) (subst (λ (p : List ℕ). InputOf r.data_id p freshness input) (sym payload_is) covers);
  }

  pub covers_parts : (r : RathonsiRoute) (freshness : ℕ) (input : RathonsiInput) → r.window ≤ 256 → Ahead r.counter r.window low freshness → CandidateOf r pdu input → InputOf r.data_id payload freshness input
  covers_parts r freshness input small ahead covers =
      let same : input.freshness ≡ freshness = same_from_Ahead r.counter r.window low input.freshness freshness small (subst (λ l. Ahead r.counter r.window l input.freshness) low_is covers.candidate.ahead) ahead in
      subst (λ v. InputOf r.data_id payload v input) same (subst (λ (p : List ℕ). InputOf r.data_id p input.freshness input) payload_is covers.covers)
