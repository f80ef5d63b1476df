-- Send and receive are the calls of a freshness manager, with an authenticator in between.
use Rattle.std.proofs.Common.{ℤ, ◌≡◌, ◌⊎◌, ℕ, ◌+◌, ◌-◌, ◌%◌, ◌^◌, ◌<◌, ◌≤◌, inl, inr, List, length, take, drop, refl, sym, ap, subst, ◌∙◌, arith}
use Rattle.std.specs.Prelude.{nat_lt}
use Rattle.std.proofs.lemmas.Bool.{cases_Bool, cond-true, cond-false, ltb-true, ltb-false}
use Rattle.freshness_routes.specs.declared.routes.Direction.{Direction}
use Rattle.freshness_routes.specs.declared.routes.Direction.TheVariants.{Sends, Receives}
use Rattle.secured_pdu.specs.Frame.{IsPayload, AheadWithBits}
use Rattle.secured_pdu.specs.Verdict.{Outcome, Accepted, payload_of, low_of}
use Rattle.secured_pdu.proofs.CallerLemmas.{same_from_Ahead}
use Rattle.rathonsi_c.specs.declared.TheConstants.{OK, BAD_VALUE, WRONG_CELL, DAMAGED, FRESHNESS_FAILURE, RESERVE, EXHAUSTED}
use Rattle.rathonsi_c.specs.declared.route.RathonsiRoute.{RathonsiRoute}
use Rattle.rathonsi_c.specs.declared.secoc.RathonsiVerdict.{RathonsiVerdict}
use Rattle.rathonsi_c.specs.declared.steps.RathonsiInput.{RathonsiInput}
use Rattle.rathonsi_c.specs.Causes.{IfCause, IsDone}
use Rattle.rathonsi_c.specs.Images.{ImageBound, OthersCell, DamagedCell}
use Rattle.rathonsi_c.specs.Routes.{IsFreshnessOnly, InUse, BoundBelow, CounterAnswers, status_alone, no_verdict, bounded_answer}
use Rattle.rathonsi_c.specs.Steps.{NextFreshness, SendInputAnswers, NoCandidate, CandidateOf, JudgesBy, ReceiveMacAnswers}
use Rattle.rathonsi_c.specs.Freshness.{as_freshness_only, WithinWindow, NextAnswers, CandidateAnswers, AcceptAnswers}
use Rattle.rathonsi_c.proofs.ImageLaws.{bound_once}
use Rattle.rathonsi_c.proofs.FreshnessLaws.{covered_here}
use Rattle.rathonsi_c.proofs.CandidateLaws.{says_rest, honest_answered}

-- the route is as ready for these calls
in_use_alone : (r : RathonsiRoute) (d : Direction) → InUse r d → InUse (as_freshness_only r) d
in_use_alone r d u = record {
  ranges = record {
    direction_is = u.ranges.direction_is;
    cell_least = u.ranges.cell_least;
    reserve_least = u.ranges.reserve_least;
    reserve_most = u.ranges.reserve_most;
    window_is = u.ranges.window_is;
    slot_least = u.ranges.slot_least;
    slot_most = u.ranges.slot_most;
    booted_most = u.ranges.booted_most;
    freshness_only_most = omega arith;
  };
  opened = record { opened_is = u.opened.opened_is; check_is = u.opened.check_is };
}

-- ---- a send

-- two answers that ask the same cause first
same_cause : (C D : Type 0) (s : ℤ) (p q : ℤ → Type 0) (x y : ℤ) → (C → D) → (D → C) → (p x → q y → x ≡ y) → IfCause C s p x → IfCause D s q y → x ≡ y
same_cause C D s p q x y to back rest h k = elim h [
  | inl (c, e) ↦ elim k [
    | inl (_, f) ↦ e ∙ sym f
    | inr (other, _) ↦ absurd (other (to c))
  ]
  | inr (none, first) ↦ elim k [
    | inl (d, _) ↦ absurd (none (back d))
    | inr (_, second) ↦ rest first second
  ]
]

-- the bound is as far below
below_alone : (r : RathonsiRoute) (image : List ℕ) (d : Direction) (v : ℕ) → BoundBelow r image d v → BoundBelow (as_freshness_only r) image d v
below_alone r image d v b = record { bound = b.bound; kept = b.kept; below = b.below }

below_both : (r : RathonsiRoute) (image : List ℕ) (d : Direction) (v : ℕ) → BoundBelow (as_freshness_only r) image d v → BoundBelow r image d v
below_both r image d v b = record { bound = b.bound; kept = b.kept; below = b.below }

next_same : (r : RathonsiRoute) (image : List ℕ) (x y : ℤ) → InUse r Sends → NextFreshness r image x → NextFreshness (as_freshness_only r) image y → x ≡ y
next_same r image x y u h k =
    let reserve = λ (a : IfCause (BoundBelow r image Sends (r.counter + 1)) RESERVE IsDone x) (b : IfCause (BoundBelow (as_freshness_only r) image Sends (r.counter + 1)) RESERVE IsDone y).
    same_cause (BoundBelow r image Sends (r.counter + 1)) (BoundBelow (as_freshness_only r) image Sends (r.counter + 1)) RESERVE IsDone IsDone x y
    (below_alone r image Sends (r.counter + 1)) (below_both r image Sends (r.counter + 1)) (λ e f. e ∙ sym f) a b in
    let counted = λ (a : CounterAnswers r image x) (b : CounterAnswers (as_freshness_only r) image y).
    same_cause (r.counter + 1 ≡ 2 ^ 64) (r.counter + 1 ≡ 2 ^ 64) EXHAUSTED
    (IfCause (BoundBelow r image Sends (r.counter + 1)) RESERVE IsDone) (IfCause (BoundBelow (as_freshness_only r) image Sends (r.counter + 1)) RESERVE IsDone) x y
    (λ c. c) (λ c. c) reserve a b in
    let sound = λ (a : IfCause (DamagedCell image r.cell) DAMAGED (CounterAnswers r image) x) (b : IfCause (DamagedCell image r.cell) DAMAGED (CounterAnswers (as_freshness_only r) image) y).
    same_cause (DamagedCell image r.cell) (DamagedCell image r.cell) DAMAGED (CounterAnswers r image) (CounterAnswers (as_freshness_only r) image) x y
    (λ c. c) (λ c. c) counted a b in
    elim h [
      | inl (out, _) ↦ absurd (out u)
      | inr (_, a) ↦ elim k [
        | inl (out, _) ↦ absurd (out (in_use_alone r Sends u))
        | inr (_, b) ↦
            same_cause (OthersCell image r.cell r.data_id Sends) (OthersCell image r.cell r.data_id Sends) WRONG_CELL
            (IfCause (DamagedCell image r.cell) DAMAGED (CounterAnswers r image)) (IfCause (DamagedCell image r.cell) DAMAGED (CounterAnswers (as_freshness_only r) image)) x y
            (λ c. c) (λ c. c) sound a b
      ]
    ]

pub sent_alone : (r : RathonsiRoute) (image payload : List ℕ) (status told : ℤ) → ¬ IsFreshnessOnly r → InUse r Sends → IsPayload payload → SendInputAnswers r image payload status → NextAnswers (as_freshness_only r) image told → status ≡ told
sent_alone r image payload status told own u fits h k = elim h [
  | inl (short, _) ↦ absurd (short fits)
  | inr (_, asked) ↦ elim asked [
    | inl (alone, _) ↦ absurd (own alone)
    | inr (_, first) ↦ elim k [
      | inl (other, _) ↦ absurd (other refl)
      | inr (_, second) ↦ next_same r image status told u first second
    ]
  ]
]

-- ---- a receive

-- an accept of a freshness in the window
accept_answered : (r : RathonsiRoute) (image : List ℕ) (v bound : ℕ) (status : ℤ) → IsFreshnessOnly r → InUse r Receives → ImageBound image r.cell r.data_id Receives bound → WithinWindow r.counter r.window v → AcceptAnswers r image v status
    → (v ≤ bound → status ≡ OK) × (bound < v → status ≡ RESERVE)
accept_answered r image v bound status only u kept within h = elim h [
  | inl (other, _) ↦ absurd (other only)
  | inr (_, bounded) ↦ elim (says_rest status_alone r Receives image bound (IfCause (¬ WithinWindow r.counter r.window v) FRESHNESS_FAILURE (IfCause (BoundBelow r image Receives v) RESERVE IsDone)) status u kept bounded) [
    | inl (out, _) ↦ absurd (out within)
    | inr (_, told) ↦ elim told [
      | inl (under, e) ↦ ((λ covers. absurd (covered_here r image Receives bound v kept covers under)), (λ below. e))
      | inr (covered, done) ↦ ((λ covers. done), (λ below. absurd (covered (record { bound = bound; kept = kept; below = below }))))
    ]
  ]
]

-- an open route judges the PDU by the MAC
judged_here : (r : RathonsiRoute) (image pdu mac : List ℕ) (bound : ℕ) (input : RathonsiInput) (v : RathonsiVerdict) → ¬ IsFreshnessOnly r → InUse r Receives → ImageBound image r.cell r.data_id Receives bound → CandidateOf r pdu input
    → ReceiveMacAnswers r image pdu input mac v → JudgesBy r image pdu mac v
judged_here r image pdu mac bound input v own u kept covers answers = elim answers [
  | inl (short, _) ↦ absurd (short covers.candidate.is_frame)
  | inr (_, asked) ↦ elim asked [
    | inl (alone, _) ↦ absurd (own alone)
    | inr (_, bounded) ↦ elim (says_rest no_verdict r Receives image bound (IfCause (NoCandidate r pdu) (no_verdict FRESHNESS_FAILURE) (IfCause (¬ CandidateOf r pdu input) (no_verdict BAD_VALUE) (JudgesBy r image pdu mac))) v u kept bounded) [
      | inl (none, _) ↦ absurd (none input.freshness covers.candidate)
      | inr (_, told) ↦ elim told [
        | inl (other, _) ↦ absurd (other covers)
        | inr (_, says) ↦ says
      ]
    ]
  ]
]

-- with the right authenticator its verdict is that of the bound
right_verdict : (r : RathonsiRoute) (image pdu mac : List ℕ) (bound : ℕ) (input : RathonsiInput) (v : RathonsiVerdict) → InUse r Receives → ImageBound image r.cell r.data_id Receives bound → CandidateOf r pdu input → drop (length pdu - 3) pdu ≡ take 3 mac
    → JudgesBy r image pdu mac v → v ≡ bounded_answer bound (Accepted (payload_of pdu) input.freshness)
right_verdict r image pdu mac bound input v u kept covers agrees j =
    let same_bound : j.bound ≡ bound = bound_once image r.cell r.data_id Receives j.bound bound j.kept kept in
    let same : j.freshness ≡ input.freshness = same_from_Ahead r.counter r.window (low_of pdu) j.freshness input.freshness u.ranges.window_is.1 j.candidate.ahead covers.candidate.ahead in
    let outcome : j.outcome ≡ Accepted (payload_of pdu) j.freshness = elim j.judged [
      | inl (_, e) ↦ e
      | inr (differs, _) ↦ absurd (differs agrees)
    ] in
    j.is ∙ (ap (λ b. bounded_answer b j.outcome) same_bound ∙ ap (λ (o : Outcome). bounded_answer bound o) (outcome ∙ ap (Accepted (payload_of pdu)) same))

-- the verdict, the candidate and the accept, of which each has its status by the bound
by_bound : (bound f : ℕ) (payload : List ℕ) (v : RathonsiVerdict) (told taken : ℤ) → v ≡ bounded_answer bound (Accepted payload f) → (f ≤ bound → told ≡ OK) × (bound < f → told ≡ RESERVE) → (f ≤ bound → taken ≡ OK) × (bound < f → taken ≡ RESERVE)
    → (v.status ≡ told) × ((told ≡ taken) × (v.freshness ≡ f))
by_bound bound f payload v told taken is one two = elim (cases_Bool (nat_lt bound f)) [
  | inl over ↦
      let low : bound < f = ltb-true bound f over in
      let e = is ∙ cond-true _ _ _ over in
      (ap (λ (x : RathonsiVerdict). x.status) e ∙ sym (one.1 low), (one.1 low ∙ sym (two.1 low), ap (λ (x : RathonsiVerdict). x.freshness) e))
  | inr covered ↦
      let high : f ≤ bound = ltb-false bound f covered in
      let e = is ∙ cond-false _ _ _ covered in
      (ap (λ (x : RathonsiVerdict). x.status) e ∙ sym (one.0 high), (one.0 high ∙ sym (two.0 high), ap (λ (x : RathonsiVerdict). x.freshness) e))
]

pub received_alone : (r : RathonsiRoute) (image pdu mac : List ℕ) (bound : ℕ) (input : RathonsiInput) (v : RathonsiVerdict) (told taken : ℤ) → ¬ IsFreshnessOnly r → InUse r Receives → ImageBound image r.cell r.data_id Receives bound → CandidateOf r pdu input
    → drop (length pdu - 3) pdu ≡ take 3 mac → ReceiveMacAnswers r image pdu input mac v → CandidateAnswers (as_freshness_only r) image (low_of pdu) 8 told → AcceptAnswers (as_freshness_only r) image input.freshness taken
    → (v.status ≡ told) × ((told ≡ taken) × (v.freshness ≡ input.freshness))
received_alone r image pdu mac bound input v told taken own u kept covers agrees first second third =
    let a = covers.candidate.ahead in
    let within : WithinWindow r.counter r.window input.freshness = record { above = a.above; near = a.near } in
    let other = in_use_alone r Receives u in
    let same = subst (λ (low : ℕ). CandidateAnswers (as_freshness_only r) image low 8 told) (sym a.low_is) second in
    by_bound bound input.freshness (payload_of pdu) v told taken
    (right_verdict r image pdu mac bound input v u kept covers agrees (judged_here r image pdu mac bound input v own u kept covers first))
    (honest_answered (as_freshness_only r) image 8 input.freshness bound told refl other kept (omega arith) (omega arith) u.ranges.window_is.1 within a.fits same)
    (accept_answered (as_freshness_only r) image input.freshness bound taken refl other kept within third)
