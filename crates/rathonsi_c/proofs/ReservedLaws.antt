-- A PDU that a receiver is to reserve for is accepted once its freshness is reserved.
use Rattle.std.proofs.Common.{ℤ, ◌≡◌, ℕ, ◌-◌, ◌^◌, ◌<◌, ◌≤◌, inl, inr, List, length, refl, sym, ap, subst, ◌∙◌, arith, length-take}
use Rattle.std.specs.Prelude.{nat_lt}
use Rattle.std.proofs.lemmas.Bool.{cases_Bool, cond-true, cond-false, ltb-true, le-ltb}
use Rattle.std.proofs.lemmas.Option.{same_Some}
use Rattle.key_slots.specs.declared.memory.Slot.{Slot}
use Rattle.key_slots.specs.declared.memory.Slot.TheVariants.{Filled}
use Rattle.key_slots.specs.Slots.{key_of}
use Rattle.key_slots.specs.declared.refusals.Erc.{Erc}
use Rattle.key_slots.specs.declared.refusals.Erc.TheVariants.{KeyNotAvailable, KeyInvalid, KeyEmpty, NoSecureBoot, KeyWriteProtected, KeyUpdateError, SequenceError}
use Rattle.freshness_routes.specs.Changes.{bound_ahead}
use Rattle.freshness_routes.specs.declared.routes.Direction.{Direction}
use Rattle.freshness_routes.specs.declared.routes.Direction.TheVariants.{Receives}
use Rattle.freshness_store.specs.Bound.{bound_cell}
use Rattle.secured_pdu.specs.Verdict.{Outcome, Verdict, Accepted, FreshnessFailure, VerificationFailure}
use Rattle.secured_pdu.proofs.CallerLemmas.{same_from_Verdict}
use Rattle.store_plan.specs.declared.planning.Plan.{Plan}
use Rattle.store_plan.specs.Plans.{PlansPut, applied}
use Rattle.store_plan.proofs.CallerLemmas.{applied-cell, applied-others, applied-length}
use Rattle.rathonsi_c.specs.declared.TheConstants.{OK, FRESHNESS_FAILURE, VERIFICATION_FAILURE, RESERVE}
use Rattle.rathonsi_c.specs.declared.secoc.RathonsiVerdict.{RathonsiVerdict}
use Rattle.rathonsi_c.specs.declared.route.RathonsiRoute.{RathonsiRoute}
use Rattle.rathonsi_c.specs.Causes.{erc_status}
use Rattle.rathonsi_c.specs.Images.{ImageBound, ImageSlot, ImageKey}
use Rattle.rathonsi_c.specs.Routes.{RouteReady, is_booted, Reserves, bounded_answer, no_verdict, JudgesPdu, ReceiveAnswers}
use Rattle.rathonsi_c.specs.Lives.{PlanDone}
use Rattle.rathonsi_c.proofs.ImageLaws.{bound_once, slot_once, one_direction, renewed_bound, moved_slot}
use Rattle.rathonsi_c.proofs.AnswerLaws.{other_status, may-not-refused, damaged_keeps_none}

-- no refusal of a key is a status to reserve
erc-other : (refusal : Erc) → erc_status refusal ≡ RESERVE → ⊥
erc-other KeyEmpty e = other_status (erc_status KeyEmpty) RESERVE (λ x. omega arith) e
erc-other KeyInvalid e = other_status (erc_status KeyInvalid) RESERVE (λ x. omega arith) e
erc-other KeyNotAvailable e = other_status (erc_status KeyNotAvailable) RESERVE (λ x. omega arith) e
erc-other KeyWriteProtected e = other_status (erc_status KeyWriteProtected) RESERVE (λ x. omega arith) e
erc-other KeyUpdateError e = other_status (erc_status KeyUpdateError) RESERVE (λ x. omega arith) e
erc-other NoSecureBoot e = other_status (erc_status NoSecureBoot) RESERVE (λ x. omega arith) e
erc-other SequenceError e = other_status (erc_status SequenceError) RESERVE (λ x. omega arith) e

-- the status of a verdict that tells a status alone
told : (v : RathonsiVerdict) (status : ℤ) → v ≡ no_verdict status → v.status ≡ RESERVE → status ≡ RESERVE
told v status e is = sym (ap (λ (u : RathonsiVerdict). u.status) e) ∙ is

-- so the PDU was judged
pub judged : (r : RathonsiRoute) (image pdu : List ℕ) (v : RathonsiVerdict) → ReceiveAnswers r image pdu v → v.status ≡ RESERVE → JudgesPdu r image pdu v
judged r image pdu v answers is = elim answers [
  | inl (short, e) ↦ absurd (other_status _ RESERVE (λ x. omega arith) (told v _ e is))
  | inr (_, framed) ↦ elim framed [
    | inl (alone, e) ↦ absurd (other_status _ RESERVE (λ x. omega arith) (told v _ e is))
    | inr (_, used) ↦ elim used [
      | inl (out, e) ↦ absurd (other_status _ RESERVE (λ x. omega arith) (told v _ e is))
      | inr (_, ranged) ↦ elim ranged [
        | inl (elsewhere, e) ↦ absurd (other_status _ RESERVE (λ x. omega arith) (told v _ e is))
        | inr (_, own) ↦ elim own [
          | inl (none, e) ↦ absurd (other_status _ RESERVE (λ x. omega arith) (told v _ e is))
          | inr (_, kept) ↦ elim kept [
            | inl (refusal, (refuses, e)) ↦ absurd (erc-other refusal (told v _ e is))
            | inr (_, says) ↦ says
          ]
        ]
      ]
    ]
  ]
]

-- and of a frame
pub framed : (r : RathonsiRoute) (image pdu : List ℕ) (v w : RathonsiVerdict) (next : List ℕ) (key : List ℕ) (bound : ℕ) → ReceiveAnswers r image pdu v → v.status ≡ RESERVE → RouteReady r Receives next key bound → ReceiveAnswers r next pdu w → JudgesPdu r next pdu w
framed r image pdu v w next key bound first is ready second = elim second [
  | inl (short, e) ↦ elim first [
    | inl (_, f) ↦ absurd (other_status _ RESERVE (λ x. omega arith) (told v _ f is))
    | inr (not_short, _) ↦ absurd (not_short short)
  ]
  | inr (_, rest) ↦ elim rest [
    | inl (alone, e) ↦ elim first [
      | inl (_, f) ↦ absurd (other_status _ RESERVE (λ x. omega arith) (told v _ f is))
      | inr (_, asked) ↦ elim asked [
        | inl (_, f) ↦ absurd (other_status _ RESERVE (λ x. omega arith) (told v _ f is))
        | inr (not_alone, _) ↦ absurd (not_alone alone)
      ]
    ]
    | inr (_, used) ↦ elim used [
      | inl (out, e) ↦ absurd (out (record { ranges = ready.ranges; opened = ready.opened }))
      | inr (_, ranged) ↦ elim ranged [
        | inl (elsewhere, e) ↦ absurd (elsewhere.no_bound bound ready.kept)
        | inr (_, own) ↦ elim own [
          | inl (none, e) ↦ absurd (elim none [
            | inl damaged ↦ damaged_keeps_none next r.cell r.data_id Receives bound damaged ready.kept
            | inr empty ↦ empty (Filled key ready.keyed.counter ready.keyed.flags) ready.keyed.held
          ])
          | inr (_, kept) ↦ elim kept [
            | inl (refusal, (refuses, e)) ↦ absurd (may-not-refused next r key refusal ready.keyed refuses)
            | inr (_, says) ↦ says
          ]
        ]
      ]
    ]
  ]
]

-- what was judged so: an accepted PDU above the bound
pub record AboveBound (bound : ℕ) (outcome : Outcome) : Type 0 where
  pub payload : List ℕ
  pub freshness : ℕ
  pub is : outcome ≡ Accepted payload freshness
  pub above : bound < freshness
  pub is_told : (bounded_answer bound outcome).freshness ≡ freshness

pub above_bound : (bound : ℕ) (outcome : Outcome) → (bounded_answer bound outcome).status ≡ RESERVE → AboveBound bound outcome
above_bound bound (Accepted payload freshness) e = elim (cases_Bool (nat_lt bound freshness)) [
  | inl low ↦ record {
    payload = payload;
    freshness = freshness;
    is = refl;
    above = ltb-true bound freshness low;
    is_told = ap (λ (v : RathonsiVerdict). v.freshness) (cond-true _ _ _ low);
  }
  | inr high ↦ absurd (other_status OK RESERVE (λ x. omega arith) (sym (ap (λ (v : RathonsiVerdict). v.status) (cond-false _ _ _ high)) ∙ e))
]
above_bound bound FreshnessFailure e = absurd (other_status FRESHNESS_FAILURE RESERVE (λ x. omega arith) e)
above_bound bound VerificationFailure e = absurd (other_status VERIFICATION_FAILURE RESERVE (λ x. omega arith) e)

module _ (r : RathonsiRoute) (image next pdu : List ℕ) (v w : RathonsiVerdict) (old plan after : Plan) (first : ReceiveAnswers r image pdu v) (is : v.status ≡ RESERVE) (reserved : Reserves r image v.freshness old plan) (done : PlanDone image plan next after) (second : ReceiveAnswers r next pdu w) where
  abbrev j : JudgesPdu r image pdu v
  j = judged r image pdu v first is

  abbrev up : AboveBound j.bound j.outcome
  up = above_bound j.bound j.outcome (sym (ap (λ (u : RathonsiVerdict). u.status) j.is) ∙ is)

  same-freshness : v.freshness ≡ up.freshness
  same-freshness = ap (λ (u : RathonsiVerdict). u.freshness) j.is ∙ up.is_told

  accepted : Verdict j.key r.data_id r.counter r.window pdu (Accepted up.payload up.freshness)
  accepted = subst (λ (o : Outcome). Verdict j.key r.data_id r.counter r.window pdu o) up.is j.verdict

  direction : reserved.direction ≡ Receives
  direction = one_direction r reserved.direction Receives reserved.ranges j.ready.ranges

  same-bound : reserved.bound ≡ j.bound
  same-bound = bound_once image r.cell r.data_id Receives reserved.bound j.bound (subst (λ (d : Direction). ImageBound image r.cell r.data_id d reserved.bound) direction reserved.kept) j.ready.kept

  abbrev to : ℕ
  to = bound_ahead r.reserve v.freshness

  fits : to < 2 ^ 64
  fits = omega arith

  covers : up.freshness ≤ to
  covers = let f = accepted.0.fits in let e = same-freshness in let l = j.ready.ranges.reserve_least in omega arith

  plans : PlansPut plan image r.cell (bound_cell r.data_id Receives to)
  plans = subst (λ (d : Direction). PlansPut plan image r.cell (bound_cell r.data_id d to)) direction (reserved.plans (let a = up.above in let b = same-bound in let c = covers in omega arith))

  same : next ≡ applied plan image
  same = done.image_is

  kept : ImageBound next r.cell r.data_id Receives to
  kept =
      subst (λ (y : List ℕ). ImageBound y r.cell r.data_id Receives to) (sym same)
      (renewed_bound image (applied plan image) r.cell r.data_id Receives j.bound to (applied-length plan image r.cell _ plans) fits (applied-cell plan image r.cell _ plans) j.ready.kept)

  abbrev keyed : ImageKey next r.slot (is_booted r) j.key
  keyed = record {
    counter = j.ready.keyed.counter;
    flags = j.ready.keyed.flags;
    held = subst (λ (y : List ℕ). ImageSlot y r.slot (Filled j.key j.ready.keyed.counter j.ready.keyed.flags)) (sym same)
        (moved_slot image (applied plan image) r.slot (Filled j.key j.ready.keyed.counter j.ready.keyed.flags) (applied-length plan image r.cell _ plans)
        (applied-others plan image r.cell _ plans r.slot (λ e. let a = j.ready.ranges.slot_most in let b = j.ready.ranges.cell_least in omega arith)) j.ready.keyed.held);
    may = j.ready.keyed.may;
  }

  abbrev k : JudgesPdu r next pdu w
  k = framed r image pdu v w next j.key to first is (record { ranges = j.ready.ranges; opened = j.ready.opened; kept = kept; keyed = keyed }) second

  same-key : k.key ≡ j.key
  same-key = same_Some _ _ (ap (λ (s : Slot). key_of s) (slot_once next r.slot (Filled k.key k.ready.keyed.counter k.ready.keyed.flags) (Filled j.key j.ready.keyed.counter j.ready.keyed.flags) k.ready.keyed.held keyed.held))

  same-outcome : k.outcome ≡ Accepted up.payload up.freshness
  same-outcome = same_from_Verdict j.key r.data_id r.counter r.window pdu k.outcome (Accepted up.payload up.freshness) j.ready.ranges.window_is
      (subst (λ (x : List ℕ). Verdict x r.data_id r.counter r.window pdu k.outcome) same-key k.verdict) accepted

  new-bound : k.bound ≡ to
  new-bound = bound_once next r.cell r.data_id Receives k.bound to k.ready.kept kept

  long : length up.payload ≡ length pdu - 4
  long = omega (arith, ap (λ (x : List ℕ). length x) accepted.1, length-take (length pdu - 4) pdu)

  abbrev verdict : ℕ → ℕ → RathonsiVerdict
  verdict n freshness = record { status = OK; payload_length = n; freshness = freshness }

  pub accepted_then : w ≡ record { status = OK; payload_length = length pdu - 4; freshness = v.freshness }
  accepted_then =
      k.is ∙ (ap (λ n. bounded_answer n k.outcome) new-bound ∙ (ap (bounded_answer to) same-outcome
      ∙ (cond-false _ _ _ (le-ltb to up.freshness covers) ∙ (ap (λ n. verdict n up.freshness) long ∙ ap (verdict (length pdu - 4)) (sym same-freshness)))))
