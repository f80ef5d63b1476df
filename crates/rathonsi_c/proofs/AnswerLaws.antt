-- From the refusals of the code to the answers of the calls.
use Rattle.std.proofs.Common.{ℤ, pos, negsuc, ◌≡◌, ◌≢◌, inl, inr, ℕ, ◌+◌, ◌≤◌, List, refl, sym, ap, subst, ◌∙◌, arith}
use Rattle.std.proofs.lemmas.Option.{none-some}
use Rattle.std.proofs.lemmas.Bool.{true≢false}
use Rattle.key_slots.specs.declared.memory.Slot.{Slot}
use Rattle.key_slots.specs.declared.memory.Flags.{Flags}
use Rattle.key_slots.specs.declared.memory.Slot.TheVariants.{Empty, Filled}
use Rattle.key_slots.specs.declared.refusals.Erc.{Erc}
use Rattle.key_slots.specs.declared.usage.Purpose.TheVariants.{Mac}
use Rattle.key_slots.specs.Slots.{is_empty}
use Rattle.key_slots.specs.Usage.{slot_refusals, first_applying}
use Rattle.freshness_routes.specs.declared.routes.Direction.{Direction}
use Rattle.freshness_routes.specs.declared.routes.Direction.TheVariants.{Sends, Receives}
use Rattle.secured_pdu.specs.Frame.{IsFrame}
use Rattle.secured_pdu.specs.Verdict.{Outcome, Verdict}
use Rattle.rathonsi_c.specs.declared.secoc.RathonsiVerdict.{RathonsiVerdict}
use Rattle.rathonsi_c.specs.declared.route.RathonsiRoute.{RathonsiRoute}
use Rattle.rathonsi_c.specs.declared.refusals.Refusal.{Refusal}
use Rattle.rathonsi_c.specs.declared.refusals.Refusal.TheVariants.{BadValue, WrongCell, Damaged, Key, Exhausted, Reserve}
use Rattle.rathonsi_c.specs.Causes.{IsDone}
use Rattle.rathonsi_c.specs.Images.{ImageBound, DamagedCell, ImageKey, SlotRefuses}
use Rattle.rathonsi_c.specs.Refused.{route_status, RouteRefused, SendRefused}
use Rattle.rathonsi_c.specs.Routes.{IsFreshnessOnly, RouteReady, is_booted, RouteAnswers, CounterAnswers, status_alone, no_verdict, bounded_answer, JudgesPdu, ReceiveAnswers}
use Rattle.rathonsi_c.specs.Stores.{IsSize}
use Rattle.rathonsi_c.proofs.ImageLaws.{slot_once, bound_once}

abbrev number_of : ℤ → ℕ
number_of (pos n) = n
number_of (negsuc n) = 0

-- another status
pub other_status : (a b : ℤ) → number_of a ≢ number_of b → a ≡ b → ⊥
other_status a b differ e = differ (ap number_of e)

-- a cell that is damaged keeps no bound
pub damaged_keeps_none : (image : List ℕ) (place id : ℕ) (direction : Direction) (bound : ℕ) → DamagedCell image place → ImageBound image place id direction bound → ⊥
damaged_keeps_none image place id direction bound damaged kept = none-some kept.bytes (sym damaged.none ∙ kept.is)

-- of a route that isn't ready, whatever the rest says
pub refused_route : {A : Type 0} (tell : ℤ → A) (r : RathonsiRoute) (d : Direction) (image : List ℕ) (rest : A → Type 0) (refusal : Refusal) → RouteRefused r d image refusal → RouteAnswers tell r d image rest (tell (route_status refusal))
refused_route {A} tell r d image rest BadValue h = inl (h, refl)
refused_route {A} tell r d image rest WrongCell (in_use, other) = inr ((λ out. out in_use), inl (other, refl))
refused_route {A} tell r d image rest Damaged (in_use, own, none) = inr ((λ out. out in_use), inr (own, inl (none, refl)))
refused_route {A} tell r d image rest (Key refusal) (in_use, (bound, kept), refuses) =
    inr (
      (λ out. out in_use),
      inr (
        (λ other. other.no_bound bound kept),
        inr (
          (λ none. elim none [
            | inl damaged ↦ damaged_keeps_none image r.cell r.data_id d bound damaged kept
            | inr empty ↦ empty refuses.slot refuses.held
          ]),
          inl (refusal, (refuses, refl)),
        ),
      ),
    )
refused_route {A} tell r d image rest Exhausted h = absurd h
refused_route {A} tell r d image rest Reserve h = absurd h

-- a key that may be used is refused for nothing
pub may-not-refused : (image : List ℕ) (r : RathonsiRoute) (key : List ℕ) (refusal : Erc) → ImageKey image r.slot (is_booted r) key → SlotRefuses image r.slot (is_booted r) refusal → ⊥
may-not-refused image r key refusal k s =
    let e : s.slot ≡ Filled key k.counter k.flags = slot_once image r.slot s.slot (Filled key k.counter k.flags) s.held k.held in
    none-some refusal (sym k.may ∙ (ap (λ (slot : Slot). first_applying (slot_refusals slot (is_booted r) Mac)) (sym e) ∙ s.first))

-- of a route that is ready the rest says it
pub ready_route : {A : Type 0} (tell : ℤ → A) (r : RathonsiRoute) (d : Direction) (image key : List ℕ) (bound : ℕ) (rest : A → Type 0) (answer : A) → RouteReady r d image key bound → rest answer → RouteAnswers tell r d image rest answer
ready_route {A} tell r d image key bound rest answer ready says =
    inr (
      (λ out. out (record { ranges = ready.ranges; opened = ready.opened })),
      inr (
        (λ other. other.no_bound bound ready.kept),
        inr (
          (λ none. elim none [
            | inl damaged ↦ damaged_keeps_none image r.cell r.data_id d bound damaged ready.kept
            | inr empty ↦ empty (Filled key ready.keyed.counter ready.keyed.flags) ready.keyed.held
          ]),
          inr ((λ refusal refuses. may-not-refused image r key refusal ready.keyed refuses), says),
        ),
      ),
    )

pub refused_send : (r : RathonsiRoute) (image : List ℕ) (refusal : Refusal) → SendRefused r image refusal → RouteAnswers status_alone r Sends image (CounterAnswers r image) (route_status refusal)
refused_send r image BadValue h = refused_route status_alone r Sends image (CounterAnswers r image) BadValue h
refused_send r image WrongCell h = refused_route status_alone r Sends image (CounterAnswers r image) WrongCell h
refused_send r image Damaged h = refused_route status_alone r Sends image (CounterAnswers r image) Damaged h
refused_send r image (Key refusal) h = refused_route status_alone r Sends image (CounterAnswers r image) (Key refusal) h
refused_send r image Exhausted (most, (key, (bound, ready))) =
    ready_route status_alone r Sends image key bound (CounterAnswers r image) _ ready (inl (most, refl))
refused_send r image Reserve (below, not_most, (key, (bound, ready))) =
    ready_route status_alone r Sends image key bound (CounterAnswers r image) _ ready (inr (not_most, inl (below, refl)))

-- a send that is done: a bound that covers the next freshness is below no such freshness
pub done_send : (r : RathonsiRoute) (image key : List ℕ) (bound : ℕ) (status : ℤ) → RouteReady r Sends image key bound → r.counter + 1 ≤ bound → IsDone status → RouteAnswers status_alone r Sends image (CounterAnswers r image) status
done_send r image key bound status ready covers ok =
    ready_route status_alone r Sends image key bound (CounterAnswers r image) status ready (inr (
      (λ most. let f = ready.kept.holds.bound_fits in omega arith),
      inr ((λ under. let e : under.bound ≡ bound = bound_once image r.cell r.data_id Sends under.bound bound under.kept ready.kept in let u = under.below in omega arith), ok),
    ))

-- an empty slot, by what it isn't
pub empty_slot : (slot : Slot) → ((key : List ℕ) (counter : ℕ) (flags : Flags) → slot ≡ Filled key counter flags → ⊥) → slot ≡ Empty
empty_slot Empty h = refl
empty_slot (Filled key counter flags) h = absurd (h key counter flags refl)

-- one number of cells has a size
pub one_size : (n m size : ℕ) → IsSize n size → IsSize m size → n ≡ m
one_size n m size h k = let a = h.is in let b = k.is in omega arith

pub empty_not_filled : (key : List ℕ) (counter : ℕ) (flags : Flags) → Empty ≡ Filled key counter flags → ⊥
empty_not_filled key counter flags e = true≢false (ap is_empty e)

-- the verdict of a receiver that is ready
pub judged_route : (r : RathonsiRoute) (image pdu key : List ℕ) (bound : ℕ) (outcome : Outcome) (answer : RathonsiVerdict) → IsFrame pdu → ¬ IsFreshnessOnly r → RouteReady r Receives image key bound → Verdict key r.data_id r.counter r.window pdu outcome → answer ≡ bounded_answer bound outcome → ReceiveAnswers r image pdu answer
judged_route r image pdu key bound outcome answer frame own ready verdict is =
    inr ((λ out. out frame), inr (own, ready_route no_verdict r Receives image key bound (JudgesPdu r image pdu) answer ready (record { key = key; bound = bound; ready = ready; outcome = outcome; verdict = verdict; is = is })))

-- of the parts of the PDU, under the key's round keys
pub same_verdict : (key schedule : List ℕ) (id counter window : ℕ) (pdu frame : List ℕ) (outcome : Outcome) → schedule ≡ key → pdu ≡ frame → Verdict schedule id counter window frame outcome → Verdict key id counter window pdu outcome
same_verdict key schedule id counter window pdu frame outcome e f verdict =
    subst (λ (x : List ℕ). Verdict key id counter window x outcome) (sym f) (subst (λ (k : List ℕ). Verdict k id counter window frame outcome) e verdict)
