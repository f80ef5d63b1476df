-- The plans that the calls make for an image take nothing back of it.
use Rattle.std.proofs.Common.{ℤ, ◌≡◌, ℕ, ◌+◌, ◌≤◌, ◌⊎◌, inl, inr, Some, Option, List, length, replicate, refl, sym, ap, subst, ◌∙◌, arith}
use Rattle.std.proofs.lemmas.Bool.{cases_lt}
use Rattle.std.proofs.lemmas.Option.{same_Some}
use Rattle.cell_store.specs.declared.kinds.Version.TheVariants.{One}
use Rattle.cell_store.specs.Layout.{twin_layout}
use Rattle.cell_store.specs.Twin.{twin_size, cell_at}
use Rattle.cell_store.specs.Store.{HasHeader}
use Rattle.cell_store.proofs.CallerLemmas.{header-number}
use Rattle.key_slots.specs.declared.memory.Slot.TheVariants.{Filled}
use Rattle.key_slots.specs.Slots.{slot_at, counter_of}
use Rattle.memory_update.specs.declared.messages.Request.{Request}
use Rattle.memory_update.specs.Loading.{slot_of}
use Rattle.memory_update.proofs.CallerLemmas.{HasSlots-Carries, id_of-Allows, counter_of-Allows}
use Rattle.slot_disk.specs.Cell.{slot_cell, HoldsSlot}
use Rattle.slot_disk.proofs.CallerLemmas.{one_slot}
use Rattle.freshness_routes.specs.Changes.{bound_ahead}
use Rattle.freshness_store.specs.Bound.{bound_cell, HoldsBound}
use Rattle.freshness_store.proofs.CallerLemmas.{no_slot}
use Rattle.store_plan.specs.declared.planning.Plan.{Plan}
use Rattle.store_plan.specs.Plans.{PlansPut, PlanFits, IsEmptyPlan, applied}
use Rattle.store_plan.specs.Growing.{PlansGrowth, PlansCount}
use Rattle.store_plan.proofs.CallerLemmas.{applied-none, applied-cell, applied-others, count-cells, count-done, growth-done, growth-others}
use Rattle.rathonsi_c.specs.declared.TheConstants.{OK}
use Rattle.rathonsi_c.specs.declared.route.RathonsiRoute.{RathonsiRoute}
use Rattle.rathonsi_c.specs.Images.{ImageSlot}
use Rattle.rathonsi_c.specs.Routes.{Reserves}
use Rattle.rathonsi_c.specs.Slots.{LoadsSlot}
use Rattle.rathonsi_c.specs.Growing.{PlansCell, PlansNumber, IsSpare}
use Rattle.rathonsi_c.specs.Stale.{IsStale, CellFalls, BoundFalls, HoldsKey, KeyFalls}
use Rattle.rathonsi_c.specs.Stores.{DoneAnswers}
use Rattle.rathonsi_c.proofs.GrowthLaws.{long_cell, no_bound_is_zeros, no_key_is_zeros}
use Rattle.rathonsi_c.proofs.KeyLaws.{update-holds}
use Rattle.rathonsi_c.proofs.StaleLaws.{bound-stays, key-higher}

abbrev Falls : List ℕ → Option (List ℕ) → Type 0
Falls before after = BoundFalls before after ⊎ KeyFalls before after

stays : (before : List ℕ) → Falls before (Some before) → ⊥
stays before falls = elim falls [ inl b ↦ absurd (let l = b.lower before b.bound refl b.held in omega arith) | inr k ↦ k.changed refl ]

module _ (x : List ℕ) (plan : Plan) where
  -- a cell that the plan leaves as it is
  cell-stays : (place : ℕ) → cell_at (applied plan x) place ≡ cell_at x place → CellFalls x plan place → ⊥
  cell-stays place same f = stays f.before (subst (λ (o : Option (List ℕ)). Falls f.before o) (same ∙ f.is) f.falls)

  empty-stays : IsEmptyPlan plan → IsStale x plan → ⊥
  empty-stays none s = cell-stays s.place (ap (λ (y : List ℕ). cell_at y s.place) (applied-none plan x none)) s.falls

  put-stays : (i : ℕ) (c : List ℕ) → PlansPut plan x i c → ((before : List ℕ) → cell_at x i ≡ Some before → Falls before (Some c) → ⊥) → IsStale x plan → ⊥
  put-stays i c p fine s = elim (cases_lt s.place i) [
    | inl below ↦ cell-stays s.place (applied-others plan x i c p s.place (λ e. omega arith)) s.falls
    | inr from ↦ elim (cases_lt i s.place) [
      | inl above ↦ cell-stays s.place (applied-others plan x i c p s.place (λ e. omega arith)) s.falls
      | inr to ↦
          let e : s.place ≡ i = omega arith in
          fine s.falls.before (subst (λ j. cell_at x j ≡ Some s.falls.before) e s.falls.is)
          (subst (λ (o : Option (List ℕ)). Falls s.falls.before o) (ap (cell_at (applied plan x)) e ∙ applied-cell plan x i c p) s.falls.falls)
    ]
  ]

  -- a growth
  number-stays : (n : ℕ) → 32 ≤ length x → PlansCount plan n → IsStale x plan → ⊥
  number-stays n room p s = cell-stays s.place (count-cells n x room plan p (applied plan x) s.place (count-done n x room plan p)) s.falls

  growth-stays : (n : ℕ) (c : List ℕ) → length c ≡ 32 → n ≤ 1024 → twin_size (n + 1) ≤ length x → HasHeader (twin_layout One) n x → PlansGrowth plan n c → IsStale x plan → ⊥
  growth-stays n c sized few room head p s =
      let most = s.counted.few.most in
      let same : s.counted.count ≡ n = header-number (twin_layout One) (twin_layout One) s.counted.count n (omega arith) (omega arith) (sym s.counted.head ∙ head) in
      let below = s.counted.below in
      cell-stays s.place (growth-others n c sized x room plan p (applied plan x) s.place (growth-done n c sized x room plan p) (λ e. omega arith)) s.falls

  -- a cell of zero bytes has counted nothing
  zeros-stay : (i : ℕ) (c : List ℕ) → PlansPut plan x i c → IsSpare x i → IsStale x plan → ⊥
  zeros-stay i c p spare = put-stays i c p (λ before is falls.
      let zeros : before ≡ replicate 32 0 = same_Some _ _ (sym is ∙ spare) in
      elim falls [
        | inl b ↦ no_bound_is_zeros b.id b.direction b.bound (sym b.held.cell_is ∙ zeros)
        | inr k ↦ no_key_is_zeros k.held.key k.held.flags k.counter (sym k.held.held.cell_is ∙ zeros)
      ])

pub bound-not-stale : (r : RathonsiRoute) (x : List ℕ) (freshness : ℕ) (old plan : Plan) → Reserves r x freshness old plan → IsStale x plan → ⊥
bound-not-stale r x freshness old plan h = elim (cases_lt h.bound (bound_ahead r.reserve freshness)) [
  | inl low ↦ put-stays x plan r.cell (bound_cell r.data_id h.direction (bound_ahead r.reserve freshness)) (h.plans low) (λ before is falls.
      let to = bound_ahead r.reserve freshness in
      let held : HoldsBound before r.data_id h.direction h.bound = subst (λ (c : List ℕ). HoldsBound c r.data_id h.direction h.bound) (sym (same_Some _ _ (sym is ∙ h.kept.is))) h.kept.holds in
      let new : HoldsBound (bound_cell r.data_id h.direction to) r.data_id h.direction to = record { id_fits = held.id_fits; bound_fits = omega arith; cell_is = refl } in
      elim falls [
        | inl b ↦ bound-stays before (bound_cell r.data_id h.direction to) r.data_id h.direction h.bound held to new (omega arith) b
        | inr k ↦ no_slot before (Filled k.held.key k.counter k.held.flags) r.data_id h.direction h.bound k.held.held held
      ])
  | inr high ↦ empty-stays x plan (subst (λ (p : Plan). IsEmptyPlan p) (sym (h.enough high)) h.empty)
]

pub key-not-stale : (uid : List ℕ) (booted : ℕ) (request : Request) (x : List ℕ) (old plan : Plan) → LoadsSlot uid booted request x old plan → IsStale x plan → ⊥
key-not-stale uid booted request x old plan h =
    let u = h.update in
    let there : ImageSlot x u.id (slot_at h.slots u.id) = subst (λ i. ImageSlot x i (slot_at h.slots i)) (id_of-Allows h.slots _ uid request u h.allowed).0 (h.held.target (HasSlots-Carries _ _ u h.allowed.1)) in
    put-stays x plan u.id (slot_cell (slot_of u)) h.plans (λ before is falls.
    let held : HoldsSlot before (slot_at h.slots u.id) = subst (λ (c : List ℕ). HoldsSlot c (slot_at h.slots u.id)) (sym (same_Some _ _ (sym is ∙ there.is))) there.holds in
    elim falls [
      | inl b ↦ no_slot before (slot_at h.slots u.id) b.id b.direction b.bound held b.held
      | inr k ↦
          let one : counter_of (slot_at h.slots u.id) ≡ k.counter = ap counter_of (one_slot before (slot_at h.slots u.id) (Filled k.held.key k.counter k.held.flags) held k.held.held) in
          let above = counter_of-Allows h.slots _ uid request u h.held.are_slots h.allowed in
          let new : HoldsKey (slot_cell (slot_of u)) u.counter = record { key = u.key; flags = u.flags; held = update-holds u h.allowed.1.padded.is_update } in
          key-higher before (slot_cell (slot_of u)) k.counter k.held u.counter new (omega arith) k
    ])

pub growth-not-stale : (r : RathonsiRoute) (bound : ℕ) (x : List ℕ) (old plan : Plan) → PlansCell r bound x old plan → IsStale x plan → ⊥
growth-not-stale r bound x old plan h =
    let room = h.told.says.counts.room in
    elim h.plans [
      | inl (other, number) ↦ number-stays x plan h.count (omega arith) number
      | inr (head, alone, which) ↦ elim which [
        | inl (at, few, may, plans) ↦ growth-stays x plan h.count (bound_cell r.data_id h.direction bound) (long_cell r.data_id h.direction bound) (omega arith) (let r = may.after.room in omega arith) head plans
        | inr (below, own) ↦ elim own [
          | inl (spare, put) ↦ zeros-stay x plan r.cell (bound_cell r.data_id h.direction bound) put spare
          | inr (kept, same) ↦ empty-stays x plan (subst (λ (p : Plan). IsEmptyPlan p) (sym same) h.empty)
        ]
      ]
    ]

pub number-not-stale : (x : List ℕ) (old plan : Plan) → PlansNumber x old plan → IsStale x plan → ⊥
number-not-stale x old plan h =
    let room = h.told.says.counts.room in
    elim h.plans [
      | inl (head, same) ↦ empty-stays x plan (subst (λ (p : Plan). IsEmptyPlan p) (sym same) h.empty)
      | inr (other, number) ↦ number-stays x plan h.count (omega arith) number
    ]

-- a plan that is within the image and not stale is done
pub done-ok : (x : List ℕ) (plan : Plan) (status : ℤ) → PlanFits (length x) plan → (IsStale x plan → ⊥) → DoneAnswers x plan status → status ≡ OK
done-ok x plan status fits fresh a = elim a [
  | inl (beyond, _) ↦ absurd (beyond fits)
  | inr (_, rest) ↦ elim rest [ inl (stale, _) ↦ absurd (fresh stale) | inr (_, done) ↦ done ]
]

pub empty-fits : (n : ℕ) (plan : Plan) → IsEmptyPlan plan → PlanFits n plan
empty-fits n plan none = record {
  first = record { few = (let e = none.first in omega arith); inside = λ some. absurd (let e = none.first in omega arith) };
  second = record { few = (let e = none.second in omega arith); inside = λ some. absurd (let e = none.second in omega arith) };
  third = record { few = (let e = none.third in omega arith); inside = λ some. absurd (let e = none.third in omega arith) };
}
