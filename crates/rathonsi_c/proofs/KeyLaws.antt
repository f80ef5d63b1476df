-- Keys are kept over all lives.
use Rattle.std.proofs.Common.{◌≡◌, ℕ, ◌<◌, ◌⊎◌, inl, inr, Bool, true, false, Some, List, [], ◌∷◌, length, refl, sym, subst, ◌∙◌, arith}
use Rattle.std.proofs.lemmas.Bool.{cases_lt, cases_eq, eq-eqb, false≢true}
use Rattle.cell_store.specs.Twin.{cell_at}
use Rattle.key_slots.specs.declared.memory.Slot.{Slot}
use Rattle.key_slots.specs.declared.memory.Slot.TheVariants.{Filled}
use Rattle.slot_disk.specs.Cell.{HoldsSlot, slot_cell}
use Rattle.memory_update.specs.Loading.{slot_of}
use Rattle.memory_update.specs.Messages.{IsUpdate}
use Rattle.memory_update.specs.declared.messages.Reply.{Reply}
use Rattle.memory_update.specs.declared.messages.Update.{Update}
use Rattle.freshness_store.specs.Bound.{bound_cell}
use Rattle.store_plan.specs.declared.planning.Plan.{Plan}
use Rattle.store_plan.specs.Plans.{PlansPut, IsEmptyPlan, applied}
use Rattle.store_plan.specs.Leaving.{LeavesPut}
use Rattle.store_plan.proofs.CallerLemmas.{applied-cell, applied-others, applied-length, applied-none}
use Rattle.freshness_routes.specs.Changes.{bound_ahead}
use Rattle.rathonsi_c.specs.Images.{ImageSlot}
use Rattle.rathonsi_c.specs.Slots.{ConfirmsSlot}
use Rattle.rathonsi_c.specs.Lives.{Memory, Deed, sends, accepts, takes, rejoins, opens, sets, reserves, loads, drops, finishes, powers_up, PlansBound, Lives, DoesDeed, PoweredUp, NoUpdatePlanned, PlannedAs, planned_behind, planned_after, BeginsNone, NoneBegun, UpdateDone, SlotFilled}
use Rattle.rathonsi_c.proofs.ImageLaws.{moved_slot}

-- a plan that is done, or cut, leaves a slot that it isn't for
module _ (place : ℕ) (slot : Slot) (a : Memory) (held : ImageSlot a.image place slot) (none : NoUpdatePlanned place a) where
  kept-finish : ImageSlot (applied a.plan a.image) place slot
  kept-finish = elim none [
    | inl empty ↦ subst (λ (y : List ℕ). ImageSlot y place slot) (sym (applied-none a.plan a.image empty)) held
    | inr (far, (new, (apart, plans))) ↦
        moved_slot a.image (applied a.plan a.image) place slot (applied-length a.plan a.image far new plans) (applied-others a.plan a.image far new plans place (λ e. apart (sym e))) held
  ]

  pub kept-cut : (y : List ℕ) → LeavesPut a.plan a.image y → ImageSlot y place slot
  kept-cut y cut = elim none [
    | inl empty ↦ (let s = cut.none empty in moved_slot a.image y place slot s.size (s.cells place) held)
    | inr (far, (new, (apart, plans))) ↦
        let s = cut.put far new plans in
        moved_slot a.image y place slot s.size (s.others place (λ e. apart (sym e))) held
  ]

-- what is planned: nothing, another cell, or a key for this slot
abbrev pub FilledPlanned : ℕ → Memory → Type 0
FilledPlanned place a = NoUpdatePlanned place a ⊎ ((u : Update) × (HoldsSlot (slot_cell (slot_of u)) (slot_of u) × PlansPut a.plan a.image place (slot_cell (slot_of u))))

-- image and plan as they were
none-same : (place : ℕ) (a b : Memory) → b.image ≡ a.image → b.plan ≡ a.plan → NoUpdatePlanned place a → NoUpdatePlanned place b
none-same place a b image plan none = elim none [
  | inl empty ↦ inl (subst (λ (p : Plan). IsEmptyPlan p) (sym plan) empty)
  | inr (far, (new, (apart, plans))) ↦ inr (far, (new, (apart, subst (λ (y : List ℕ). PlansPut b.plan y far new) (sym image) (subst (λ (p : Plan). PlansPut p a.image far new) (sym plan) plans))))
]

held-same : (place : ℕ) (slot : Slot) (a b : Memory) → b.image ≡ a.image → ImageSlot a.image place slot → ImageSlot b.image place slot
held-same place slot a b image held = subst (λ (y : List ℕ). ImageSlot y place slot) (sym image) held

planned-same : (place : ℕ) (a b : Memory) → b.image ≡ a.image → b.plan ≡ a.plan → FilledPlanned place a → FilledPlanned place b
planned-same place a b image plan p = elim p [
  | inl none ↦ inl (none-same place a b image plan none)
  | inr (u, (holds, plans)) ↦ inr (u, (holds, subst (λ (y : List ℕ). PlansPut b.plan y place (slot_cell (slot_of u))) (sym image) (subst (λ (q : Plan). PlansPut q a.image place (slot_cell (slot_of u))) (sym plan) plans)))
]

-- a bound is none of a slot
bound-none : (n k place : ℕ) (a b : Memory) → place < 14 → PlansBound n k a b → NoUpdatePlanned place b
bound-none n k place a b few d = elim (cases_lt d.reserved.bound (bound_ahead (a.routes k).reserve d.freshness)) [
  | inl low ↦ inr ((a.routes k).cell, (_, ((λ e. let least = d.reserved.ranges.cell_least in omega arith), subst (λ (y : List ℕ). PlansPut b.plan y (a.routes k).cell (bound_cell (a.routes k).data_id d.reserved.direction (bound_ahead (a.routes k).reserve d.freshness))) (sym d.image) (d.reserved.plans low))))
  | inr high ↦ inl (subst (λ (p : Plan). IsEmptyPlan p) (sym (d.reserved.enough high)) d.reserved.empty)
]

-- an update has the slot of a cell
pub update-holds : (u : Update) → IsUpdate u → HoldsSlot (slot_cell (slot_of u)) (slot_of u)
update-holds u is = record { is_slot = (is.is_key, is.counter_fits); cell_is = refl }

-- what is planned, as it is told
none-planned : (place : ℕ) (planned : Bool) (a : Memory) → PlannedAs place planned a → planned ≡ false → NoUpdatePlanned place a
none-planned place false a none is = none
none-planned place true a some is = absurd (false≢true (sym is))

filled-planned : (place : ℕ) (planned : Bool) (a : Memory) → PlannedAs place planned a → FilledPlanned place a
filled-planned place false a none = inl none
filled-planned place true a some =
    let u = some.loaded.update in
    inr (u, (update-holds u some.loaded.allowed.1.padded.is_update, subst (λ i. PlansPut a.plan a.image i (slot_cell (slot_of u))) some.slot_is some.loaded.plans))

-- what one deed plans
planned-does : (n place : ℕ) (deed : Deed) (a b : Memory) → place < 14 → FilledPlanned place a → DoesDeed n deed a b → FilledPlanned place b
planned-does n place (sends k freshness) a b few p d = planned-same place a b d.changes.image d.changes.plan p
planned-does n place (accepts k freshness) a b few p d = planned-same place a b d.changes.image d.changes.plan p
planned-does n place (takes k counter) a b few p d = planned-same place a b d.1.changes.image d.1.changes.plan p
planned-does n place (rejoins k counter) a b few p d = planned-same place a b d.changes.image d.changes.plan p
planned-does n place (opens k) a b few p d = planned-same place a b d.changes.image d.changes.plan p
planned-does n place (sets k) a b few p d = planned-same place a b d.changes.image d.changes.plan p
planned-does n place (reserves k) a b few p d = inl (bound-none n k place a b few d)
planned-does n place (loads other) a b few p d =
    let u = d.loaded.update in
    let plans : PlansPut b.plan b.image u.id (slot_cell (slot_of u)) = subst (λ (y : List ℕ). PlansPut b.plan y u.id (slot_cell (slot_of u))) (sym d.image) d.loaded.plans in
    elim (cases_eq u.id place) [
      | inl here ↦ inr (u, (update-holds u d.loaded.allowed.1.padded.is_update, subst (λ i. PlansPut b.plan b.image i (slot_cell (slot_of u))) here plans))
      | inr there ↦ inl (inr (u.id, (_, (there, plans))))
    ]
planned-does n place drops a b few p d = inl (inl d.empty)
planned-does n place finishes a b few p d = inl (inl d.done.empty)
planned-does n place powers_up a b few p d = inl (inl d.empty)

-- what one deed plans, if it plans no update of the slot
none-does : (n place : ℕ) (planned : Bool) (deed : Deed) (a b : Memory) → place < 14 → (planned ≡ false → NoUpdatePlanned place a) → DoesDeed n deed a b → planned_behind place planned deed ≡ false → NoUpdatePlanned place b
none-does n place planned (sends k freshness) a b few none d not = none-same place a b d.changes.image d.changes.plan (none not)
none-does n place planned (accepts k freshness) a b few none d not = none-same place a b d.changes.image d.changes.plan (none not)
none-does n place planned (takes k counter) a b few none d not = none-same place a b d.1.changes.image d.1.changes.plan (none not)
none-does n place planned (rejoins k counter) a b few none d not = none-same place a b d.changes.image d.changes.plan (none not)
none-does n place planned (opens k) a b few none d not = none-same place a b d.changes.image d.changes.plan (none not)
none-does n place planned (sets k) a b few none d not = none-same place a b d.changes.image d.changes.plan (none not)
none-does n place planned (reserves k) a b few none d not = bound-none n k place a b few d
none-does n place planned (loads other) a b few none d not =
    let u = d.loaded.update in
    inr (
      u.id,
      (
        _,
        (
          (λ e. false≢true (sym not ∙ eq-eqb other place (sym d.slot_is ∙ e))),
          subst (λ (y : List ℕ). PlansPut b.plan y u.id (slot_cell (slot_of u))) (sym d.image) d.loaded.plans,
        ),
      ),
    )
none-does n place planned drops a b few none d not = inl d.empty
none-does n place planned finishes a b few none d not = inl d.done.empty
none-does n place planned powers_up a b few none d not = inl d.empty

-- what it leaves of the slot, if it begins no update of it
held-does : (n place : ℕ) (slot : Slot) (planned : Bool) (deed : Deed) (a b : Memory) → BeginsNone planned deed → (planned ≡ false → NoUpdatePlanned place a) → ImageSlot a.image place slot → DoesDeed n deed a b → ImageSlot b.image place slot
held-does n place slot planned (sends k freshness) a b free none held d = held-same place slot a b d.changes.image held
held-does n place slot planned (accepts k freshness) a b free none held d = held-same place slot a b d.changes.image held
held-does n place slot planned (takes k counter) a b free none held d = held-same place slot a b d.1.changes.image held
held-does n place slot planned (rejoins k counter) a b free none held d = held-same place slot a b d.changes.image held
held-does n place slot planned (opens k) a b free none held d = held-same place slot a b d.changes.image held
held-does n place slot planned (sets k) a b free none held d = held-same place slot a b d.changes.image held
held-does n place slot planned (reserves k) a b free none held d = held-same place slot a b d.image held
held-does n place slot planned (loads other) a b free none held d = held-same place slot a b d.image held
held-does n place slot planned drops a b free none held d = held-same place slot a b d.image held
held-does n place slot planned finishes a b free none held d =
    subst (λ (y : List ℕ). ImageSlot y place slot) (sym d.done.image_is) (kept-finish place slot a held (none free))
held-does n place slot planned powers_up a b free none held d = kept-cut place slot a held (none free) b.image d.left

-- what holds of a slot while no update of it is done or begun
pub record StaysHeld (place : ℕ) (slot : Slot) (planned : Bool) (a : Memory) : Type 0 where
  pub held : ImageSlot a.image place slot
  pub none : planned ≡ false → NoUpdatePlanned place a

pub kept-over : (n place : ℕ) (slot : Slot) (planned : Bool) (deeds : List Deed) (a c : Memory) → place < 14 → NoneBegun place planned deeds → StaysHeld place slot planned a → Lives n deeds a c → StaysHeld place slot (planned_after place planned deeds) c
kept-over n place slot planned [] a c few free h lives = subst (λ (m : Memory). StaysHeld place slot planned m) (sym lives) h
kept-over n place slot planned (deed ∷ deeds) a c few free h (b, (d, rest)) =
    kept-over n place slot (planned_behind place planned deed) deeds b c few free.1 (record {
      held = held-does n place slot planned deed a b free.0 h.none h.held d;
      none = none-does n place planned deed a b few h.none d;
    }) rest

-- what is planned after all deeds
planned-over : (n place : ℕ) (deeds : List Deed) (a c : Memory) → place < 14 → FilledPlanned place a → Lives n deeds a c → FilledPlanned place c
planned-over n place [] a c few p lives = subst (λ (m : Memory). FilledPlanned place m) (sym lives) p
planned-over n place (deed ∷ deeds) a c few p (b, (d, rest)) = planned-over n place deeds b c few (planned-does n place deed a b few p d) rest

-- the same reply confirms what the same slot holds
confirms-same : (uid m1 x y : List ℕ) (reply : Reply) (c : ConfirmsSlot uid m1 x reply) → ImageSlot y c.update.id (slot_of c.update) → ConfirmsSlot uid m1 y reply
confirms-same uid m1 x y reply c held = record { update = c.update; named = c.named; held = held; confirms = c.confirms }

module _ (n : ℕ) (deeds : List Deed) (a c : Memory) (uid m1 : List ℕ) (reply : Reply) (planned : Bool) (k : ConfirmsSlot uid m1 a.image reply) (none : planned ≡ false → NoUpdatePlanned k.update.id a) (free : NoneBegun k.update.id planned deeds) (lives : Lives n deeds a c) where
  stays : StaysHeld k.update.id (slot_of k.update) (planned_after k.update.id planned deeds) c
  stays = kept-over n k.update.id (slot_of k.update) planned deeds a c k.named.is_head.id_fits free (record { held = k.held; none = none }) lives

  pub confirmed_over : ImageSlot c.image k.update.id (slot_of k.update) × ConfirmsSlot uid m1 c.image reply
  confirmed_over = let h = stays in (h.held, confirms-same uid m1 a.image c.image reply k h.held)

  pub confirmed_cut : planned_after k.update.id planned deeds ≡ false → (y : List ℕ) → LeavesPut c.plan c.image y → ImageSlot y k.update.id (slot_of k.update) × ConfirmsSlot uid m1 y reply
  confirmed_cut not y cut =
      let h = stays in
      let held = kept-cut k.update.id (slot_of k.update) c h.held (h.none not) y cut in
      (held, confirms-same uid m1 a.image y reply k held)

module _ (n : ℕ) (deeds : List Deed) (a c : Memory) (uid m1 : List ℕ) (reply : Reply) (planned : Bool) (k : ConfirmsSlot uid m1 a.image reply) (as_told : PlannedAs k.update.id planned a) (free : NoneBegun k.update.id planned deeds) (lives : Lives n deeds a c) where
  pub either_cut : (y : List ℕ) → LeavesPut c.plan c.image y → ImageSlot y k.update.id (slot_of k.update) ⊎ UpdateDone k.update.id c y
  either_cut y cut =
      let place = k.update.id in
      let kept = confirmed_over n deeds a c uid m1 reply planned k (none-planned place planned a as_told) free lives in
      let held : ImageSlot c.image place (slot_of k.update) = kept.0 in
      let some : FilledPlanned place c = planned-over n place deeds a c k.named.is_head.id_fits (filled-planned place planned a as_told) lives in
      elim some [
        | inl other ↦ inl (kept-cut place (slot_of k.update) c held other y cut)
        | inr (u, (holds, plans)) ↦ elim (cut.put place _ plans).cell [
          | inl old ↦ inl (moved_slot c.image y place (slot_of k.update) (cut.put place _ plans).size old held)
          | inr new ↦ inr (record {
            update = u;
            plans = plans;
            held = record { room = (let r = held.room in let l = (cut.put place _ plans).size in omega arith); bytes = slot_cell (slot_of u); is = new; holds = holds };
          })
        ]
      ]

-- ---- no filled slot becomes empty

pub record StaysFilled (place : ℕ) (a : Memory) : Type 0 where
  pub filled : SlotFilled a.image place
  pub planned : FilledPlanned place a

filled-from : (place : ℕ) (x y : List ℕ) → length y ≡ length x → cell_at y place ≡ cell_at x place → SlotFilled x place → SlotFilled y place
filled-from place x y l e f = record { key = f.key; counter = f.counter; flags = f.flags; held = moved_slot x y place (Filled f.key f.counter f.flags) l e f.held }

filled-by : (place : ℕ) (x y : List ℕ) (u : Update) → length y ≡ length x → cell_at y place ≡ Some (slot_cell (slot_of u)) → HoldsSlot (slot_cell (slot_of u)) (slot_of u) → SlotFilled x place → SlotFilled y place
filled-by place x y u l e holds f = record {
  key = u.key;
  counter = u.counter;
  flags = u.flags;
  held = record { room = (let r = f.held.room in omega arith); bytes = slot_cell (slot_of u); is = e; holds = holds };
}

filled-finish : (place : ℕ) (a : Memory) → StaysFilled place a → SlotFilled (applied a.plan a.image) place
filled-finish place a h = elim h.planned [
  | inl none ↦ record { key = h.filled.key; counter = h.filled.counter; flags = h.filled.flags; held = kept-finish place (Filled h.filled.key h.filled.counter h.filled.flags) a h.filled.held none }
  | inr (u, (holds, plans)) ↦ filled-by place a.image (applied a.plan a.image) u (applied-length a.plan a.image place _ plans) (applied-cell a.plan a.image place _ plans) holds h.filled
]

filled-cut : (place : ℕ) (a : Memory) (y : List ℕ) → LeavesPut a.plan a.image y → StaysFilled place a → SlotFilled y place
filled-cut place a y cut h = elim h.planned [
  | inl none ↦ record { key = h.filled.key; counter = h.filled.counter; flags = h.filled.flags; held = kept-cut place (Filled h.filled.key h.filled.counter h.filled.flags) a h.filled.held none y cut }
  | inr (u, (holds, plans)) ↦ elim (cut.put place _ plans).cell [
    | inl old ↦ filled-from place a.image y (cut.put place _ plans).size old h.filled
    | inr new ↦ filled-by place a.image y u (cut.put place _ plans).size new holds h.filled
  ]
]

filled-same : (place : ℕ) (a b : Memory) → b.image ≡ a.image → SlotFilled a.image place → SlotFilled b.image place
filled-same place a b image f = subst (λ (y : List ℕ). SlotFilled y place) (sym image) f

filled-does : (n place : ℕ) (deed : Deed) (a b : Memory) → StaysFilled place a → DoesDeed n deed a b → SlotFilled b.image place
filled-does n place (sends k freshness) a b h d = filled-same place a b d.changes.image h.filled
filled-does n place (accepts k freshness) a b h d = filled-same place a b d.changes.image h.filled
filled-does n place (takes k counter) a b h d = filled-same place a b d.1.changes.image h.filled
filled-does n place (rejoins k counter) a b h d = filled-same place a b d.changes.image h.filled
filled-does n place (opens k) a b h d = filled-same place a b d.changes.image h.filled
filled-does n place (sets k) a b h d = filled-same place a b d.changes.image h.filled
filled-does n place (reserves k) a b h d = filled-same place a b d.image h.filled
filled-does n place (loads other) a b h d = filled-same place a b d.image h.filled
filled-does n place drops a b h d = filled-same place a b d.image h.filled
filled-does n place finishes a b h d = subst (λ (y : List ℕ). SlotFilled y place) (sym d.done.image_is) (filled-finish place a h)
filled-does n place powers_up a b h d = filled-cut place a b.image d.left h

filled-over : (n place : ℕ) (deeds : List Deed) (a c : Memory) → place < 14 → StaysFilled place a → Lives n deeds a c → StaysFilled place c
filled-over n place [] a c few h lives = subst (λ (m : Memory). StaysFilled place m) (sym lives) h
filled-over n place (deed ∷ deeds) a c few h (b, (d, rest)) = filled-over n place deeds b c few (record { filled = filled-does n place deed a b h d; planned = planned-does n place deed a b few h.planned d }) rest

pub filled_over : (n : ℕ) (deeds : List Deed) (a c : Memory) (place : ℕ) → PoweredUp n a → place < 14 → SlotFilled a.image place → Lives n deeds a c → (y : List ℕ) → LeavesPut c.plan c.image y → SlotFilled c.image place × SlotFilled y place
filled_over n deeds a c place p few filled lives y cut =
    let h = filled-over n place deeds a c few (record { filled = filled; planned = inl (inl p.empty) }) lives in
    (h.filled, filled-cut place c y cut h)
