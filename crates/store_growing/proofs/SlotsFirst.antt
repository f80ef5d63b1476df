-- The fourteen slots are whole, or one cell is the first that isn't a slot's
use Rattle.std.proofs.Common.{◌≡◌, ◌⊎◌, ◌∙◌, ℕ, zero, suc, ◌+◌, ◌<◌, List, refl, sym, subst, inl, inr, arith, Some, None}
use Rattle.std.specs.Prelude.{Option}
use Rattle.std.proofs.lemmas.Bool.{cases_lt}
use Rattle.cell_store.specs.Twin.{cell_at}
use Rattle.key_slots.specs.declared.memory.Slot.{Slot}
use Rattle.slot_disk.specs.Cell.{HoldsSlot}
use Rattle.store_growing.specs.declared.faults.GrowFault.{GrowFault}
use Rattle.store_growing.specs.declared.faults.GrowFault.TheVariants as fault
use Rattle.store_growing.specs.RouteCells.{HasSlot, HaveSlots, SlotDamaged, NoSlotInCell}
use Rattle.store_growing.specs.LookSteps.{RefusesSlot, RefusesSlots}
use Rattle.store_growing.proofs.SlotOrNot.{slot_or_not}

module _ (x : List ℕ) where
  pub no_slots : HaveSlots x 0
  no_slots cell low = absurd (omega (arith, low))

  pub slots_more : (count : ℕ) → HaveSlots x count → HasSlot x count → HaveSlots x (count + 1)
  slots_more count have more cell low = elim (cases_lt cell count) [
    | inl before ↦ have cell before
    | inr from ↦ (let e : count ≡ cell = omega (arith, from, low) in subst (λ (k : ℕ). HasSlot x k) e more)
  ]

  -- ---- what is refused is no slot

  damaged_none : (cell : ℕ) → cell_at x cell ≡ None → HasSlot x cell → ⊥
  damaged_none cell none has = let some : cell_at x cell ≡ Some has.0 = has.2 in cc

  bad_none : (cell : ℕ) (bytes : List ℕ) → cell_at x cell ≡ Some bytes → ((slot : Slot) → ¬ HoldsSlot bytes slot) → HasSlot x cell → ⊥
  bad_none cell bytes holds none has =
      let same : has.0 ≡ bytes = (let e : Some has.0 ≡ Some bytes = sym has.2 ∙ holds in cc) in
      none has.1 (subst (λ (b : List ℕ). HoldsSlot b has.1) same has.3)

  -- this cell is the first of the fourteen that holds no slot
  pub record NoSlotFirst (cell : ℕ) : Type 0 where
    pub below : cell < 14
    pub before : HaveSlots x cell
    pub none : ¬ HasSlot x cell

  pub of_damaged : (cell : ℕ) → SlotDamaged x cell → NoSlotFirst cell
  of_damaged cell d = record { below = d.below; before = d.before; none = damaged_none cell d.none }

  pub of_bad : (cell : ℕ) → NoSlotInCell x cell → NoSlotFirst cell
  of_bad cell b = record { below = b.below; before = b.before; none = bad_none cell b.bytes b.holds b.none }

  pub not_whole : (cell : ℕ) → NoSlotFirst cell → HaveSlots x 14 → ⊥
  not_whole cell first slots = first.none (slots cell first.below)

  pub one_first : (cell other : ℕ) → NoSlotFirst cell → NoSlotFirst other → cell ≡ other
  one_first cell other one two = elim (cases_lt cell other) [
    | inl less ↦ absurd (one.none (two.before cell less))
    | inr from ↦ elim (cases_lt other cell) [
      | inl more ↦ absurd (two.none (one.before other more))
      | inr to ↦ (let e : cell ≡ other = omega (arith, from, to) in e)
    ]
  ]

  -- one cell isn't both
  pub not_both : (cell other : ℕ) → SlotDamaged x cell → NoSlotInCell x other → ⊥
  not_both cell other d b =
      let e : cell ≡ other = one_first cell other (of_damaged cell d) (of_bad other b) in
      let none : cell_at x other ≡ None = subst (λ (k : ℕ). cell_at x k ≡ None) e d.none in
      let some : cell_at x other ≡ Some b.bytes = b.holds in cc

  -- ---- which it is

  -- one cell that is refused, after those that hold slots
  pub refused_first : (cell : ℕ) (f : GrowFault) → cell < 14 → HaveSlots x cell → RefusesSlot x cell f → RefusesSlots x f
  refused_first cell (fault.Damaged place) low before (e, none) =
      record { below = rw e low; before = rw e before; none = rw e none }
  refused_first cell (fault.BadSlot place) low before (e, (bytes, holds, none)) =
      record { below = rw e low; before = rw e before; bytes = bytes; holds = rw e holds; none = none }
  refused_first cell fault.DiskFailed low before why = absurd why
  refused_first cell fault.TooSmall low before why = absurd why
  refused_first cell (fault.OtherStore there) low before why = absurd why
  refused_first cell fault.NotFormatted low before why = absurd why
  refused_first cell (fault.BadBound place) low before why = absurd why
  refused_first cell fault.Memory low before why = absurd why

  slot_seen : (cell : ℕ) (held : Option (List ℕ)) → cell_at x cell ≡ held → HasSlot x cell ⊎ ((f : GrowFault) × RefusesSlot x cell f)
  slot_seen cell None is = inr (fault.Damaged cell, (refl, is))
  slot_seen cell (Some bytes) is = elim (slot_or_not bytes) [
    | inl (slot, holds) ↦ inl (bytes, slot, is, holds)
    | inr none ↦ inr (fault.BadSlot cell, (refl, (bytes, is, λ slot holds. none (slot, holds))))
  ]

  slots_to : (left count : ℕ) → count + left ≡ 14 → HaveSlots x count → HaveSlots x 14 ⊎ ((f : GrowFault) × RefusesSlots x f)
  slots_to zero count is have = inl (subst (HaveSlots x) (let e : count ≡ 14 = omega (arith, is) in e) have)
  slots_to (suc left) count is have = elim (slot_seen count (cell_at x count) refl) [
    | inl has ↦ slots_to left (count + 1) (omega (arith, is)) (slots_more count have has)
    | inr (f, why) ↦ inr (f, refused_first count f (omega (arith, is)) have why)
  ]

  pub slots_seen : HaveSlots x 14 ⊎ ((f : GrowFault) × RefusesSlots x f)
  slots_seen = slots_to 14 0 (omega arith) no_slots
