-- One unit of a flash is another.
use Rattle.std.specs.Prelude.{◌&&◌}
use Rattle.std.proofs.Common.{◌≡◌, ◌≢◌, ◌⊎◌, inl, inr, ℕ, Bool, true, false, nat_eq, if◌then◌else◌, refl, ap}
use Rattle.std.proofs.lemmas.Bool.Decides.{eqb_tells}
use Rattle.seal_parts.specs.declared.UnitKind.{UnitKind}
use Rattle.seal_parts.specs.declared.UnitKind.TheVariants.{Guard, SecondGuard, Line, Confirm, SecondConfirm}
use Rattle.seal_parts.specs.Parts.{PartUnit, PartFlash}
use Rattle.seal_parts.specs.Memory.{unit_number}

pub same_number : (a b : UnitKind) → unit_number a ≡ unit_number b → a ≡ b
same_number Guard Guard e = refl
same_number Guard SecondGuard e = absurd (cc)
same_number Guard Line e = absurd (cc)
same_number Guard Confirm e = absurd (cc)
same_number Guard SecondConfirm e = absurd (cc)
same_number SecondGuard Guard e = absurd (cc)
same_number SecondGuard SecondGuard e = refl
same_number SecondGuard Line e = absurd (cc)
same_number SecondGuard Confirm e = absurd (cc)
same_number SecondGuard SecondConfirm e = absurd (cc)
same_number Line Guard e = absurd (cc)
same_number Line SecondGuard e = absurd (cc)
same_number Line Line e = refl
same_number Line Confirm e = absurd (cc)
same_number Line SecondConfirm e = absurd (cc)
same_number Confirm Guard e = absurd (cc)
same_number Confirm SecondGuard e = absurd (cc)
same_number Confirm Line e = absurd (cc)
same_number Confirm Confirm e = refl
same_number Confirm SecondConfirm e = absurd (cc)
same_number SecondConfirm Guard e = absurd (cc)
same_number SecondConfirm SecondGuard e = absurd (cc)
same_number SecondConfirm Line e = absurd (cc)
same_number SecondConfirm Confirm e = absurd (cc)
same_number SecondConfirm SecondConfirm e = refl

both_true : (a b : Bool) → a ≡ true → b ≡ true → (a && b) ≡ true
both_true true true e f = refl
both_true true false e f = absurd (cc)
both_true false b e f = absurd (cc)

left_false : (a b : Bool) → a ≡ false → (a && b) ≡ false
left_false true b e = absurd (cc)
left_false false b e = refl

right_false : (a b : Bool) → b ≡ false → (a && b) ≡ false
right_false true b e = e
right_false false b e = refl

abbrev pub IsUnit : ℕ → ℕ → UnitKind → ℕ → ℕ → UnitKind → Type 0
IsUnit bank place kind b k o = (b ≡ bank) × ((k ≡ place) × (o ≡ kind))

abbrev pub IsOther : ℕ → ℕ → UnitKind → ℕ → ℕ → UnitKind → Type 0
IsOther bank place kind b k o = (b ≢ bank) ⊎ ((k ≢ place) ⊎ (o ≢ kind))

abbrev is_at : ℕ → ℕ → UnitKind → ℕ → ℕ → UnitKind → Bool
is_at bank place kind b k o = nat_eq b bank && (nat_eq k place && nat_eq (unit_number o) (unit_number kind))

pub at_tells : (bank place : ℕ) (kind : UnitKind) (b k : ℕ) (o : UnitKind)
    → ((is_at bank place kind b k o ≡ true) × IsUnit bank place kind b k o) ⊎ ((is_at bank place kind b k o ≡ false) × IsOther bank place kind b k o)
at_tells bank place kind b k o = elim (eqb_tells b bank) [
  | inl x ↦ elim (eqb_tells k place) [
    | inl y ↦ elim (eqb_tells (unit_number o) (unit_number kind)) [
      | inl z ↦ inl (
        both_true (nat_eq b bank) (nat_eq k place && nat_eq (unit_number o) (unit_number kind)) x.0
            (both_true (nat_eq k place) (nat_eq (unit_number o) (unit_number kind)) y.0 z.0),
        (x.1, (y.1, same_number o kind z.1)),
      )
      | inr z ↦ inr (
        right_false (nat_eq b bank) (nat_eq k place && nat_eq (unit_number o) (unit_number kind))
            (right_false (nat_eq k place) (nat_eq (unit_number o) (unit_number kind)) z.0),
        inr (inr (λ e. z.1 (ap unit_number e))),
      )
    ]
    | inr y ↦ inr (
      right_false (nat_eq b bank) (nat_eq k place && nat_eq (unit_number o) (unit_number kind))
          (left_false (nat_eq k place) (nat_eq (unit_number o) (unit_number kind)) y.0),
      inr (inl y.1),
    )
  ]
  | inr x ↦ inr (left_false (nat_eq b bank) (nat_eq k place && nat_eq (unit_number o) (unit_number kind)) x.0, inl x.1)
]

pub not_other : (bank place : ℕ) (kind : UnitKind) (b k : ℕ) (o : UnitKind) → IsUnit bank place kind b k o → IsOther bank place kind b k o → ⊥
not_other bank place kind b k o is (inl x) = x is.0
not_other bank place kind b k o is (inr (inl y)) = y is.1.0
not_other bank place kind b k o is (inr (inr z)) = z is.1.1

-- this unit of a flash is so, and the rest as before
abbrev pub set_unit : ℕ → ℕ → UnitKind → PartUnit → PartFlash → PartFlash
set_unit bank place kind u f = record {
  unit = λ b k o. if is_at bank place kind b k o then u else f.unit b k o;
  is_erased = f.is_erased;
}

pub set_here : (bank place : ℕ) (kind : UnitKind) (u : PartUnit) (f : PartFlash) (b k : ℕ) (o : UnitKind) → IsUnit bank place kind b k o
    → (set_unit bank place kind u f).unit b k o ≡ u
set_here bank place kind u f b k o is = elim (at_tells bank place kind b k o) [
  | inl at ↦ ap (λ (x : Bool). if x then u else f.unit b k o) at.0
  | inr other ↦ absurd (not_other bank place kind b k o is other.1)
]

pub set_there : (bank place : ℕ) (kind : UnitKind) (u : PartUnit) (f : PartFlash) (b k : ℕ) (o : UnitKind) → IsOther bank place kind b k o
    → (set_unit bank place kind u f).unit b k o ≡ f.unit b k o
set_there bank place kind u f b k o ne = elim (at_tells bank place kind b k o) [
  | inl at ↦ absurd (not_other bank place kind b k o at.1 ne)
  | inr other ↦ ap (λ (x : Bool). if x then u else f.unit b k o) other.0
]
