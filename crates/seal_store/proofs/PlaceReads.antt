-- A list of places, as one more is read.
use Rattle.std.proofs.Common.{◌≡◌, inl, inr, ℕ, suc, ◌+◌, ◌*◌, ◌<◌, ◌≤◌, List, length, get_or, set, sym, subst, ◌∙◌, arith}
use Rattle.std.proofs.lemmas.Bool.{cases_lt}
use Rattle.std.proofs.lemmas.List.{get_or-set_same, get_or-set_other}
use Rattle.std.proofs.Math.Nat.{mul-le-mul_right}
use Rattle.seal_parts.specs.Parts.{PartFlash}
use Rattle.seal_logs.specs.declared.PlaceRead.{PlaceRead}
use Rattle.seal_logs.specs.declared.LogSizes.{LogSizes}
use Rattle.seal_logs.specs.Reads.{no_read, reads_in}
use Rattle.seal_store.specs.Reading.{IsPlaceRead}

pub in_list : (s : LogSizes) (bank place count : ℕ) → bank < s.banks → place < s.places → count ≡ s.banks * s.places → bank * s.places + place < count
in_list s bank place count inside below is = (let h : suc bank * s.places ≤ s.banks * s.places = mul-le-mul_right s.places inside in omega (arith, h, below, is))

pub before_bank : (s : LogSizes) (b bank k : ℕ) → b < bank → k < s.places → b * s.places + k < bank * s.places
before_bank s b bank k inside below = (let h : suc b * s.places ≤ bank * s.places = mul-le-mul_right s.places inside in omega (arith, h, below))

module _ (s : LogSizes) (f g : PartFlash) (same : g ≡ f) (reads : List PlaceRead) (bank place : ℕ) (read : PlaceRead) (inside : bank * s.places + place < length reads) where
  abbrev at : ℕ
  at = bank * s.places + place

  -- this place and those before it
  pub more_read : ((k : ℕ) → k < place → IsPlaceRead f bank k (reads_in s reads bank k)) → IsPlaceRead g bank place read → (k : ℕ) → k < place + 1
      → IsPlaceRead f bank k (reads_in s (set reads (bank * s.places + place) read) bank k)
  more_read before now k below = elim (cases_lt k place) [
    | inl less ↦ subst (λ (p : PlaceRead). IsPlaceRead f bank k p) (sym (get_or-set_other reads at (bank * s.places + k) read no_read (λ e. absurd (omega (arith, e, less))))) (before k less)
    | inr far ↦ (let is : place ≡ k = omega (arith, far, below) in
        subst (λ (n : ℕ). IsPlaceRead f bank n (reads_in s (set reads at read) bank n)) is
        (subst (λ (p : PlaceRead). IsPlaceRead f bank place p) (sym (get_or-set_same reads at read no_read inside)) (subst (λ (z : PartFlash). IsPlaceRead z bank place read) same now)))
  ]

  -- the places before the bank stay
  pub others_stay : (old : List PlaceRead) → ((i : ℕ) → i < bank * s.places → get_or reads i no_read ≡ get_or old i no_read) → (i : ℕ) → i < bank * s.places
      → get_or (set reads (bank * s.places + place) read) i no_read ≡ get_or old i no_read
  others_stay old before i below = get_or-set_other reads at i read no_read (λ e. absurd (omega (arith, e, below))) ∙ before i below

-- one more bank
pub more_banks : (s : LogSizes) (f g : PartFlash) → g ≡ f → (old new : List PlaceRead) (bank : ℕ) → ((b k : ℕ) → b < bank → k < s.places → IsPlaceRead f b k (reads_in s old b k))
    → ((b k : ℕ) → b < bank → k < s.places → reads_in s new b k ≡ reads_in s old b k) → ((k : ℕ) → k < s.places → IsPlaceRead g bank k (reads_in s new bank k))
    → (b k : ℕ) → b < bank + 1 → k < s.places → IsPlaceRead f b k (reads_in s new b k)
more_banks s f g same old new bank before stay now b k inside below = elim (cases_lt b bank) [
  | inl less ↦ subst (λ (p : PlaceRead). IsPlaceRead f b k p) (sym (stay b k less below)) (before b k less below)
  | inr far ↦ (let is : bank ≡ b = omega (arith, far, inside) in subst (λ (n : ℕ). IsPlaceRead f n k (reads_in s new n k)) is (subst (λ (z : PartFlash). IsPlaceRead z bank k (reads_in s new bank k)) same (now k below)))
]
