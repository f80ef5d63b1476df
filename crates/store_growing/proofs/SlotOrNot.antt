-- A cell holds a slot, or none: it is the cell of the slot that its parts would be, or of no slot
use Rattle.std.proofs.Common.{◌≡◌, ◌∙◌, ℕ, ◌<◌, ◌^◌, List, [], ◌∷◌, ◌++◌, length, get_or, take, drop, replicate, refl, sym, ap, inl, inr, arith}
use Rattle.std.specs.List.{All}
use Rattle.std.proofs.Math.Seq.{take-append_seam}
use Rattle.std.proofs.lemmas.Bool.{cases_lt}
use Rattle.std.proofs.lemmas.List.Elements.{All-nil, All-head, All-tail, All-cons}
use Rattle.basics.specs.Numbers.{number_of, bytes_of}
use Rattle.basics.proofs.CallerLemmas.{number_of-bytes_of-lt}
use Rattle.key_slots.specs.declared.memory.Flags.{Flags}
use Rattle.key_slots.specs.declared.memory.Slot.{Slot}
use Rattle.key_slots.specs.declared.memory.Slot.TheVariants.{Empty, Filled}
use Rattle.key_slots.specs.Flags.{flags_number, flags_from}
use Rattle.key_slots.proofs.CallerLemmas.{flags_from-number}
use Rattle.slot_disk.specs.Cell.{slot_cell, HoldsSlot}
use Rattle.store_growing.proofs.HeaderFacts.{Decided, bytes_same}

-- ---- the parts of a filled cell

key_in : List ℕ → List ℕ
key_in cell = take 16 (drop 6 cell)

four_in : List ℕ → List ℕ
four_in cell = get_or cell 2 0 ∷ get_or cell 3 0 ∷ get_or cell 4 0 ∷ get_or cell 5 0 ∷ []

slot_of : List ℕ → Slot
slot_of cell = Filled (key_in cell) (number_of (four_in cell)) (flags_from (get_or cell 1 0))

module _ (cell key : List ℕ) (counter : ℕ) (flags : Flags) (is : cell ≡ slot_cell (Filled key counter flags)) where
  flags_is : flags_from (get_or cell 1 0) ≡ flags
  unfolding slot_cell
  flags_is = let e : get_or cell 1 0 ≡ flags_number flags = rw is refl in ap flags_from e ∙ flags_from-number flags

  four_is : four_in cell ≡ bytes_of 4 counter
  unfolding slot_cell bytes_of four_in
  four_is = rw is refl

  counter_is : counter < 2 ^ 28 → number_of (four_in cell) ≡ counter
  counter_is fits = ap number_of four_is ∙ number_of-bytes_of-lt 4 counter (omega arith)

  key_is : length key ≡ 16 → key_in cell ≡ key
  unfolding slot_cell bytes_of key_in
  key_is size = ap (λ (c : List ℕ). take 16 (drop 6 c)) is ∙ ap (λ (n : ℕ). take n (key ++ replicate 10 0)) (sym size) ∙ take-append_seam key (replicate 10 0)

-- it holds the slot of its parts if it holds a filled one
parts_hold : (cell key : List ℕ) (counter : ℕ) (flags : Flags) → HoldsSlot cell (Filled key counter flags) → HoldsSlot cell (slot_of cell)
unfolding slot_of
parts_hold cell key counter flags h =
    let same_key : key_in cell ≡ key = key_is cell key counter flags h.cell_is h.is_slot.0.size in
    let same_counter : number_of (four_in cell) ≡ counter = counter_is cell key counter flags h.cell_is h.is_slot.1 in
    let same_flags : flags_from (get_or cell 1 0) ≡ flags = flags_is cell key counter flags h.cell_is in
    rw (same_key, same_counter, same_flags) h

-- ---- each is decided

bytes_or_not : (xs : List ℕ) → Decided (All (λ b. b < 256) xs)
bytes_or_not [] = inl (All-nil (λ b. b < 256))
bytes_or_not (b ∷ xs) = elim (cases_lt b 256) [
  | inr most ↦ inr (λ all. let low = All-head (λ b. b < 256) b xs all in omega (arith, most, low))
  | inl low ↦ elim (bytes_or_not xs) [
    | inl rest ↦ inl (All-cons (λ b. b < 256) b xs low rest)
    | inr none ↦ inr (λ all. none (All-tail (λ b. b < 256) b xs all))
  ]
]

sized_or_not : (xs : List ℕ) (n : ℕ) → Decided (length xs ≡ n)
sized_or_not xs n = elim (cases_lt (length xs) n) [
  | inl less ↦ inr (λ e. omega (arith, e, less))
  | inr from ↦ elim (cases_lt n (length xs)) [
    | inl more ↦ inr (λ e. omega (arith, e, more))
    | inr to ↦ inl (omega (arith, from, to))
  ]
]

filled_or_not : (cell key : List ℕ) (counter : ℕ) (flags : Flags) → Decided (HoldsSlot cell (Filled key counter flags))
filled_or_not cell key counter flags = elim (bytes_same cell (slot_cell (Filled key counter flags))) [
  | inr other ↦ inr (λ h. other h.cell_is)
  | inl is ↦ elim (cases_lt counter (2 ^ 28)) [
    | inr most ↦ inr (λ h. let low = h.is_slot.1 in omega (arith, most, low))
    | inl fits ↦ elim (sized_or_not key 16) [
      | inr size ↦ inr (λ h. size h.is_slot.0.size)
      | inl size ↦ elim (bytes_or_not key) [
        | inr none ↦ inr (λ h. none h.is_slot.0.bytes)
        | inl bytes ↦ inl (record { is_slot = (record { size = size; bytes = bytes }, fits); cell_is = is })
      ]
    ]
  ]
]

empty_or_not : (cell : List ℕ) → Decided (HoldsSlot cell Empty)
empty_or_not cell = elim (bytes_same cell (slot_cell Empty)) [
  | inl is ↦ inl (record { is_slot = tt; cell_is = is })
  | inr other ↦ inr (λ h. other h.cell_is)
]

parts_or_not : (cell : List ℕ) → Decided (HoldsSlot cell (slot_of cell))
unfolding slot_of
parts_or_not cell = filled_or_not cell (key_in cell) (number_of (four_in cell)) (flags_from (get_or cell 1 0))

neither : (cell : List ℕ) → ¬ HoldsSlot cell Empty → ¬ HoldsSlot cell (slot_of cell) → (slot : Slot) → ¬ HoldsSlot cell slot
neither cell none other Empty h = none h
neither cell none other (Filled key counter flags) h = other (parts_hold cell key counter flags h)

pub slot_or_not : (cell : List ℕ) → Decided ((slot : Slot) × HoldsSlot cell slot)
slot_or_not cell = elim (empty_or_not cell) [
  | inl empty ↦ inl (Empty, empty)
  | inr none ↦ elim (parts_or_not cell) [
    | inl filled ↦ inl (slot_of cell, filled)
    | inr other ↦ inr (λ held. neither cell none other held.0 held.1)
  ]
]
