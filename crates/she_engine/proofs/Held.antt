-- The slots in the first fourteen cells, and one more that is put.
use Rattle.std.proofs.Common.{◌≡◌, ℕ, zero, suc, ◌<◌, ◌≤◌, List, [], ◌∷◌, length, set, take, refl, sym, ap, ◌∙◌, arith}
use Rattle.std.proofs.lemmas.List.{length-take, length-map, map-set}
use Rattle.key_slots.specs.declared.memory.Slot.{Slot}
use Rattle.key_slots.specs.Slots.{IsSlots}
use Rattle.slot_disk.specs.Cell.{slot_cell, HoldSlots}

pub at_least_fourteen : (cells : List (List ℕ)) (slots : List Slot) → HoldSlots cells slots → 14 ≤ length cells
at_least_fourteen cells slots h =
    omega (arith, sym (length-take 14 cells), ap length h.cells_are, length-map slots slot_cell, h.are_slots.size)

take_of_set : {X : Type 0} (n i : ℕ) (xs : List X) (x : X) → i < n → take n (set xs i x) ≡ set (take n xs) i x
take_of_set zero i xs x below = absurd (omega (arith, below))
take_of_set (suc n) i [] x below = refl
take_of_set (suc n) zero (y ∷ ys) x below = refl
take_of_set (suc n) (suc i) (y ∷ ys) x below = ap (λ rest. y ∷ rest) (take_of_set n i ys x (omega (arith, below)))

pub held_after : (cells : List (List ℕ)) (slots : List Slot) (id : ℕ) (slot : Slot) → id < 14 → HoldSlots cells slots → IsSlots (set slots id slot) → HoldSlots (set cells id (slot_cell slot)) (set slots id slot)
held_after cells slots id slot within h are =
    record {
      are_slots = are;
      cells_are = take_of_set 14 id cells (slot_cell slot) within ∙ ap (λ front. set front id (slot_cell slot)) h.cells_are ∙ sym (map-set slot_cell slots id slot);
    }
