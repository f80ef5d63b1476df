-- One more slot is read.
use Rattle.std.proofs.Common.{◌≡◌, ℕ, ◌+◌, ◌<◌, List, [], ◌∷◌, ◌++◌, length, get_or, take, map, set, ap, sym, ◌∙◌}
use Rattle.std.proofs.lemmas.List.{take_more, take_more_set, map-append}
use Rattle.key_slots.specs.declared.memory.Slot.{Slot}
use Rattle.slot_disk.specs.Cell.{slot_cell}

pub one_more : (cells : List (List ℕ)) (slots : List Slot) (n : ℕ) (slot : Slot) → n < length cells → n < length slots
    → take n cells ≡ map slot_cell (take n slots) → get_or cells n [] ≡ slot_cell slot → take (n + 1) cells ≡ map slot_cell (take (n + 1) (set slots n slot))
one_more cells slots n slot in_cells in_slots so_far is =
    take_more cells n [] in_cells
    ∙ ap (λ front. front ++ get_or cells n [] ∷ []) so_far
    ∙ ap (λ cell. map slot_cell (take n slots) ++ cell ∷ []) is
    ∙ sym (map-append slot_cell (take n slots) (slot ∷ []))
    ∙ ap (map slot_cell) (sym (take_more_set slots n slot in_slots))
