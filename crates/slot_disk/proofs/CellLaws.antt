-- A cell is one slot, and has 32 bytes.
use Rattle.std.proofs.Common.{◌≡◌, ℕ, ◌<◌, List, [], ◌∷◌, ◌++◌, map, All, replicate, refl, sym, ◌∙◌, arith, length-append, lit<}
use Rattle.std.proofs.lemmas.List.Elements.{All-head, All-tail, All-cons, All-append, All-replicate}
use Rattle.basics.specs.Bytes.{IsBytes}
use Rattle.basics.specs.Numbers.{bytes_of}
use Rattle.basics.proofs.CallerLemmas.{IsBytes-bytes_of}
use Rattle.key_slots.specs.Flags.{flags_number}
use Rattle.key_slots.specs.declared.memory.Slot.{Slot}
use Rattle.key_slots.specs.declared.memory.Slot.TheVariants.{Empty, Filled}
use Rattle.key_slots.proofs.CallerLemmas.{same_flags, flags_number-lt}
use Rattle.key_slots.specs.Slots.{IsSlot}
use Rattle.slot_disk.specs.Cell.{slot_cell, HoldsSlot, HoldSlots}
use Rattle.slot_disk.proofs.Parts.{first_is, flags_are, counter_is, key_is}

pub one_slot : (cell : List ℕ) (slot other : Slot) → HoldsSlot cell slot → HoldsSlot cell other → slot ≡ other
one_slot cell Empty Empty h k = refl
one_slot cell Empty (Filled key counter flags) h k = absurd (omega (arith, first_is _ _ h.cell_is, first_is _ _ k.cell_is))
one_slot cell (Filled key counter flags) Empty h k = absurd (omega (arith, first_is _ _ h.cell_is, first_is _ _ k.cell_is))
one_slot cell (Filled key counter flags) (Filled key' counter' flags') h k =
    let same_key : key ≡ key' = sym (key_is _ _ _ _ h.cell_is h.is_slot.0.size) ∙ key_is _ _ _ _ k.cell_is k.is_slot.0.size in
    let same_counter : counter ≡ counter' = sym (counter_is _ _ _ _ h.cell_is h.is_slot.1) ∙ counter_is _ _ _ _ k.cell_is k.is_slot.1 in
    let flags_same : flags ≡ flags' = same_flags flags flags' (sym (flags_are _ _ _ _ h.cell_is) ∙ flags_are _ _ _ _ k.cell_is) in
    rw (same_key, same_counter, flags_same) refl

same_slots : (slots others : List Slot) → All IsSlot slots → All IsSlot others → map slot_cell slots ≡ map slot_cell others → slots ≡ others
same_slots [] [] h k e = refl
same_slots [] (other ∷ others) h k e = cc
same_slots (slot ∷ slots) [] h k e = cc
same_slots (slot ∷ slots) (other ∷ others) h k e =
    let front : slot_cell slot ≡ slot_cell other = cc in
    let back : map slot_cell slots ≡ map slot_cell others = cc in
    let one : slot ≡ other = one_slot (slot_cell slot) slot other (record { is_slot = All-head IsSlot slot slots h; cell_is = refl }) (record { is_slot = All-head IsSlot other others k; cell_is = front }) in
    let rest : slots ≡ others = same_slots slots others (All-tail IsSlot slot slots h) (All-tail IsSlot other others k) back in
    rw (one, rest) refl

pub one_list : (cells : List (List ℕ)) (slots others : List Slot) → HoldSlots cells slots → HoldSlots cells others → slots ≡ others
one_list cells slots others h k =
    same_slots slots others h.are_slots.slots_are k.are_slots.slots_are (sym h.cells_are ∙ k.cells_are)

pub cell_bytes : (slot : Slot) → IsSlot slot → IsBytes 32 (slot_cell slot)
unfolding slot_cell bytes_of
cell_bytes Empty is = record { size = refl; bytes = All-replicate (λ b. b < 256) 32 0 (lit< tt) }
cell_bytes (Filled key counter flags) is =
    let B : ℕ → Type 0 = λ b. b < 256 in
    let count = IsBytes-bytes_of 4 counter in
    let zeros = replicate 10 0 in
    let tail : All B (key ++ replicate 10 0) = All-append B key zeros is.0.bytes (All-replicate B 10 0 (lit< tt)) in
    let rest : All B (bytes_of 4 counter ++ (key ++ replicate 10 0)) = All-append B (bytes_of 4 counter) (key ++ zeros) count.bytes tail in
    let below : flags_number flags < 256 = omega (arith, flags_number-lt flags) in
    record {
      size = omega (arith, length-append (bytes_of 4 counter) (key ++ zeros), length-append key zeros, count.size, is.0.size);
      bytes = All-cons B 1 (flags_number flags ∷ (bytes_of 4 counter ++ (key ++ zeros))) (lit< tt) (All-cons B (flags_number flags) (bytes_of 4 counter ++ (key ++ zeros)) below rest);
    }
