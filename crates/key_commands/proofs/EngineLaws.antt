-- One store counts on a disk, and to a disk that gives an engine no cause applies for which it gives none
use Rattle.std.proofs.Common.{◌≡◌, ◌∙◌, ℕ, ◌<◌, ◌≤◌, List, [], length, get_or, sym, ap, subst, arith, length-take, length-drop}
use Rattle.std.specs.Prelude.{Some, None}
use Rattle.std.proofs.lemmas.List.{get_or-map, get_or-take}
use Rattle.cut_disk.specs.State.{DiskState, Told}
use Rattle.cut_disk.specs.Calls.{IsDisk}
use Rattle.key_slots.specs.declared.memory.Slot.{Slot}
use Rattle.key_slots.specs.declared.memory.Slot.TheVariants.{Empty}
use Rattle.cell_store.specs.Layout.{part, base, from_base}
use Rattle.cell_store.specs.Store.{HasHeader, Stands, store_size, FirstDamaged}
use Rattle.cell_store.proofs.CallerLemmas.{length-header, stands_once, stands-whole}
use Rattle.slot_disk.specs.Cell.{slot_cell, FirstBadSlot, HoldsSlot, HoldSlots}
use Rattle.program_edge.specs.Rows.{Row}
use Rattle.any_cells.specs.declared.finding.CountingStore.{CountingStore}
use Rattle.any_cells.specs.Counting.{StoreThatCounts}
use Rattle.any_cells.proofs.CallerLemmas.{counts_once}
use Rattle.key_commands.specs.Opening.{NoEngine, NoEngineIn, layout_of, no_header, none_counts, too_few, no_room, damaged, bad_slot, headless, uncounted, too_few_in, no_room_in, damaged_in, bad_slot_in}
use Rattle.key_commands.specs.Promises.{HasEngine}

same_found : (x : List ℕ) (a b : CountingStore) → StoreThatCounts x (Some a) → StoreThatCounts x (Some b) → a ≡ b
same_found x a b first second =
    let same : Some a ≡ Some b = counts_once x (Some a) (Some b) first second in
    cc same

-- a store that stands has its header on the disk
room_of_header : (found : CountingStore) (n : ℕ) (x : List ℕ) → HasHeader (layout_of found) n x → 32 ≤ length x
room_of_header found n x head =
    let f = from_base found.version x in
    let few : length (part 0 32 f) ≤ length x = omega (arith, length-take 32 f, length-drop (base found.version) x) in
    omega (arith, few, ap length head, length-header (layout_of found) n)

-- of the first fourteen cells each is that of its slot
slot_there : (cells : List (List ℕ)) (slots : List Slot) (i : ℕ) → HoldSlots cells slots → i < 14 → HoldsSlot (get_or cells i []) (get_or slots i Empty)
slot_there cells slots i held low =
    let within : i < length slots = (let size = held.are_slots.size in omega (arith, size, low)) in
    record {
      is_slot = held.are_slots.slots_are i Empty within;
      cell_is = sym (get_or-take 14 cells i [] low) ∙ ap (λ (xs : List (List ℕ)). get_or xs i []) held.cells_are ∙ get_or-map slot_cell slots i Empty [] within;
    }

no_bad_slot : (cells : List (List ℕ)) (slots : List Slot) (bad : ℕ) → HoldSlots cells slots → FirstBadSlot cells bad → ⊥
no_bad_slot cells slots bad held first = first.none (get_or slots bad Empty) (slot_there cells slots bad held first.below)

-- a cause for which a disk gives no engine applies to the bytes that it tells
pub cause_in : (disk : DiskState) (t : Told) (row : Row) → IsDisk disk → disk.told ≡ Some t → NoEngine disk row → NoEngineIn t.bytes
cause_in disk t row is_disk told (no_header small) = headless (omega (arith, small, is_disk.bytes_sized t told))
cause_in disk t row is_disk told (none_counts header none) = uncounted (none t told)
cause_in disk t row is_disk told (too_few found header counts few) = too_few_in found (counts t told) few
cause_in disk t row is_disk told (no_room found few counts wide small) =
    no_room_in found (counts t told) (omega (arith, small, is_disk.bytes_sized t told))
cause_in disk t row is_disk told (damaged found place counts wide enough first) = damaged_in found place (counts t told) (first t told)
cause_in disk t row is_disk told (bad_slot found cells slot counts wide enough number each first) =
    bad_slot_in found cells slot (counts t told) (each t told) first

module _ (disk : DiskState) (t : Told) (told : disk.told ≡ Some t) (engine : HasEngine disk) where
  stands : Stands (layout_of engine.found) t.bytes engine.cells
  stands = engine.stands t told

  room : store_size (layout_of engine.found) engine.found.cells ≤ length t.bytes
  room = subst (λ (n : ℕ). store_size (layout_of engine.found) n ≤ length t.bytes) engine.number stands.room

  is_found : (found : CountingStore) → StoreThatCounts t.bytes (Some found) → engine.found ≡ found
  is_found found counts = same_found t.bytes engine.found found (engine.counts t told) counts

  -- to told bytes that have an engine no cause applies
  pub engine_there : NoEngineIn t.bytes → ⊥
  engine_there (headless small) = absurd (omega (arith, small, room_of_header engine.found _ t.bytes stands.head))
  engine_there (uncounted none) =
      let wrong : Some engine.found ≡ None = counts_once t.bytes _ _ (engine.counts t told) none in
      cc wrong
  engine_there (too_few_in found counts few) =
      let same = is_found found counts in
      absurd (omega (arith, few, engine.wide, ap (λ (f : CountingStore). f.cells) same))
  engine_there (no_room_in found counts small) =
      let same = is_found found counts in
      let there : store_size (layout_of found) found.cells ≤ length t.bytes =
      subst (λ (f : CountingStore). store_size (layout_of f) f.cells ≤ length t.bytes) same room in
      absurd (omega (arith, small, there))
  engine_there (damaged_in found place counts first) =
      let same = is_found found counts in
      let place_is : FirstDamaged (layout_of engine.found) t.bytes engine.found.cells place =
      subst (λ (f : CountingStore). FirstDamaged (layout_of f) t.bytes f.cells place) (sym same) first in
      stands-whole (layout_of engine.found) t.bytes engine.cells engine.found.cells place stands engine.number place_is
  engine_there (bad_slot_in found cells slot counts each first) =
      let same = is_found found counts in
      let other : Stands (layout_of engine.found) t.bytes cells =
      subst (λ (f : CountingStore). Stands (layout_of f) t.bytes cells) (sym same) each in
      let cells_same : engine.cells ≡ cells = stands_once (layout_of engine.found) t.bytes engine.cells cells stands other in
      no_bad_slot cells engine.slots slot (subst (λ (c : List (List ℕ)). HoldSlots c engine.slots) cells_same engine.held) first
