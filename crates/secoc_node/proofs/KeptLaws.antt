-- What a sound node keeps, and how its cells tell it
use Rattle.std.proofs.Common.{◌≡◌, ℕ, ◌+◌, ◌^◌, ◌<◌, List, [], ◌++◌, length, drop, map, get_or, sym, ap, subst, ◌∙◌, arith}
use Rattle.std.proofs.lemmas.List.{length-set, length-drop, take-append-drop, get_or-drop, get_or-map, get_or_default, ext_get_or}
use Rattle.std.proofs.lemmas.List.Elements.{All-set}
use Rattle.key_slots.specs.declared.memory.Slot.TheVariants.{Empty}
use Rattle.slot_disk.specs.Cell.{slot_cell, HoldSlots, FirstBadSlot}
use Rattle.slot_disk.proofs.CallerLemmas.{one_list}
use Rattle.freshness_routes.specs.Config.{Config, IsConfig}
use Rattle.freshness_store.specs.Bound.{HoldsBound}
use Rattle.freshness_store.proofs.CallerLemmas.{one_bound}
use Rattle.bus_machine.specs.Node.{Node, Kept, Change, slot_to, bound_to, changed, no_route}
use Rattle.bus_machine.specs.Sound.{Sound, MovesForward}
use Rattle.bus_laws.proofs.CallerLemmas.{IsSlots-set}
use Rattle.secoc_node.specs.Cells.{bound_cells, CellsOf, IsKept, cell_in, route_in, SlotsButNoBound}
use Rattle.secoc_node.proofs.CellsLaws.{cell_of_route, length-bound_cells, get_or-bound_cells, hold_slots, cell_of_kept_slot, cell_of_kept_bound}

-- a sound node keeps what the code's nodes keep
pub kept_of_sound : (node : Node) → Sound node → IsKept node.config node.kept
kept_of_sound node s = record {
  slots = s.slots;
  bounds = s.bounds;
  fit = λ k d inside.
      subst (λ b. b < 2 ^ 64) (get_or_default node.kept.bounds k 0 d inside) (s.in_step k (omega (arith, inside, s.bounds))).fits;
}

-- also with a change that moves it forward
pub kept_changed : (node : Node) (change : Change) → Sound node → MovesForward node change → IsKept node.config (changed change node.kept)
kept_changed node (slot_to target slot) s f =
    let is = kept_of_sound node s in
    record { slots = IsSlots-set node.kept.slots target slot s.slots f.0 f.2; bounds = s.bounds; fit = is.fit }
kept_changed node (bound_to k bound) s f =
    let is = kept_of_sound node s in
    record { slots = s.slots; bounds = length-set node.kept.bounds k bound ∙ s.bounds; fit = All-set (λ b. b < 2 ^ 64) node.kept.bounds k bound f.2 is.fit }

-- ---- cells that were read are those of the slots and bounds that were found

pub cells_found : (config : Config) (kept : Kept) (cells : List (List ℕ)) → IsKept config kept → length cells ≡ 14 + length config.routes → HoldSlots cells kept.slots
    → ((k : ℕ) → k < length config.routes → cell_in cells (14 + k) ≡ cell_of_route (route_in config.routes k) (get_or kept.bounds k 0))
    → cells ≡ CellsOf config kept
unfolding CellsOf
cells_found config kept cells is size slots bounds =
    let behind : drop 14 cells ≡ bound_cells config.routes kept.bounds =
    ext_get_or [] (drop 14 cells) (bound_cells config.routes kept.bounds)
    (omega (arith, length-drop 14 cells, size, length-bound_cells config.routes kept.bounds is.bounds))
    (λ k inside.
    let within : k < length config.routes = omega (arith, length-drop 14 cells, size, inside) in
    get_or-drop 14 cells k [] ∙ bounds k within ∙ sym (get_or-bound_cells config.routes kept.bounds k is.bounds within)) in
    sym (take-append-drop 14 cells) ∙ ap (λ front. front ++ drop 14 cells) slots.cells_are ∙ ap (λ rest. map slot_cell kept.slots ++ rest) behind

-- ---- the list of cells tells what is kept

same_kept : (kept other : Kept) → kept.slots ≡ other.slots → kept.bounds ≡ other.bounds → kept ≡ other
same_kept kept other slots bounds = ap (λ s. record kept { slots = s }) slots ∙ ap (λ b. record other { bounds = b }) bounds

pub holds_kept : (config : Config) (kept : Kept) (k : ℕ) → IsConfig config → IsKept config kept → k < length config.routes
    → HoldsBound (cell_in (CellsOf config kept) (14 + k)) (route_in config.routes k).id (route_in config.routes k).direction (get_or kept.bounds k 0)
holds_kept config kept k good is inside = record {
  id_fits = (good.are_routes k no_route inside).id_fits;
  bound_fits = is.fit k 0 (omega (arith, inside, is.bounds));
  cell_is = cell_of_kept_bound config kept is k inside;
}

pub kept_once : (config : Config) (kept other : Kept) → IsConfig config → IsKept config kept → IsKept config other → CellsOf config kept ≡ CellsOf config other → kept ≡ other
kept_once config kept other good is also same =
    same_kept kept other
    (one_list (CellsOf config kept) kept.slots other.slots (hold_slots config kept is) (subst (λ cells. HoldSlots cells other.slots) (sym same) (hold_slots config other also)))
    (ext_get_or 0 kept.bounds other.bounds (is.bounds ∙ sym also.bounds)
    (λ k inside.
    let within : k < length config.routes = omega (arith, inside, is.bounds) in
    let route = route_in config.routes k in
    (one_bound (cell_in (CellsOf config kept) (14 + k)) route.id route.id route.direction route.direction (get_or kept.bounds k 0) (get_or other.bounds k 0)
    (holds_kept config kept k good is within)
    (subst (λ cells. HoldsBound (cell_in cells (14 + k)) route.id route.direction (get_or other.bounds k 0)) (sym same) (holds_kept config other k good also within))).2))

-- ---- these cells are all slots and bounds

pub no_bad_slot : (config : Config) (kept : Kept) (bad : ℕ) → IsKept config kept → FirstBadSlot (CellsOf config kept) bad → ⊥
no_bad_slot config kept bad is first =
    let inside : bad < length kept.slots = omega (arith, first.below, is.slots.size) in
    first.none (get_or kept.slots bad Empty) (record {
      is_slot = is.slots.slots_are bad Empty inside;
      cell_is = cell_of_kept_slot config kept is bad first.below ∙ get_or-map slot_cell kept.slots bad Empty [] inside;
    })

pub no_bad_bound : (config : Config) (kept : Kept) (bad : ℕ) → IsConfig config → IsKept config kept → SlotsButNoBound config.routes (CellsOf config kept) bad → ⊥
no_bad_bound config kept bad good is found =
    found.first.none (get_or kept.bounds found.first.route 0) (holds_kept config kept found.first.route good is found.first.below)
