-- The cells of a new node, written one after another
use Rattle.std.proofs.Common.{◌≡◌, ℕ, ◌+◌, ◌-◌, ◌^◌, ◌<◌, ◌≤◌, List, [], ◌++◌, length, take, drop, set, replicate, get_or, refl, sym, ap, subst, ◌∙◌, arith, get_or-set_same, get_or-set_other, inl, inr}
use Rattle.std.proofs.lemmas.List.{length-map, length-drop, length-take-le, get_or-take, get_or-drop, get_or-map, get_or_append_left, get_or-append_right, get_or_default, ext_get_or}
use Rattle.std.proofs.lemmas.List.Elements.{All-replicate, All-map}
use Rattle.std.proofs.lemmas.Bool.Decides.{eqb_tells}
use Rattle.key_slots.specs.declared.memory.Slot.TheVariants.{Empty}
use Rattle.key_slots.specs.Slots.{IsSlot}
use Rattle.slot_disk.specs.Cell.{slot_cell}
use Rattle.freshness_routes.specs.declared.routes.Route.{Route}
use Rattle.freshness_routes.specs.Config.{Config, IsConfig}
use Rattle.freshness_store.specs.Bound.{bound_cell}
use Rattle.bus_machine.specs.Node.{Kept, first_node, no_route}
use Rattle.secoc_node.specs.Cells.{CellsOf, IsKept, cell_in}
use Rattle.secoc_node.proofs.CellsLaws.{length-CellsOf, cell_of_kept_slot, cell_of_kept_bound}

abbrev first_kept : Config → Kept
first_kept config = (first_node config).kept

pub first_is_kept : (config : Config) → IsConfig config → IsKept config (first_node config).kept
first_is_kept config is = record {
  slots = record { size = refl; slots_are = All-replicate IsSlot 14 Empty tt };
  bounds = length-map config.routes (λ route. route.start);
  fit = All-map (λ bound. bound < 2 ^ 64) (λ route. route.start) config.routes (λ k d inside. (is.are_routes k d inside).start_fits);
}

-- a prefix of fourteen zero cells holds the slots
pub front_so_far : (config : Config) → IsConfig config → (front rest : List (List ℕ)) → front ≡ replicate 14 (replicate 32 0) → (k : ℕ) → k < 14
    → cell_in (front ++ rest) k ≡ cell_in (CellsOf config (first_node config).kept) k
unfolding slot_cell
front_so_far config is front rest zeros k inside =
    let size : length front ≡ 14 = ap length zeros in
    get_or_append_left front rest [] k (omega (arith, size, inside))
    ∙ ap (λ cells. cell_in cells k) zeros
    ∙ sym (cell_of_kept_slot config (first_kept config) (first_is_kept config is) k inside)

-- what lies after a prefix that was written
pub front_rest : (front out : List (List ℕ)) → length front ≡ 14 → (k : ℕ) → 14 ≤ k → cell_in (front ++ drop 14 out) k ≡ cell_in out k
front_rest front out size k behind =
    get_or-append_right front (drop 14 out) 14 k [] size behind
    ∙ get_or-drop 14 out (k - 14) []
    ∙ ap (cell_in out) (omega (arith, behind))

-- one cell more
pub one_cell_more : (config : Config) → IsConfig config → (out : List (List ℕ)) (place : ℕ) (route : Route) (cell : List ℕ)
    → 14 + place < length out → place < length config.routes → route ≡ get_or config.routes place route → cell ≡ bound_cell route.id route.direction route.start
    → ((k : ℕ) → k < 14 + place → cell_in out k ≡ cell_in (CellsOf config (first_node config).kept) k)
    → (k : ℕ) → k < 14 + (place + 1) → cell_in (set out (14 + place) cell) k ≡ cell_in (CellsOf config (first_node config).kept) k
one_cell_more config is out place route cell fits inside here is_cell before k below = elim (eqb_tells k (14 + place)) [
  | inl same ↦
      let r : route ≡ get_or config.routes place no_route = here ∙ get_or_default config.routes place route no_route inside in
      let start : get_or (first_kept config).bounds place 0 ≡ (get_or config.routes place no_route).start = get_or-map (λ (x : Route). x.start) config.routes place no_route 0 inside in
      let at : cell_in (CellsOf config (first_kept config)) (14 + place) ≡ bound_cell route.id route.direction route.start =
      cell_of_kept_bound config (first_kept config) (first_is_kept config is) place inside
      ∙ ap (λ bound. bound_cell (get_or config.routes place no_route).id (get_or config.routes place no_route).direction bound) start
      ∙ ap (λ (x : Route). bound_cell x.id x.direction x.start) (sym r) in
      subst (λ i. cell_in (set out (14 + place) cell) i ≡ cell_in (CellsOf config (first_kept config)) i) (sym same.1)
      (get_or-set_same out (14 + place) cell [] fits ∙ is_cell ∙ sym at)
  | inr other ↦ get_or-set_other out (14 + place) k cell [] other.1 ∙ before k (omega (arith, below, other.1))
]

-- a cell behind all of them stays as it was
pub rest_as_before : (out before : List (List ℕ)) (n place : ℕ) (cell : List ℕ) → place < n
    → ((k : ℕ) → 14 + n ≤ k → cell_in out k ≡ cell_in before k) → (k : ℕ) → 14 + n ≤ k → cell_in (set out (14 + place) cell) k ≡ cell_in before k
rest_as_before out before n place cell inside rest k behind =
    get_or-set_other out (14 + place) k cell [] (λ (same : k ≡ 14 + place). absurd (omega (arith, same, inside, behind))) ∙ rest k behind

-- all of them
pub all_cells : (config : Config) → IsConfig config → (out : List (List ℕ)) (n : ℕ) → n ≡ 14 + length config.routes → n ≤ length out
    → ((k : ℕ) → k < n → cell_in out k ≡ cell_in (CellsOf config (first_node config).kept) k) → take n out ≡ CellsOf config (first_node config).kept
all_cells config is out n size fits same =
    let long = length-take-le n out fits in
    ext_get_or [] (take n out) (CellsOf config (first_kept config)) (omega (arith, long, size, length-CellsOf config (first_kept config) (first_is_kept config is)))
    (λ k inside. let below : k < n = omega (arith, long, inside) in get_or-take n out k [] below ∙ same k below)

pub same_behind : (n : ℕ) (out before : List (List ℕ)) → length out ≡ length before → ((k : ℕ) → n ≤ k → cell_in out k ≡ cell_in before k) → drop n out ≡ drop n before
same_behind n out before size same =
    ext_get_or [] (drop n out) (drop n before) (omega (arith, size, length-drop n out, length-drop n before))
    (λ k inside. get_or-drop n out k [] ∙ same (n + k) (omega arith) ∙ sym (get_or-drop n before k []))
