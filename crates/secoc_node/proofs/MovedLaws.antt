-- A counter that moved, with the bound that was put before if one was due
use Rattle.std.proofs.Common.{◌≡◌, ℕ, ◌+◌, ◌<◌, true, List, [], length, set, map, get_or, refl, sym, ap, subst, ◌∙◌, arith, get_or-set_same, get_or-set_other, inl, inr}
use Rattle.std.specs.Prelude.{Option, None, Some, option_map, unwrap_or}
use Rattle.std.proofs.lemmas.List.{length-set, map-set, get_or-map, set-get_or}
use Rattle.std.proofs.lemmas.Bool.Decides.{eqb_tells}
use Rattle.freshness_routes.specs.declared.routes.Direction.{Direction}
use Rattle.freshness_routes.specs.declared.routes.Route.{Route}
use Rattle.freshness_store.specs.Bound.{bound_cell}
use Rattle.freshness_manager.specs.Changing.{MakesChange, FailsChange}
use Rattle.cell_store.specs.Cells.{CellsState}
use Rattle.cut_disk.specs.Calls.{Runs}
use Rattle.cut_disk.proofs.CallerLemmas.{runs_none, runs_more}
use Rattle.she_engine.specs.declared.engine.Engine.{Engine}
use Rattle.bus_machine.specs.Node.{bound_to, changed, changed_by, with_counter, failed}
use Rattle.secoc_node.specs.declared.counters.RouteCounter.{RouteCounter}
use Rattle.secoc_node.specs.Cells.{CellsOf, IsKept, route_in}
use Rattle.secoc_node.specs.Counters.{freshness_in, bound_in, no_counter, counter_in, CountsRoute, CountRoutes}
use Rattle.secoc_node.specs.State.{NodeState, FitsNow}
use Rattle.secoc_node.specs.Keeping.{kept_in, KeepsNode}
use Rattle.secoc_node.proofs.Serving.{LeavesStore}
use Rattle.secoc_node.proofs.CellsLaws.{CellsOf-bound}
use Rattle.secoc_node.proofs.FitsLaws.{fits_put, fits_failed_put}

pub same_store : (old new : NodeState) → new.store ≡ old.store → (FitsNow old → FitsNow new) → LeavesStore old new
same_store old new same fits = record {
  layout = ap (λ (s : CellsState). s.layout) same;
  runs = subst (λ (s : CellsState). Runs [] 6 old.store.disk s.disk) (sym same) (runs_more 6 (omega arith) (runs_none old.store.disk));
  fits = fits;
}

pub served_same : (old new : NodeState) → new ≡ old → LeavesStore old new
served_same old new same = same_store old new (ap (λ (s : NodeState). s.store) same) (λ fits. subst FitsNow (sym same) fits)

-- ---- the counter

module _ (counters : List RouteCounter) (k : ℕ) (counter : RouteCounter) (inside : k < length counters) where
  pub freshness_at : get_or (map freshness_in counters) k 0 ≡ freshness_in (counter_in counters k)
  freshness_at = get_or-map freshness_in counters k no_counter 0 inside

  pub bound_at_counter : get_or (map bound_in counters) k 0 ≡ bound_in (counter_in counters k)
  bound_at_counter = get_or-map bound_in counters k no_counter 0 inside

  -- what is kept after the change
  pub kept_moved : (engine : Engine) (change : Option ℕ) → bound_in counter ≡ unwrap_or change (bound_in (counter_in counters k))
      → kept_in engine (set counters k counter) ≡ changed_by (option_map (bound_to k) change) (kept_in engine counters)
  kept_moved engine None bound =
      ap (λ bounds. record { slots = engine.slots; bounds = bounds })
      (map-set bound_in counters k counter ∙ ap (set (map bound_in counters) k) (bound ∙ sym bound_at_counter) ∙ set-get_or (map bound_in counters) k 0)
  kept_moved engine (Some b) bound =
      ap (λ bounds. record { slots = engine.slots; bounds = bounds }) (map-set bound_in counters k counter ∙ ap (set (map bound_in counters) k) bound)

  pub counters_moved : (v : ℕ) → freshness_in counter ≡ v → map freshness_in (set counters k counter) ≡ set (map freshness_in counters) k v
  counters_moved v is = map-set freshness_in counters k counter ∙ ap (set (map freshness_in counters) k) is

  pub counts_moved : (routes : List Route) → CountRoutes routes counters → CountsRoute (route_in routes k) k counter → CountRoutes routes (set counters k counter)
  counts_moved routes counts here = record {
    as_many = length-set counters k counter ∙ counts.as_many;
    each = λ j within. elim (eqb_tells j k) [
      | inl same ↦
          subst (λ i. CountsRoute (route_in routes i) i (counter_in (set counters k counter) i)) (sym same.1)
          (subst (CountsRoute (route_in routes k) k) (sym (get_or-set_same counters k counter no_counter inside)) here)
      | inr other ↦
          subst (CountsRoute (route_in routes j) j) (sym (get_or-set_other counters k j counter no_counter other.1)) (counts.each j within)
    ];
  }

-- ---- the store

module _ (old : NodeState) (k id : ℕ) (direction : Direction) (up : old.node.up ≡ true) (none : old.node.pending ≡ None) (is : IsKept old.node.config old.node.kept)
    (keeps : KeepsNode old.node old.store) (inside : k < length old.node.config.routes) (id_is : (route_in old.node.config.routes k).id ≡ id) (direction_is : (route_in old.node.config.routes k).direction ≡ direction) where
  made_cells : (bound : ℕ) → CellsOf old.node.config (changed (bound_to k bound) old.node.kept) ≡ set (CellsOf old.node.config old.node.kept) (14 + k) (bound_cell id direction bound)
  made_cells bound =
      CellsOf-bound old.node.config old.node.kept is k bound inside
      ∙ ap (λ i. set (CellsOf old.node.config old.node.kept) (14 + k) (bound_cell i (route_in old.node.config.routes k).direction bound)) id_is
      ∙ ap (λ d. set (CellsOf old.node.config old.node.kept) (14 + k) (bound_cell id d bound)) direction_is

  -- the store has the cells of what is kept after the change
  pub keeps_moved : (change : Option ℕ) (store : CellsState) (v : ℕ) → MakesChange (14 + k) id direction change old.store store
      → KeepsNode (with_counter (option_map (bound_to k) change) k v old.node) store
  keeps_moved None store v same = record { whole = ap (λ (s : CellsState). s.broken) same ∙ keeps.whole; cells = ap (λ (s : CellsState). s.cells) same ∙ keeps.cells }
  keeps_moved (Some bound) store v puts = record {
    whole = puts.whole;
    cells = puts.cells ∙ ap (λ cells. set cells (14 + k) (bound_cell id direction bound)) keeps.cells ∙ sym (made_cells bound);
  }

  pub served_moved : (change : Option ℕ) (store : CellsState) (v : ℕ) → MakesChange (14 + k) id direction change old.store store
      → LeavesStore old (record { node = with_counter (option_map (bound_to k) change) k v old.node; store = store })
  served_moved None store v same =
      same_store old _ same (λ fitting. subst (λ s. FitsNow (record { node = with_counter None k v old.node; store = s })) (sym same)
      (λ told at. let f = fitting told at in record { images = f.images; firm_up = f.firm_up }))
  served_moved (Some bound) store v puts = record {
    layout = puts.layout;
    runs = puts.runs;
    fits = λ fitting.
        fits_put old (record { node = with_counter (Some (bound_to k bound)) k v old.node; store = store }) (14 + k) (bound_cell id direction bound) fitting up none keeps puts
        (keeps_moved (Some bound) store v puts);
  }

  pub served_failed : (bound : ℕ) (store : CellsState) → FailsChange (14 + k) id direction (Some bound) old.store store
      → LeavesStore old (record { node = failed (bound_to k bound) old.node; store = store })
  served_failed bound store fails = record {
    layout = fails.layout;
    runs = fails.runs;
    fits = λ fitting. fits_failed_put old _ (14 + k) (bound_cell id direction bound) fitting up none keeps (bound_to k bound) fails refl (made_cells bound);
  }
