-- What is covered of the routes that receive, after a send
use Rattle.std.specs.Prelude.{◌≡◌, ◌≢◌, ℕ, ◌+◌, ◌<◌, true, Option, None, Some, List, [], length}
use Rattle.std.proofs.Common.{sym, ◌∙◌, ap, subst, arith, get_or-set_other}
use Rattle.std.proofs.lemmas.List.{length-set}
use Rattle.cell_store.specs.Cells.{CellsState}
use Rattle.freshness_routes.specs.Config.{Config}
use Rattle.freshness_routes.specs.declared.routes.Direction.TheVariants.{Sends, Receives}
use Rattle.freshness_routes.specs.declared.routes.Route.{Route}
use Rattle.freshness_store.specs.Bound.{bound_cell, HoldsBound}
use Rattle.freshness_manager.specs.Counters.{KeepsBound}
use Rattle.freshness_manager.specs.Changing.{MakesChange}
use Rattle.bus_machine.specs.Node.{HasRoute, place_in, place_of}
use Rattle.bus_laws.proofs.CallerLemmas.{place_is, Receives≢Sends}
use Rattle.secoc_node.specs.declared.counters.RouteCounter.{RouteCounter}
use Rattle.secoc_node.specs.declared.known.Known.{Known}
use Rattle.secoc_node.specs.Cells.{cell_in, route_in}
use Rattle.secoc_node.specs.State.{NodeState, IsCovered}
use Rattle.secoc_node.specs.Keeping.{node_in, state_in, IsNode, FindsRoute}
use Rattle.secoc_node.proofs.RouteLaws.{with_counter_at, route_direction}

-- the node has the same routes, and its store the same cells
pub covered_same : (old new : NodeState) → new.node.config ≡ old.node.config → new.store.cells ≡ old.store.cells → (id v : ℕ) → IsCovered old id Receives v → IsCovered new id Receives v
covered_same old new config cells id v covered = record {
  bound = covered.bound;
  kept = subst (λ (c : Config). KeepsBound new.store.cells (14 + place_in c.routes id Receives) id Receives covered.bound) (sym config)
      (subst (λ (cs : List (List ℕ)). KeepsBound cs (14 + place_of old.node id Receives) id Receives covered.bound) (sym cells) covered.kept);
  covers = covered.covers;
}

-- the bound in another cell is kept
keeps_other : (place id k other bound : ℕ) (change : Option ℕ) (old new : CellsState) → MakesChange place id Sends change old new → k ≢ place
    → KeepsBound old.cells k other Receives bound → KeepsBound new.cells k other Receives bound
keeps_other place id k other bound None old new made apart keeps = subst (λ (s : CellsState). KeepsBound s.cells k other Receives bound) (sym made) keeps
keeps_other place id k other bound (Some b) old new made apart keeps =
    let cell : List ℕ = bound_cell id Sends b in
    let count : length new.cells ≡ length old.cells = ap length made.cells ∙ length-set old.cells place cell in
    let there : cell_in new.cells k ≡ cell_in old.cells k = ap (λ (cells : List (List ℕ)). cell_in cells k) made.cells ∙ get_or-set_other old.cells place k cell [] apart in
    record { inside = omega (arith, count, keeps.inside); holds = subst (λ (c : List ℕ). HoldsBound c other Receives bound) (sym there) keeps.holds }

module _ (known : Known) (store : CellsState) (is : IsNode known store) (up : known.up ≡ true) (id place : ℕ) (route : Route) (finds : FindsRoute known.config.routes id Sends place route) where
  -- a route that receives has another place than one that sends
  places_differ : (other : ℕ) → HasRoute (node_in known) other Receives → 14 + place_of (node_in known) other Receives ≢ 14 + place
  places_differ other there same =
      let k : ℕ = place_of (node_in known) other Receives in
      let at : k ≡ place = omega (arith, same) in
      let sends_there : (route_in known.config.routes place).direction ≡ Sends = ap (λ (r : Route). r.direction) (sym finds.route_is) ∙ route_direction known store is up id Sends place route finds in
      Receives≢Sends (route_in known.config.routes k).direction (place_is known.config.routes other Receives there).direction_is
      (subst (λ i. (route_in known.config.routes i).direction ≡ Sends) (sym at) sends_there)

  pub covered_past : (counter : RouteCounter) (change : Option ℕ) (left : CellsState) → MakesChange (14 + place) id Sends change store left
      → (other v : ℕ) → IsCovered (state_in known store) other Receives v → IsCovered (state_in (with_counter_at known place counter) left) other Receives v
  covered_past counter change left made other v covered =
      let k : ℕ = place_of (node_in known) other Receives in
      let below : 14 + k < length store.cells = covered.kept.inside in
      let inside : k < length known.config.routes = omega (arith, below, is.count) in
      record {
        bound = covered.bound;
        kept = keeps_other (14 + place) id (14 + k) other covered.bound change store left made (places_differ other inside) covered.kept;
        covers = covered.covers;
      }
