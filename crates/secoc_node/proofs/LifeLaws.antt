-- What a life begins with
use Rattle.std.proofs.Common.{◌≡◌, ℕ, ◌+◌, ◌^◌, ◌<◌, false, List, length, map, get_or, refl, sym, ap, subst, ◌∙◌, arith, inl, inr}
use Rattle.std.proofs.lemmas.List.{length-map, get_or-map, ext_get_or, get_or_default}
use Rattle.freshness_routes.specs.declared.routes.Direction.{Direction}
use Rattle.freshness_routes.specs.declared.routes.Direction.TheVariants.{Sends, Receives}
use Rattle.freshness_routes.specs.declared.routes.Route.{Route}
use Rattle.freshness_routes.specs.Config.{Config, IsConfig}
use Rattle.cell_store.specs.Cells.{CellsState}
use Rattle.bus_machine.specs.Node.{Node, Kept, changed, powered}
use Rattle.bus_machine.specs.Sound.{Sound}
use Rattle.bus_machine.specs.Steps.{PowersUp}
use Rattle.bus_laws.proofs.CallerLemmas.{Sound-powered, pending_forward}
use Rattle.secoc_node.specs.declared.counters.RouteCounter.{RouteCounter}
use Rattle.secoc_node.specs.declared.known.Known.{Known}
use Rattle.slot_disk.specs.Cell.{FirstBadSlot}
use Rattle.secoc_node.specs.declared.faults.AttachFault.{AttachFault}
use Rattle.secoc_node.specs.declared.faults.AttachFault.TheVariants as attach
use Rattle.secoc_node.specs.Cells.{CellsOf, IsKept, route_in, SlotsButNoBound}
use Rattle.secoc_node.specs.Causes.{AttachCause}
use Rattle.secoc_node.specs.Counters.{freshness_in, bound_in, counter_towards, counter_of_route, no_counter, counter_in, CountRoutes, BeginsAt, BeginRoutes}
use Rattle.secoc_node.specs.Keeping.{node_in, kept_in, IsNode, KeepsNode, BeginsLife}
use Rattle.secoc_node.proofs.CellsLaws.{cell_of_route}
use Rattle.secoc_node.proofs.KeptLaws.{kept_of_sound, kept_changed, cells_found, kept_once, no_bad_slot, no_bad_bound}
use Rattle.secoc_node.proofs.FitsLaws.{FoundCells}

-- ---- what the counter of a route is made of

pub freshness_of_route : (direction : Direction) (route : Route) (place freshness bound : ℕ) → freshness_in (counter_towards direction route place freshness bound) ≡ freshness
freshness_of_route Sends route place freshness bound = refl
freshness_of_route Receives route place freshness bound = refl

pub bound_of_route : (direction : Direction) (route : Route) (place freshness bound : ℕ) → bound_in (counter_towards direction route place freshness bound) ≡ bound
bound_of_route Sends route place freshness bound = refl
bound_of_route Receives route place freshness bound = refl

-- a counter that begins is at its bound
at_bound : (cells : List (List ℕ)) (cell : ℕ) (route : Route) (counter : RouteCounter) → BeginsAt cells cell route counter → freshness_in counter ≡ bound_in counter
at_bound cells cell route counter begins =
    ap freshness_in begins.counts ∙ freshness_of_route route.direction route cell (bound_in counter) (bound_in counter)

pub counts_of_begun : (routes : List Route) (cells : List (List ℕ)) (counters : List RouteCounter) → BeginRoutes routes cells counters → CountRoutes routes counters
counts_of_begun routes cells counters begun = record {
  as_many = begun.as_many;
  each = λ k inside.
      let b = begun.each k inside in
      let c = counter_in counters k in
      b.counts ∙ ap (λ f. counter_of_route (route_in routes k) (14 + k) f (bound_in c)) (sym (at_bound cells (14 + k) (route_in routes k) c b));
}

-- every counter is at its bound
counters_at_bounds : (routes : List Route) (cells : List (List ℕ)) (counters : List RouteCounter) → BeginRoutes routes cells counters → map freshness_in counters ≡ map bound_in counters
counters_at_bounds routes cells counters begun =
    ext_get_or 0 (map freshness_in counters) (map bound_in counters) (length-map counters freshness_in ∙ sym (length-map counters bound_in))
    (λ k inside.
    let within : k < length counters = omega (arith, inside, length-map counters freshness_in) in
    let b = begun.each k (omega (arith, within, begun.as_many)) in
    get_or-map freshness_in counters k no_counter 0 within
    ∙ at_bound cells (14 + k) (route_in routes k) (counter_in counters k) b
    ∙ sym (get_or-map bound_in counters k no_counter 0 within))

-- ---- the node

module _ (config : Config) (cells : List (List ℕ)) (known : Known) (good : IsConfig config) (size : length cells ≡ 14 + length config.routes) (life : BeginsLife config cells known) where
  abbrev kept : Kept
  kept = kept_in known.engine known.counters.items

  bound_at_place : (k : ℕ) → k < length config.routes → get_or kept.bounds k 0 ≡ bound_in (counter_in known.counters.items k)
  bound_at_place k inside = get_or-map bound_in known.counters.items k no_counter 0 (omega (arith, inside, life.counters.as_many))

  pub life_kept : IsKept config (kept_in known.engine known.counters.items)
  life_kept = record {
    slots = life.slots.are_slots;
    bounds = length-map known.counters.items bound_in ∙ life.counters.as_many;
    fit = λ k d inside.
        let within : k < length config.routes = omega (arith, inside, length-map known.counters.items bound_in, life.counters.as_many) in
        subst (λ b. b < 2 ^ 64) (sym (bound_at_place k within) ∙ get_or_default kept.bounds k 0 d inside) (life.counters.each k within).holds.bound_fits;
  }

  pub life_cells : cells ≡ CellsOf config (kept_in known.engine known.counters.items)
  life_cells = cells_found config kept cells life_kept size life.slots
      (λ k inside. (life.counters.each k inside).holds.cell_is ∙ ap (cell_of_route (route_in config.routes k)) (sym (bound_at_place k inside)))

  pub life_is : node_in known ≡ powered config (kept_in known.engine known.counters.items)
  life_is = rw (life.config_is, life.undecided, life.up, life.no_slot, life.no_bound, counters_at_bounds config.routes cells known.counters.items life.counters) refl

  pub life_sound : Sound (node_in known)
  life_sound = subst Sound (sym life_is) (Sound-powered config kept good life_kept.slots life_kept.bounds (λ k inside. life_kept.fit k 0 (omega (arith, inside, life_kept.bounds))))

  pub life_keeps : (store : CellsState) → store.broken ≡ false → store.cells ≡ cells → KeepsNode (node_in known) store
  life_keeps store whole same = record {
    whole = whole;
    cells = same ∙ life_cells ∙ ap (λ c. CellsOf c kept) (sym life.config_is);
  }

  pub life_node : (store : CellsState) → store.broken ≡ false → store.cells ≡ cells → IsNode known store
  life_node store whole same = record {
    sound = life_sound;
    own = life.own ∙ ap (λ (c : Config). c.uid) (sym life.config_is);
    counted = subst (λ (c : Config). CountRoutes c.routes known.counters.items) (sym life.config_is) (counts_of_begun config.routes cells known.counters.items life.counters);
    count = ap length same ∙ size ∙ ap (λ (c : Config). 14 + length c.routes) (sym life.config_is);
    keeps = λ _. life_keeps store whole same;
  }

-- the node that comes up over cells that were found is the one that the machine allows
pub life_powers : (node : Node) (cells : List (List ℕ)) (known : Known) → Sound node → length cells ≡ 14 + length node.config.routes → BeginsLife node.config cells known → FoundCells node cells
    → PowersUp node (node_in known)
life_powers node cells known sound size life found =
    let config = node.config in
    let kept = kept_in known.engine known.counters.items in
    let is = life_is config cells known sound.config size life in
    let own : cells ≡ CellsOf config kept = life_cells config cells known sound.config size life in
    let mine = life_kept config cells known sound.config size life in
    elim found [
      | inl as_before ↦ inl (is ∙ ap (powered config) (kept_once config kept node.kept sound.config mine (kept_of_sound node sound) (sym own ∙ as_before)))
      | inr made ↦ inr (
        made.0,
        made.1,
        is ∙ ap (powered config) (kept_once config kept (changed made.0 node.kept) sound.config mine (kept_changed node made.0 sound (pending_forward node made.0 sound made.1)) (sym own ∙ made.2)),
      )
    ]

-- ---- cells that are those of a kept state

pub attached_kept : (config : Config) (cells : List (List ℕ)) (known : Known) (good : IsConfig config) (size : length cells ≡ 14 + length config.routes) (life : BeginsLife config cells known)
    (kept : Kept) → IsKept config kept → cells ≡ CellsOf config kept → node_in known ≡ powered config kept
attached_kept config cells known good size life kept is same =
    life_is config cells known good size life
    ∙ ap (powered config) (kept_once config (kept_in known.engine known.counters.items) kept good (life_kept config cells known good size life) is (sym (life_cells config cells known good size life) ∙ same))

pub refused_for_memory : (config : Config) (cells : List (List ℕ)) (fault : AttachFault) → IsConfig config → AttachCause config.routes cells fault
    → (kept : Kept) → IsKept config kept → cells ≡ CellsOf config kept → fault ≡ attach.Memory
refused_for_memory config cells (attach.BadSlot slot) good cause kept is same = absurd (no_bad_slot config kept slot is (subst (λ c. FirstBadSlot c slot) same cause))
refused_for_memory config cells (attach.BadBound place) good cause kept is same = absurd (no_bad_bound config kept place good is (subst (λ c. SlotsButNoBound config.routes c place) same cause))
refused_for_memory config cells attach.Memory good cause those is same = refl
