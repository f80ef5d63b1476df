-- A call on one route of an up node: its counter moved, or it didn't, or the disk failed as its bound was put
use Rattle.std.proofs.Common.{◌≡◌, ℕ, ◌+◌, ◌<◌, true, false, true≢false, List, length, set, get_or, map, refl, sym, ap, subst, ◌∙◌, arith}
use Rattle.std.specs.Prelude.{◌↔◌, Option, None, Some, Result, IsErrOf, option_map, unwrap_or}
use Rattle.std.specs.Vec.{with_item}
use Rattle.std.proofs.lemmas.List.{get_or_default, set-get_or, length-set}
use Rattle.cell_store.specs.Cells.{CellsState}
use Rattle.freshness_routes.specs.declared.routes.Direction.{Direction}
use Rattle.freshness_routes.specs.declared.routes.Route.{Route}
use Rattle.freshness_store.specs.Bound.{HoldsBound}
use Rattle.freshness_manager.specs.Counters.{KeepsBound}
use Rattle.freshness_manager.specs.Changing.{MakesChange, FailsChange}
use Rattle.she_engine.specs.declared.engine.PendingSlot.{PendingSlot}
use Rattle.bus_machine.specs.declared.lines.Line.{Line}
use Rattle.bus_machine.specs.Node.{Node, Change, bound_to, place_of, bound_at, counter_at, HasRoute, with_counter, failed}
use Rattle.bus_machine.specs.Sound.{Sound}
use Rattle.bus_machine.specs.Steps.{Act, NodeStep}
use Rattle.bus_laws.proofs.CallerLemmas.{Sound-step, place_is}
use Rattle.secoc_node.specs.declared.counters.RouteCounter.{RouteCounter}
use Rattle.secoc_node.specs.declared.known.Known.{Known}
use Rattle.secoc_node.specs.declared.known.PendingBound.{PendingBound}
use Rattle.secoc_node.specs.Cells.{CellsOf, IsKept, cell_in, route_in}
use Rattle.secoc_node.specs.Counters.{freshness_in, bound_in, counter_towards, counter_of_route, no_counter, counter_in, CountsRoute, CountRoutes}
use Rattle.secoc_node.specs.State.{NodeState}
use Rattle.secoc_node.specs.declared.faults.NodeFault.{NodeFault}
use Rattle.secoc_node.specs.declared.faults.NodeFault.TheVariants as fault
use Rattle.secoc_node.specs.Keeping.{node_in, state_in, kept_in, pending_in, IsNode, KeepsNode, FindsRoute}
use Rattle.secoc_node.proofs.Serving.{LeavesStore}
use Rattle.secoc_node.proofs.KeptLaws.{kept_of_sound, holds_kept}
use Rattle.secoc_node.proofs.CallLaws.{PastRoute, Done}
use Rattle.secoc_node.proofs.MovedLaws.{freshness_at, bound_at_counter, kept_moved, counters_moved, counts_moved, keeps_moved, served_same, served_moved, served_failed}

-- the counter of one route is another
abbrev pub with_counter_at : Known → ℕ → RouteCounter → Known
with_counter_at known place counter = record known { counters = with_item known.counters place counter }

abbrev state_of : Node → CellsState → NodeState
state_of node store = record { node = node; store = store }

-- if nothing is pending, no slot is
no_slot : (slot : Option PendingSlot) (bound : Option PendingBound) → pending_in slot bound ≡ None → slot ≡ None
no_slot None bound e = refl
no_slot (Some p) bound e = cc

module _ (known : Known) (store : CellsState) (is : IsNode known store) (up : known.up ≡ true) (id : ℕ) (direction : Direction) (place : ℕ) (route : Route)
    (finds : FindsRoute known.config.routes id direction place route) where
  abbrev node : Node
  node = node_in known

  abbrev counters : List RouteCounter
  counters = known.counters.items

  pub inside : place < length known.counters.items
  inside = omega (arith, is.counted.as_many, finds.inside)

  here : RouteCounter
  here = counter_in counters place

  pub place_at : place_of (node_in known) id direction ≡ place
  place_at = sym finds.place_is

  route_for : (route_in known.config.routes place).id ≡ id
  route_for =
      subst (λ k. (route_in known.config.routes k).id ≡ id) (sym finds.place_is)
      (place_is known.config.routes id direction (subst (λ k. k < length known.config.routes) finds.place_is finds.inside)).id_is

  route_towards : (route_in known.config.routes place).direction ≡ direction
  route_towards =
      subst (λ k. (route_in known.config.routes k).direction ≡ direction) (sym finds.place_is)
      (place_is known.config.routes id direction (subst (λ k. k < length known.config.routes) finds.place_is finds.inside)).direction_is

  pub route_id : route.id ≡ id
  route_id = ap (λ (r : Route). r.id) finds.route_is ∙ route_for

  pub route_direction : route.direction ≡ direction
  route_direction = ap (λ (r : Route). r.direction) finds.route_is ∙ route_towards

  pub has_route : HasRoute (node_in known) id direction
  has_route = subst (λ k. k < length known.config.routes) finds.place_is finds.inside

  pub not_unrouted : (old : NodeState) → state_in known store ≡ old → (T : Type 0) (r : Result T NodeFault) → PastRoute r
      → IsErrOf r fault.NoRoute ↔ ((old.node.up ≡ true) × (HasRoute old.node id direction → ⊥))
  not_unrouted old view T r past = (λ e. absurd (subst (PastRoute {T = T}) e past), λ no. absurd (no.1 (subst (λ (s : NodeState). HasRoute s.node id direction) view has_route)))

  kept_is : IsKept node.config node.kept
  kept_is = kept_of_sound node is.sound

  -- the counter that was got is the one at the place
  pub got_here : (counter : RouteCounter) → counter ≡ get_or known.counters.items place counter → counter_in known.counters.items place ≡ counter
  got_here counter got = sym (got ∙ get_or_default counters place counter no_counter inside)

  -- it is made of the route, and what it counts
  pub made_of : (counter : RouteCounter) → counter ≡ get_or known.counters.items place counter → counter ≡ counter_towards direction route (14 + place) (freshness_in counter) (bound_in counter)
  made_of counter got =
      let at = got_here counter got in
      let counts : CountsRoute (route_in known.config.routes place) place counter = subst (CountsRoute (route_in known.config.routes place) place) at (is.counted.each place finds.inside) in
      counts
      ∙ ap (λ d. counter_towards d (route_in known.config.routes place) (14 + place) (freshness_in counter) (bound_in counter)) route_towards
      ∙ ap (λ r. counter_towards direction r (14 + place) (freshness_in counter) (bound_in counter)) (sym finds.route_is)

  -- the store keeps its bound
  pub keeps_its_bound : (counter : RouteCounter) → counter ≡ get_or known.counters.items place counter → KeepsBound store.cells (14 + place) id direction (bound_in counter)
  keeps_its_bound counter got =
      let bound : get_or node.kept.bounds place 0 ≡ bound_in counter = bound_at_counter counters place counter inside ∙ ap bound_in (got_here counter got) in
      let holds = holds_kept node.config node.kept place is.sound.config kept_is finds.inside in
      let r = route_in known.config.routes place in
      record {
        inside = omega (arith, is.count, finds.inside);
        holds = subst (λ cells. HoldsBound (cell_in cells (14 + place)) id direction (bound_in counter)) (sym (is.keeps up).cells)
            (subst (HoldsBound (cell_in (CellsOf node.config node.kept) (14 + place)) id direction) bound
            (subst (λ d. HoldsBound (cell_in (CellsOf node.config node.kept) (14 + place)) id d (get_or node.kept.bounds place 0)) route_towards
            (subst (λ i. HoldsBound (cell_in (CellsOf node.config node.kept) (14 + place)) i r.direction (get_or node.kept.bounds place 0)) route_for holds)));
      }

  pub counter_is : (counter : RouteCounter) → counter ≡ get_or known.counters.items place counter → counter_at (node_in known) place ≡ freshness_in counter
  counter_is counter got = freshness_at counters place counter inside ∙ ap freshness_in (got_here counter got)

  pub bound_is : (counter : RouteCounter) → counter ≡ get_or known.counters.items place counter → bound_at (node_in known) place ≡ bound_in counter
  bound_is counter got = bound_at_counter counters place counter inside ∙ ap bound_in (got_here counter got)

  -- ---- the counter moved

  module _ (counter : RouteCounter) (change : Option ℕ) (left : CellsState) (v : ℕ) (counts : counter ≡ counter_towards direction route (14 + place) (freshness_in counter) (bound_in counter))
      (fresh : freshness_in counter ≡ v) (bound : bound_in counter ≡ unwrap_or change (bound_in (counter_in known.counters.items place))) (made : MakesChange (14 + place) id direction change store left) where
    abbrev after : Known
    after = with_counter_at known place counter

    abbrev moved : Node
    moved = with_counter (option_map (bound_to place) change) place v node

    pub moved_is : node_in (with_counter_at known place counter) ≡ with_counter (option_map (bound_to place) change) place v (node_in known)
    moved_is =
        ap (λ kept. record node { kept = kept; counters = map freshness_in (set counters place counter) }) (kept_moved counters place counter inside known.engine change bound)
        ∙ ap (λ cs. record moved { counters = cs }) (counters_moved counters place counter inside v fresh)

    counts_it : CountsRoute (route_in known.config.routes place) place counter
    counts_it =
        counts
        ∙ ap (λ d. counter_towards d route (14 + place) (freshness_in counter) (bound_in counter)) (sym route_direction)
        ∙ ap (λ r. counter_of_route r (14 + place) (freshness_in counter) (bound_in counter)) finds.route_is

    moved_keeps : KeepsNode moved left
    moved_keeps = keeps_moved (state_in known store) place id direction up (is.sound.settled up) kept_is (is.keeps up) finds.inside route_for route_towards change left v made

    count_left : (c : Option ℕ) → MakesChange (14 + place) id direction c store left → length left.cells ≡ length store.cells
    count_left None same = ap (λ (s : CellsState). length s.cells) same
    count_left (Some b) puts = ap length puts.cells ∙ length-set store.cells (14 + place) _

    pub moved_done : (act : Act) (line : Line) → NodeStep (node_in known) act line (with_counter (option_map (bound_to place) change) place v (node_in known))
        → Done known store act line (with_counter_at known place counter) left
    moved_done act line step =
        let there : NodeStep node act line (node_in after) = subst (NodeStep node act line) (sym moved_is) step in
        record {
          node = record {
            sound = Sound-step node act line (node_in after) is.sound there;
            own = is.own;
            counted = counts_moved counters place counter inside known.config.routes is.counted counts_it;
            count = count_left change made ∙ is.count;
            keeps = λ _. subst (λ n. KeepsNode n left) (sym moved_is) moved_keeps;
          };
          step = there;
          served = subst (λ n. LeavesStore (state_in known store) (record { node = n; store = left })) (sym moved_is)
              (served_moved (state_in known store) place id direction up (is.sound.settled up) kept_is (is.keeps up) finds.inside route_for route_towards change left v made);
        }

  -- ---- it didn't

  pub same_node : (counter : RouteCounter) → counter ≡ get_or known.counters.items place counter → node_in (with_counter_at known place counter) ≡ node_in known
  same_node counter got =
      let same : set counters place counter ≡ counters = ap (set counters place) (sym (got_here counter got)) ∙ set-get_or counters place no_counter in
      ap (λ cs. record node { kept = kept_in known.engine cs; counters = map freshness_in cs }) same

  pub same_state : (counter : RouteCounter) (left : CellsState) → counter ≡ get_or known.counters.items place counter → left ≡ store
      → state_in (with_counter_at known place counter) left ≡ state_in known store
  same_state counter left got same = ap (λ (n : Node). state_of n left) (same_node counter got) ∙ ap (state_of (node_in known)) same

  pub same_done : (counter : RouteCounter) (left : CellsState) → counter ≡ get_or known.counters.items place counter → left ≡ store → (act : Act) (line : Line)
      → NodeStep (node_in known) act line (node_in known) → Done known store act line (with_counter_at known place counter) left
  same_done counter left got same act line step =
      let n = sym (same_node counter got) in
      let cs : set counters place counter ≡ counters = ap (set counters place) (sym (got_here counter got)) ∙ set-get_or counters place no_counter in
      record {
        node = record {
          sound = subst Sound n is.sound;
          own = is.own;
          counted = subst (CountRoutes known.config.routes) (sym cs) is.counted;
          count = ap (λ (s : CellsState). length s.cells) same ∙ is.count;
          keeps = λ _. subst (λ m. KeepsNode m left) n (subst (KeepsNode node) (sym same) (is.keeps up));
        };
        step = subst (NodeStep node act line) n step;
        served = subst (λ m. LeavesStore (state_in known store) (record { node = m; store = left })) n
            (served_same (state_in known store) (record { node = node; store = left }) (ap (λ (s : CellsState). record { node = node; store = s }) same));
      }

  -- ---- the disk failed

  module _ (counter : RouteCounter) (bound : ℕ) (left : CellsState) (fallen : Known) (got : counter ≡ get_or known.counters.items place counter)
      (fails : FailsChange (14 + place) id direction (Some bound) store left)
      (down : fallen ≡ record (with_counter_at known place counter) { up = false; pending = Some (record { route = place; bound = bound }) }) where
    abbrev waits : Node
    waits = failed (bound_to place bound) node

    pending_is : pending_in known.engine.pending (Some (record { route = place; bound = bound })) ≡ Some (bound_to place bound)
    pending_is = rw (no_slot known.engine.pending known.pending (is.sound.settled up)) refl

    pub failed_is : node_in fallen ≡ failed (bound_to place bound) (node_in known)
    failed_is =
        ap node_in down
        ∙ ap (λ (n : Node). record n { up = false; pending = pending_in known.engine.pending (Some (record { route = place; bound = bound })) }) (same_node counter got)
        ∙ ap (λ (p : Option Change). record node { up = false; pending = p }) pending_is

    pub failed_done : (act : Act) (line : Line) → NodeStep (node_in known) act line (failed (bound_to place bound) (node_in known)) → Done known store act line fallen left
    failed_done act line step =
        let there : NodeStep node act line (node_in fallen) = subst (NodeStep node act line) (sym failed_is) step in
        record {
          node = record {
            sound = Sound-step node act line (node_in fallen) is.sound there;
            own = subst (λ (k : Known). k.engine.uid ≡ k.config.uid) (sym down) is.own;
            counted = subst (λ (k : Known). CountRoutes k.config.routes k.counters.items) (sym down)
                (subst (CountRoutes known.config.routes) (sym (ap (set counters place) (sym (got_here counter got)) ∙ set-get_or counters place no_counter)) is.counted);
            count = subst (λ (k : Known). length left.cells ≡ 14 + length k.config.routes) (sym down) (ap length fails.kept ∙ is.count);
            keeps = λ e. absurd (true≢false (sym e ∙ ap (λ (k : Known). k.up) down));
          };
          step = there;
          served = subst (λ n. LeavesStore (state_in known store) (record { node = n; store = left })) (sym failed_is)
              (served_failed (state_in known store) place id direction up (is.sound.settled up) kept_is (is.keeps up) finds.inside route_for route_towards bound left fails);
        }
