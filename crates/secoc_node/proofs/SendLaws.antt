-- A send of an up node under a Data ID for which it has a route
use Rattle.std.proofs.Common.{◌≡◌, ℕ, ◌+◌, ◌<◌, ◌≤◌, true, false, List, length, get_or, take, refl, sym, ap, subst, ◌∙◌, arith}
use Rattle.std.specs.Prelude.{Option, Some, option_map, unwrap_or}
use Rattle.cell_store.specs.Cells.{CellsState}
use Rattle.freshness_routes.specs.declared.routes.Direction.TheVariants.{Sends, Receives}
use Rattle.freshness_routes.specs.declared.routes.Route.{Route}
use Rattle.freshness_routes.specs.Changes.{bound_due}
use Rattle.freshness_manager.specs.Counters.{SenderCounter, KeepsBound}
use Rattle.freshness_manager.specs.Changing.{MakesChange, FailsChange}
use Rattle.secoc_sender.specs.declared.sender.Sent.{Sent as Sending}
use Rattle.bus_machine.specs.declared.lines.Line.{Line}
use Rattle.bus_machine.specs.declared.lines.Line.TheVariants.{Sent, Refused}
use Rattle.bus_machine.specs.declared.lines.Refusal.TheVariants.{MemoryFailure}
use Rattle.bus_machine.specs.Handlers.{ServesRoute}
use Rattle.bus_machine.specs.Node.{bound_to, place_of, with_counter, failed}
use Rattle.bus_machine.specs.Steps.{sends, NodeStep, send_change}
use Rattle.secoc_node.specs.declared.counters.RouteCounter.{RouteCounter}
use Rattle.secoc_node.specs.declared.counters.RouteCounter.TheVariants as of_route
use Rattle.secoc_node.specs.declared.known.Known.{Known}
use Rattle.secoc_node.specs.Counters.{freshness_in, bound_in, counter_in}
use Rattle.secoc_node.specs.State.{IsCovered}
use Rattle.secoc_node.specs.Keeping.{node_in, state_in, IsNode, FindsRoute}
use Rattle.secoc_node.proofs.CallLaws.{Done}
use Rattle.secoc_node.proofs.CoveredLaws.{covered_same, covered_past}
use Rattle.secoc_node.proofs.RouteLaws.{with_counter_at, place_at, route_id, got_here, made_of, keeps_its_bound, counter_is, bound_is, moved_done, same_state, same_done, failed_done}

-- the PDU of a payload of at most 60 bytes
pub fits_a_pdu : (len count : ℕ) → len ≡ count + 4 → (1 ≤ count) × (count ≤ 60) → len ≤ 64
fits_a_pdu len count is most = omega arith

-- the sender in a counter
abbrev sender_in : SenderCounter → RouteCounter → SenderCounter
sender_in other (of_route.Sends tx) = tx
sender_in other (of_route.Receives rx) = other

module _ (known : Known) (store : CellsState) (is : IsNode known store) (up : known.up ≡ true) (id place : ℕ) (route : Route) (finds : FindsRoute known.config.routes id Sends place route)
    (counter : RouteCounter) (got : counter ≡ get_or known.counters.items place counter) where
  pub no_receiver : (rx : _) → counter ≡ of_route.Receives rx → ⊥
  no_receiver rx e = let made = sym e ∙ made_of known store is up id Sends place route finds counter got in absurd (cc)

  module _ (tx : SenderCounter) (of : counter ≡ of_route.Sends tx) where
    -- what it is made of
    pub tx_is : tx ≡ record { place = 14 + place; id = route.id; reserve = route.reserve; counter = tx.counter; bound = tx.bound }
    tx_is =
        ap (sender_in tx) (sym of ∙ made_of known store is up id Sends place route finds counter got)
        ∙ ap (λ c. record { place = 14 + place; id = route.id; reserve = route.reserve; counter = freshness_in c; bound = bound_in c }) of

    tx_id : tx.id ≡ id
    tx_id = ap (λ (t : SenderCounter). t.id) tx_is ∙ route_id known store is up id Sends place route finds

    tx_place : tx.place ≡ 14 + place
    tx_place = ap (λ (t : SenderCounter). t.place) tx_is

    pub tx_kept : KeepsBound store.cells tx.place tx.id Sends tx.bound
    tx_kept = rw (tx_place, tx_id) (subst (λ c. KeepsBound store.cells (14 + place) id Sends (bound_in c)) of (keeps_its_bound known store is up id Sends place route finds counter got))

    pub has_sender : ServesRoute (node_in known) route Sends tx.counter tx.bound known.engine.slots known.engine.boot
    has_sender =
        let r = route_id known store is up id Sends place route finds in
        let at : place_of (node_in known) route.id Sends ≡ place = ap (λ i. place_of (node_in known) i Sends) r ∙ place_at known store is up id Sends place route finds in
        record {
          is_up = up;
          has_route = subst (λ k. k < length known.config.routes) (sym at) finds.inside;
          route_is = rw at (sym finds.route_is);
          counter_is = rw at (counter_is known store is up id Sends place route finds counter got ∙ ap freshness_in of);
          bound_is = rw at (bound_is known store is up id Sends place route finds counter got ∙ ap bound_in of);
          slots_are = refl;
          boot_is = refl;
        }

    abbrev change : Option ℕ
    change = bound_due tx.bound tx.reserve (tx.counter + 1)

    change_is : send_change (node_in known) place ≡ option_map (bound_to place) change
    change_is =
        let c = counter_is known store is up id Sends place route finds counter got ∙ ap freshness_in of in
        let b = bound_is known store is up id Sends place route finds counter got ∙ ap bound_in of in
        let r : (get_or known.config.routes place _).reserve ≡ tx.reserve = ap (λ (x : Route). x.reserve) (sym finds.route_is) ∙ sym (ap (λ (t : SenderCounter). t.reserve) tx_is) in
        rw (c, b, r) refl

    -- the payload was sent
    pub sent_done : (payload : List ℕ) (sent : Sending) (out : List ℕ) (tx' : SenderCounter) (left : CellsState)
        → tx' ≡ record tx { counter = tx.counter + 1; bound = unwrap_or (bound_due tx.bound tx.reserve (tx.counter + 1)) tx.bound } → sent.freshness ≡ tx.counter + 1
        → MakesChange tx.place tx.id Sends (bound_due tx.bound tx.reserve (tx.counter + 1)) store left
        → NodeStep (node_in known) (sends route.id payload) (Sent route.id sent.freshness (take sent.len out))
        (with_counter (send_change (node_in known) (place_of (node_in known) route.id Sends)) (place_of (node_in known) route.id Sends) sent.freshness (node_in known))
        → Done known store (sends id payload) (Sent id sent.freshness (take sent.len out)) (with_counter_at known place (of_route.Sends tx')) left
    sent_done payload sent out tx' left tx'_is fresh made step =
        let r = route_id known store is up id Sends place route finds in
        let at = place_at known store is up id Sends place route finds in
        let here : counter_in known.counters.items place ≡ of_route.Sends tx = got_here known store is up id Sends place route finds counter got ∙ of in
        let there : NodeStep (node_in known) (sends id payload) (Sent id sent.freshness (take sent.len out))
        (with_counter (send_change (node_in known) (place_of (node_in known) id Sends)) (place_of (node_in known) id Sends) sent.freshness (node_in known)) =
        subst (λ i. NodeStep (node_in known) (sends i payload) (Sent i sent.freshness (take sent.len out))
        (with_counter (send_change (node_in known) (place_of (node_in known) i Sends)) (place_of (node_in known) i Sends) sent.freshness (node_in known))) r step in
        let placed : NodeStep (node_in known) (sends id payload) (Sent id sent.freshness (take sent.len out)) (with_counter (option_map (bound_to place) change) place sent.freshness (node_in known)) =
        subst (λ c. NodeStep (node_in known) (sends id payload) (Sent id sent.freshness (take sent.len out)) (with_counter c place sent.freshness (node_in known))) change_is
        (subst (λ k. NodeStep (node_in known) (sends id payload) (Sent id sent.freshness (take sent.len out)) (with_counter (send_change (node_in known) k) k sent.freshness (node_in known))) at there) in
        moved_done known store is up id Sends place route finds (of_route.Sends tx') change left sent.freshness
        (ap (λ (t : SenderCounter). of_route.Sends t) (tx'_is ∙ ap (λ (t : SenderCounter). record t { counter = tx.counter + 1; bound = unwrap_or change tx.bound }) tx_is)
        ∙ ap (λ (t : SenderCounter). of_route.Sends (record { place = 14 + place; id = route.id; reserve = route.reserve; counter = t.counter; bound = t.bound })) (sym tx'_is))
        (ap (λ (t : SenderCounter). t.counter) tx'_is ∙ sym fresh)
        (ap (λ (t : SenderCounter). t.bound) tx'_is ∙ ap (λ c. unwrap_or change (bound_in c)) (sym here))
        (subst (λ i. MakesChange (14 + place) i Sends change store left) tx_id (subst (λ p. MakesChange p tx.id Sends change store left) tx_place made))
        (sends id payload) (Sent id sent.freshness (take sent.len out)) placed

    -- the freshness is covered
    pub sent_covered : (tx' : SenderCounter) (left : CellsState) (v : ℕ) → tx' ≡ record tx { counter = tx.counter + 1; bound = unwrap_or (bound_due tx.bound tx.reserve (tx.counter + 1)) tx.bound }
        → KeepsBound left.cells tx'.place tx'.id Sends tx'.bound → v ≤ tx'.bound → IsCovered (state_in (with_counter_at known place (of_route.Sends tx')) left) id Sends v
    sent_covered tx' left v tx'_is kept covers =
        let p : tx'.place ≡ 14 + place = ap (λ (t : SenderCounter). t.place) tx'_is ∙ tx_place in
        let i : tx'.id ≡ id = ap (λ (t : SenderCounter). t.id) tx'_is ∙ tx_id in
        record {
          bound = tx'.bound;
          kept = subst (λ k. KeepsBound left.cells (14 + k) id Sends tx'.bound) (sym (place_at known store is up id Sends place route finds))
              (subst (λ d. KeepsBound left.cells (14 + place) d Sends tx'.bound) i (subst (λ q. KeepsBound left.cells q tx'.id Sends tx'.bound) p kept));
          covers = covers;
        }

    -- and what was covered of the routes that receive stays so
    pub sent_others : (tx' : SenderCounter) (left : CellsState) → MakesChange tx.place tx.id Sends (bound_due tx.bound tx.reserve (tx.counter + 1)) store left
        → (other v : ℕ) → IsCovered (state_in known store) other Receives v → IsCovered (state_in (with_counter_at known place (of_route.Sends tx')) left) other Receives v
    sent_others tx' left made =
        covered_past known store is up id place route finds (of_route.Sends tx') change left
        (subst (λ i. MakesChange (14 + place) i Sends change store left) tx_id (subst (λ p. MakesChange p tx.id Sends change store left) tx_place made))

    -- the payload was refused
    tx_again : (tx' : SenderCounter) → tx' ≡ tx → of_route.Sends tx' ≡ get_or known.counters.items place (of_route.Sends tx')
    tx_again tx' same = subst (λ d. d ≡ get_or known.counters.items place d) (of ∙ ap (λ (t : SenderCounter). of_route.Sends t) (sym same)) got

    pub refused_state : (tx' : SenderCounter) (left : CellsState) → tx' ≡ tx → left ≡ store → state_in (with_counter_at known place (of_route.Sends tx')) left ≡ state_in known store
    refused_state tx' left same untouched = same_state known store is up id Sends place route finds (of_route.Sends tx') left (tx_again tx' same) untouched

    pub send_refused : (payload : List ℕ) (line : Line) (tx' : SenderCounter) (left : CellsState) → tx' ≡ tx → left ≡ store
        → NodeStep (node_in known) (sends route.id payload) line (node_in known)
        → Done known store (sends id payload) line (with_counter_at known place (of_route.Sends tx')) left
    send_refused payload line tx' left same untouched step =
        same_done known store is up id Sends place route finds (of_route.Sends tx') left (tx_again tx' same) untouched (sends id payload) line
        (subst (λ i. NodeStep (node_in known) (sends i payload) line (node_in known)) (route_id known store is up id Sends place route finds) step)

    -- the disk failed as the bound was put
    pub send_failed : (payload : List ℕ) (bound : ℕ) (tx' : SenderCounter) (left : CellsState) (fallen : Known) → tx' ≡ tx
        → FailsChange tx.place tx.id Sends (Some bound) store left
        → NodeStep (node_in known) (sends route.id payload) (Refused MemoryFailure) (failed (bound_to (place_of (node_in known) route.id Sends) bound) (node_in known))
        → fallen ≡ record (with_counter_at known place (of_route.Sends tx')) { up = false; pending = Some (record { route = place; bound = bound }) }
        → Done known store (sends id payload) (Refused MemoryFailure) fallen left
    send_failed payload bound tx' left fallen same fails step down =
        let r = route_id known store is up id Sends place route finds in
        let at = place_at known store is up id Sends place route finds in
        let c : of_route.Sends tx' ≡ counter = ap (λ (t : SenderCounter). of_route.Sends t) same ∙ sym of in
        failed_done known store is up id Sends place route finds counter bound left fallen got
        (subst (λ i. FailsChange (14 + place) i Sends (Some bound) store left) tx_id (subst (λ p. FailsChange p tx.id Sends (Some bound) store left) tx_place fails))
        (down ∙ ap (λ d. record (with_counter_at known place d) { up = false; pending = Some (record { route = place; bound = bound }) }) c)
        (sends id payload) (Refused MemoryFailure)
        (subst (λ k. NodeStep (node_in known) (sends id payload) (Refused MemoryFailure) (failed (bound_to k bound) (node_in known))) at
        (subst (λ i. NodeStep (node_in known) (sends i payload) (Refused MemoryFailure) (failed (bound_to (place_of (node_in known) i Sends) bound) (node_in known))) r step))

    -- then no cell was changed
    pub failed_others : (bound : ℕ) (left : CellsState) (fallen : Known) → FailsChange tx.place tx.id Sends (Some bound) store left → fallen.config ≡ known.config
        → (other v : ℕ) → IsCovered (state_in known store) other Receives v → IsCovered (state_in fallen left) other Receives v
    failed_others bound left fallen fails same other v = covered_same (state_in known store) (state_in fallen left) same fails.kept other v
