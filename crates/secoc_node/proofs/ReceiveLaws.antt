-- A PDU that an up node receives under a Data ID for which it has a route
use Rattle.std.proofs.Common.{◌≡◌, ℕ, ◌+◌, ◌^◌, ◌<◌, true, false, List, length, get_or, take, refl, sym, ap, subst, ◌∙◌}
use Rattle.std.specs.Prelude.{Option, Some, Ok, option_map, unwrap_or}
use Rattle.cell_store.specs.Cells.{CellsState}
use Rattle.freshness_routes.specs.declared.routes.Direction.TheVariants.{Receives}
use Rattle.freshness_routes.specs.declared.routes.Route.{Route}
use Rattle.freshness_routes.specs.Changes.{bound_due}
use Rattle.freshness_manager.specs.Counters.{ReceiverCounter, KeepsBound}
use Rattle.freshness_manager.specs.Changing.{MakesChange, FailsChange}
use Rattle.secoc_receiver.specs.declared.receiver.Reception.{Reception}
use Rattle.secoc_receiver.specs.declared.receiver.Reception.TheVariants as reception
use Rattle.secoc_receiver.specs.Receiving.{AcceptsPdu, IfAccepted, IfNotAccepted, IfUnmoved, line_of_receive, after_receive}
use Rattle.bus_machine.specs.declared.lines.Line.{Line}
use Rattle.bus_machine.specs.declared.lines.Line.TheVariants.{Accepted, FreshnessFailure, VerificationFailure, Refused}
use Rattle.bus_machine.specs.declared.lines.Refusal.TheVariants.{MemoryFailure}
use Rattle.bus_machine.specs.Handlers.{ServesRoute}
use Rattle.bus_machine.specs.Node.{Node, bound_to, place_of, with_counter, failed}
use Rattle.bus_machine.specs.Steps.{receives, NodeStep, receive_change}
use Rattle.secoc_node.specs.declared.counters.RouteCounter.{RouteCounter}
use Rattle.secoc_node.specs.declared.counters.RouteCounter.TheVariants as of_route
use Rattle.secoc_node.specs.declared.known.Known.{Known}
use Rattle.secoc_node.specs.Counters.{freshness_in, bound_in, counter_in}
use Rattle.secoc_node.specs.State.{NodeState, IsCovered}
use Rattle.secoc_node.specs.Lines.{received_line, IfAcceptedWith, IfLeftAlone}
use Rattle.secoc_node.specs.Keeping.{node_in, state_in, IsNode, FindsRoute}
use Rattle.bus_machine.specs.Sound.{Sound}
use Rattle.bus_machine.specs.Bus.{SentLine}
use Rattle.bus_machine.specs.Honest.{IsInTime, IsHeard}
use Rattle.bus_laws.proofs.CallerLemmas.{facts, heard_line}
use Rattle.secoc_node.proofs.CallLaws.{Done}
use Rattle.secoc_node.proofs.RouteLaws.{with_counter_at, place_at, route_id, got_here, made_of, keeps_its_bound, counter_is, bound_is, moved_done, same_state, same_done, failed_done}

pub said_length : (said : Reception) (pdu : List ℕ) (rx rx' : ReceiverCounter) (old new : CellsState) → IfAccepted (Ok said) (λ v len. AcceptsPdu v len pdu rx rx' old new)
    → IfAcceptedWith (Ok said) (λ v len. len + 4 ≡ length pdu)
said_length (reception.Accepted v len) pdu rx rx' old new takes = takes.as_long
said_length reception.FreshnessFailure pdu rx rx' old new takes = tt
said_length reception.VerificationFailure pdu rx rx' old new takes = tt

-- the receiver in a counter
abbrev receiver_in : ReceiverCounter → RouteCounter → ReceiverCounter
receiver_in other (of_route.Sends tx) = other
receiver_in other (of_route.Receives rx) = rx

module _ (known : Known) (store : CellsState) (is : IsNode known store) (up : known.up ≡ true) (id place : ℕ) (route : Route) (finds : FindsRoute known.config.routes id Receives place route)
    (counter : RouteCounter) (got : counter ≡ get_or known.counters.items place counter) where
  pub no_sender : (tx : _) → counter ≡ of_route.Sends tx → ⊥
  no_sender tx e = let made = sym e ∙ made_of known store is up id Receives place route finds counter got in absurd (cc)

  module _ (rx : ReceiverCounter) (of : counter ≡ of_route.Receives rx) where
    -- what it is made of
    pub rx_is : rx ≡ record { place = 14 + place; id = route.id; reserve = route.reserve; window = route.window; counter = rx.counter; bound = rx.bound }
    rx_is =
        ap (receiver_in rx) (sym of ∙ made_of known store is up id Receives place route finds counter got)
        ∙ ap (λ c. record { place = 14 + place; id = route.id; reserve = route.reserve; window = route.window; counter = freshness_in c; bound = bound_in c }) of

    rx_id : rx.id ≡ id
    rx_id = ap (λ (t : ReceiverCounter). t.id) rx_is ∙ route_id known store is up id Receives place route finds

    rx_place : rx.place ≡ 14 + place
    rx_place = ap (λ (t : ReceiverCounter). t.place) rx_is

    pub rx_kept : KeepsBound store.cells rx.place rx.id Receives rx.bound
    rx_kept = rw (rx_place, rx_id) (subst (λ c. KeepsBound store.cells (14 + place) id Receives (bound_in c)) of (keeps_its_bound known store is up id Receives place route finds counter got))

    pub has_receiver : ServesRoute (node_in known) route Receives rx.counter rx.bound known.engine.slots known.engine.boot
    has_receiver =
        let r = route_id known store is up id Receives place route finds in
        let at : place_of (node_in known) route.id Receives ≡ place = ap (λ i. place_of (node_in known) i Receives) r ∙ place_at known store is up id Receives place route finds in
        record {
          is_up = up;
          has_route = subst (λ k. k < length known.config.routes) (sym at) finds.inside;
          route_is = rw at (sym finds.route_is);
          counter_is = rw at (counter_is known store is up id Receives place route finds counter got ∙ ap freshness_in of);
          bound_is = rw at (bound_is known store is up id Receives place route finds counter got ∙ ap bound_in of);
          slots_are = refl;
          boot_is = refl;
        }

    -- a receiver that is as before is the one at the place
    pub got_again : (rx' : ReceiverCounter) → rx' ≡ rx → of_route.Receives rx' ≡ get_or known.counters.items place (of_route.Receives rx')
    got_again rx' same = subst (λ d. d ≡ get_or known.counters.items place d) (of ∙ ap (λ (t : ReceiverCounter). of_route.Receives t) (sym same)) got

    pub refused_state : (rx' : ReceiverCounter) (left : CellsState) → rx' ≡ rx → left ≡ store → state_in (with_counter_at known place (of_route.Receives rx')) left ≡ state_in known store
    refused_state rx' left same untouched = same_state known store is up id Receives place route finds (of_route.Receives rx') left (got_again rx' same) untouched

    -- nothing was said of the PDU
    pub receive_refused : (pdu : List ℕ) (line : Line) (rx' : ReceiverCounter) (left : CellsState) → rx' ≡ rx → left ≡ store
        → NodeStep (node_in known) (receives route.id pdu) line (node_in known)
        → Done known store (receives id pdu) line (with_counter_at known place (of_route.Receives rx')) left
    receive_refused pdu line rx' left same untouched step =
        same_done known store is up id Receives place route finds (of_route.Receives rx') left (got_again rx' same) untouched (receives id pdu) line
        (subst (λ i. NodeStep (node_in known) (receives i pdu) line (node_in known)) (route_id known store is up id Receives place route finds) step)

    -- if no payload was accepted, the node is as before
    pub said_untouched : (old : NodeState) (said : Reception) (rx' : ReceiverCounter) (left : CellsState) → state_in known store ≡ old
        → IfNotAccepted (Ok said) (rx' ≡ rx) → IfUnmoved (Ok said) (left ≡ store)
        → IfLeftAlone (Ok said) (state_in (with_counter_at known place (of_route.Receives rx')) left ≡ old)
    said_untouched old (reception.Accepted v len) rx' left view same untouched = tt
    said_untouched old reception.FreshnessFailure rx' left view same untouched = refused_state rx' left same untouched ∙ view
    said_untouched old reception.VerificationFailure rx' left view same untouched = refused_state rx' left same untouched ∙ view

    abbrev change : ℕ → Option ℕ
    change v = bound_due rx.bound rx.reserve v

    change_is : (v : ℕ) → receive_change (node_in known) place v ≡ option_map (bound_to place) (change v)
    change_is v =
        let b = bound_is known store is up id Receives place route finds counter got ∙ ap bound_in of in
        let r : (get_or known.config.routes place _).reserve ≡ rx.reserve = ap (λ (x : Route). x.reserve) (sym finds.route_is) ∙ sym (ap (λ (t : ReceiverCounter). t.reserve) rx_is) in
        rw (b, r) refl

    abbrev taken : ReceiverCounter → ℕ → ReceiverCounter
    taken r v = record r { counter = v; bound = unwrap_or (bound_due r.bound r.reserve v) r.bound }

    -- a verdict was given
    pub said_done : (pdu : List ℕ) (source : Option ℕ) (said : Reception) (rx' : ReceiverCounter) (left : CellsState)
        → IfAccepted (Ok said) (λ v len. AcceptsPdu v len pdu rx rx' store left)
        → IfNotAccepted (Ok said) (rx' ≡ rx) → IfUnmoved (Ok said) (left ≡ store)
        → NodeStep (node_in known) (receives route.id pdu) (line_of_receive route.id pdu source (Ok said)) (after_receive (node_in known) route.id (Ok said))
        → Done known store (receives id pdu) (received_line id pdu source (Ok said)) (with_counter_at known place (of_route.Receives rx')) left
    said_done pdu source (reception.Accepted v len) rx' left takes same untouched step =
        let rx'_is = takes.moved.counted in
        let r = route_id known store is up id Receives place route finds in
        let at = place_at known store is up id Receives place route finds in
        let here : counter_in known.counters.items place ≡ of_route.Receives rx = got_here known store is up id Receives place route finds counter got ∙ of in
        let there : NodeStep (node_in known) (receives id pdu) (Accepted id v (take len pdu) source)
        (with_counter (receive_change (node_in known) (place_of (node_in known) id Receives) v) (place_of (node_in known) id Receives) v (node_in known)) =
        subst (λ i. NodeStep (node_in known) (receives i pdu) (Accepted i v (take len pdu) source)
        (with_counter (receive_change (node_in known) (place_of (node_in known) i Receives) v) (place_of (node_in known) i Receives) v (node_in known))) r step in
        let placed : NodeStep (node_in known) (receives id pdu) (Accepted id v (take len pdu) source) (with_counter (option_map (bound_to place) (change v)) place v (node_in known)) =
        subst (λ c. NodeStep (node_in known) (receives id pdu) (Accepted id v (take len pdu) source) (with_counter c place v (node_in known))) (change_is v)
        (subst (λ k. NodeStep (node_in known) (receives id pdu) (Accepted id v (take len pdu) source) (with_counter (receive_change (node_in known) k v) k v (node_in known))) at there) in
        moved_done known store is up id Receives place route finds (of_route.Receives rx') (change v) left v
        (ap (λ (t : ReceiverCounter). of_route.Receives t) (rx'_is ∙ ap (λ (t : ReceiverCounter). record t { counter = v; bound = unwrap_or (change v) rx.bound }) rx_is)
        ∙ ap (λ (t : ReceiverCounter). of_route.Receives (record { place = 14 + place; id = route.id; reserve = route.reserve; window = route.window; counter = t.counter; bound = t.bound })) (sym rx'_is))
        (ap (λ (t : ReceiverCounter). t.counter) rx'_is)
        (ap (λ (t : ReceiverCounter). t.bound) rx'_is ∙ ap (λ c. unwrap_or (change v) (bound_in c)) (sym here))
        (subst (λ i. MakesChange (14 + place) i Receives (change v) store left) rx_id (subst (λ p. MakesChange p rx.id Receives (change v) store left) rx_place takes.moved.made))
        (receives id pdu) (Accepted id v (take len pdu) source) placed
    said_done pdu source reception.FreshnessFailure rx' left takes same untouched step =
        same_done known store is up id Receives place route finds (of_route.Receives rx') left (got_again rx' same) untouched (receives id pdu) FreshnessFailure
        (subst (λ i. NodeStep (node_in known) (receives i pdu) FreshnessFailure (node_in known)) (route_id known store is up id Receives place route finds) step)
    said_done pdu source reception.VerificationFailure rx' left takes same untouched step =
        same_done known store is up id Receives place route finds (of_route.Receives rx') left (got_again rx' same) untouched (receives id pdu) VerificationFailure
        (subst (λ i. NodeStep (node_in known) (receives i pdu) VerificationFailure (node_in known)) (route_id known store is up id Receives place route finds) step)

    -- the freshness is covered
    pub said_covered : (said : Reception) (pdu : List ℕ) (rx' : ReceiverCounter) (left : CellsState) → IfAccepted (Ok said) (λ v len. AcceptsPdu v len pdu rx rx' store left)
        → KeepsBound left.cells rx'.place rx'.id Receives rx'.bound
        → IfAcceptedWith (Ok said) (λ v len. IsCovered (state_in (with_counter_at known place (of_route.Receives rx')) left) id Receives v)
    said_covered (reception.Accepted v len) pdu rx' left takes kept =
        let rx'_is = takes.moved.counted in
        let p : rx'.place ≡ 14 + place = ap (λ (t : ReceiverCounter). t.place) rx'_is ∙ rx_place in
        let i : rx'.id ≡ id = ap (λ (t : ReceiverCounter). t.id) rx'_is ∙ rx_id in
        record {
          bound = rx'.bound;
          kept = subst (λ k. KeepsBound left.cells (14 + k) id Receives rx'.bound) (sym (place_at known store is up id Receives place route finds))
              (subst (λ d. KeepsBound left.cells (14 + place) d Receives rx'.bound) i (subst (λ q. KeepsBound left.cells q rx'.id Receives rx'.bound) p kept));
          covers = takes.moved.covered;
        }
    said_covered reception.FreshnessFailure pdu rx' left takes kept = tt
    said_covered reception.VerificationFailure pdu rx' left takes kept = tt

    -- the disk failed as the bound was put
    pub receive_failed : (pdu : List ℕ) (bound : ℕ) (rx' : ReceiverCounter) (left : CellsState) (fallen : Known) → rx' ≡ rx
        → FailsChange rx.place rx.id Receives (Some bound) store left
        → NodeStep (node_in known) (receives route.id pdu) (Refused MemoryFailure) (failed (bound_to (place_of (node_in known) route.id Receives) bound) (node_in known))
        → fallen ≡ record (with_counter_at known place (of_route.Receives rx')) { up = false; pending = Some (record { route = place; bound = bound }) }
        → Done known store (receives id pdu) (Refused MemoryFailure) fallen left
    receive_failed pdu bound rx' left fallen same fails step down =
        let r = route_id known store is up id Receives place route finds in
        let at = place_at known store is up id Receives place route finds in
        let c : of_route.Receives rx' ≡ counter = ap (λ (t : ReceiverCounter). of_route.Receives t) same ∙ sym of in
        failed_done known store is up id Receives place route finds counter bound left fallen got
        (subst (λ i. FailsChange (14 + place) i Receives (Some bound) store left) rx_id (subst (λ p. FailsChange p rx.id Receives (Some bound) store left) rx_place fails))
        (down ∙ ap (λ d. record (with_counter_at known place d) { up = false; pending = Some (record { route = place; bound = bound }) }) c)
        (receives id pdu) (Refused MemoryFailure)
        (subst (λ k. NodeStep (node_in known) (receives id pdu) (Refused MemoryFailure) (failed (bound_to k bound) (node_in known))) at
        (subst (λ i. NodeStep (node_in known) (receives i pdu) (Refused MemoryFailure) (failed (bound_to (place_of (node_in known) i Receives) bound) (node_in known))) r step))

-- ---- PDUs that come in time

pub heard_by : (node : Node) (id : ℕ) (pdu : List ℕ) (line : Line) (after : Node) → Sound node → NodeStep node (receives id pdu) line after
    → (sent : SentLine) → sent.id ≡ id → sent.pdu ≡ pdu → IsInTime node sent (place_of node id Receives) → sent.freshness < 2 ^ 64 → IsHeard sent line
heard_by node id pdu line after sound step sent id_is pdu_is in_time fits =
    let mine : NodeStep node (receives sent.id sent.pdu) line after = subst (λ i. NodeStep node (receives i sent.pdu) line after) (sym id_is) (subst (λ p. NodeStep node (receives id p) line after) (sym pdu_is) step) in
    heard_line node sent line after (facts node sent sound fits (subst (λ i. IsInTime node sent (place_of node i Receives)) (sym id_is) in_time)) mine
