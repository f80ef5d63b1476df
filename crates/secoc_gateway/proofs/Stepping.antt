-- What one event does to the node of a gateway: it stays sound, no counter falls, and a freshness in its line was above
-- its counter
use Rattle.std.specs.Prelude.{◌≡◌, ℕ, ◌<◌, ◌≤◌, Option, None, Some, List, length}
use Rattle.std.proofs.Common.{refl, sym, ap, subst, arith}
use Rattle.freshness_routes.specs.declared.routes.Direction.{Direction}
use Rattle.freshness_routes.specs.declared.routes.Direction.TheVariants.{Sends, Receives}
use Rattle.bus_machine.specs.declared.events.Event.{Event}
use Rattle.bus_machine.specs.declared.lines.Line.{Line}
use Rattle.bus_machine.specs.declared.lines.Line.TheVariants.{Sent, Accepted, Refused}
use Rattle.bus_machine.specs.Node.{Node, place_of, place_in, counter_at}
use Rattle.bus_machine.specs.Sound.{Sound}
use Rattle.bus_machine.specs.Steps.{sends, NodeStep}
use Rattle.bus_machine.specs.Bus.{node_of, act_of, silent_world}
use Rattle.bus_machine.specs.Freshness.{Tells}
use Rattle.bus_laws.proofs.CallerLemmas.{Sound-step, Grows, Grows-step, Grows-same, Grows-on, Above, tells_reaches}
use Rattle.secoc_gateway.specs.declared.gateway_lines.GatewayLine.{GatewayLine}
use Rattle.secoc_gateway.specs.declared.gateway_lines.GatewayLine.TheVariants.{OfNode}
use Rattle.secoc_gateway.specs.Gateway.{TellsDeparture, Departs, StepUnder, GatewayStep, departs_under, EventStep}
use Rattle.secoc_gateway.specs.StepLaws.{GatewayStep-keeps}
use Rattle.secoc_gateway.specs.Claims.{TellsFreshness}

-- what a step leaves: a sound node whose counters didn't fall
pub record GoesOn (node after : Node) : Type 0 where
  pub sound : Sound after
  pub grows : Grows node after

pub goes_on_one : (node : Node) (event : Event) (line : Line) (after : Node) → Sound node → EventStep node event line after → GoesOn node after
goes_on_one node event line after s step = record {
  sound = Sound-step node (act_of silent_world event) line after s step;
  grows = Grows-step node (act_of silent_world event) line after s step;
}

pub goes_on : (pairs : List (ℕ × ℕ)) (node : Node) (event : Event) (line : GatewayLine) (after : Node) → Sound node → GatewayStep EventStep pairs node event line after → GoesOn node after
goes_on pairs node event line after s step =
    GatewayStep-keeps EventStep (λ (n : Node) (m : Node). Sound n → GoesOn n m) (λ n sound. record { sound = sound; grows = Grows-same n })
    (λ n m l first second sound.
    let one = first sound in
    let two = second one.sound in
    record { sound = two.sound; grows = Grows-on n m l one.grows two.grows })
    (λ n e told m one sound. goes_on_one n e told m sound one) pairs node event line after step s

-- ---- a freshness that is told

-- what is above the counter after a step was above the counter before it
pub above_before : (node after : Node) (direction : Direction) (id v : ℕ) → Grows node after → Above after direction id v → Above node direction id v
above_before node after direction id v g a =
    let same : place_of after id direction ≡ place_of node id direction = ap (λ c. place_in c.routes id direction) g.config_is in
    let inside : place_of node id direction < length node.config.routes =
    subst (λ k. k < length node.config.routes) same (subst (λ c. place_of after id direction < length c.routes) g.config_is a.inside) in
    record { inside = inside; below = omega (arith, g.counters (place_of node id direction) inside, subst (λ k. counter_at after k < v) same a.below) }

-- it was above the counter of its route, and isn't above it after
pub record Passes (node after : Node) (direction : Direction) (id v : ℕ) : Type 0 where
  pub above : Above node direction id v
  pub reached : v ≤ counter_at after (place_of node id direction)

passes_one : (node : Node) (event : Event) (line : Line) (after : Node) (direction : Direction) (id v : ℕ) → Sound node → EventStep node event line after → Tells direction line id v
    → Passes node after direction id v
passes_one node event line after direction id v s step tells =
    let r = tells_reaches node (act_of silent_world event) line after direction id v s step tells in
    record { above = r.above; reached = omega (arith, r.reached) }

-- the counters may rise further
passes_on : (node between after : Node) (direction : Direction) (id v : ℕ) → Passes node between direction id v → Grows node between → Grows between after → Passes node after direction id v
passes_on node between after direction id v p one two =
    let same : place_of between id direction ≡ place_of node id direction = ap (λ c. place_in c.routes id direction) one.config_is in
    let more = (Grows-on node between after one two).counters in
    record { above = p.above; reached = omega (arith, p.reached, two.counters (place_of node id direction) (subst (λ c. place_of node id direction < length c.routes) (sym one.config_is) p.above.inside)) }

-- or have risen before
passes_after : (node between after : Node) (direction : Direction) (id v : ℕ) → Grows node between → Passes between after direction id v → Passes node after direction id v
passes_after node between after direction id v one p =
    let same : place_of between id direction ≡ place_of node id direction = ap (λ c. place_in c.routes id direction) one.config_is in
    record { above = above_before node between direction id v one p.above; reached = subst (λ k. v ≤ counter_at after k) same p.reached }

-- the line of an accepted arrival has the arrival's freshness, or that of the departure
departure_passes : (node between after : Node) (out id v : ℕ) (payload : List ℕ) (second : Line) (line : GatewayLine) (direction : Direction) (d w : ℕ)
    → Sound between → Grows node between → Passes node between Receives id v → NodeStep between (sends out payload) second after → TellsDeparture id v second line
    → TellsFreshness direction line d w → Passes node after direction d w
departure_passes node between after out id v payload (Sent told x pdu) line Receives d w s one p step is tells =
    let t : (id ≡ d) × (v ≡ w) = subst (λ l. TellsFreshness Receives l d w) is tells in
    passes_on node between after Receives d w (subst (λ i. Passes node between Receives i w) t.0 (subst (λ f. Passes node between Receives id f) t.1 p))
    one (Grows-step between (sends out payload) (Sent told x pdu) after s step)
departure_passes node between after out id v payload (Sent told x pdu) line Sends d w s one p step is tells =
    let t : (told ≡ d) × (x ≡ w) = subst (λ l. TellsFreshness Sends l d w) is tells in
    let r = tells_reaches between (sends out payload) (Sent told x pdu) after Sends d w s step t in
    passes_after node between after Sends d w one (record { above = r.above; reached = omega (arith, r.reached) })
departure_passes node between after out id v payload (Refused refusal) line Receives d w s one p step is tells =
    let t : (id ≡ d) × (v ≡ w) = subst (λ l. TellsFreshness Receives l d w) is tells in
    passes_on node between after Receives d w (subst (λ i. Passes node between Receives i w) t.0 (subst (λ f. Passes node between Receives id f) t.1 p))
    one (Grows-step between (sends out payload) (Refused refusal) after s step)
departure_passes node between after out id v payload (Refused refusal) line Sends d w s one p step is tells =
    absurd (subst (λ l. TellsFreshness Sends l d w) is tells)
departure_passes node between after out id v payload second line direction d w s one p step is tells = absurd is

-- a line that stays as it is
as_it_is : (node after : Node) (event : Event) (told : Line) (line : GatewayLine) (direction : Direction) (id v : ℕ) → Sound node → EventStep node event told after → line ≡ OfNode told
    → TellsFreshness direction line id v → Passes node after direction id v
as_it_is node after event told line direction id v s step is tells =
    passes_one node event told after direction id v s step (tells_of direction told id v (subst (λ l. TellsFreshness direction l id v) is tells))
  where
    tells_of : (direction : Direction) (told : Line) (id v : ℕ) → TellsFreshness direction (OfNode told) id v → Tells direction told id v
    tells_of Sends told id v t = t
    tells_of Receives told id v t = t

departs_passes : (node : Node) (event : Event) (out : ℕ) (first : Line) (between : Node) (line : GatewayLine) (after : Node) (direction : Direction) (id v : ℕ)
    → Sound node → EventStep node event first between → Departs EventStep (node_of event) out first between line after → TellsFreshness direction line id v
    → Passes node after direction id v
departs_passes node event out (Accepted d w payload source) between line after direction id v s step departs tells =
    let one = goes_on_one node event (Accepted d w payload source) between s step in
    departure_passes node between after out d w payload departs.0 line direction id v one.sound one.grows
    (passes_one node event (Accepted d w payload source) between Receives d w s step (refl, refl)) departs.1 departs.2 tells
departs_passes node event out first between line after direction id v s step departs tells =
    subst (λ n. Passes node n direction id v) (sym departs.1) (as_it_is node between event first line direction id v s step departs.0 tells)

passes_under : (o : Option ℕ) (node : Node) (event : Event) (line : GatewayLine) (after : Node) (direction : Direction) (id v : ℕ) → Sound node → StepUnder EventStep o node event line after
    → TellsFreshness direction line id v → Passes node after direction id v
passes_under (Some out) node event line after direction id v s step tells =
    departs_passes node event out step.first step.between line after direction id v s step.arrives step.departs tells
passes_under None node event line after direction id v s step tells = as_it_is node after event step.told line direction id v s step.step step.line_is tells

pub passes : (pairs : List (ℕ × ℕ)) (node : Node) (event : Event) (line : GatewayLine) (after : Node) (direction : Direction) (id v : ℕ) → Sound node → GatewayStep EventStep pairs node event line after
    → TellsFreshness direction line id v → Passes node after direction id v
passes pairs node event line after direction id v s step tells = passes_under (departs_under pairs event) node event line after direction id v s step tells
