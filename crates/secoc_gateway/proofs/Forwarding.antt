-- What a gateway forwards is what this event's arrival had
use Rattle.std.specs.Prelude.{◌≡◌, ℕ, Option, None, Some, List, [], ◌∷◌}
use Rattle.std.proofs.Common.{refl, sym, ap, subst, ◌∙◌}
use Rattle.secured_pdu.specs.Frame.{Secured}
use Rattle.freshness_routes.specs.declared.routes.Direction.TheVariants.{Sends, Receives}
use Rattle.bus_machine.specs.declared.events.Event.{Event}
use Rattle.bus_machine.specs.declared.events.Event.TheVariants.{Send, Deliver, Inject, Load, Key, Boot, Cut, Stop, Fail}
use Rattle.bus_machine.specs.declared.lines.Line.{Line}
use Rattle.bus_machine.specs.declared.lines.Line.TheVariants.{Sent, Accepted, Refused}
use Rattle.bus_machine.specs.Node.{Node, place_of, place_in, route_key}
use Rattle.bus_machine.specs.Steps.{sends, receives, key_refusal, NodeStep}
use Rattle.bus_machine.specs.Bus.{node_of}
use Rattle.bus_laws.proofs.CallerLemmas.{routed, send_routed, slots_by_bound}
use Rattle.secoc_gateway.specs.declared.gateway_lines.GatewayLine.{GatewayLine}
use Rattle.secoc_gateway.specs.Gateway.{second_of, TellsDeparture, Departs, StepUnder, departs_under, EventStep, GatewayMoments, GatewayRun}
use Rattle.secoc_gateway.specs.Claims.{Brought, Departed, ForwardsRight, AllForwardRight}

-- the event is an inject under the first Data ID of a pair
pub record Arriving (pairs : List (ℕ × ℕ)) (event : Event) (out : ℕ) : Type 0 where
  pub id : ℕ
  pub pdu : List ℕ
  pub event_is : event ≡ Inject (node_of event) id pdu
  pub paired : second_of pairs id ≡ Some out

pub arriving : (pairs : List (ℕ × ℕ)) (event : Event) (out : ℕ) → departs_under pairs event ≡ Some out → Arriving pairs event out
arriving pairs (Inject place id pdu) out e = record { id = id; pdu = pdu; event_is = refl; paired = e }
arriving pairs (Send place id payload) out e = cc
arriving pairs (Deliver place number) out e = cc
arriving pairs (Load place request) out e = cc
arriving pairs (Key place update authkey) out e = cc
arriving pairs (Boot place image) out e = cc
arriving pairs (Cut place torn) out e = cc
arriving pairs (Stop place calls) out e = cc
arriving pairs (Fail place calls) out e = cc

-- ---- an arrival changes no slot and no boot

-- what a node answers by, except for its counters and bounds
pub record SameKeys (node between : Node) : Type 0 where
  pub config_is : between.config ≡ node.config
  pub slots_are : between.kept.slots ≡ node.kept.slots
  pub boot_is : between.boot ≡ node.boot

pub accepted_keys : (node : Node) (id : ℕ) (pdu : List ℕ) (v : ℕ) (payload : List ℕ) (source : Option ℕ) (between : Node) → NodeStep node (receives id pdu) (Accepted id v payload source) between → SameKeys node between
accepted_keys node id pdu v payload source between step =
    let e = step.1.after_is in
    let k : ℕ = place_of node id Receives in
    record {
      config_is = ap (λ (n : Node). n.config) e;
      slots_are = ap (λ (n : Node). n.kept.slots) e ∙ slots_by_bound node.kept _ k _;
      boot_is = ap (λ (n : Node). n.boot) e;
    }

pub same_key : (node between : Node) (k : ℕ) → SameKeys node between → (route_key between k ≡ route_key node k) × (key_refusal between k ≡ key_refusal node k)
same_key node between k s = (rw (s.config_is, s.slots_are) refl, rw (s.config_is, s.slots_are, s.boot_is) refl)

-- ---- one event

brought : (node : Node) (place id told v : ℕ) (pdu payload : List ℕ) (source : Option ℕ) (between : Node) → NodeStep node (receives id pdu) (Accepted told v payload source) between
    → Brought node (Inject place id pdu) told v payload
brought node place id told v pdu payload source between step =
    subst (λ i. Brought node (Inject place id pdu) i v payload) (sym step.0)
    (record { pdu = pdu; event_is = refl; usable = (routed node id pdu step.1.judged.allowed).usable; secured = step.1.judged.verdict_is.2 })

departed : (node between after : Node) (out told w : ℕ) (payload pdu : List ℕ) → SameKeys node between → NodeStep between (sends out payload) (Sent told w pdu) after → Departed node told w payload pdu
departed node between after out told w payload pdu same step =
    let k : ℕ = place_of between out Sends in
    let at : k ≡ place_of node out Sends = ap (λ c. place_in c.routes out Sends) same.config_is in
    let keys = same_key node between k same in
    subst (λ i. Departed node i w payload pdu) (sym step.0) (record {
      usable = subst (λ j. key_refusal node j ≡ None) at (sym keys.1 ∙ (send_routed between out payload step.1.allowed).0.usable);
      secured = subst (λ j. Secured (route_key node j) out payload w pdu) at (subst (λ key. Secured key out payload w pdu) keys.0 step.1.pdu_is);
    })

departure_right : (pairs : List (ℕ × ℕ)) (node between after : Node) (place id out told v : ℕ) (pdu payload : List ℕ) (source : Option ℕ) (second : Line) (line : GatewayLine)
    → second_of pairs id ≡ Some out → NodeStep node (receives id pdu) (Accepted told v payload source) between → NodeStep between (sends out payload) second after
    → TellsDeparture told v second line → ForwardsRight pairs node (Inject place id pdu) line
departure_right pairs node between after place id out told v pdu payload source (Sent sent w frame) line paired first second is =
    subst (ForwardsRight pairs node (Inject place id pdu)) (sym is) (
      ap (second_of pairs) first.0 ∙ paired ∙ ap Some (sym second.0),
      (
        payload,
        brought node place id told v pdu payload source between first,
        departed node between after out sent w payload frame
            (accepted_keys node id pdu v payload source between (refl, first.1)) second,
      ),
    )
departure_right pairs node between after place id out told v pdu payload source (Refused refusal) line paired first second is =
    subst (ForwardsRight pairs node (Inject place id pdu)) (sym is) (payload, brought node place id told v pdu payload source between first)
departure_right pairs node between after place id out told v pdu payload source second line paired first step is = absurd is

arrival_right : (pairs : List (ℕ × ℕ)) (node : Node) (place id out : ℕ) (pdu : List ℕ) (first : Line) (between : Node) (line : GatewayLine) (after : Node)
    → second_of pairs id ≡ Some out → NodeStep node (receives id pdu) first between → Departs EventStep place out first between line after
    → ForwardsRight pairs node (Inject place id pdu) line
arrival_right pairs node place id out pdu (Accepted told v payload source) between line after paired first departs =
    departure_right pairs node between after place id out told v pdu payload source departs.0 line paired first departs.1 departs.2
arrival_right pairs node place id out pdu first between line after paired step departs =
    subst (ForwardsRight pairs node (Inject place id pdu)) (sym departs.0) tt

right_under : (pairs : List (ℕ × ℕ)) (o : Option ℕ) (node : Node) (event : Event) (line : GatewayLine) (after : Node) → departs_under pairs event ≡ o → StepUnder EventStep o node event line after
    → ForwardsRight pairs node event line
right_under pairs (Some out) node event line after at step =
    let a = arriving pairs event out at in
    subst (λ e. ForwardsRight pairs node e line) (sym a.event_is)
    (arrival_right pairs node (node_of event) a.id out a.pdu step.first step.between line after a.paired
    (subst (λ e. EventStep node e step.first step.between) a.event_is step.arrives) step.departs)
right_under pairs None node event line after at step = subst (ForwardsRight pairs node event) (sym step.line_is) tt

pub AllForwardRight-run : (pairs : List (ℕ × ℕ)) (start : Node) (ms : GatewayMoments) (last : Node) → GatewayRun pairs start ms last → AllForwardRight pairs start ms
AllForwardRight-run pairs start [] last run = tt
AllForwardRight-run pairs start (m ∷ ms) last run = (
  right_under pairs (departs_under pairs m.command) start m.command m.line m.after refl run.0,
  AllForwardRight-run pairs m.after ms last run.1,
)
