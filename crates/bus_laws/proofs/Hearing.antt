-- A PDU that was sent and comes in time is accepted
use Rattle.std.specs.Prelude.{◌≡◌, ℕ, ◌^◌, ◌<◌, ◌≤◌, ◌==◌, not, nat_lt, nat_le, None, Bool, true, List, [], ◌∷◌, length}
use Rattle.std.proofs.Common.{refl, sym, ◌∙◌, ap, subst, arith}
use Rattle.std.proofs.lemmas.Bool.Decides.{nat_tests}
use Rattle.secured_pdu.specs.Frame.{Secured, Ahead, IsFrame}
use Rattle.secured_pdu.proofs.CallerLemmas.{IsFrame-Secured, same_from_Ahead, payload_of_secured, low_of_secured}
use Rattle.secured_pdu.specs.Verdict.{payload_of, low_of}
use Rattle.freshness_routes.specs.declared.routes.Direction.TheVariants.{Sends, Receives}
use Rattle.machine_runs.specs.Run.{Run}
use Rattle.bus_machine.specs.declared.events.Event.{Event}
use Rattle.bus_machine.specs.declared.events.Event.TheVariants.{Send, Deliver}
use Rattle.bus_machine.specs.declared.lines.Line.{Line}
use Rattle.bus_machine.specs.declared.lines.Line.TheVariants.{Sent, Accepted, FreshnessFailure, VerificationFailure, Refused}
use Rattle.bus_machine.specs.declared.lines.Refusal.TheVariants.{Down, NoRoute, BadLength, MemoryFailure}
use Rattle.bus_machine.specs.Node.{Node, place_of, route_at, counter_at, route_key}
use Rattle.bus_machine.specs.Sound.{Sound}
use Rattle.bus_machine.specs.Steps.{receives, NodeStep, when, first_of, key_refusal, receive_refusal, has_length}
use Rattle.bus_machine.specs.Bus.{World, SentLine, node_of, Moments, act_of, sent_after, hearing, Step, node_at, SoundBus}
use Rattle.bus_machine.specs.Honest.{IsInTime, HonestDelivery, SameKeyDelivery, IsHeard}
use Rattle.bus_laws.proofs.Accepting.{secured_by_its_key}
use Rattle.bus_laws.proofs.Effects.{send_routed}
use Rattle.bus_laws.proofs.SoundSteps.{route_is}
use Rattle.bus_laws.proofs.BusSteps.{step_at, Sound-bus, Sound-run}
use Rattle.bus_laws.proofs.Lists.{Each, Each-push, find_each}
use Rattle.bus_laws.proofs.Pending.{None≢Some}

test_lt : (a b : ℕ) → a < b → nat_lt a b ≡ true
test_lt a b h = grind (arith, nat_tests)

test_le : (a b : ℕ) → a ≤ b → nat_le a b ≡ true
test_le a b h = grind (arith, nat_tests)

clear_by : (node : Node) (k : ℕ) (good : Bool) → node.up ≡ true → nat_lt k (length node.config.routes) ≡ true → good ≡ true → key_refusal node k ≡ None
    → first_of (when (not node.up) Down ∷ when (not (nat_lt k (length node.config.routes))) NoRoute ∷ when (not good) BadLength ∷ key_refusal node k ∷ []) ≡ None
clear_by node k good up inside long usable = rw (up, inside, long, usable) refl

long_enough : (pdu : List ℕ) → IsFrame pdu → has_length 5 64 pdu ≡ true
long_enough pdu is = rw (test_le 5 (length pdu) is.0, test_le (length pdu) 64 is.1) refl

-- what is known of the PDU at its route
pub record Facts (node : Node) (s : SentLine) (k : ℕ) : Type 0 where
  pub clear : receive_refusal node s.id s.pdu ≡ None
  pub ahead : Ahead (counter_at node k) (route_at node k).window (low_of s.pdu) s.freshness
  pub payload_is : payload_of s.pdu ≡ s.payload
  pub secured : Secured (route_key node k) s.id s.payload s.freshness s.pdu
  pub window : (route_at node k).window ≤ 256

pub facts : (node : Node) (s : SentLine) → Sound node → s.freshness < 2 ^ 64 → IsInTime node s (place_of node s.id Receives) → Facts node s (place_of node s.id Receives)
facts node s sound fits t =
    let k : ℕ = place_of node s.id Receives in
    record {
      clear = clear_by node k (has_length 5 64 s.pdu) t.is_up (test_lt k (length node.config.routes) t.has_route)
          (long_enough s.pdu (IsFrame-Secured (route_key node k) s.id s.payload s.freshness s.pdu t.secured)) t.usable;
      ahead = record { above = t.above; near = t.near; low_is = sym (low_of_secured (route_key node k) s.id s.payload s.freshness s.pdu t.secured); fits = fits };
      payload_is = payload_of_secured (route_key node k) s.id s.payload s.freshness s.pdu t.secured;
      secured = t.secured;
      window = (route_is node k sound t.has_route).window_most;
    }

pub heard_line : (node : Node) (s : SentLine) (line : Line) (after : Node) → Facts node s (place_of node s.id Receives) → NodeStep node (receives s.id s.pdu) line after → IsHeard s line
heard_line node s (Accepted told w given source) after f step =
    (step.0, same_from_Ahead _ _ _ w s.freshness f.window step.1.judged.verdict_is.0 f.ahead, step.1.judged.verdict_is.1 ∙ f.payload_is)
heard_line node s FreshnessFailure after f step = absurd (step.0.verdict_is s.freshness f.ahead)
heard_line node s VerificationFailure after f step =
    let key : List ℕ = route_key node (place_of node s.id Receives) in
    let j = step.0.verdict_is in
    let same : s.freshness ≡ j.0 = same_from_Ahead _ _ _ s.freshness j.0 f.window f.ahead j.1 in
    absurd (j.2 (subst (λ w. Secured key s.id (payload_of s.pdu) w s.pdu) same
    (subst (λ p. Secured key s.id p s.freshness s.pdu) (sym f.payload_is) f.secured)))
heard_line node s (Refused MemoryFailure) after f step = tt
heard_line node s (Refused refusal) after f step = absurd (None≢Some refusal _ f.clear step.0)
heard_line node s _ after f step = absurd step

abbrev FreshnessFits : SentLine → Type 0
FreshnessFits s = s.freshness < 2 ^ 64

one_fits : (before : World) (event : Event) (line : Line) (new : Node) → Sound (node_at before (node_of event)) → NodeStep (node_at before (node_of event)) (act_of before event) line new
    → Each FreshnessFits before.sent → Each FreshnessFits (sent_after before event line)
one_fits before (Send node id payload) (Sent told v pdu) new s step e =
    let n : Node = node_at before node in
    let r = send_routed n id payload step.1.allowed in
    let old = s.in_step (place_of n id Sends) r.0.inside in
    Each-push _ before.sent _ e (omega (arith, step.1.freshness_is, r.1, old.below, old.fits))
one_fits before event line new s step e = e

sent_fits : (start : World) (ms : Moments) (now : World) → SoundBus start → Run Step start ms now → Each FreshnessFits start.sent → Each FreshnessFits now.sent
sent_fits start [] now s run e = subst (λ w. Each FreshnessFits w.sent) (sym run) e
sent_fits start (m ∷ ms) now s run e =
    let at = step_at start m.command m.line m.after run.0 in
    sent_fits m.after ms now (Sound-bus start m.command m.line m.after s run.0) run.1
    (subst (Each FreshnessFits) (sym run.0.sent) (one_fits start m.command m.line _ (s (node_of m.command) at.inside) at.step e))

-- a delivery of a PDU that comes in time is accepted, or the disk failed
pub IsHeard-run : (start : World) (ms : Moments) (now : World) → SoundBus start → start.sent ≡ [] → Run Step start ms now
    → (i number : ℕ) (line : Line) (after : World) (s : SentLine) → HonestDelivery now (node_at now i) number s → Step now (Deliver i number) line after → IsHeard s line
IsHeard-run start ms now sound empty run i number line after s h step =
    let at = step_at now (Deliver i number) line after step in
    let fits = (find_each (λ s. s.number == number) FreshnessFits now.sent s
    (sent_fits start ms now sound run (subst (Each FreshnessFits) (sym empty) tt)) h.found).1 in
    let told : act_of now (Deliver i number) ≡ receives s.id s.pdu = ap hearing h.found in
    heard_line (node_at now i) s line (node_at after i)
    (facts (node_at now i) s (Sound-run start ms now sound run i at.inside) fits h.in_time)
    (subst (λ act. NodeStep (node_at now i) act line (node_at after i)) told at.step)

-- the receiver's key secures the PDU, since it is the sender's
pub same_key_is_honest : (start : World) (ms : Moments) (now : World) (node : Node) (number : ℕ) (s : SentLine) → Run Step start ms now
    → SameKeyDelivery start ms now node number s → HonestDelivery now node number s
same_key_is_honest start ms now node number s run d = record {
  found = d.found;
  in_time = record {
    is_up = d.is_up;
    has_route = d.has_route;
    usable = d.usable;
    secured = secured_by_its_key start ms now s _ run d.same_key;
    above = d.above;
    near = d.near;
  };
}
