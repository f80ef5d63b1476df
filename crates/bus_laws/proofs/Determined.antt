-- The lines, and one choice for each cut that found a change pending, determine every world
use Rattle.std.specs.Prelude.{◌≡◌, ◌≢◌, ℕ, Option, None, Some, List, [], ◌∷◌, set, get_or}
use Rattle.std.proofs.Common.{refl, sym, ◌∙◌, ap, subst, inl, inr, get_or-set_same}
use Rattle.memory_update.specs.Loading.{slot_of}
use Rattle.secured_pdu.proofs.CallerLemmas.{same_from_Ahead}
use Rattle.secured_pdu.specs.Verdict as verdict
use Rattle.freshness_routes.specs.declared.routes.Direction.TheVariants.{Receives}
use Rattle.machine_runs.specs.Run.{Run}
use Rattle.bus_machine.specs.declared.events.Event.{Event}
use Rattle.bus_machine.specs.declared.lines.Line.{Line}
use Rattle.bus_machine.specs.declared.lines.Line.TheVariants.{Sent, Accepted, FreshnessFailure, VerificationFailure, Keyed, Loaded, Boot, Up, Armed, NoFrame, Refused}
use Rattle.bus_machine.specs.declared.lines.Refusal.TheVariants.{MemoryFailure}
use Rattle.bus_machine.specs.Node.{Node, Change, slot_to, place_of, powered, with_slot, failed, first_node}
use Rattle.bus_machine.specs.Sound.{Sound}
use Rattle.bus_machine.specs.Steps.{Act, sends, receives, loads, keys, boots, cuts, arms, hears_nothing, receive_change, JudgesFrame, TakesUpdate, Makes, Faults, PowersUp, NodeStep}
use Rattle.bus_machine.specs.Bus.{World, SentLine, node_of, Instant, Moments, no_config, Step, node_at, SoundBus}
use Rattle.bus_laws.specs.Laws.{Alike}
use Rattle.bus_laws.proofs.Effects.{routed}
use Rattle.bus_laws.proofs.SoundSteps.{same_some, route_is}
use Rattle.bus_laws.proofs.BusSteps.{step_at, Sound-bus}
use Rattle.bus_laws.proofs.Requests.{taken_one, built_one}
use Rattle.bus_laws.proofs.Pending.{None≢Some}

accepted_one : (node : Node) (id : ℕ) (pdu p q : List ℕ) (v w : ℕ) → Sound node → JudgesFrame node id pdu (verdict.Accepted p v) → JudgesFrame node id pdu (verdict.Accepted q w) → v ≡ w
accepted_one node id pdu p q v w s a b =
    let k : ℕ = place_of node id Receives in
    same_from_Ahead _ _ _ v w (route_is node k s (routed node id pdu a.allowed).inside).window_most a.verdict_is.0 b.verdict_is.0

-- an act makes one change
makes_one : (node : Node) (act : Act) (c d : Change) → Sound node → Makes node act c → Makes node act d → c ≡ d
makes_one node (sends id payload) c d s a b = same_some c d (sym a.1 ∙ b.1)
makes_one node (receives id pdu) c d s a b =
    let v = accepted_one node id pdu a.0 b.0 a.1 b.1 s a.2 b.2 in
    same_some c d (sym a.3 ∙ ap (receive_change node (place_of node id Receives)) v ∙ b.3)
makes_one node (loads request) c d s a b = a.2 ∙ ap (λ u. slot_to u.id (slot_of u)) (taken_one node request a.0 b.0 s a.1 b.1) ∙ sym b.2
makes_one node (keys update authkey) c d s a b =
    let r : a.0 ≡ b.0 = built_one a.0 b.0 authkey update a.1 b.1 in
    a.2.2 ∙ ap (λ u. slot_to u.id (slot_of u)) (taken_one node b.0 a.2.0 b.2.0 s (subst (λ r. TakesUpdate node r a.2.0) r a.2.1) b.2.1) ∙ sym b.2.2
makes_one node (boots image) c d s a b = absurd a
makes_one node cuts c d s a b = absurd a
makes_one node arms c d s a b = absurd a
makes_one node hears_nothing c d s a b = absurd a

fault_one : (node : Node) (act : Act) (x y : Node) → Sound node → Faults node act x → Faults node act y → x ≡ y
fault_one node act x y s a b = a.2 ∙ ap (λ c. failed c node) (makes_one node act a.0 b.0 s a.1 b.1) ∙ sym b.2

-- a power-up leaves one node for each choice of what is kept, and there is one choice if nothing was pending
powered_as : (node x : Node) → PowersUp node x → x ≡ powered node.config x.kept
powered_as node x (inl e) = e ∙ ap (powered node.config) (sym (ap (λ n. n.kept) e))
powered_as node x (inr c) = c.2 ∙ ap (powered node.config) (sym (ap (λ n. n.kept) c.2))

calm_power : (node x : Node) → node.pending ≡ None → PowersUp node x → x.kept ≡ node.kept
calm_power node x calm (inl e) = ap (λ n. n.kept) e
calm_power node x calm (inr c) = absurd (None≢Some c.0 node.pending calm c.1)

power_one : (node x y : Node) (o : Option Change) → node.pending ≡ o → (node.pending ≢ None → x.kept ≡ y.kept) → PowersUp node x → PowersUp node y → x.kept ≡ y.kept
power_one node x y None is choice a b = calm_power node x is a ∙ sym (calm_power node y is b)
power_one node x y (Some c) is choice a b = choice (λ none. None≢Some c node.pending none is)

-- a line determines the node after it; after a power-up with a change pending so does what is kept
pub node_one : (node : Node) (act : Act) (line : Line) (x y : Node) → Sound node → (line ≡ Up → node.pending ≢ None → x.kept ≡ y.kept) → NodeStep node act line x → NodeStep node act line y → x ≡ y
node_one node (sends id payload) (Sent told v pdu) x y s choice a b = a.1.after_is ∙ sym b.1.after_is
node_one node (sends id payload) (Refused MemoryFailure) x y s choice a b = fault_one node (sends id payload) x y s a b
node_one node (sends id payload) (Refused refusal) x y s choice a b = a.1 ∙ sym b.1
node_one node (receives id pdu) (Accepted told v payload source) x y s choice a b = a.1.after_is ∙ sym b.1.after_is
node_one node (receives id pdu) FreshnessFailure x y s choice a b = a.1 ∙ sym b.1
node_one node (receives id pdu) VerificationFailure x y s choice a b = a.1 ∙ sym b.1
node_one node (receives id pdu) (Refused MemoryFailure) x y s choice a b = fault_one node (receives id pdu) x y s a b
node_one node (receives id pdu) (Refused refusal) x y s choice a b = a.1 ∙ sym b.1
node_one node (loads request) (Loaded reply) x y s choice a b =
    a.3 ∙ ap (λ u. with_slot u.id (slot_of u) node) (taken_one node request a.0 b.0 s a.1 b.1) ∙ sym b.3
node_one node (loads request) (Refused MemoryFailure) x y s choice a b = fault_one node (loads request) x y s a b
node_one node (loads request) (Refused refusal) x y s choice a b = a.1 ∙ sym b.1
node_one node (keys update authkey) (Keyed told) x y s choice a b =
    let r : a.0 ≡ b.0 = built_one a.0 b.0 authkey update a.1 b.1 in
    a.2.3 ∙ ap (λ u. with_slot u.id (slot_of u) node) (taken_one node b.0 a.2.0 b.2.0 s (subst (λ r. TakesUpdate node r a.2.0) r a.2.1) b.2.1) ∙ sym b.2.3
node_one node (keys update authkey) (Refused MemoryFailure) x y s choice a b = fault_one node (keys update authkey) x y s a b
node_one node (keys update authkey) (Refused refusal) x y s choice a b = a.3 ∙ sym b.3
node_one node (boots image) (Boot good) x y s choice a b = a.after_is ∙ sym b.after_is
node_one node (boots image) (Refused refusal) x y s choice a b = a.1 ∙ sym b.1
node_one node cuts Up x y s choice a b =
    powered_as node x a ∙ ap (powered node.config) (power_one node x y node.pending refl (choice refl) a b) ∙ sym (powered_as node y b)
node_one node cuts (Refused MemoryFailure) x y s choice a b = a ∙ sym b
node_one node arms Armed x y s choice a b = a ∙ sym b
node_one node hears_nothing NoFrame x y s choice a b = a ∙ sym b
node_one node _ _ x y s choice a b = absurd a

-- ---- the bus

abbrev a_world : List Node → ℕ → List SentLine → World
a_world nodes events sent = record { nodes = nodes; events = events; sent = sent }

same_world : (v w : World) → v.nodes ≡ w.nodes → v.events ≡ w.events → v.sent ≡ w.sent → v ≡ w
same_world v w a b c = ap (λ x. a_world x v.events v.sent) a ∙ ap (λ y. a_world w.nodes y v.sent) b ∙ ap (λ z. a_world w.nodes w.events z) c

set_node : (world : World) (event : Event) (line : Line) (after : World) → Step world event line after → after.nodes ≡ set world.nodes (node_of event) (node_at after (node_of event))
set_node world event line after step =
    step.one.others ∙ ap (set world.nodes (node_of event)) (sym (ap (λ ns. get_or ns (node_of event) (first_node no_config)) step.one.others
    ∙ get_or-set_same world.nodes (node_of event) step.one.after (first_node no_config) (step_at world event line after step).inside))

pub step_one : (world : World) (event : Event) (line : Line) (v w : World) → SoundBus world
    → (line ≡ Up → (node_at world (node_of event)).pending ≢ None → (node_at v (node_of event)).kept ≡ (node_at w (node_of event)).kept) → Step world event line v → Step world event line w → v ≡ w
step_one world event line v w s choice a b =
    let x = step_at world event line v a in
    let y = step_at world event line w b in
    let same = node_one _ _ line _ _ (s (node_of event) x.inside) choice x.step y.step in
    same_world v w (set_node world event line v a ∙ ap (set world.nodes (node_of event)) same ∙ sym (set_node world event line w b))
    (a.events ∙ sym b.events) (a.sent ∙ sym b.sent)

abbrev an_instant : Event → Line → World → Instant
an_instant event line after = record { command = event; line = line; after = after }

pub same_instant : (m n : Instant) → m.command ≡ n.command → m.line ≡ n.line → m.after ≡ n.after → m ≡ n
same_instant m n a b c =
    ap (λ x. an_instant x m.line m.after) a ∙ ap (λ y. an_instant n.command y m.after) b ∙ ap (an_instant n.command n.line) c

pub same_run : (start : World) (ms ns : Moments) (v w : World) → SoundBus start → Alike start ms ns → Run Step start ms v → Run Step start ns w → ms ≡ ns
same_run start [] [] v w s alike a b = refl
same_run start [] (n ∷ ns) v w s alike a b = absurd alike
same_run start (m ∷ ms) [] v w s alike a b = absurd alike
same_run start (m ∷ ms) (n ∷ ns) v w s alike a b =
    let b0 = subst (λ e. Step start e m.line n.after) (sym alike.0) (subst (λ l. Step start n.command l n.after) (sym alike.1) b.0) in
    let same : m.after ≡ n.after = step_one start m.command m.line m.after n.after s alike.2 a.0 b0 in
    let rest = same_run m.after ms ns v w (Sound-bus start m.command m.line m.after s a.0) alike.3 a.1 (subst (λ t. Run Step t ns w) (sym same) b.1) in
    ap (λ x. x ∷ ms) (same_instant m n alike.0 alike.1 same) ∙ ap (λ xs. n ∷ xs) rest
