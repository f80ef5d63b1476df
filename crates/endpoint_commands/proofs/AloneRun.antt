-- The turns of a node alone are steps of the machine over a bus of one node, and turns of one disk
use Rattle.std.specs.Prelude.{◌≡◌, ℕ, ◌+◌, Bool, List, [], ◌∷◌, set, slice_get}
use Rattle.std.proofs.Common.{refl, sym, ap, ◌∙◌, subst}
use Rattle.cell_store.specs.declared.kinds.Layout.{Layout}
use Rattle.store_keeping.specs.DiskTurns.{DiskTurn, CountsFailure, TellsBytes}
use Rattle.bus_machine.specs.declared.events.Event.{Event}
use Rattle.bus_machine.specs.declared.events.Event.TheVariants as event
use Rattle.bus_machine.specs.declared.lines.Line.{Line}
use Rattle.bus_machine.specs.declared.lines.Line.TheVariants.{Sent, Accepted, FreshnessFailure, VerificationFailure, Keyed, Loaded, Boot, Up, Armed, NoFrame, Refused}
use Rattle.bus_machine.specs.declared.lines.Refusal.TheVariants.{MemoryFailure}
use Rattle.bus_machine.specs.Steps.{Act, sends, receives, loads, keys, boots, cuts, arms, hears_nothing, NodeStep}
use Rattle.bus_machine.specs.Node.{Node}
use Rattle.bus_machine.specs.Bus.{World, SentLine, Step, node_of, act_of, source_of, sent_after, NamesSource, silent_world}
use Rattle.memory_update.specs.declared.messages.Request.{Request}
use Rattle.secoc_node.specs.State.{NodeState, TellsFitting}
use Rattle.bus_world.specs.Turns.{duty_of, NodeTurn, TellsFaults}
use Rattle.bus_world.specs.NodeDisks.{mark_at, most_at, tells_failure, fails_at, fits_at}
use Rattle.bus_world.proofs.CallerLemmas.{turn_fits}
use Rattle.endpoint_commands.specs.Alone.{TurnsAlone}

-- the node, how many events there were, and what it sent
pub record AloneState : Type 0 where
  pub node : NodeState
  pub events : ℕ
  pub sent : List SentLine

abbrev pub alone_world : AloneState → World
alone_world s = record { nodes = s.node.node ∷ []; events = s.events; sent = s.sent }

-- the events of an endpoint
pub data IsOfEndpoint : Event → Type 0 where
  is_send : (id : ℕ) (payload : List ℕ) → IsOfEndpoint (event.Send 0 id payload)
  is_inject : (id : ℕ) (pdu : List ℕ) → IsOfEndpoint (event.Inject 0 id pdu)
  is_load : (request : Request) → IsOfEndpoint (event.Load 0 request)
  is_boot : (image : List ℕ) → IsOfEndpoint (event.Boot 0 image)

-- an accepted line names the earliest event that sent what it accepts
abbrev pub with_source : World → Line → Line
with_source w (Accepted id v payload source) = Accepted id v payload (source_of w id payload v)
with_source w line = line

-- a turn of the node, whose line names its source
pub record AloneStep (s : AloneState) (e : Event) (line : Line) (t : AloneState) : Type 0 where
  pub of_endpoint : IsOfEndpoint e
  pub told : Line
  pub alone : TurnsAlone s.node e told t.node
  pub line_is : line ≡ with_source (alone_world s) told
  pub events : t.events ≡ s.events + 1
  pub sent : t.sent ≡ sent_after (alone_world s) e line

-- ---- the machine

names : (w : World) (line : Line) → NamesSource w (with_source w line)
names w (Accepted id v payload source) = refl
names w (Sent id v pdu) = tt
names w FreshnessFailure = tt
names w VerificationFailure = tt
names w (Keyed slot) = tt
names w (Loaded reply) = tt
names w (Boot good) = tt
names w Up = tt
names w Armed = tt
names w NoFrame = tt
names w (Refused refusal) = tt

sourced : (w : World) (node : Node) (act : Act) (line : Line) (after : Node) → NodeStep node act line after → NodeStep node act (with_source w line) after
sourced w node (sends id payload) (Accepted told v p source) after step = step
sourced w node (receives id pdu) (Accepted told v p source) after step = step
sourced w node (loads request) (Accepted told v p source) after step = step
sourced w node (keys update authkey) (Accepted told v p source) after step = step
sourced w node (boots image) (Accepted told v p source) after step = step
sourced w node cuts (Accepted told v p source) after step = step
sourced w node arms (Accepted told v p source) after step = step
sourced w node hears_nothing (Accepted told v p source) after step = step
sourced w node act (Sent id v pdu) after step = step
sourced w node act FreshnessFailure after step = step
sourced w node act VerificationFailure after step = step
sourced w node act (Keyed slot) after step = step
sourced w node act (Loaded reply) after step = step
sourced w node act (Boot good) after step = step
sourced w node act Up after step = step
sourced w node act Armed after step = step
sourced w node act NoFrame after step = step
sourced w node act (Refused refusal) after step = step

-- a node's turn is its step, on whatever bus it is
own_step : (w : World) (e : Event) (line : Line) (s t : NodeState) → IsOfEndpoint e → NodeTurn s (duty_of silent_world e) line t → NodeStep s.node (act_of w e) line t.node
own_step w _ line s t (is_send id payload) turn = turn.step tt
own_step w _ line s t (is_inject id pdu) turn = turn.step tt
own_step w _ line s t (is_load request) turn = turn.step tt
own_step w _ line s t (is_boot image) turn = turn.step tt

at_first : (e : Event) → IsOfEndpoint e → node_of e ≡ 0
at_first _ (is_send id payload) = refl
at_first _ (is_inject id pdu) = refl
at_first _ (is_load request) = refl
at_first _ (is_boot image) = refl

pub alone_step : (s : AloneState) (e : Event) (line : Line) (t : AloneState) → AloneStep s e line t → Step (alone_world s) e line (alone_world t)
alone_step s e line t a =
    let w : World = alone_world s in
    let step : NodeStep s.node.node (act_of w e) line t.node.node =
    subst (λ (l : Line). NodeStep s.node.node (act_of w e) l t.node.node) (sym a.line_is)
    (sourced w s.node.node (act_of w e) a.told t.node.node (own_step w e a.told s.node t.node a.of_endpoint a.alone.turn)) in
    record {
      one = record {
        before = s.node.node;
        after = t.node.node;
        was = ap (slice_get (s.node.node ∷ [])) (at_first e a.of_endpoint);
        step = step;
        others = ap (λ (i : ℕ). set (s.node.node ∷ []) i t.node.node) (sym (at_first e a.of_endpoint));
      };
      source = subst (NamesSource w) (sym a.line_is) (names w a.told);
      events = a.events;
      sent = a.sent;
    }

-- ---- the disk

same_failure : (w : World) (line : Line) → tells_failure (with_source w line) ≡ tells_failure line
same_failure w (Accepted id v payload source) = refl
same_failure w (Sent id v pdu) = refl
same_failure w FreshnessFailure = refl
same_failure w VerificationFailure = refl
same_failure w (Keyed slot) = refl
same_failure w (Loaded reply) = refl
same_failure w (Boot good) = refl
same_failure w Up = refl
same_failure w Armed = refl
same_failure w NoFrame = refl
same_failure w (Refused refusal) = refl

counts_told : (line : Line) (before after : ℕ) → TellsFaults line before after → CountsFailure (tells_failure line) before after
counts_told (Refused MemoryFailure) before after tells = tells
counts_told _ before after tells = tells

-- what an event of the node is to its disk
disk_turn : (w : World) (e : Event) (told : Line) (s t : NodeState) → IsOfEndpoint e → w.nodes ≡ t.node ∷ [] → NodeTurn s (duty_of silent_world e) told t
    → DiskTurn (mark_at 0 e) (most_at 0 w e) (tells_failure told) s.store.disk t.store.disk
disk_turn w _ told s t (is_send id payload) is turn = record { runs = turn.runs; counts = counts_told told s.store.disk.faults t.store.disk.faults turn.faults }
disk_turn w _ told s t (is_inject id pdu) is turn = record { runs = turn.runs; counts = counts_told told s.store.disk.faults t.store.disk.faults turn.faults }
disk_turn w _ told s t (is_load request) is turn = record { runs = turn.runs; counts = counts_told told s.store.disk.faults t.store.disk.faults turn.faults }
disk_turn w _ told s t (is_boot image) is turn = record { runs = turn.runs; counts = counts_told told s.store.disk.faults t.store.disk.faults turn.faults }

told_here : (e : Event) (line : Line) → IsOfEndpoint e → tells_failure line ≡ fails_at 0 e line
told_here _ line (is_send id payload) = refl
told_here _ line (is_inject id pdu) = refl
told_here _ line (is_load request) = refl
told_here _ line (is_boot image) = refl

-- what holds of the states that are reached over a disk that tells bytes that fit
pub record HoldsAlone (l : Layout) (s : AloneState) : Type 0 where
  pub fitting : TellsFitting s.node
  pub layout_is : s.node.store.layout ≡ l

pub alone_holds : (l : Layout) (s : AloneState) (e : Event) (line : Line) (t : AloneState) → HoldsAlone l s → AloneStep s e line t → HoldsAlone l t
alone_holds l s e line t h a = record {
  fitting = turn_fits s.node e silent_world a.told t.node a.alone.turn h.fitting;
  layout_is = a.alone.turn.layout ∙ h.layout_is;
}

pub alone_disk : (s : AloneState) (e : Event) (line : Line) (t : AloneState) → AloneStep s e line t
    → DiskTurn (mark_at 0 e) (most_at 0 (alone_world t) e) (fails_at 0 e line) s.node.store.disk t.node.store.disk
alone_disk s e line t a =
    subst (λ (fails : Bool). DiskTurn (mark_at 0 e) (most_at 0 (alone_world t) e) fails s.node.store.disk t.node.store.disk)
    (sym (same_failure (alone_world s) a.told) ∙ ap tells_failure (sym a.line_is) ∙ told_here e line a.of_endpoint)
    (disk_turn (alone_world t) e a.told s.node t.node a.of_endpoint refl a.alone.turn)

pub alone_tells : (l : Layout) (s : AloneState) → HoldsAlone l s → TellsBytes (fits_at l 0 (alone_world s)) s.node.store.disk
alone_tells l s h = record {
  now = h.fitting.now;
  told = h.fitting.told;
  fit = subst (λ (x : Layout). fits_at x 0 (alone_world s) h.fitting.now) h.layout_is h.fitting.fits;
}
