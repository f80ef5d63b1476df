-- Turns of a node, from what its calls ensure
use Rattle.std.specs.Prelude.{◌≡◌, ◌≢◌, ℕ, ◌+◌, ◌≤◌, None, Some, Option, Result, Ok, Err, List, [], ◌∷◌, ◌++◌, length}
use Rattle.std.proofs.Common.{refl, sym, ap, ◌∙◌, inl, inr, arith}
use Rattle.bus_machine.specs.declared.lines.Line.{Line}
use Rattle.bus_machine.specs.declared.lines.Line.TheVariants.{Sent, Accepted, FreshnessFailure, VerificationFailure, Keyed, Loaded, Boot, Up, Armed, NoFrame, Refused}
use Rattle.bus_machine.specs.declared.lines.Refusal.TheVariants.{MemoryFailure}
use Rattle.cut_disk.specs.declared.Torn.{Torn}
use Rattle.cut_disk.specs.declared.Mark.TheVariants as mark
use Rattle.cut_disk.specs.Calls.{Rose, Runs}
use Rattle.cell_store.specs.declared.faults.Reread.TheVariants as reread
use Rattle.cell_store.specs.Cells.{CellsState}
use Rattle.cell_store.specs.Reading.{CutAndRead}
use Rattle.cut_disk.proofs.CallerLemmas.{runs_none, runs_more}
use Rattle.secured_pdu.proofs.CallerLemmas.{payload_of_secured}
use Rattle.secured_pdu.specs.Verdict.{payload_of}
use Rattle.bus_machine.specs.Node.{Node}
use Rattle.bus_machine.specs.Past.{cell_count}
use Rattle.bus_machine.specs.Sound.{Sound}
use Rattle.freshness_routes.specs.declared.routes.Route.{Route}
use Rattle.bus_machine.specs.declared.events.Event.{Event}
use Rattle.bus_machine.specs.declared.events.Event.TheVariants as event
use Rattle.bus_machine.specs.Bus.{World, SentLine, hearing, sent_after}
use Rattle.secoc_node.specs.declared.faults.NodeFault.{NodeFault}
use Rattle.secoc_node.specs.declared.faults.NodeFault.TheVariants as fault
use Rattle.secoc_node.specs.declared.faults.CutFault.{CutFault}
use Rattle.secoc_node.specs.declared.faults.CutFault.TheVariants as cut_fault
use Rattle.secoc_node.specs.Causes.{CutCause}
use Rattle.secoc_node.specs.Powering.{ComesUp, StaysDown}
use Rattle.secoc_node.specs.Lines.{refusal_of_fault, refusal_of_cut, cut_line, IfLeftAlone}
use Rattle.secoc_node.specs.State.{NodeState, FitsNow, TellsFitting}
use Rattle.bus_world.specs.History.{HistoryState, with_line}
use Rattle.bus_world.specs.Turns.{duty, duty_of, TellsFaults, LeavesAlone, NodeTurn}
use Rattle.bus_machine.specs.Steps.{Act, sends, receives, loads, keys, boots, cuts, arms, hears_nothing, Faults, PowersUp, NodeStep}

powers_config : (node after : Node) → PowersUp node after → after.config ≡ node.config
powers_config node after power = elim power [
  | inl old ↦ ap (λ (n : Node). n.config) old
  | inr made ↦ ap (λ (n : Node). n.config) made.2
]

faults_config : (node : Node) (act : Act) (after : Node) → Faults node act after → after.config ≡ node.config
faults_config node act after fault = ap (λ (n : Node). n.config) fault.2

-- no step changes a configuration
pub step_config : (node : Node) (act : Act) (line : Line) (after : Node) → NodeStep node act line after → after.config ≡ node.config
step_config node (sends id payload) (Sent told v pdu) after step = ap (λ (n : Node). n.config) step.1.after_is
step_config node (sends id payload) (Refused MemoryFailure) after step = faults_config node (sends id payload) after step
step_config node (sends id payload) (Refused refusal) after step = ap (λ (n : Node). n.config) step.1
step_config node (receives id pdu) (Accepted told v payload source) after step = ap (λ (n : Node). n.config) step.1.after_is
step_config node (receives id pdu) FreshnessFailure after step = ap (λ (n : Node). n.config) step.1
step_config node (receives id pdu) VerificationFailure after step = ap (λ (n : Node). n.config) step.1
step_config node (receives id pdu) (Refused MemoryFailure) after step = faults_config node (receives id pdu) after step
step_config node (receives id pdu) (Refused refusal) after step = ap (λ (n : Node). n.config) step.1
step_config node (loads request) (Loaded reply) after step = ap (λ (n : Node). n.config) step.3
step_config node (loads request) (Refused MemoryFailure) after step = faults_config node (loads request) after step
step_config node (loads request) (Refused refusal) after step = ap (λ (n : Node). n.config) step.1
step_config node (keys update authkey) (Keyed slot) after step = ap (λ (n : Node). n.config) step.2.3
step_config node (keys update authkey) (Refused MemoryFailure) after step = faults_config node (keys update authkey) after step
step_config node (keys update authkey) (Refused refusal) after step = ap (λ (n : Node). n.config) step.3
step_config node (boots image) (Boot good) after step = ap (λ (n : Node). n.config) step.after_is
step_config node (boots image) (Refused refusal) after step = ap (λ (n : Node). n.config) step.1
step_config node cuts Up after step = powers_config node after step
step_config node cuts (Refused MemoryFailure) after step = ap (λ (n : Node). n.config) step
step_config node arms Armed after step = ap (λ (n : Node). n.config) step
step_config node hears_nothing NoFrame after step = ap (λ (n : Node). n.config) step
step_config node _ _ after step = absurd step

-- ---- a turn that cuts and arms nothing

pub calm_turn : (before after : NodeState) (act : Act) (line : Line) → NodeStep before.node act line after.node → (act ≡ cuts → ⊥)
    → after.store.layout ≡ before.store.layout → Runs [] 6 before.store.disk after.store.disk → (FitsNow before → FitsNow after)
    → TellsFaults line before.store.disk.faults after.store.disk.faults → LeavesAlone None line before after → Sound after.node → NodeTurn before (duty act None) line after
calm_turn before after act line step other layout runs fits faults untouched sound = record {
  step = λ _. step;
  of_cut = λ is. absurd (other is);
  config = step_config before.node act line after.node step;
  layout = layout;
  runs = runs;
  fits = fits;
  faults = faults;
  image = tt;
  untouched = untouched;
  sound = λ _. sound;
  stays = tt;
}

pub sends_no_cut : (id : ℕ) (payload : List ℕ) → sends id payload ≡ cuts → ⊥
sends_no_cut id payload is = cc

pub receives_no_cut : (id : ℕ) (pdu : List ℕ) → receives id pdu ≡ cuts → ⊥
receives_no_cut id pdu is = cc

pub arms_no_cut : arms ≡ cuts → ⊥
arms_no_cut is = cc

pub hears_no_cut : hears_nothing ≡ cuts → ⊥
hears_no_cut is = cc

-- a fault that isn't the disk's left all as it was
pub faults_told : (f : NodeFault) (before after : NodeState) → (f ≡ fault.Faulted → Rose before.store.disk.faults after.store.disk.faults) → (f ≢ fault.Faulted → after ≡ before)
    → TellsFaults (Refused (refusal_of_fault f)) before.store.disk.faults after.store.disk.faults
faults_told fault.Down before after rose same = ap (λ (s : NodeState). s.store.disk.faults) (same (λ e. cc))
faults_told fault.NoRoute before after rose same = ap (λ (s : NodeState). s.store.disk.faults) (same (λ e. cc))
faults_told fault.BadLength before after rose same = ap (λ (s : NodeState). s.store.disk.faults) (same (λ e. cc))
faults_told (fault.Key erc) before after rose same = ap (λ (s : NodeState). s.store.disk.faults) (same (λ e. cc))
faults_told fault.Exhausted before after rose same = ap (λ (s : NodeState). s.store.disk.faults) (same (λ e. cc))
faults_told fault.Faulted before after rose same = rose refl

-- so a refusal that tells of it leaves all as it was
pub alone_told : (f : NodeFault) (before after : NodeState) → (f ≢ fault.Faulted → after ≡ before) → LeavesAlone None (Refused (refusal_of_fault f)) before after
alone_told fault.Down before after same = same (λ e. cc)
alone_told fault.NoRoute before after same = same (λ e. cc)
alone_told fault.BadLength before after same = same (λ e. cc)
alone_told (fault.Key erc) before after same = same (λ e. cc)
alone_told fault.Exhausted before after same = same (λ e. cc)
alone_told fault.Faulted before after same = tt

pub unmoved_by : (f : NodeFault) (P : Type 0) → IfLeftAlone (Err f) P → f ≢ fault.Faulted → P
unmoved_by fault.Down P h other = h
unmoved_by fault.NoRoute P h other = h
unmoved_by fault.BadLength P h other = h
unmoved_by (fault.Key erc) P h other = h
unmoved_by fault.Exhausted P h other = h
unmoved_by fault.Faulted P h other = absurd (other refl)

-- an accepted payload is short
pub accepted_short : (node : Node) (id : ℕ) (pdu payload : List ℕ) (v : ℕ) (source : Option ℕ) (after : Node)
    → NodeStep node (receives id pdu) (Accepted id v payload source) after → length payload ≤ 64
accepted_short node id pdu payload v source after step =
    let secured = step.1.judged.verdict_is.2 in
    omega (arith, secured.is_payload.1)

-- a node that hears nothing is as it was
pub hears_nothing_turn : (s : NodeState) → NodeTurn s (duty hears_nothing None) NoFrame s
hears_nothing_turn s = record {
  step = λ _. refl;
  of_cut = λ is. absurd (hears_no_cut is);
  config = refl;
  layout = refl;
  runs = runs_more 6 (omega arith) (runs_none s.store.disk);
  fits = λ f. f;
  faults = refl;
  image = tt;
  untouched = refl;
  sound = λ sound. sound;
  stays = tt;
}

-- ---- cuts

told_by_cut : (routes : List Route) (fault : CutFault) (old new : CellsState) → CutCause routes old new fault → TellsFaults (Refused (refusal_of_cut fault)) old.disk.faults new.disk.faults
told_by_cut routes (cut_fault.Store reread.DiskFailed) old new cause = cause
told_by_cut routes (cut_fault.Store reread.NotFormatted) old new cause = cause.faults
told_by_cut routes (cut_fault.Store (reread.Damaged place)) old new cause = cause.faults
told_by_cut routes (cut_fault.BadSlot slot) old new cause = cause.0.faults
told_by_cut routes (cut_fault.BadBound place) old new cause = cause.0.faults

-- a cut that brings the node up
pub up_turn : (before after : NodeState) (torn : Torn) → (TellsFitting before → NodeStep before.node cuts Up after.node) → ComesUp before after
    → CutAndRead torn (68 + cell_count before.node) before.store.disk after.store.disk → after.store.layout ≡ before.store.layout → (FitsNow before → FitsNow after) → Sound after.node
    → NodeTurn before (duty cuts (Some (mark.Cut torn))) Up after
up_turn before after torn step up cut layout fits sound = record {
  step = step;
  of_cut = λ _. record { result = Ok tt; line_is = refl; up = up.up; kept = up.kept; stands = up.stands; down = tt; cause = tt };
  config = ap (λ (n : Node). n.config) up.up;
  layout = layout;
  runs = cut.runs;
  fits = fits;
  faults = up.faults;
  image = cut.image;
  untouched = tt;
  sound = λ _. sound;
  stays = cut.stays;
}

-- one that leaves it down
pub down_turn : (before after : NodeState) (torn : Torn) (f : CutFault) → (TellsFitting before → NodeStep before.node cuts (Refused (refusal_of_cut f)) after.node) → StaysDown before after f
    → CutAndRead torn (68 + cell_count before.node) before.store.disk after.store.disk → after.store.layout ≡ before.store.layout → (FitsNow before → FitsNow after) → Sound after.node
    → NodeTurn before (duty cuts (Some (mark.Cut torn))) (Refused (refusal_of_cut f)) after
down_turn before after torn f step down cut layout fits sound = record {
  step = step;
  of_cut = λ _. record { result = Err f; line_is = refl; up = tt; kept = tt; stands = tt; down = down.refused; cause = down.cause };
  config = ap (λ (n : Node). n.config) down.refused;
  layout = layout;
  runs = cut.runs;
  fits = fits;
  faults = told_by_cut before.node.config.routes f before.store after.store down.cause;
  image = cut.image;
  untouched = tt;
  sound = λ _. sound;
  stays = cut.stays;
}

-- ---- what is put down of a line

-- a sent line is that of a send, whose payload its PDU has
abbrev pub IsSendOf : Event → Line → Type 0
IsSendOf (event.Send node id payload) (Sent told v pdu) = payload_of pdu ≡ payload
IsSendOf _ (Sent told v pdu) = ⊥
IsSendOf _ _ = Unit {0}

sends_none : (o : Option SentLine) (node : Node) (told v : ℕ) (pdu : List ℕ) (after : Node) → NodeStep node (hearing o) (Sent told v pdu) after → ⊥
sends_none None node told v pdu after step = step
sends_none (Some s) node told v pdu after step = step

cut_sends_nothing : (told v : ℕ) (pdu : List ℕ) (result : Result (Unit {0}) CutFault) → Sent told v pdu ≡ cut_line result → ⊥
cut_sends_nothing told v pdu (Ok u) is = cc
cut_sends_nothing told v pdu (Err fault) is = cc

pub turn_is_send : (w : World) (e : Event) (line : Line) (before after : NodeState) → NodeTurn before (duty_of w e) line after → IsSendOf e line
turn_is_send w (event.Send node id payload) (Sent told v pdu) before after turn =
    let sent = turn.step tt in
    payload_of_secured _ _ payload v pdu sent.1.pdu_is
turn_is_send w (event.Deliver node number) (Sent told v pdu) before after turn = sends_none _ before.node told v pdu after.node (turn.step tt)
turn_is_send w (event.Inject node id bytes) (Sent told v pdu) before after turn = turn.step tt
turn_is_send w (event.Load node request) (Sent told v pdu) before after turn = turn.step tt
turn_is_send w (event.Key node update authkey) (Sent told v pdu) before after turn = turn.step tt
turn_is_send w (event.Boot node image) (Sent told v pdu) before after turn = turn.step tt
turn_is_send w (event.Cut node torn) (Sent told v pdu) before after turn = let cut = turn.of_cut refl in cut_sends_nothing told v pdu cut.result cut.line_is
turn_is_send w (event.Stop node calls) (Sent told v pdu) before after turn = turn.step tt
turn_is_send w (event.Fail node calls) (Sent told v pdu) before after turn = turn.step tt
turn_is_send w _ _ before after turn = tt

pub noted_lines : (h : HistoryState) (w : World) (e : Event) (line : Line) → w.events ≡ h.events → w.sent ≡ h.lines → IsSendOf e line → (with_line h line).lines ≡ sent_after w e line
noted_lines h w (event.Send node id payload) (Sent told v pdu) events sent is =
    ap (λ lines. lines ++ record { number = h.events + 1; id = told; payload = payload_of pdu; freshness = v; pdu = pdu } ∷ []) (sym sent)
    ∙ ap (λ n. w.sent ++ record { number = n + 1; id = told; payload = payload_of pdu; freshness = v; pdu = pdu } ∷ []) (sym events)
    ∙ ap (λ p. w.sent ++ record { number = w.events + 1; id = told; payload = p; freshness = v; pdu = pdu } ∷ []) is
noted_lines h w _ (Sent told v pdu) events sent is = absurd is
noted_lines h w _ _ events sent is = sym sent

pub noted_counts : (h : HistoryState) (line : Line) → ((with_line h line).events ≡ h.events + 1) × ((with_line h line).most ≡ h.most)
noted_counts h (Sent told v pdu) = (refl, refl)
noted_counts h _ = (refl, refl)
