-- What an accepted line answers
use Rattle.std.specs.Prelude.{◌≡◌, ℕ, ◌⊎◌, ◌==◌, ◌&&◌, bytes_eq, find, option_map, Option, None, Some, List, [], ◌∷◌, Bool}
use Rattle.std.proofs.Common.{refl, sym, ◌∙◌, ap, subst, inl, inr}
use Rattle.std.proofs.lemmas.Slice.Eq.{bytes_eq-Decides}
use Rattle.secured_pdu.specs.Frame.{Secured, secured_frame}
use Rattle.freshness_routes.specs.declared.routes.Direction.TheVariants.{Sends, Receives}
use Rattle.machine_runs.specs.Run.{Run}
use Rattle.machine_runs.proofs.CallerLemmas.{Run-split}
use Rattle.bus_machine.specs.declared.events.Event.{Event}
use Rattle.bus_machine.specs.declared.events.Event.TheVariants.{Send}
use Rattle.bus_machine.specs.declared.lines.Line.{Line}
use Rattle.bus_machine.specs.declared.lines.Line.TheVariants.{Sent, Accepted}
use Rattle.bus_machine.specs.Node.{Node, place_of, route_key}
use Rattle.bus_machine.specs.Steps.{Act, sends, receives, loads, keys, boots, cuts, arms, hears_nothing, AcceptsFrame, NodeStep}
use Rattle.bus_machine.specs.Bus.{World, SentLine, node_of, Instant, Moments, act_of, sent_after, NamesSource, Step, node_at, state_after, AtSome}
use Rattle.bus_machine.specs.Authentic.{SentAs, WasSent, AcceptedRight, RightLine, Authentic}
use Rattle.bus_laws.proofs.Effects.{routed}
use Rattle.bus_laws.proofs.SoundSteps.{same_some, both_true, eq_of_test}
use Rattle.bus_laws.proofs.BusSteps.{step_at, state_is}
use Rattle.bus_laws.proofs.Lists.{Each, Each-map, Each-push, find_each}

-- this line was sent by one of these moments, secured under the key that the slot then held
pub record Signed (before : World) (ms : Moments) (s : SentLine) : Type 0 where
  pub key : List ℕ
  pub sent : AtSome (SentAs s key) before ms
  pub secured : Secured key s.id s.payload s.freshness s.pdu

pub record SignedHere (before : World) (m : Instant) (s : SentLine) : Type 0 where
  pub key : List ℕ
  pub sent : SentAs s key before m
  pub secured : Secured key s.id s.payload s.freshness s.pdu

sent_step : (before : World) (event : Event) (line : Line) (after : World) (new : Node) (Q : SentLine → Type 0) → NodeStep (node_at before (node_of event)) (act_of before event) line new → Each Q before.sent
    → Each (λ s. Q s ⊎ SignedHere before (record { command = event; line = line; after = after }) s) (sent_after before event line)
sent_step before (Send node id payload) (Sent told v pdu) after new Q step q =
    Each-push _ before.sent _ (Each-map Q _ (λ s h. inl h) before.sent q)
    (inr (record {
      key = route_key (node_at before node) (place_of (node_at before node) told Sends);
      sent = (ap (λ d. Send node d payload) (sym step.0), refl, refl, refl);
      secured = subst (λ d. Secured (route_key (node_at before node) (place_of (node_at before node) d Sends)) d payload v pdu) (sym step.0) step.1.pdu_is;
    }))
sent_step before event line after new Q step q = Each-map Q _ (λ s h. inl h) before.sent q

pub sent_signed : (start : World) (ms : Moments) (now : World) (Q : SentLine → Type 0) → Run Step start ms now → Each Q start.sent → Each (λ s. Q s ⊎ Signed start ms s) now.sent
sent_signed start [] now Q run q = Each-map Q _ (λ s h. inl h) now.sent (subst (λ w. Each Q w.sent) (sym run) q)
sent_signed start (m ∷ ms) now Q run q =
    let at = step_at start m.command m.line m.after run.0 in
    let next = subst (Each (λ s. Q s ⊎ SignedHere start m s)) (sym run.0.sent) (sent_step start m.command m.line m.after _ Q at.step q) in
    Each-map (λ s. (Q s ⊎ SignedHere start m s) ⊎ Signed m.after ms s) (λ s. Q s ⊎ Signed start (m ∷ ms) s)
    (λ s h. elim h [
      | inl (inl q) ↦ inl q
      | inl (inr x) ↦ inr (record { key = x.key; sent = inl x.sent; secured = x.secured })
      | inr x ↦ inr (record { key = x.key; sent = inr x.sent; secured = x.secured })
    ]) now.sent (sent_signed m.after ms now (λ s. Q s ⊎ SignedHere start m s) run.1 next)

-- the key that the sender's slot held at the send secures the line's PDU
secured_here : (before : World) (m : Instant) (s : SentLine) (key : List ℕ) (new : Node) → SentAs s key before m
    → NodeStep (node_at before (node_of m.command)) (act_of before m.command) m.line new → Secured key s.id s.payload s.freshness s.pdu
secured_here before m s key new is step =
    let node : Node = node_at before (node_of m.command) in
    let told : act_of before m.command ≡ sends s.id s.payload = ap (act_of before) is.0 in
    let sent : NodeStep node (sends s.id s.payload) (Sent s.id s.freshness s.pdu) new =
    subst (λ a. NodeStep node a (Sent s.id s.freshness s.pdu) new) told (subst (λ l. NodeStep node (act_of before m.command) l new) is.1 step) in
    subst (λ k. Secured k s.id s.payload s.freshness s.pdu) (sym is.3) sent.1.pdu_is

pub secured_by_its_key : (start : World) (ms : Moments) (now : World) (s : SentLine) (key : List ℕ) → Run Step start ms now → AtSome (SentAs s key) start ms
    → Secured key s.id s.payload s.freshness s.pdu
secured_by_its_key start [] now s key run sent = absurd sent
secured_by_its_key start (m ∷ ms) now s key run (inl here) =
    let at = step_at start m.command m.line m.after run.0 in
    secured_here start m s key _ here at.step
secured_by_its_key start (m ∷ ms) now s key run (inr later) = secured_by_its_key m.after ms now s key run.1 later

found_number : (o : Option SentLine) (e : ℕ) → option_map (λ s. s.number) o ≡ Some e → (s : SentLine) × (o ≡ Some s) × (s.number ≡ e)
found_number None e h = cc
found_number (Some s) e h = (s, refl, same_some _ _ h)

-- the act of a node that accepts
abbrev Received : Node → Act → ℕ → ℕ → List ℕ → Node → Type 0
Received node act id v payload after = (pdu : List ℕ) × (act ≡ receives id pdu) × AcceptsFrame node id pdu payload v after

accepted_act : (node : Node) (act : Act) (id v : ℕ) (payload : List ℕ) (source : Option ℕ) (after : Node) → NodeStep node act (Accepted id v payload source) after → Received node act id v payload after
accepted_act node (receives d pdu) id v payload source after step =
    (pdu, ap (λ d. receives d pdu) (sym step.0), subst (λ d. AcceptsFrame node d pdu payload v after) (sym step.0) step.1)
accepted_act node (sends d p) id v payload source after step = absurd step
accepted_act node (loads request) id v payload source after step = absurd step
accepted_act node (keys update authkey) id v payload source after step = absurd step
accepted_act node (boots image) id v payload source after step = absurd step
accepted_act node cuts id v payload source after step = absurd step
accepted_act node arms id v payload source after step = absurd step
accepted_act node hears_nothing id v payload source after step = absurd step

same_frame : (k l : List ℕ) (d e : ℕ) (p q : List ℕ) (v w : ℕ) → k ≡ l → d ≡ e → p ≡ q → v ≡ w → secured_frame k d p v ≡ secured_frame l e q w
same_frame k l d e p q v w a b c f =
    ap (λ k. secured_frame k d p v) a ∙ ap (λ d. secured_frame l d p v) b ∙ ap (λ p. secured_frame l e p v) c ∙ ap (λ v. secured_frame l e q v) f

-- the test by which a sent line is looked for
abbrev pub sent_as : ℕ → List ℕ → ℕ → SentLine → Bool
sent_as id payload v s = (s.id == id) && bytes_eq s.payload payload && (s.freshness == v)

names_sent : (start : World) (done : Moments) (before : World) (id v : ℕ) (payload : List ℕ) (number : ℕ) (key pdu : List ℕ) → Each (Signed start done) before.sent
    → option_map (λ s. s.number) (find (sent_as id payload v) before.sent) ≡ Some number → Secured key id payload v pdu → WasSent start done number id v payload key pdu
names_sent start done before id v payload number key pdu signed found secured =
    let f = found_number (find (sent_as id payload v) before.sent) number found in
    let s : SentLine = f.0 in
    let h = find_each (sent_as id payload v) (Signed start done) before.sent s signed f.1 in
    let t = both_true ((s.id == id) && bytes_eq s.payload payload) (s.freshness == v) h.0 in
    let u = both_true (s.id == id) (bytes_eq s.payload payload) t.0 in
    let id_is : s.id ≡ id = eq_of_test s.id id u.0 in
    let payload_is : s.payload ≡ payload = (bytes_eq-Decides s.payload payload).0 u.1 in
    let freshness_is : s.freshness ≡ v = eq_of_test s.freshness v t.1 in
    record {
      sent = s;
      key = h.1.key;
      number_is = f.2;
      id_is = id_is;
      payload_is = payload_is;
      freshness_is = freshness_is;
      was_sent = h.1.sent;
      same = λ k. h.1.secured.frame_is
          ∙ same_frame h.1.key key s.id id s.payload payload s.freshness v k id_is payload_is freshness_is
          ∙ sym secured.frame_is;
    }

right_line : (start : World) (done : Moments) (before : World) (m : Instant) (line : Line) → before ≡ state_after start done → Each (Signed start done) before.sent
    → NodeStep (node_at before (node_of m.command)) (act_of before m.command) line (node_at m.after (node_of m.command)) → NamesSource before line → RightLine start done m line
right_line start done before m (Accepted id v payload source) at signed step names =
    let node : Node = node_at before (node_of m.command) in
    let k : ℕ = place_of node id Receives in
    let r = accepted_act _ _ id v payload source _ step in
    let secured = r.2.judged.verdict_is.2 in
    subst (λ w. AcceptedRight start done w m (node_at w (node_of m.command)) (place_of (node_at w (node_of m.command)) id Receives) id v payload source) at (record {
      pdu = r.0;
      received = r.1;
      usable = (routed node id r.0 r.2.judged.allowed).usable;
      secured = secured;
      from = names;
      names = λ number is. names_sent start done before id v payload number (route_key node k) r.0 signed (sym names ∙ is) secured;
    })
right_line start done before m _ at signed step names = tt

pub Authentic-run : (start : World) (ms : Moments) (now : World) → start.sent ≡ [] → Run Step start ms now → Authentic start ms
Authentic-run start ms now empty run done m rest all =
    let parts = Run-split Step start done (m ∷ rest) now (subst (λ xs. Run Step start xs now) all run) in
    let at = step_at parts.0 m.command m.line m.after parts.2.0 in
    let signed = sent_signed start done parts.0 (λ s. ⊥) parts.1 (subst (Each (λ s. ⊥)) (sym empty) tt) in
    right_line start done parts.0 m m.line (state_is start done parts.0 parts.1)
    (Each-map _ (Signed start done) (λ s h. elim h [ inl none ↦ absurd none | inr x ↦ x ]) parts.0.sent signed) at.step parts.2.0.source
