-- Without a failure and without a cut an act has one line, except for the source that is named
use Rattle.std.specs.Prelude.{◌≡◌, ◌≢◌, ℕ, ◌↔◌, IsTrue, Option, None, Some, Ok, Err, List, [], ◌∷◌, Bool, true, false, find, ◌==◌}
use Rattle.std.proofs.Common.{refl, sym, ◌∙◌, ap, subst, inl, inr, true≢false}
use Rattle.key_slots.specs.declared.memory.Slot.{Slot}
use Rattle.key_slots.specs.declared.memory.Slot.TheVariants.{Empty, Filled}
use Rattle.key_slots.specs.declared.refusals.Erc.{Erc}
use Rattle.key_slots.specs.Slots.{slot_at}
use Rattle.memory_update.specs.Messages.{Builds, Confirms}
use Rattle.memory_update.proofs.CallerLemmas.{same_reply}
use Rattle.memory_update.specs.declared.messages.Reply.{Reply}
use Rattle.memory_update.specs.declared.messages.Request.{Request}
use Rattle.memory_update.specs.declared.messages.Update.{Update}
use Rattle.secure_boot.specs.Booting.{BootsBy}
use Rattle.secured_pdu.specs.Frame.{secured_frame}
use Rattle.secured_pdu.specs.Verdict as verdict
use Rattle.secured_pdu.proofs.CallerLemmas.{same_from_Verdict}
use Rattle.freshness_routes.specs.declared.routes.Direction.TheVariants.{Sends, Receives}
use Rattle.machine_runs.specs.Run.{Run, commands_in}
use Rattle.bus_machine.specs.declared.events.Event.{Event}
use Rattle.bus_machine.specs.declared.events.Event.TheVariants as event
use Rattle.bus_machine.specs.declared.lines.Line.{Line}
use Rattle.bus_machine.specs.declared.lines.Line.TheVariants.{Sent, Accepted, FreshnessFailure, VerificationFailure, Keyed, Loaded, Boot, Up, Armed, NoFrame, Refused}
use Rattle.bus_machine.specs.declared.lines.Refusal.{Refusal}
use Rattle.bus_machine.specs.declared.lines.Refusal.TheVariants.{Down, Key, MemoryFailure}
use Rattle.bus_machine.specs.Node.{Node, place_of, route_key}
use Rattle.bus_machine.specs.Sound.{Sound}
use Rattle.bus_machine.specs.Steps.{Act, sends, receives, loads, keys, boots, cuts, arms, hears_nothing, send_refusal, receive_refusal, SendsFrame, JudgesFrame, TakesUpdate, RefusesUpdate, DecidesBoot, RefusesBoot, NodeStep}
use Rattle.bus_machine.specs.Bus.{World, SentLine, node_of, act_of, hearing, source_of, Instant, Moments, NamesSource, Step, node_at, SoundBus}
use Rattle.bus_laws.specs.Laws.{NoCut, NoFailure, IsCalm}
use Rattle.bus_laws.proofs.Effects.{routed}
use Rattle.bus_laws.proofs.SoundSteps.{same_some, route_is}
use Rattle.bus_laws.proofs.BusSteps.{step_at, Sound-bus}
use Rattle.bus_laws.proofs.Requests.{taken_one, built_one}
use Rattle.bus_laws.proofs.Pending.{None≢Some}
use Rattle.bus_laws.proofs.Determined.{step_one, same_instant}
use Rattle.bus_laws.proofs.Lists.{Each, Each-All}

-- the line without the source that it names
abbrev pub bare : Line → Line
bare (Accepted id v payload source) = Accepted id v payload None
bare line = line

two_refusals : (o : Option Refusal) (r q : Refusal) → o ≡ Some r → o ≡ Some q → r ≡ q
two_refusals o r q a b = same_some r q (sym a ∙ b)

sent_line : (node : Node) (id : ℕ) (payload : List ℕ) (v : ℕ) (pdu : List ℕ) (x : Node) (m : Line) (y : Node) → SendsFrame node id payload v pdu x → NoFailure m → NodeStep node (sends id payload) m y → bare m ≡ Sent id v pdu
sent_line node id payload v pdu x (Sent told w other) y a fine b =
    let n : w ≡ v = b.1.freshness_is ∙ sym a.freshness_is in
    ap (λ d. Sent d w other) b.0 ∙ ap (λ w. Sent id w other) n
    ∙ ap (Sent id v) (b.1.pdu_is.frame_is ∙ ap (λ w. secured_frame (route_key node (place_of node id Sends)) id payload w) n ∙ sym a.pdu_is.frame_is)
sent_line node id payload v pdu x (Refused MemoryFailure) y a fine b = absurd fine
sent_line node id payload v pdu x (Refused r) y a fine b = absurd (None≢Some r _ a.allowed b.0)
sent_line node id payload v pdu x _ y a fine b = absurd b

not_sent : (node : Node) (id : ℕ) (payload : List ℕ) (r : Refusal) (m : Line) (y : Node) → send_refusal node id payload ≡ Some r → NoFailure m → NodeStep node (sends id payload) m y → bare m ≡ Refused r
not_sent node id payload r (Sent told w other) y a fine b = absurd (None≢Some r _ b.1.allowed a)
not_sent node id payload r (Refused MemoryFailure) y a fine b = absurd fine
not_sent node id payload r (Refused q) y a fine b = ap Refused (two_refusals _ q r b.0 a)
not_sent node id payload r _ y a fine b = absurd b

-- ---- verdicts

line_said : ℕ → verdict.Outcome → Line
line_said id (verdict.Accepted payload v) = Accepted id v payload None
line_said id verdict.FreshnessFailure = FreshnessFailure
line_said id verdict.VerificationFailure = VerificationFailure

said_as : (id : ℕ) (payload : List ℕ) (v : ℕ) → line_said id (verdict.Accepted payload v) ≡ Accepted id v payload None
unfolding line_said
said_as id payload v = refl

said_fresh : (id : ℕ) → line_said id verdict.FreshnessFailure ≡ FreshnessFailure
unfolding line_said
said_fresh id = refl

said_verify : (id : ℕ) → line_said id verdict.VerificationFailure ≡ VerificationFailure
unfolding line_said
said_verify id = refl

judged_one : (node : Node) (id : ℕ) (pdu : List ℕ) (o q : verdict.Outcome) → Sound node → JudgesFrame node id pdu o → JudgesFrame node id pdu q → o ≡ q
judged_one node id pdu o q s a b =
    let r = route_is node (place_of node id Receives) s (routed node id pdu a.allowed).inside in
    same_from_Verdict _ id _ _ pdu o q (r.window_least, r.window_most) a.verdict_is b.verdict_is

said_line : (node : Node) (id : ℕ) (pdu : List ℕ) (o : verdict.Outcome) (m : Line) (y : Node) → Sound node → JudgesFrame node id pdu o → NoFailure m → NodeStep node (receives id pdu) m y → bare m ≡ line_said id o
unfolding line_said
said_line node id pdu o (Accepted told w p source) y s a fine b =
    ap (λ d. Accepted d w p None) b.0 ∙ ap (line_said id) (judged_one node id pdu (verdict.Accepted p w) o s b.1.judged a)
said_line node id pdu o FreshnessFailure y s a fine b = ap (line_said id) (judged_one node id pdu verdict.FreshnessFailure o s b.0 a)
said_line node id pdu o VerificationFailure y s a fine b = ap (line_said id) (judged_one node id pdu verdict.VerificationFailure o s b.0 a)
said_line node id pdu o (Refused MemoryFailure) y s a fine b = absurd fine
said_line node id pdu o (Refused r) y s a fine b = absurd (None≢Some r _ a.allowed b.0)
said_line node id pdu o _ y s a fine b = absurd b

not_said : (node : Node) (id : ℕ) (pdu : List ℕ) (r : Refusal) (m : Line) (y : Node) → receive_refusal node id pdu ≡ Some r → NoFailure m → NodeStep node (receives id pdu) m y → bare m ≡ Refused r
not_said node id pdu r (Accepted told w p source) y a fine b = absurd (None≢Some r _ b.1.judged.allowed a)
not_said node id pdu r FreshnessFailure y a fine b = absurd (None≢Some r _ b.0.allowed a)
not_said node id pdu r VerificationFailure y a fine b = absurd (None≢Some r _ b.0.allowed a)
not_said node id pdu r (Refused MemoryFailure) y a fine b = absurd fine
not_said node id pdu r (Refused q) y a fine b = ap Refused (two_refusals _ q r b.0 a)
not_said node id pdu r _ y a fine b = absurd b

-- ---- keys

-- an update that is taken and a refusal exclude one another
taken_or_refused : (node : Node) (request : Request) (u : Update) (r : Refusal) → TakesUpdate node request u → RefusesUpdate node request r → ⊥
taken_or_refused node request u Down a b = true≢false (sym a.is_up ∙ b)
taken_or_refused node request u (Key e) a b = None≢Some e _ a.allowed.0 b.1
taken_or_refused node request u _ a b = b

refused_one : (node : Node) (request : Request) (r q : Refusal) → RefusesUpdate node request r → RefusesUpdate node request q → r ≡ q
refused_one node request Down Down a b = refl
refused_one node request Down (Key e) a b = absurd (true≢false (sym b.0 ∙ a))
refused_one node request (Key e) Down a b = absurd (true≢false (sym a.0 ∙ b))
refused_one node request (Key e) (Key f) a b = ap Key (same_some e f (sym a.1 ∙ b.1))
refused_one node request Down q a b = absurd b
refused_one node request (Key e) q a b = absurd b
refused_one node request r q a b = absurd a

loaded_line : (node : Node) (request : Request) (x y : Node) (reply : Reply) (m : Line) → Sound node → NodeStep node (loads request) (Loaded reply) x → NoFailure m → NodeStep node (loads request) m y → bare m ≡ Loaded reply
loaded_line node request x y reply (Loaded other) s a fine b =
    let u : b.0 ≡ a.0 = taken_one node request b.0 a.0 s b.1 a.1 in
    ap Loaded (same_reply other reply a.0 node.config.uid (subst (λ u. Confirms other u node.config.uid) u b.2) a.2)
loaded_line node request x y reply (Refused MemoryFailure) s a fine b = absurd fine
loaded_line node request x y reply (Refused r) s a fine b = absurd (taken_or_refused node request a.0 r a.1 b.0)
loaded_line node request x y reply _ s a fine b = absurd b

not_loaded : (node : Node) (request : Request) (y : Node) (r : Refusal) (m : Line) → RefusesUpdate node request r → NoFailure m → NodeStep node (loads request) m y → bare m ≡ Refused r
not_loaded node request y r (Loaded other) a fine b = absurd (taken_or_refused node request b.0 r b.1 a)
not_loaded node request y r (Refused MemoryFailure) a fine b = absurd fine
not_loaded node request y r (Refused q) a fine b = ap Refused (refused_one node request q r b.0 a)
not_loaded node request y r _ a fine b = absurd b

keyed_line : (node : Node) (update : Update) (authkey : List ℕ) (x y : Node) (told : ℕ) (m : Line) → Sound node → NodeStep node (keys update authkey) (Keyed told) x → NoFailure m → NodeStep node (keys update authkey) m y → bare m ≡ Keyed told
keyed_line node update authkey x y told (Keyed other) s a fine b =
    let r : b.0 ≡ a.0 = built_one b.0 a.0 authkey update b.1 a.1 in
    let u : b.2.0 ≡ a.2.0 = taken_one node a.0 b.2.0 a.2.0 s (subst (λ r. TakesUpdate node r b.2.0) r b.2.1) a.2.1 in
    ap Keyed (b.2.2 ∙ ap (λ u. u.id) u ∙ sym a.2.2)
keyed_line node update authkey x y told (Refused MemoryFailure) s a fine b = absurd fine
keyed_line node update authkey x y told (Refused q) s a fine b =
    absurd (taken_or_refused node a.0 a.2.0 q a.2.1 (subst (λ r. RefusesUpdate node r q) (built_one b.0 a.0 authkey update b.1 a.1) b.2))
keyed_line node update authkey x y told _ s a fine b = absurd b

not_keyed : (node : Node) (update : Update) (authkey : List ℕ) (request : Request) (y : Node) (r : Refusal) (m : Line) → Builds request authkey update → RefusesUpdate node request r → NoFailure m → NodeStep node (keys update authkey) m y → bare m ≡ Refused r
not_keyed node update authkey request y r (Keyed other) c a fine b =
    absurd (taken_or_refused node request b.2.0 r (subst (λ r. TakesUpdate node r b.2.0) (built_one b.0 request authkey update b.1 c) b.2.1) a)
not_keyed node update authkey request y r (Refused MemoryFailure) c a fine b = absurd fine
not_keyed node update authkey request y r (Refused q) c a fine b =
    ap Refused (refused_one node request q r (subst (λ r. RefusesUpdate node r q) (built_one b.0 request authkey update b.1 c) b.2) a)
not_keyed node update authkey request y r _ c a fine b = absurd b

-- ---- boot

same_truth : {P : Type 0} (a b : Bool) → (IsTrue a ↔ P) → (IsTrue b ↔ P) → a ≡ b
same_truth true true f g = refl
same_truth true false f g = sym (g.1 (f.0 refl))
same_truth false true f g = f.1 (g.0 refl)
same_truth false false f g = refl

decided_one : (s t : Slot) (image : List ℕ) (a b : Bool) → BootsBy s t image (Ok a) → BootsBy s t image (Ok b) → a ≡ b
decided_one (Filled key c f) (Filled mac d g) image a b x y = same_truth a b x y
decided_one Empty t image a b x y = cc
decided_one (Filled key c f) Empty image a b x y = cc

decided_or_refused : (s t : Slot) (image : List ℕ) (a : Bool) (e : Erc) → BootsBy s t image (Ok a) → BootsBy s t image (Err e) → ⊥
decided_or_refused (Filled key c f) (Filled mac d g) image a e x y = y
decided_or_refused Empty t image a e x y = cc
decided_or_refused (Filled key c f) Empty image a e x y = cc

err_one : (s t : Slot) (image : List ℕ) (e f : Erc) → BootsBy s t image (Err e) → BootsBy s t image (Err f) → e ≡ f
err_one (Filled key c x) (Filled mac d y) image e f a b = absurd a
err_one Empty t image e f a b = cc
err_one (Filled key c x) Empty image e f a b = cc

boots_or_refused : (node : Node) (image : List ℕ) (good : Bool) (x : Node) (r : Refusal) → DecidesBoot node image good x → RefusesBoot node image r → ⊥
boots_or_refused node image good x Down a b = true≢false (sym a.is_up ∙ b)
boots_or_refused node image good x (Key e) a (up, inl b) = true≢false (sym b.0 ∙ a.undecided)
boots_or_refused node image good x (Key e) a (up, inr b) = decided_or_refused (slot_at node.kept.slots 2) (slot_at node.kept.slots 3) image good e a.decided b.1
boots_or_refused node image good x _ a b = b

boot_refused_one : (node : Node) (image : List ℕ) (r q : Refusal) → RefusesBoot node image r → RefusesBoot node image q → r ≡ q
boot_refused_one node image Down Down a b = refl
boot_refused_one node image Down (Key e) a b = absurd (true≢false (sym b.0 ∙ a))
boot_refused_one node image (Key e) Down a b = absurd (true≢false (sym a.0 ∙ b))
boot_refused_one node image (Key e) (Key f) (u, inl a) (v, inl b) = ap Key (a.1 ∙ sym b.1)
boot_refused_one node image (Key e) (Key f) (u, inl a) (v, inr b) = absurd (true≢false (sym a.0 ∙ b.0))
boot_refused_one node image (Key e) (Key f) (u, inr a) (v, inl b) = absurd (true≢false (sym b.0 ∙ a.0))
boot_refused_one node image (Key e) (Key f) (u, inr a) (v, inr b) = ap Key (err_one (slot_at node.kept.slots 2) (slot_at node.kept.slots 3) image e f a.1 b.1)
boot_refused_one node image Down q a b = absurd b
boot_refused_one node image (Key e) q a b = absurd b
boot_refused_one node image r q a b = absurd a

booted_line : (node : Node) (image : List ℕ) (x y : Node) (good : Bool) (m : Line) → DecidesBoot node image good x → NodeStep node (boots image) m y → bare m ≡ Boot good
booted_line node image x y good (Boot other) a b = ap Boot (decided_one (slot_at node.kept.slots 2) (slot_at node.kept.slots 3) image other good b.decided a.decided)
booted_line node image x y good (Refused r) a b = absurd (boots_or_refused node image good x r a b.0)
booted_line node image x y good _ a b = absurd b

not_booted : (node : Node) (image : List ℕ) (y : Node) (r : Refusal) (m : Line) → RefusesBoot node image r → NodeStep node (boots image) m y → bare m ≡ Refused r
not_booted node image y r (Boot other) a b = absurd (boots_or_refused node image other y r b a)
not_booted node image y r (Refused q) a b = ap Refused (boot_refused_one node image q r b.0 a)
not_booted node image y r _ a b = absurd b

armed_line : (node y : Node) (m : Line) → NodeStep node arms m y → bare m ≡ Armed
armed_line node y Armed b = refl
armed_line node y _ b = absurd b

nothing_line : (node y : Node) (m : Line) → NodeStep node hears_nothing m y → bare m ≡ NoFrame
nothing_line node y NoFrame b = refl
nothing_line node y _ b = absurd b

-- two lines of one act, without failure and without a cut, are one, except for the source
pub line_one : (node : Node) (act : Act) (l m : Line) (x y : Node) → Sound node → act ≢ cuts → NoFailure l → NoFailure m → NodeStep node act l x → NodeStep node act m y → bare m ≡ bare l
line_one node (sends id payload) (Sent told v pdu) m x y s calm f g a b = sent_line node id payload v pdu x m y a.1 g b ∙ ap (λ d. Sent d v pdu) (sym a.0)
line_one node (sends id payload) (Refused MemoryFailure) m x y s calm f g a b = absurd f
line_one node (sends id payload) (Refused r) m x y s calm f g a b = not_sent node id payload r m y a.0 g b
line_one node (receives id pdu) (Accepted told v payload source) m x y s calm f g a b =
    said_line node id pdu (verdict.Accepted payload v) m y s a.1.judged g b ∙ said_as id payload v ∙ ap (λ d. Accepted d v payload None) (sym a.0)
line_one node (receives id pdu) FreshnessFailure m x y s calm f g a b = said_line node id pdu verdict.FreshnessFailure m y s a.0 g b ∙ said_fresh id
line_one node (receives id pdu) VerificationFailure m x y s calm f g a b = said_line node id pdu verdict.VerificationFailure m y s a.0 g b ∙ said_verify id
line_one node (receives id pdu) (Refused MemoryFailure) m x y s calm f g a b = absurd f
line_one node (receives id pdu) (Refused r) m x y s calm f g a b = not_said node id pdu r m y a.0 g b
line_one node (loads request) (Loaded reply) m x y s calm f g a b = loaded_line node request x y reply m s a g b
line_one node (loads request) (Refused MemoryFailure) m x y s calm f g a b = absurd f
line_one node (loads request) (Refused r) m x y s calm f g a b = not_loaded node request y r m a.0 g b
line_one node (keys update authkey) (Keyed told) m x y s calm f g a b = keyed_line node update authkey x y told m s a g b
line_one node (keys update authkey) (Refused MemoryFailure) m x y s calm f g a b = absurd f
line_one node (keys update authkey) (Refused r) m x y s calm f g a b = not_keyed node update authkey a.0 y r m a.1 a.2 g b
line_one node (boots image) (Boot good) m x y s calm f g a b = booted_line node image x y good m a b
line_one node (boots image) (Refused r) m x y s calm f g a b = not_booted node image y r m a.0 b
line_one node cuts l m x y s calm f g a b = absurd (calm refl)
line_one node arms Armed m x y s calm f g a b = armed_line node y m b
line_one node hears_nothing NoFrame m x y s calm f g a b = nothing_line node y m b
line_one node _ _ m x y s calm f g a b = absurd a

-- ---- with the source, and over a run

line_named : (world : World) (l m : Line) → bare m ≡ bare l → NamesSource world l → NamesSource world m → l ≡ m
line_named world (Accepted id v payload source) (Accepted id' v' payload' source') e a b =
    let i : id ≡ id' = cc in
    let w : v ≡ v' = cc in
    let p : payload ≡ payload' = cc in
    let s : source ≡ source' =
    a ∙ ap (λ d. source_of world d payload v) i ∙ ap (λ q. source_of world id' q v) p ∙ ap (source_of world id' payload') w ∙ sym b in
    ap (λ d. Accepted d v payload source) i ∙ ap (λ u. Accepted id' u payload source) w ∙ ap (λ q. Accepted id' v' q source) p ∙ ap (Accepted id' v' payload') s
line_named world (Accepted id v payload source) m e a b = cc
line_named world l (Accepted id v payload source) e a b = cc
line_named world l m e a b = sym e

not_cuts : (world : World) (e : Event) → NoCut e → act_of world e ≢ cuts
not_cuts world (event.Send node id payload) calm h = cc
not_cuts world (event.Deliver node number) calm h = heard (find (λ s. s.number == number) world.sent) h
  where
    heard : (o : Option SentLine) → hearing o ≡ cuts → ⊥
    heard None h = cc
    heard (Some s) h = cc
not_cuts world (event.Inject node id pdu) calm h = cc
not_cuts world (event.Load node request) calm h = cc
not_cuts world (event.Key node update authkey) calm h = cc
not_cuts world (event.Boot node image) calm h = cc
not_cuts world (event.Cut node torn) calm h = calm
not_cuts world (event.Stop node calls) calm h = cc
not_cuts world (event.Fail node calls) calm h = cc

-- in a world an event that is no cut has one line, if the disk doesn't fail
line_of_event : (world : World) (e : Event) (l m : Line) (v w : World) → SoundBus world → NoCut e → NoFailure l → NoFailure m → Step world e l v → Step world e m w → l ≡ m
line_of_event world e l m v w s calm f g a b =
    let x = step_at world e l v a in
    let y = step_at world e m w b in
    line_named world l m (line_one _ _ l m _ _ (s (node_of e) x.inside) (not_cuts world e calm) f g x.step y.step) a.source b.source

-- no line of an event that is no cut is `up`
not_up : (node : Node) (act : Act) (after : Node) → act ≢ cuts → NodeStep node act Up after → ⊥
not_up node cuts after calm step = calm refl
not_up node (sends id payload) after calm step = step
not_up node (receives id pdu) after calm step = step
not_up node (loads request) after calm step = step
not_up node (keys update authkey) after calm step = step
not_up node (boots image) after calm step = step
not_up node arms after calm step = step
not_up node hears_nothing after calm step = step

never_up : (world : World) (e : Event) (line : Line) (after : World) → NoCut e → Step world e line after → line ≡ Up → ⊥
never_up world e line after calm step up =
    let old : Node = node_at world (node_of e) in
    let new : Node = node_at after (node_of e) in
    not_up old (act_of world e) new (not_cuts world e calm) (subst (λ l. NodeStep old (act_of world e) l new) up (step_at world e line after step).step)

abbrev Calm : Instant → Type 0
Calm m = NoCut m.command × NoFailure m.line

same_calm : (start : World) (ms ns : Moments) (v w : World) → SoundBus start → commands_in ms ≡ commands_in ns → Each Calm ms → Each Calm ns → Run Step start ms v → Run Step start ns w → ms ≡ ns
same_calm start [] [] v w s e c d a b = refl
same_calm start [] (n ∷ ns) v w s e c d a b = cc
same_calm start (m ∷ ms) [] v w s e c d a b = cc
same_calm start (m ∷ ms) (n ∷ ns) v w s e c d a b =
    let command : m.command ≡ n.command = cc in
    let rest : commands_in ms ≡ commands_in ns = cc in
    let b0 = subst (λ e. Step start e n.line n.after) (sym command) b.0 in
    let line = line_of_event start m.command m.line n.line m.after n.after s c.0.0 c.0.1 d.0.1 a.0 b0 in
    let b1 = subst (λ l. Step start m.command l n.after) (sym line) b0 in
    let after : m.after ≡ n.after = step_one start m.command m.line m.after n.after s
    (λ up pending. absurd (never_up start m.command m.line m.after c.0.0 a.0 up)) a.0 b1 in
    let more = same_calm m.after ms ns v w (Sound-bus start m.command m.line m.after s a.0) rest c.1 d.1 a.1 (subst (λ t. Run Step t ns w) (sym after) b.1) in
    ap (λ x. x ∷ ms) (same_instant m n command line after) ∙ ap (λ xs. n ∷ xs) more

pub same_events : (start : World) (ms ns : Moments) (v w : World) → SoundBus start → commands_in ms ≡ commands_in ns → IsCalm ms → IsCalm ns → Run Step start ms v → Run Step start ns w → ms ≡ ns
same_events start ms ns v w s e c d a b = same_calm start ms ns v w s e (Each-All Calm ms c) (Each-All Calm ns d) a b
