-- No event is without a line
use Rattle.std.specs.Prelude.{◌≡◌, ℕ, zero, suc, ◌+◌, ◌*◌, ◌^◌, ◌<◌, ◌≤◌, ◌==◌, not, nat_le, bytes_eq, Bool, true, false, Option, None, Some, Result, Ok, Err, List, [], ◌∷◌, length, set, slice_get, option_map, All, get_or}
use Rattle.std.proofs.Common.{refl, sym, ap, subst, arith, inl, inr}
use Rattle.std.proofs.lemmas.Bool.{and_parts}
use Rattle.std.proofs.lemmas.Bool.Decides.{nat_tests}
use Rattle.std.proofs.lemmas.List.Elements.{All-nil, All-cons, All-head, All-tail}
use Rattle.std.proofs.lemmas.Option.{get_or_from_slice_get}
use Rattle.std.proofs.lemmas.Slice.Eq.{bytes_eq-Decides}
use Rattle.basics.specs.Numbers.{bytes_of, number_of}
use Rattle.basics.specs.Blocks.{IsBlock, zero_block}
use Rattle.she_aes.specs.Modes.{cbc}
use Rattle.she_kdf.specs.Derivation.{kdf}
use Rattle.she_kdf.specs.declared.Constant.TheVariants as constant
use Rattle.she_cmac.specs.Cmac.{cmac}
use Rattle.std.specs.List.{concat}
use Rattle.key_slots.specs.declared.memory.Slot.{Slot}
use Rattle.key_slots.specs.declared.memory.Slot.TheVariants.{Empty, Filled}
use Rattle.key_slots.specs.declared.refusals.Erc.{Erc}
use Rattle.key_slots.specs.declared.refusals.Erc.TheVariants.{NoSecureBoot, SequenceError}
use Rattle.key_slots.specs.Slots.{slot_at}
use Rattle.key_slots.specs.Usage.{usable}
use Rattle.key_slots.specs.declared.usage.Purpose.TheVariants.{Mac}
use Rattle.memory_update.specs.declared.messages.Request.{Request}
use Rattle.memory_update.specs.declared.messages.Reply.{Reply}
use Rattle.memory_update.specs.declared.messages.Update.{Update}
use Rattle.memory_update.specs.Loading.{Allows, slot_of}
use Rattle.memory_update.proofs.CallerLemmas.{Allows-some, Carries-Builds, IsRequest-Carries}
use Rattle.memory_update.specs.Messages.{two_blocks, head_number, plain, request_mac, sealed_counter, Builds, Confirms, IsUpdate, IsRequest}
use Rattle.secure_boot.specs.Booting.{Boots, BootsBy, bootmac, is_good, is_decided}
use Rattle.secured_pdu.specs.Frame.{secured_frame}
use Rattle.secured_pdu.specs.Verdict as verdict
use Rattle.secured_pdu.proofs.CallerLemmas.{verdict_at}
use Rattle.freshness_routes.specs.declared.routes.Direction.TheVariants.{Sends, Receives}
use Rattle.freshness_routes.specs.Changes.{last_freshness}
use Rattle.machine_runs.specs.Run.{Run, commands_in}
use Rattle.bus_machine.specs.declared.events.Event.{Event}
use Rattle.bus_machine.specs.declared.events.Event.TheVariants.{Send, Deliver, Inject, Load, Key, Boot, Cut, Stop, Fail}
use Rattle.bus_machine.specs.declared.lines.Line.{Line}
use Rattle.bus_machine.specs.declared.lines.Line.TheVariants as line
use Rattle.bus_machine.specs.declared.lines.Line.TheVariants.{Sent, Accepted, FreshnessFailure, VerificationFailure, Keyed, Loaded, Up, Armed, NoFrame, Refused}
use Rattle.bus_machine.specs.declared.lines.Refusal.{Refusal}
use Rattle.bus_machine.specs.declared.lines.Refusal.TheVariants as why
use Rattle.bus_machine.specs.declared.lines.Refusal.TheVariants.{Down, NoRoute, BadLength, Exhausted, MemoryFailure}
use Rattle.bus_machine.specs.Node.{Node, place_of, route_at, counter_at, route_key, powered, with_counter, with_slot, booted, first_node}
use Rattle.bus_machine.specs.Sound.{Sound}
use Rattle.bus_machine.specs.Steps.{Act, sends, receives, loads, keys, boots, cuts, arms, hears_nothing, when, first_of, has_length, has_route, send_refusal, receive_refusal, send_change, receive_change, NodeStep}
use Rattle.bus_machine.specs.Bus.{World, SentLine, node_of, Instant, Moments, act_of, hearing, sent_after, source_of, NamesSource, Step, no_config, node_at, SoundBus}
use Rattle.bus_laws.specs.Laws.{IsTypedUpdate, NoFailure}
use Rattle.bus_laws.proofs.Effects.{first_none, when_none, routed}
use Rattle.bus_laws.proofs.SoundSteps.{route_is}
use Rattle.bus_laws.proofs.BusSteps.{Sound-bus, Sound-run, as_many}

-- a line without a failure of the disk, and the node after it
pub record Goes (node : Node) (act : Act) : Type 0 where
  pub line : Line
  pub after : Node
  pub no_failure : NoFailure line
  pub step : NodeStep node act line after

-- ---- refusals

abbrev IsPlain : Refusal → Type 0
IsPlain MemoryFailure = ⊥
IsPlain _ = Unit {0}

abbrev IsPlainOption : Option Refusal → Type 0
IsPlainOption None = Unit {0}
IsPlainOption (Some refusal) = IsPlain refusal

-- the refusals of a send, and of what is received, are none of the disk
send_five : (a b c : Bool) (k : Option Erc) (d : Bool) → IsPlainOption (first_of (when a Down ∷ when b NoRoute ∷ when c BadLength ∷ option_map why.Key k ∷ when d Exhausted ∷ []))
send_five true b c k d = tt
send_five false true c k d = tt
send_five false false true k d = tt
send_five false false false (Some e) d = tt
send_five false false false None true = tt
send_five false false false None false = tt

receive_four : (a b c : Bool) (k : Option Erc) → IsPlainOption (first_of (when a Down ∷ when b NoRoute ∷ when c BadLength ∷ option_map why.Key k ∷ []))
receive_four true b c k = tt
receive_four false true c k = tt
receive_four false false true k = tt
receive_four false false false (Some e) = tt
receive_four false false false None = tt

plain_of : (o : Option Refusal) (refusal : Refusal) → o ≡ Some refusal → IsPlainOption o → IsPlain refusal
plain_of o refusal e h = subst IsPlainOption e h

send_plain : (node : Node) (id : ℕ) (payload : List ℕ) → IsPlainOption (send_refusal node id payload)
send_plain node id payload =
    let k : ℕ = place_of node id Sends in
    send_five (not node.up) (not (has_route node id Sends)) (not (has_length 1 60 payload)) (usable node.kept.slots (route_at node k).slot (is_good node.boot) Mac)
    (counter_at node k == last_freshness)

receive_plain : (node : Node) (id : ℕ) (pdu : List ℕ) → IsPlainOption (receive_refusal node id pdu)
receive_plain node id pdu =
    let k : ℕ = place_of node id Receives in
    receive_four (not node.up) (not (has_route node id Receives)) (not (has_length 5 64 pdu)) (usable node.kept.slots (route_at node k).slot (is_good node.boot) Mac)

send_refused : (node : Node) (id : ℕ) (payload : List ℕ) (refusal : Refusal) → IsPlain refusal → send_refusal node id payload ≡ Some refusal → Goes node (sends id payload)
send_refused node id payload MemoryFailure plain e = absurd plain
send_refused node id payload refusal plain e = record { line = Refused refusal; after = node; no_failure = tt; step = (e, refl) }

receive_refused : (node : Node) (id : ℕ) (pdu : List ℕ) (refusal : Refusal) → IsPlain refusal → receive_refusal node id pdu ≡ Some refusal → Goes node (receives id pdu)
receive_refused node id pdu MemoryFailure plain e = absurd plain
receive_refused node id pdu refusal plain e = record { line = Refused refusal; after = node; no_failure = tt; step = (e, refl) }

-- ---- lengths

not_false : (b : Bool) → not b ≡ false → b ≡ true
not_false true e = refl
not_false false e = cc

within : (least most : ℕ) (bytes : List ℕ) → has_length least most bytes ≡ true → (least ≤ length bytes) × (length bytes ≤ most)
within least most bytes e =
    let parts = and_parts (nat_le least (length bytes)) (nat_le (length bytes) most) e in
    let low = parts.0 in
    let high = parts.1 in
    (grind (arith, nat_tests), grind (arith, nat_tests))

-- the length is right if nothing is refused
third_none : (a b c : Bool) (rest : List (Option Refusal)) → first_of (when a Down ∷ when b NoRoute ∷ when (not c) BadLength ∷ rest) ≡ None → c ≡ true
third_none a b c rest e =
    let x = first_none (when a Down) (when b NoRoute ∷ when (not c) BadLength ∷ rest) e in
    let y = first_none (when b NoRoute) (when (not c) BadLength ∷ rest) x.1 in
    let z = first_none (when (not c) BadLength) rest y.1 in
    not_false c (when_none (not c) BadLength z.0)

-- ---- each act

sends_on : (node : Node) (id : ℕ) (payload : List ℕ) → (o : Option Refusal) → send_refusal node id payload ≡ o → Goes node (sends id payload)
sends_on node id payload (Some refusal) e =
    send_refused node id payload refusal (plain_of (send_refusal node id payload) refusal e (send_plain node id payload)) e
sends_on node id payload None e =
    let k : ℕ = place_of node id Sends in
    let v : ℕ = counter_at node k + 1 in
    let pdu : List ℕ = secured_frame (route_key node k) id payload v in
    let long = third_none (not node.up) (not (has_route node id Sends)) (has_length 1 60 payload) _ e in
    record {
      line = Sent id v pdu;
      after = with_counter (send_change node k) k v node;
      no_failure = tt;
      step = (refl, record { allowed = e; freshness_is = refl; pdu_is = record { is_payload = within 1 60 payload long; frame_is = refl }; after_is = refl });
    }

judged_on : (node : Node) (id : ℕ) (pdu : List ℕ) (o : verdict.Outcome) → receive_refusal node id pdu ≡ None
    → verdict.Verdict (route_key node (place_of node id Receives)) id (counter_at node (place_of node id Receives)) (route_at node (place_of node id Receives)).window pdu o
    → Goes node (receives id pdu)
judged_on node id pdu (verdict.Accepted payload v) e h = record {
  line = Accepted id v payload None;
  after = with_counter (receive_change node (place_of node id Receives) v) (place_of node id Receives) v node;
  no_failure = tt;
  step = (refl, record { judged = record { allowed = e; verdict_is = h }; after_is = refl });
}
judged_on node id pdu verdict.FreshnessFailure e h =
    record { line = FreshnessFailure; after = node; no_failure = tt; step = (record { allowed = e; verdict_is = h }, refl) }
judged_on node id pdu verdict.VerificationFailure e h =
    record { line = VerificationFailure; after = node; no_failure = tt; step = (record { allowed = e; verdict_is = h }, refl) }

receives_on : (node : Node) (id : ℕ) (pdu : List ℕ) → Sound node → (o : Option Refusal) → receive_refusal node id pdu ≡ o → Goes node (receives id pdu)
receives_on node id pdu s (Some refusal) e =
    receive_refused node id pdu refusal (plain_of (receive_refusal node id pdu) refusal e (receive_plain node id pdu)) e
receives_on node id pdu s None e =
    let k : ℕ = place_of node id Receives in
    let long = third_none (not node.up) (not (has_route node id Receives)) (has_length 5 64 pdu) _ e in
    let is = route_is node k s (routed node id pdu e).inside in
    let found = verdict_at (route_key node k) id (counter_at node k) (route_at node k).window pdu (is.window_least, is.window_most) (within 5 64 pdu long) in
    judged_on node id pdu found.0 e found.1

a_reply : (u : Update) (uid : List ℕ) → (reply : Reply) × Confirms reply u uid
a_reply u uid =
    let m4 : List (List ℕ) = two_blocks (number_of uid * 2 ^ 136 + u.id * 2 ^ 132 + u.auth * 2 ^ 128 + number_of (sealed_counter u)) in
    (record { m4 = m4; m5 = cmac (kdf u.key constant.Mac) (concat m4) }, record { m4_is = refl; m5_is = refl })

loads_on : (node : Node) (request : Request) (answer : Result Update Erc) → node.up ≡ true → Allows node.kept.slots (is_good node.boot) node.config.uid request answer
    → Goes node (loads request)
loads_on node request (Ok u) up allowed =
    let r = a_reply u node.config.uid in
    record {
      line = Loaded r.0;
      after = with_slot u.id (slot_of u) node;
      no_failure = tt;
      step = (u, record { is_up = up; allowed = allowed }, r.1, refl);
    }
loads_on node request (Err refusal) up allowed =
    record { line = Refused (why.Key refusal); after = node; no_failure = tt; step = ((up, allowed), refl) }

keys_on : (node : Node) (update : Update) (authkey : List ℕ) (request : Request) (answer : Result Update Erc) → Builds request authkey update → node.up ≡ true
    → Allows node.kept.slots (is_good node.boot) node.config.uid request answer → Goes node (keys update authkey)
keys_on node update authkey request (Ok u) builds up allowed = record {
  line = Keyed u.id;
  after = with_slot u.id (slot_of u) node;
  no_failure = tt;
  step = (request, builds, (u, record { is_up = up; allowed = allowed }, refl, refl));
}
keys_on node update authkey request (Err refusal) builds up allowed =
    record { line = Refused (why.Key refusal); after = node; no_failure = tt; step = (request, builds, (up, allowed), refl) }

a_request : (u : Update) (authkey : List ℕ) → IsUpdate u → (request : Request) × Builds request authkey u
a_request u authkey is =
    let m1 : List ℕ = bytes_of 16 (head_number u.uid u.id u.auth) in
    let m2 : List (List ℕ) = cbc (kdf authkey constant.Enc) zero_block (two_blocks (plain u 0)) in
    (record { m1 = m1; m2 = m2; m3 = request_mac authkey m1 m2 }, record { is_update = is; m1_is = refl; m2_is = refl; m3_is = refl })

-- whether the image has the stored MAC
a_boot : (boot_key boot_mac : Slot) (image : List ℕ) → (answer : Result Bool Erc) × BootsBy boot_key boot_mac image answer
a_boot (Filled key counter flags) (Filled mac counter' flags') image =
    let same : Bool = bytes_eq mac (bootmac key image) in
    let tells = bytes_eq-Decides mac (bootmac key image) in
    (Ok same, (tells.0, tells.1))
a_boot (Filled key counter flags) Empty image = (Err NoSecureBoot, refl)
a_boot Empty other image = (Err NoSecureBoot, refl)

boots_on : (node : Node) (image : List ℕ) (decided : Bool) (answer : Result Bool Erc) → node.up ≡ true → is_decided node.boot ≡ decided → Boots node.kept.slots image answer → Goes node (boots image)
boots_on node image true answer up is h =
    record { line = Refused (why.Key SequenceError); after = node; no_failure = tt; step = ((up, inl (is, refl)), refl) }
boots_on node image false (Ok good) up is h =
    record { line = line.Boot good; after = booted good node; no_failure = tt; step = record { is_up = up; undecided = is; decided = h; after_is = refl } }
boots_on node image false (Err refusal) up is h =
    record { line = Refused (why.Key refusal); after = node; no_failure = tt; step = ((up, inr (is, h)), refl) }

abbrev IsTypedAct : Act → Type 0
IsTypedAct (loads request) = IsRequest request
IsTypedAct (keys update authkey) = IsUpdate update × IsBlock authkey
IsTypedAct _ = Unit {0}

-- an act of a node while it is up, or while it is down
acts_on : (node : Node) (act : Act) (up : Bool) → Sound node → IsTypedAct act → node.up ≡ up → Goes node act
acts_on node (sends id payload) up s typed is = sends_on node id payload _ refl
acts_on node (receives id pdu) up s typed is = receives_on node id pdu s _ refl
acts_on node (loads request) true s typed is =
    let answer = Allows-some node.kept.slots (is_good node.boot) node.config.uid request s.slots typed in
    loads_on node request answer.0 is answer.1
acts_on node (loads request) false s typed is = record { line = Refused Down; after = node; no_failure = tt; step = (is, refl) }
acts_on node (keys update authkey) true s typed is =
    let r = a_request update authkey typed.0 in
    let is_request = IsRequest-Carries r.0 authkey update typed.1 (Carries-Builds r.0 authkey update r.1) in
    let answer = Allows-some node.kept.slots (is_good node.boot) node.config.uid r.0 s.slots is_request in
    keys_on node update authkey r.0 answer.0 r.1 is answer.1
acts_on node (keys update authkey) false s typed is =
    let r = a_request update authkey typed.0 in
    record { line = Refused Down; after = node; no_failure = tt; step = (r.0, r.1, is, refl) }
acts_on node (boots image) true s typed is =
    let answer = a_boot (slot_at node.kept.slots 2) (slot_at node.kept.slots 3) image in
    boots_on node image _ answer.0 is refl answer.1
acts_on node (boots image) false s typed is = record { line = Refused Down; after = node; no_failure = tt; step = (is, refl) }
acts_on node cuts up s typed is = record { line = Up; after = powered node.config node.kept; no_failure = tt; step = inl refl }
acts_on node arms up s typed is = record { line = Armed; after = node; no_failure = tt; step = refl }
acts_on node hears_nothing up s typed is = record { line = NoFrame; after = node; no_failure = tt; step = refl }

-- ---- the bus

-- the line with the number of the event that sent what is accepted
abbrev sourced : World → Line → Line
sourced world (Accepted id v payload source) = Accepted id v payload (source_of world id payload v)
sourced world other = other

sourced_step : (world : World) (node : Node) (act : Act) (line : Line) (after : Node) → NodeStep node act line after → NodeStep node act (sourced world line) after
sourced_step world node (receives id pdu) (Accepted told v payload source) after step = step
sourced_step world node act (Accepted told v payload source) after step = absurd step
sourced_step world node act line after step = step

sourced_failure : (world : World) (line : Line) → NoFailure line → NoFailure (sourced world line)
sourced_failure world (Accepted told v payload source) h = tt
sourced_failure world line h = h

sourced_names : (world : World) (line : Line) → NamesSource world (sourced world line)
sourced_names world (Accepted told v payload source) = refl
sourced_names world line = tt

typed_hearing : (found : Option SentLine) → IsTypedAct (hearing found)
typed_hearing None = tt
typed_hearing (Some s) = tt

typed_act : (world : World) (event : Event) → IsTypedUpdate event → IsTypedAct (act_of world event)
typed_act world (Send node id payload) typed = tt
typed_act world (Deliver node event) typed = typed_hearing _
typed_act world (Inject node id pdu) typed = tt
typed_act world (Load node request) typed = typed
typed_act world (Key node update authkey) typed = typed
typed_act world (Boot node image) typed = tt
typed_act world (Cut node torn) typed = tt
typed_act world (Stop node calls) typed = tt
typed_act world (Fail node calls) typed = tt

slice_of_inside : (nodes : List Node) (i : ℕ) → i < length nodes → (node : Node) × (slice_get nodes i ≡ Some node)
slice_of_inside [] i inside = absurd (omega (arith, inside))
slice_of_inside (node ∷ nodes) zero inside = (node, refl)
slice_of_inside (node ∷ nodes) (suc i) inside = slice_of_inside nodes i (omega (arith, inside))

pub goes_on : (start : World) (ms : Moments) (last : World) → SoundBus start → Run Step start ms last → (event : Event) → node_of event < length last.nodes → IsTypedUpdate event
    → (line : Line) × (after : World) × NoFailure line × Step last event line after
goes_on start ms last s run event inside typed =
    let i : ℕ = node_of event in
    let there = slice_of_inside last.nodes i inside in
    let at : node_at last i ≡ there.0 = get_or_from_slice_get last.nodes i there.0 (first_node no_config) there.1 in
    let sound = subst Sound at (Sound-run start ms last s run i inside) in
    let g = acts_on there.0 (act_of last event) _ sound (typed_act last event typed) refl in
    let told : Line = sourced last g.line in (
      told,
      record { nodes = set last.nodes i g.after; events = last.events + 1; sent = sent_after last event told },
      sourced_failure last g.line g.no_failure,
      record {
        one = record { before = there.0; after = g.after; was = there.1; step = sourced_step last there.0 (act_of last event) g.line g.after g.step; others = refl };
        source = sourced_names last g.line;
        events = refl;
        sent = refl;
      },
    )

-- ---- lists of events

abbrev CanBe : World → Event → Type 0
CanBe world event = (node_of event < length world.nodes) × IsTypedUpdate event

-- an event of the first of them is one of the other, which has as many nodes
can_still_be : (world after : World) (events : List Event) → length after.nodes ≡ length world.nodes → All (CanBe world) events → All (CanBe after) events
can_still_be world after events e all = λ k d inside. (subst (λ n. node_of (get_or events k d) < n) (sym e) (all k d inside).0, (all k d inside).1)

pub run_of_events : (start : World) (events : List Event) → SoundBus start → All (CanBe start) events
    → (ms : Moments) × (last : World) × Run Step start ms last × (commands_in ms ≡ events) × All (λ m. NoFailure m.line) ms
run_of_events start [] s all = ([], start, refl, refl, All-nil (λ (m : Instant). NoFailure m.line))
run_of_events start (event ∷ events) s all =
    let here = All-head (CanBe start) event events all in
    let next = goes_on start [] start s refl event here.0 here.1 in
    let after : World = next.1 in
    let sound = Sound-bus start event next.0 after s next.3 in
    let rest = run_of_events after events sound
    (can_still_be start after events (as_many start event next.0 after next.3) (All-tail (CanBe start) event events all)) in
    let m : Instant = record { command = event; line = next.0; after = after } in (
      m ∷ rest.0,
      rest.1,
      (next.3, rest.2),
      ap (λ (l : List Event). event ∷ l) rest.3,
      All-cons (λ (n : Instant). NoFailure n.line) m rest.0 next.2 rest.4,
    )
