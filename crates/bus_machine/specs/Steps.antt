-- What a node may answer to an act, and what it then is
use Rattle.std.specs.Prelude.{◌≡◌, ℕ, ◌+◌, ◌⊎◌, Bool, true, false, not, ◌&&◌, nat_lt, nat_le, ◌==◌, Option, None, Some}
use Rattle.std.specs.Prelude.{Ok, Err, List, [], ◌∷◌, length, option_map}
use Rattle.key_slots.specs.declared.memory.Slot.{Slot}
use Rattle.key_slots.specs.declared.refusals.Erc.TheVariants.{SequenceError}
use Rattle.key_slots.specs.declared.usage.Purpose.TheVariants.{Mac}
use Rattle.key_slots.specs.Usage.{usable}
use Rattle.memory_update.specs.declared.messages.Request.{Request}
use Rattle.memory_update.specs.declared.messages.Update.{Update}
use Rattle.memory_update.specs.Loading.{Allows, slot_of}
use Rattle.memory_update.specs.Messages.{Builds, Confirms}
use Rattle.secure_boot.specs.Booting.{Boots, is_good, is_decided}
use Rattle.secured_pdu.specs.Frame.{Secured}
use Rattle.secured_pdu.specs.Verdict as verdict
use Rattle.freshness_routes.specs.declared.routes.Direction.{Direction}
use Rattle.freshness_routes.specs.declared.routes.Direction.TheVariants.{Sends, Receives}
use Rattle.freshness_routes.specs.declared.routes.Route.{Route}
use Rattle.freshness_routes.specs.Changes.{last_freshness, bound_due}
use Rattle.bus_machine.specs.declared.lines.Line.{Line}
use Rattle.bus_machine.specs.declared.lines.Line.TheVariants.{Sent, Accepted, FreshnessFailure, VerificationFailure}
use Rattle.bus_machine.specs.declared.lines.Line.TheVariants.{Keyed, Loaded, Boot, Up, Armed, NoFrame, Refused}
use Rattle.bus_machine.specs.declared.lines.Refusal.{Refusal}
use Rattle.bus_machine.specs.declared.lines.Refusal.TheVariants.{Down, NoRoute, BadLength, Key, Exhausted}
use Rattle.bus_machine.specs.declared.lines.Refusal.TheVariants.{MemoryFailure}
use Rattle.bus_machine.specs.Node.{Node, Change, slot_to, bound_to, changed, place_of, route_at, bound_at, counter_at}
use Rattle.bus_machine.specs.Node.{route_key, powered, with_counter, with_slot, booted, failed, refused_up}

-- an act of a node
pub data Act : Type 0 where
  sends : (id : ℕ) (payload : List ℕ) → Act
  receives : (id : ℕ) (pdu : List ℕ) → Act
  loads : (request : Request) → Act
  keys : (update : Update) (authkey : List ℕ) → Act
  boots : (image : List ℕ) → Act
  cuts : Act
  arms : Act
  hears_nothing : Act

-- ---- refusals, the first that applies

abbrev pub when : Bool → Refusal → Option Refusal
when true refusal = Some refusal
when false refusal = None

abbrev pub first_of : List (Option Refusal) → Option Refusal
first_of [] = None
first_of (None ∷ rest) = first_of rest
first_of (Some refusal ∷ rest) = Some refusal

abbrev pub has_length : ℕ → ℕ → List ℕ → Bool
has_length least most bytes = nat_le least (length bytes) && nat_le (length bytes) most

abbrev pub has_route : Node → ℕ → Direction → Bool
has_route node id direction = nat_lt (place_of node id direction) (length node.config.routes)

-- the refusal of a MAC under a route's key; good says that a successful boot was made in this life
abbrev pub mac_refusal : List Slot → Bool → Route → Option Refusal
mac_refusal slots good route = option_map Key (usable slots route.slot good Mac)

-- the same of route k of a node
abbrev pub key_refusal : Node → ℕ → Option Refusal
key_refusal node k = mac_refusal node.kept.slots (is_good node.boot) (route_at node k)

-- the refusals of a send under a route that is there, and of a PDU that it receives
abbrev pub sender_refusals : List Slot → Bool → Route → ℕ → List ℕ → List (Option Refusal)
sender_refusals slots good route counter payload =
    when (not (has_length 1 60 payload)) BadLength ∷ mac_refusal slots good route
    ∷ when (counter == last_freshness) Exhausted ∷ []

abbrev pub receiver_refusals : List Slot → Bool → Route → List ℕ → List (Option Refusal)
receiver_refusals slots good route pdu = when (not (has_length 5 64 pdu)) BadLength ∷ mac_refusal slots good route ∷ []

abbrev pub send_refusal : Node → ℕ → List ℕ → Option Refusal
send_refusal node id payload = first_of (
    when (not node.up) Down
    ∷ when (not (has_route node id Sends)) NoRoute
    ∷ sender_refusals node.kept.slots (is_good node.boot) (route_at node (place_of node id Sends))
    (counter_at node (place_of node id Sends)) payload)

abbrev pub receive_refusal : Node → ℕ → List ℕ → Option Refusal
receive_refusal node id pdu = first_of (
    when (not node.up) Down
    ∷ when (not (has_route node id Receives)) NoRoute
    ∷ receiver_refusals node.kept.slots (is_good node.boot) (route_at node (place_of node id Receives)) pdu)

-- ---- the changes that are due

abbrev pub send_change : Node → ℕ → Option Change
send_change node k =
    option_map (bound_to k) (bound_due (bound_at node k) (route_at node k).reserve (counter_at node k + 1))

abbrev pub receive_change : Node → ℕ → ℕ → Option Change
receive_change node k v =
    option_map (bound_to k) (bound_due (bound_at node k) (route_at node k).reserve v)

-- ---- what an act comes to if nothing fails

-- the payload is sent with the freshness above the counter, as the one frame that is secured with it
pub record SendsFrame (node : Node) (id : ℕ) (payload : List ℕ) (v : ℕ) (pdu : List ℕ) (after : Node) : Type 0 where
  pub allowed : send_refusal node id payload ≡ None
  pub freshness_is : v ≡ counter_at node (place_of node id Sends) + 1
  pub pdu_is : Secured (route_key node (place_of node id Sends)) id payload v pdu
  pub after_is : after ≡ with_counter (send_change node (place_of node id Sends)) (place_of node id Sends) v node

-- what a node says of a PDU that its route takes
pub record JudgesFrame (node : Node) (id : ℕ) (pdu : List ℕ) (outcome : verdict.Outcome) : Type 0 where
  pub allowed : receive_refusal node id pdu ≡ None
  pub verdict_is : verdict.Verdict (route_key node (place_of node id Receives)) id
      (counter_at node (place_of node id Receives)) (route_at node (place_of node id Receives)).window pdu outcome

-- the payload is accepted with the freshness that its PDU was secured with
pub record AcceptsFrame (node : Node) (id : ℕ) (pdu payload : List ℕ) (v : ℕ) (after : Node) : Type 0 where
  pub judged : JudgesFrame node id pdu (verdict.Accepted payload v)
  pub after_is : after
      ≡ with_counter (receive_change node (place_of node id Receives) v) (place_of node id Receives) v node

-- the engine takes the update of the request
pub record TakesUpdate (node : Node) (request : Request) (u : Update) : Type 0 where
  pub is_up : node.up ≡ true
  pub allowed : Allows node.kept.slots (is_good node.boot) node.config.uid request (Ok u)

-- the engine refuses the request
abbrev pub RefusesUpdate : Node → Request → Refusal → Type 0
RefusesUpdate node request Down = node.up ≡ false
RefusesUpdate node request (Key refusal) =
    (node.up ≡ true) × Allows node.kept.slots (is_good node.boot) node.config.uid request (Err refusal)
RefusesUpdate node request _ = ⊥

-- a boot that isn't the first since the last power-up is refused before the slots are asked
abbrev pub RefusesBoot : Node → List ℕ → Refusal → Type 0
RefusesBoot node image Down = node.up ≡ false
RefusesBoot node image (Key refusal) =
    (node.up ≡ true)
    × (((is_decided node.boot ≡ true) × (refusal ≡ SequenceError))
    ⊎ ((is_decided node.boot ≡ false) × Boots node.kept.slots image (Err refusal)))
RefusesBoot node image _ = ⊥

pub record DecidesBoot (node : Node) (image : List ℕ) (good : Bool) (after : Node) : Type 0 where
  pub is_up : node.up ≡ true
  pub undecided : is_decided node.boot ≡ false
  pub decided : Boots node.kept.slots image (Ok good)
  pub after_is : after ≡ booted good node

-- what is kept is as before, or has the pending change
abbrev pub PowersUp : Node → Node → Type 0
PowersUp node after =
    (after ≡ powered node.config node.kept)
    ⊎ ((change : Change) × (node.pending ≡ Some change) × (after ≡ powered node.config (changed change node.kept)))

-- ---- what an act comes to if the disk fails

-- the change of a slot that a request is to make
abbrev pub MakesUpdate : Node → Request → Change → Type 0
MakesUpdate node request change = (u : Update) × TakesUpdate node request u × (change ≡ slot_to u.id (slot_of u))

-- the change of what is kept that an act is to make
abbrev pub Makes : Node → Act → Change → Type 0
Makes node (sends id payload) change =
    (send_refusal node id payload ≡ None) × (send_change node (place_of node id Sends) ≡ Some change)
Makes node (receives id pdu) change =
    (payload : List ℕ) × (v : ℕ) × JudgesFrame node id pdu (verdict.Accepted payload v)
    × (receive_change node (place_of node id Receives) v ≡ Some change)
Makes node (loads request) change = MakesUpdate node request change
Makes node (keys update authkey) change =
    (request : Request) × Builds request authkey update × MakesUpdate node request change
Makes node _ change = ⊥

-- a change was to be made, and the disk failed: the node is down, and the change is pending
abbrev pub Faults : Node → Act → Node → Type 0
Faults node act after = (change : Change) × Makes node act change × (after ≡ failed change node)

-- ---- the rows: what a node is told to do, the line that tells what came of it, and the node after it

abbrev pub NodeStep : Node → Act → Line → Node → Type 0
NodeStep node (sends id payload) (Sent told v pdu) after = (told ≡ id) × SendsFrame node id payload v pdu after
NodeStep node (sends id payload) (Refused MemoryFailure) after = Faults node (sends id payload) after
NodeStep node (sends id payload) (Refused refusal) after =
    (send_refusal node id payload ≡ Some refusal) × (after ≡ node)
NodeStep node (receives id pdu) (Accepted told v payload source) after =
    (told ≡ id) × AcceptsFrame node id pdu payload v after
NodeStep node (receives id pdu) FreshnessFailure after =
    JudgesFrame node id pdu verdict.FreshnessFailure × (after ≡ node)
NodeStep node (receives id pdu) VerificationFailure after =
    JudgesFrame node id pdu verdict.VerificationFailure × (after ≡ node)
NodeStep node (receives id pdu) (Refused MemoryFailure) after = Faults node (receives id pdu) after
NodeStep node (receives id pdu) (Refused refusal) after = (receive_refusal node id pdu ≡ Some refusal) × (after ≡ node)
NodeStep node (loads request) (Loaded reply) after =
    (u : Update) × TakesUpdate node request u × Confirms reply u node.config.uid
    × (after ≡ with_slot u.id (slot_of u) node)
NodeStep node (loads request) (Refused MemoryFailure) after = Faults node (loads request) after
NodeStep node (loads request) (Refused refusal) after = RefusesUpdate node request refusal × (after ≡ node)
NodeStep node (keys update authkey) (Keyed slot) after =
    (request : Request) × Builds request authkey update
    × ((u : Update) × TakesUpdate node request u × (slot ≡ u.id) × (after ≡ with_slot u.id (slot_of u) node))
NodeStep node (keys update authkey) (Refused MemoryFailure) after = Faults node (keys update authkey) after
NodeStep node (keys update authkey) (Refused refusal) after =
    (request : Request) × Builds request authkey update × RefusesUpdate node request refusal × (after ≡ node)
NodeStep node (boots image) (Boot good) after = DecidesBoot node image good after
NodeStep node (boots image) (Refused refusal) after = RefusesBoot node image refusal × (after ≡ node)
NodeStep node cuts Up after = PowersUp node after
NodeStep node cuts (Refused MemoryFailure) after = after ≡ refused_up node
NodeStep node arms Armed after = after ≡ node
NodeStep node hears_nothing NoFrame after = after ≡ node
NodeStep node _ _ after = ⊥
