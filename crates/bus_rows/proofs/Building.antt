-- Steps that are built: a world after an event, and updates by the request that a loading station makes
use Rattle.std.specs.Prelude.{◌≡◌, ℕ, ◌+◌, ◌&&◌, nat_lt, not, None, Some, Bool, true, false, List, [], ◌∷◌, ◌++◌, set, replicate, slice_get}
use Rattle.std.proofs.Common.{refl, sym, ◌∙◌, ap, subst}
use Rattle.basics.specs.Blocks.{IsBlock}
use Rattle.she_aes.specs.Modes.{cbc}
use Rattle.she_kdf.specs.Derivation.{kdf}
use Rattle.she_kdf.specs.declared.Constant.TheVariants.{Enc}
use Rattle.key_slots.specs.declared.memory.Slot.{Slot}
use Rattle.key_slots.specs.declared.memory.Slot.TheVariants.{Empty}
use Rattle.key_slots.specs.declared.refusals.Erc.{Erc}
use Rattle.key_slots.specs.declared.refusals.Erc.TheVariants.{KeyUpdateError}
use Rattle.key_slots.specs.Slots.{slot_at, counter_of}
use Rattle.key_slots.specs.Usage.{first_applying}
use Rattle.memory_update.specs.declared.messages.Reply.{Reply}
use Rattle.memory_update.specs.declared.messages.Request.{Request}
use Rattle.memory_update.specs.declared.messages.Update.{Update}
use Rattle.memory_update.specs.Messages.{two_blocks, head_number, plain, request_mac, Builds, Carries, Confirms, IsUpdate, id_of, auth_of}
use Rattle.memory_update.proofs.CallerLemmas.{HeadOf-Carries, id_of-head, auth_of-head, Carries-Builds, same_update, same_request, is_fit-carried, is_fit-other_mac}
use Rattle.memory_update.specs.Loading.{slot_of, key_in, is_meant, is_fit, head_refusals, load_refusals, authorising_key}
use Rattle.basics.specs.Numbers.{bytes_of}
use Rattle.bus_machine.specs.declared.events.Event.{Event}
use Rattle.bus_machine.specs.declared.lines.Line.{Line}
use Rattle.bus_machine.specs.declared.lines.Line.TheVariants.{Keyed, Loaded, Refused}
use Rattle.bus_machine.specs.declared.lines.Refusal.TheVariants.{Key}
use Rattle.bus_machine.specs.Node.{Node, Change, slot_to, bound_to, with_slot}
use Rattle.bus_machine.specs.Steps.{loads, keys, TakesUpdate, Makes, NodeStep}
use Rattle.bus_machine.specs.Bus.{World, Instant, node_of, act_of, sent_after, NamesSource, Step}
use Rattle.secure_boot.specs.Booting.{is_good}

-- ---- the bus

-- the world after an event, if its node became this one
abbrev pub next : World → Event → Line → Node → World
next w e l n = record { nodes = set w.nodes (node_of e) n; events = w.events + 1; sent = sent_after w e l }

pub goes : (w : World) (e : Event) (l : Line) (old new : Node) → slice_get w.nodes (node_of e) ≡ Some old → NodeStep old (act_of w e) l new → NamesSource w l → Step w e l (next w e l new)
goes w e l old new was step source = record {
  one = record { before = old; after = new; was = was; step = step; others = refl };
  source = source;
  events = refl;
  sent = refl;
}

abbrev pub at : Event → Line → World → Instant
at e l w = record { command = e; line = l; after = w }

-- ---- updates

-- the request of an update under an authorising key
abbrev pub request : Update → List ℕ → Request
request u a = record {
  m1 = bytes_of 16 (head_number u.uid u.id u.auth);
  m2 = cbc (kdf a Enc) (replicate 16 0) (two_blocks (plain u 0));
  m3 = request_mac a (bytes_of 16 (head_number u.uid u.id u.auth)) (cbc (kdf a Enc) (replicate 16 0) (two_blocks (plain u 0)));
}

pub builds : (u : Update) (a : List ℕ) → IsUpdate u → Builds (request u a) a u
builds u a is = record { is_update = is; m1_is = refl; m2_is = refl; m3_is = refl }

-- the five refusals of an update that is built, by its own ID, AuthID and content
abbrev pub refusals_of : List Slot → Bool → List ℕ → Update → List (Bool × Erc)
refusals_of slots good uid u =
    head_refusals slots good u.id u.auth
    ++ (not (is_meant uid (slot_at slots u.id) u.uid && nat_lt (counter_of (slot_at slots u.id)) u.counter), KeyUpdateError) ∷ []

-- they are those of its request, if the authorising slot holds the key
refusals_are : (slots : List Slot) (good : Bool) (uid : List ℕ) (u : Update) (a : List ℕ) → IsBlock a → IsUpdate u → key_in (slot_at slots u.auth) ≡ a
    → load_refusals slots good uid (request u a) ≡ refusals_of slots good uid u
refusals_are slots good uid u a is_key is held =
    let r : Request = request u a in
    let carries = Carries-Builds r a u (builds u a is) in
    let of = HeadOf-Carries r a u carries in
    let i : id_of r.m1 ≡ u.id = id_of-head r.m1 _ of in
    let j : auth_of r.m1 ≡ u.auth = auth_of-head r.m1 _ of in
    let k : authorising_key slots r ≡ a = ap (λ n. key_in (slot_at slots n)) j ∙ held in
    ap (λ n. head_refusals slots good n (auth_of r.m1) ++ (not (is_fit uid (slot_at slots n) (authorising_key slots r) r), KeyUpdateError) ∷ []) i
    ∙ ap (λ n. head_refusals slots good u.id n ++ (not (is_fit uid (slot_at slots u.id) (authorising_key slots r) r), KeyUpdateError) ∷ []) j
    ∙ ap (λ x. head_refusals slots good u.id u.auth ++ (not (is_fit uid (slot_at slots u.id) x r), KeyUpdateError) ∷ []) k
    ∙ ap (λ b. head_refusals slots good u.id u.auth ++ (not b, KeyUpdateError) ∷ []) (is_fit-carried uid (slot_at slots u.id) a r u is_key carries)

-- what is known of an update and the key that is given for it
pub record Given (slots : List Slot) (u : Update) (a : List ℕ) : Type 0 where
  pub is_key : IsBlock a
  pub is_update : IsUpdate u
  pub held : key_in (slot_at slots u.auth) ≡ a

pub taken_request : (n : Node) (u : Update) (a : List ℕ) → n.up ≡ true → Given n.kept.slots u a → first_applying (refusals_of n.kept.slots (is_good n.boot) n.config.uid u) ≡ None
    → TakesUpdate n (request u a) u
taken_request n u a up g none =
    let r : Request = request u a in
    let carries = Carries-Builds r a u (builds u a g.is_update) in
    let j : auth_of r.m1 ≡ u.auth = auth_of-head r.m1 _ (HeadOf-Carries r a u carries) in
    let k : authorising_key n.kept.slots r ≡ a = ap (λ x. key_in (slot_at n.kept.slots x)) j ∙ g.held in
    let clear : first_applying (load_refusals n.kept.slots (is_good n.boot) n.config.uid r) ≡ None =
    ap first_applying (refusals_are n.kept.slots (is_good n.boot) n.config.uid u a g.is_key g.is_update g.held) ∙ none in
    record { is_up = up; allowed = (clear, subst (λ x. Carries r x u) (sym k) carries) }

pub keyed : (n : Node) (u : Update) (a : List ℕ) → n.up ≡ true → Given n.kept.slots u a → first_applying (refusals_of n.kept.slots (is_good n.boot) n.config.uid u) ≡ None
    → NodeStep n (keys u a) (Keyed u.id) (with_slot u.id (slot_of u) n)
keyed n u a up g none = (request u a, builds u a g.is_update, (u, taken_request n u a up g none, refl, refl))

pub makes_update : (n : Node) (u : Update) (a : List ℕ) → n.up ≡ true → Given n.kept.slots u a → first_applying (refusals_of n.kept.slots (is_good n.boot) n.config.uid u) ≡ None
    → Makes n (keys u a) (slot_to u.id (slot_of u))
makes_update n u a up g none = (request u a, builds u a g.is_update, (u, taken_request n u a up g none, refl))

pub not_keyed : (n : Node) (u : Update) (a : List ℕ) (refusal : Erc) → n.up ≡ true → Given n.kept.slots u a → first_applying (refusals_of n.kept.slots (is_good n.boot) n.config.uid u) ≡ Some refusal
    → NodeStep n (keys u a) (Refused (Key refusal)) n
not_keyed n u a refusal up g first =
    let r : Request = request u a in
    (r, builds u a g.is_update, (up, ap first_applying (refusals_are n.kept.slots (is_good n.boot) n.config.uid u a g.is_key g.is_update g.held) ∙ first), refl)

-- if one of the first four refusals applies, the given key doesn't matter
first_of_front : (first rest : List (Bool × Erc)) (refusal : Erc) → first_applying first ≡ Some refusal → first_applying (first ++ rest) ≡ Some refusal
first_of_front [] rest refusal e = cc
first_of_front ((true, other) ∷ first) rest refusal e = e
first_of_front ((false, other) ∷ first) rest refusal e = first_of_front first rest refusal e

pub not_keyed_by_head : (n : Node) (u : Update) (a : List ℕ) (refusal : Erc) → n.up ≡ true → IsUpdate u → first_applying (head_refusals n.kept.slots (is_good n.boot) u.id u.auth) ≡ Some refusal
    → NodeStep n (keys u a) (Refused (Key refusal)) n
not_keyed_by_head n u a refusal up is first =
    let r : Request = request u a in
    let b = builds u a is in
    let of = HeadOf-Carries r a u (Carries-Builds r a u b) in
    let slots : List Slot = n.kept.slots in
    let good : Bool = is_good n.boot in
    let head : first_applying (head_refusals slots good (id_of r.m1) (auth_of r.m1)) ≡ Some refusal =
    ap (λ i. first_applying (head_refusals slots good i (auth_of r.m1))) (id_of-head r.m1 _ of) ∙ ap (λ j. first_applying (head_refusals slots good u.id j)) (auth_of-head r.m1 _ of) ∙ first in
    (r, b, (up, first_of_front (head_refusals slots good (id_of r.m1) (auth_of r.m1)) _ refusal head), refl)

-- such an act makes one change of a slot
target_in : Change → ℕ
target_in (slot_to target slot) = target
target_in (bound_to k bound) = 0

slot_put_by : Change → Slot
slot_put_by (slot_to target slot) = slot
slot_put_by (bound_to k bound) = Empty

same_change : (t target : ℕ) (held slot : Slot) → slot_to t held ≡ slot_to target slot → (t ≡ target) × (held ≡ slot)
unfolding target_in slot_put_by
same_change t target held slot e = (ap target_in e, ap slot_put_by e)

pub only_update : (n : Node) (u : Update) (a : List ℕ) (t : ℕ) (slot : Slot) → Given n.kept.slots u a → Makes n (keys u a) (slot_to t slot)
    → (t ≡ u.id) × (slot ≡ slot_of u)
only_update n u a t slot g makes =
    let r : Request = makes.0 in
    let v : Update = makes.2.0 in
    let carries = Carries-Builds r a u makes.1 in
    let j : auth_of r.m1 ≡ u.auth = auth_of-head r.m1 _ (HeadOf-Carries r a u carries) in
    let k : authorising_key n.kept.slots r ≡ a = ap (λ x. key_in (slot_at n.kept.slots x)) j ∙ g.held in
    let one : v ≡ u = same_update r a v u g.is_key (subst (λ x. Carries r x v) k makes.2.1.allowed.1) carries in
    let parts = same_change t v.id slot (slot_of v) makes.2.2 in
    (parts.0 ∙ ap (λ w. w.id) one, parts.1 ∙ ap slot_of one)

-- ---- loads

-- if a request is built of an update, what the engine says of the update it says of the request
pub built_is : (r : Request) (u : Update) (a : List ℕ) → Builds r a u → IsUpdate u → request u a ≡ r
built_is r u a b is = same_request (request u a) r a u (builds u a is) b

pub loaded : (n : Node) (r : Request) (reply : Reply) (u : Update) (a : List ℕ) → n.up ≡ true → Builds r a u → Given n.kept.slots u a
    → first_applying (refusals_of n.kept.slots (is_good n.boot) n.config.uid u) ≡ None → Confirms reply u n.config.uid → NodeStep n (loads r) (Loaded reply) (with_slot u.id (slot_of u) n)
loaded n r reply u a up b g none confirms =
    (u, subst (λ x. TakesUpdate n x u) (built_is r u a b g.is_update) (taken_request n u a up g none), confirms, refl)

pub not_loaded : (n : Node) (r : Request) (u : Update) (a : List ℕ) (refusal : Erc) → n.up ≡ true → Builds r a u → Given n.kept.slots u a
    → first_applying (refusals_of n.kept.slots (is_good n.boot) n.config.uid u) ≡ Some refusal → NodeStep n (loads r) (Refused (Key refusal)) n
not_loaded n r u a refusal up b g first =
    let clear : first_applying (load_refusals n.kept.slots (is_good n.boot) n.config.uid (request u a)) ≡ Some refusal =
    ap first_applying (refusals_are n.kept.slots (is_good n.boot) n.config.uid u a g.is_key g.is_update g.held) ∙ first in
    ((up, subst (λ x. first_applying (load_refusals n.kept.slots (is_good n.boot) n.config.uid x) ≡ Some refusal) (built_is r u a b g.is_update) clear), refl)

-- a refusal that applies after those that don't
first_behind : (front : List (Bool × Erc)) (refusal : Erc) → first_applying front ≡ None → first_applying (front ++ (true, refusal) ∷ []) ≡ Some refusal
first_behind [] refusal e = refl
first_behind ((true, other) ∷ front) refusal e = absurd (cc e)
first_behind ((false, other) ∷ front) refusal e = first_behind front refusal e

-- another key than that of the authorising slot gives another M3
pub not_keyed_by_mac : (n : Node) (u : Update) (a key : List ℕ) → n.up ≡ true → IsUpdate u → key_in (slot_at n.kept.slots u.auth) ≡ key
    → (request_mac a (request u a).m1 (request u a).m2 ≡ request_mac key (request u a).m1 (request u a).m2 → ⊥)
    → first_applying (head_refusals n.kept.slots (is_good n.boot) u.id u.auth) ≡ None → NodeStep n (keys u a) (Refused (Key KeyUpdateError)) n
not_keyed_by_mac n u a key up is held differs none =
    let r : Request = request u a in
    let b = builds u a is in
    let of = HeadOf-Carries r a u (Carries-Builds r a u b) in
    let slots : List Slot = n.kept.slots in
    let good : Bool = is_good n.boot in
    let uid : List ℕ = n.config.uid in
    let i : id_of r.m1 ≡ u.id = id_of-head r.m1 _ of in
    let j : auth_of r.m1 ≡ u.auth = auth_of-head r.m1 _ of in
    let k : authorising_key slots r ≡ key = ap (λ x. key_in (slot_at slots x)) j ∙ held in
    let unfit : is_fit uid (slot_at slots (id_of r.m1)) (authorising_key slots r) r ≡ false =
    ap (λ x. is_fit uid (slot_at slots (id_of r.m1)) x r) k ∙ is_fit-other_mac uid (slot_at slots (id_of r.m1)) key r differs in
    let head : first_applying (head_refusals slots good (id_of r.m1) (auth_of r.m1)) ≡ None =
    ap (λ x. first_applying (head_refusals slots good x (auth_of r.m1))) i ∙ ap (λ x. first_applying (head_refusals slots good u.id x)) j ∙ none in
    let first : first_applying (load_refusals slots good uid r) ≡ Some KeyUpdateError =
    ap (λ c. first_applying (head_refusals slots good (id_of r.m1) (auth_of r.m1) ++ (not c, KeyUpdateError) ∷ [])) unfit
    ∙ first_behind (head_refusals slots good (id_of r.m1) (auth_of r.m1)) KeyUpdateError head in
    (r, b, (up, first), refl)
