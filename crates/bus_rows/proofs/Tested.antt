-- The four theorems of a list of moments that is written out, from what can be computed of it
use Rattle.std.specs.Prelude.{◌≡◌, ℕ, zero, suc, ◌<◌, ◌==◌, ◌&&◌, ◌||◌, not, nat_lt, Bool, true, List, [], ◌∷◌, ◌++◌, AllPairs, length, set, get_or}
use Rattle.std.proofs.Common.{sym, subst, arith, inl, inr, append_assoc, append-nil, get_or-set_same, get_or-set_other}
use Rattle.std.specs.List.{list_all}
use Rattle.std.proofs.lemmas.Bool.{and_parts}
use Rattle.std.proofs.lemmas.Bool.Decides.{nat_tests, eqb_tells}
use Rattle.std.proofs.lemmas.List.Kept.{AllPairs-cons}
use Rattle.std.proofs.lemmas.List.Sums.{AllPass-from_list_all}
use Rattle.key_slots.specs.declared.memory.Slot.{Slot}
use Rattle.key_slots.specs.declared.memory.Slot.TheVariants.{Empty, Filled}
use Rattle.key_slots.specs.Slots.{slot_at, counter_of, is_empty}
use Rattle.bus_machine.specs.declared.lines.Line.{Line}
use Rattle.bus_machine.specs.declared.lines.Line.TheVariants.{Sent, Accepted}
use Rattle.bus_machine.specs.Node.{Node, first_node}
use Rattle.bus_machine.specs.Bus.{World, Instant, Moments, node_of, no_config, state_after}
use Rattle.bus_machine.specs.Freshness.{AcceptedRises, Rising, SentRises, Single}
use Rattle.bus_machine.specs.Authentic.{RightLine, Authentic}
use Rattle.bus_machine.specs.KeysKept.{slot_in, Acknowledges, HoldsUpdate, UpdatesHold, GoesOn, SlotsGoOn}

-- ---- freshness, by a test of each and each later line

abbrev pairs_pass : {A : Type 0} → (A → A → Bool) → List A → Bool
pairs_pass p [] = true
pairs_pass p (x ∷ xs) = list_all (p x) xs && pairs_pass p xs

AllPairs-passed : {A : Type 0} (p : A → A → Bool) (R : A → A → Type 0) → ((x y : A) → p x y ≡ true → R x y) → (xs : List A) → pairs_pass p xs ≡ true → AllPairs R xs
AllPairs-passed p R sound [] h = λ i j d before inside. absurd (omega (arith, inside))
AllPairs-passed p R sound (x ∷ xs) h =
    let parts = and_parts (list_all (p x) xs) (pairs_pass p xs) h in
    let each = AllPass-from_list_all (p x) xs parts.0 in
    AllPairs-cons R x xs (λ i d inside. sound x (get_or xs i d) (each i d inside)) (AllPairs-passed p R sound xs parts.1)

-- of two accepted lines of one Data ID, whichever nodes accepted
abbrev accepted_rise : Line → Line → Bool
accepted_rise (Accepted id v payload source) (Accepted id' v' payload' source') = not (id == id') || nat_lt v v'
accepted_rise _ _ = true

accepted_rises : (l k : Line) → accepted_rise l k ≡ true → AcceptedRises l k
accepted_rises (Accepted id v payload source) (Accepted id' v' payload' source') h = λ same. grind (arith, nat_tests)
accepted_rises l k h = tt

abbrev pub all_accepted_rise : Moments → Bool
all_accepted_rise = pairs_pass (λ m n. accepted_rise m.line n.line)

pub Rising-passed : (ms : Moments) → all_accepted_rise ms ≡ true → Rising ms
Rising-passed ms h =
    AllPairs-passed (λ (m n : Instant). accepted_rise m.line n.line) (λ (m n : Instant). node_of m.command ≡ node_of n.command → AcceptedRises m.line n.line)
    (λ m n p. λ same. accepted_rises m.line n.line p) ms h

abbrev sent_rise : Line → Line → Bool
sent_rise (Sent id v pdu) (Sent id' v' pdu') = not (id == id') || nat_lt v v'
sent_rise _ _ = true

sent_rises : (l k : Line) → sent_rise l k ≡ true → SentRises l k
sent_rises (Sent id v pdu) (Sent id' v' pdu') h = λ same. grind (arith, nat_tests)
sent_rises l k h = tt

abbrev pub all_sent_rise : Moments → Bool
all_sent_rise = pairs_pass (λ m n. sent_rise m.line n.line)

pub Single-passed : (ms : Moments) → all_sent_rise ms ≡ true → Single ms
Single-passed ms h =
    AllPairs-passed (λ (m n : Instant). sent_rise m.line n.line) (λ (m n : Instant). SentRises m.line n.line)
    (λ m n p. sent_rises m.line n.line p) ms h

-- ---- each line, after those before it

abbrev pub EachRight : World → Moments → Moments → Type 0
EachRight start front [] = Unit {0}
EachRight start front (m ∷ ms) = RightLine start front m m.line × EachRight start (front ++ m ∷ []) ms

right_from : (start : World) (front ms : Moments) → EachRight start front ms → (done : Moments) (m : Instant) (rest : Moments) → ms ≡ done ++ m ∷ rest
    → RightLine start (front ++ done) m m.line
right_from start front [] each [] m rest e = absurd (cc e)
right_from start front [] each (d ∷ done) m rest e = absurd (cc e)
right_from start front (x ∷ ms) each [] m rest e =
    let same : x ≡ m = cc e in
    subst (λ n. RightLine start (front ++ []) n n.line) same (subst (λ l. RightLine start l x x.line) (sym (append-nil front)) each.0)
right_from start front (x ∷ ms) each (d ∷ done) m rest e =
    let same : x ≡ d = cc e in
    let others : ms ≡ done ++ m ∷ rest = cc e in
    subst (λ n. RightLine start (front ++ n ∷ done) m m.line) same
    (subst (λ l. RightLine start l m m.line) (append_assoc front (x ∷ []) done) (right_from start (front ++ x ∷ []) ms each.1 done m rest others))

pub Authentic-each : (start : World) (ms : Moments) → EachRight start [] ms → Authentic start ms
Authentic-each start ms each done m rest e = right_from start [] ms each done m rest e

-- ---- updates that were acknowledged, and what the slot holds after each prefix of the moments since

abbrev pub KeptSince : ℕ → ℕ → Slot → World → Moments → Moments → Type 0
KeptSince i t slot w front [] = HoldsUpdate i t slot w front
KeptSince i t slot w front (n ∷ rest) = HoldsUpdate i t slot w front × KeptSince i t slot w (front ++ n ∷ []) rest

abbrev pub EachKept : World → Moments → Type 0
EachKept before [] = Unit {0}
EachKept before (m ∷ ms) = ((i t : ℕ) (slot : Slot) → Acknowledges i t slot before m → KeptSince i t slot m.after [] ms) × EachKept m.after ms

kept_at : (i t : ℕ) (slot : Slot) (w : World) (front rest : Moments) → KeptSince i t slot w front rest → (since later : Moments) → rest ≡ since ++ later
    → HoldsUpdate i t slot w (front ++ since)
kept_at i t slot w front [] kept [] later e = subst (HoldsUpdate i t slot w) (sym (append-nil front)) kept
kept_at i t slot w front (n ∷ rest) kept [] later e = subst (HoldsUpdate i t slot w) (sym (append-nil front)) kept.0
kept_at i t slot w front [] kept (x ∷ since) later e = absurd (cc e)
kept_at i t slot w front (n ∷ rest) kept (x ∷ since) later e =
    let same : n ≡ x = cc e in
    let others : rest ≡ since ++ later = cc e in
    subst (λ y. HoldsUpdate i t slot w (front ++ y ∷ since)) same
    (subst (HoldsUpdate i t slot w) (append_assoc front (n ∷ []) since) (kept_at i t slot w (front ++ n ∷ []) rest kept.1 since later others))

updates_from : (before : World) (ms : Moments) → EachKept before ms → (done : Moments) (m : Instant) (since later : Moments) (i t : ℕ) (slot : Slot)
    → ms ≡ done ++ m ∷ since ++ later → Acknowledges i t slot (state_after before done) m → HoldsUpdate i t slot m.after since
updates_from before [] each [] m since later i t slot e a = absurd (cc e)
updates_from before [] each (d ∷ done) m since later i t slot e a = absurd (cc e)
updates_from before (x ∷ ms) each [] m since later i t slot e a =
    let same : x ≡ m = cc e in
    let others : ms ≡ since ++ later = cc e in
    let kept = each.0 i t slot (subst (Acknowledges i t slot before) (sym same) a) in
    subst (λ (y : Instant). HoldsUpdate i t slot y.after since) same (kept_at i t slot x.after [] ms kept since later others)
updates_from before (x ∷ ms) each (d ∷ done) m since later i t slot e a =
    let same : x ≡ d = cc e in
    let others : ms ≡ done ++ m ∷ since ++ later = cc e in
    updates_from x.after ms each.1 done m since later i t slot others (subst (λ (y : Instant). Acknowledges i t slot (state_after y.after done) m) (sym same) a)

pub UpdatesHold-each : (start : World) (ms : Moments) → EachKept start ms → UpdatesHold start ms
UpdatesHold-each start ms each done m since later i t slot e a none = updates_from start ms each done m since later i t slot e a

-- ---- slots that go on from each world to the next

pub goes_on_same : (slot : Slot) → GoesOn slot slot
goes_on_same slot = record { counter = omega arith; filled = λ e. e }

goes_on_twice : (a b c : Slot) → GoesOn a b → GoesOn b c → GoesOn a c
goes_on_twice a b c p q = let x = p.counter in let y = q.counter in record { counter = omega (arith, x, y); filled = λ e. p.filled (q.filled e) }

filled_above : (old new : Slot) → counter_of old < counter_of new → is_empty new ≡ true → is_empty old ≡ true
filled_above old Empty more e = absurd (omega (arith, more))
filled_above old (Filled key counter flags) more e = cc

-- a slot that is put, with a greater counter, among the others
pub put_goes_on : (slots : List Slot) (target : ℕ) (new : Slot) → target < length slots → counter_of (slot_at slots target) < counter_of new
    → (t : ℕ) → GoesOn (slot_at slots t) (slot_at (set slots target new) t)
put_goes_on slots target new inside more t = elim (eqb_tells t target) [
  | inl same ↦
      let at : slot_at (set slots target new) target ≡ new = get_or-set_same slots target new Empty inside in
      let here : GoesOn (slot_at slots target) new = record { counter = omega (arith, more); filled = filled_above (slot_at slots target) new more } in
      subst (λ i. GoesOn (slot_at slots i) (slot_at (set slots target new) i)) (sym same.1) (subst (GoesOn (slot_at slots target)) (sym at) here)
  | inr other ↦ subst (GoesOn (slot_at slots t)) (sym (get_or-set_other slots target t new Empty other.1)) (goes_on_same (slot_at slots t))
]

abbrev slot_among : List Node → ℕ → ℕ → Slot
slot_among nodes i t = slot_at (get_or nodes i (first_node no_config)).kept.slots t

two_among : (l r l' r' : Node) → ((t : ℕ) → GoesOn (slot_at l.kept.slots t) (slot_at l'.kept.slots t)) → ((t : ℕ) → GoesOn (slot_at r.kept.slots t) (slot_at r'.kept.slots t))
    → (i t : ℕ) → GoesOn (slot_among (l ∷ r ∷ []) i t) (slot_among (l' ∷ r' ∷ []) i t)
two_among l r l' r' left right zero t = left t
two_among l r l' r' left right (suc zero) t = right t
two_among l r l' r' left right (suc (suc i)) t = goes_on_same _

-- a world of two nodes, and the next
pub two_go_on : (before after : World) (l r l' r' : Node) → before.nodes ≡ l ∷ r ∷ [] → after.nodes ≡ l' ∷ r' ∷ []
    → ((t : ℕ) → GoesOn (slot_at l.kept.slots t) (slot_at l'.kept.slots t)) → ((t : ℕ) → GoesOn (slot_at r.kept.slots t) (slot_at r'.kept.slots t))
    → (i t : ℕ) → GoesOn (slot_in before i t) (slot_in after i t)
two_go_on before after l r l' r' b a left right i t =
    subst (λ ns. GoesOn (slot_among ns i t) (slot_among after.nodes i t)) (sym b)
    (subst (λ ns. GoesOn (slot_among (l ∷ r ∷ []) i t) (slot_among ns i t)) (sym a) (two_among l r l' r' left right i t))

abbrev pub EachGoesOn : World → Moments → Type 0
EachGoesOn before [] = Unit {0}
EachGoesOn before (m ∷ ms) = ((i t : ℕ) → GoesOn (slot_in before i t) (slot_in m.after i t)) × EachGoesOn m.after ms

goes_on_since : (before : World) (ms : Moments) → EachGoesOn before ms → (since later : Moments) (i t : ℕ) → ms ≡ since ++ later
    → GoesOn (slot_in before i t) (slot_in (state_after before since) i t)
goes_on_since before ms each [] later i t e = goes_on_same (slot_in before i t)
goes_on_since before [] each (x ∷ since) later i t e = absurd (cc e)
goes_on_since before (m ∷ ms) each (x ∷ since) later i t e =
    let same : m ≡ x = cc e in
    let others : ms ≡ since ++ later = cc e in
    goes_on_twice _ _ _ (subst (λ (y : Instant). GoesOn (slot_in before i t) (slot_in y.after i t)) same (each.0 i t))
    (subst (λ (y : Instant). GoesOn (slot_in y.after i t) (slot_in (state_after y.after since) i t)) same (goes_on_since m.after ms each.1 since later i t others))

goes_on_from : (before : World) (ms : Moments) → EachGoesOn before ms → (done since later : Moments) (i t : ℕ) → ms ≡ done ++ since ++ later
    → GoesOn (slot_in (state_after before done) i t) (slot_in (state_after before (done ++ since)) i t)
goes_on_from before ms each [] since later i t e = goes_on_since before ms each since later i t e
goes_on_from before [] each (d ∷ done) since later i t e = absurd (cc e)
goes_on_from before (m ∷ ms) each (d ∷ done) since later i t e =
    let same : m ≡ d = cc e in
    let others : ms ≡ done ++ since ++ later = cc e in
    subst (λ (y : Instant). GoesOn (slot_in (state_after y.after done) i t) (slot_in (state_after y.after (done ++ since)) i t)) same
    (goes_on_from m.after ms each.1 done since later i t others)

pub SlotsGoOn-each : (start : World) (ms : Moments) → EachGoesOn start ms → SlotsGoOn start ms
SlotsGoOn-each start ms each done since later i t e inside = goes_on_from start ms each done since later i t e
