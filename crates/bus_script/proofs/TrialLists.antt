-- The lists of a trial, one node, one slot or one event more at a time.
use Rattle.std.proofs.Common.{◌≡◌, ℕ, zero, suc, ◌+◌, ◌-◌, ◌*◌, ◌<◌, ◌≤◌, List, [], ◌∷◌, ◌++◌, length, map, get_or, drop, replicate, refl, sym, ap, subst, ◌∙◌, arith, append_assoc, append-nil, add-zero}
use Rattle.std.specs.List.{flat_map}
use Rattle.std.specs.List.{range_with_len}
use Rattle.std.proofs.lemmas.List.{drop_more}
use Rattle.std.proofs.lemmas.List.Concat.{flat_map-append}
use Rattle.std.proofs.lemmas.List.FromFn.{map-range_with_len_more}
use Rattle.bus_config.specs.declared.node_lines.NodeLine.{NodeLine}
use Rattle.bus_config.specs.Buses.{ids_sent_by}
use Rattle.bus_machine.specs.declared.events.Event.{Event}
use Rattle.bus_script.specs.declared.trial.Sender.{Sender}
use Rattle.bus_script.specs.Trials.{senders_at, senders, ids_at, route_ids, key_for, keys_of_node, first_delivered, send_drawn, inject_drawn, drawn_event, drawn_events}
use Rattle.bus_script.specs.TrialSteps.{IsDrawn}

-- the routes of one node more
pub senders_more : (nodes : List NodeLine) (i : ℕ) (d : NodeLine) → i < length nodes
    → senders i (drop i nodes) ≡ senders_at i (ids_sent_by (get_or nodes i d).config.routes) ++ senders (i + 1) (drop (i + 1) nodes)
senders_more nodes i d inside = ap (senders i) (drop_more nodes i d inside)

pub route_ids_more : (nodes : List NodeLine) (i : ℕ) (d : NodeLine) → i < length nodes
    → route_ids (drop i nodes) ≡ ids_at (get_or nodes i d).config.routes ++ route_ids (drop (i + 1) nodes)
route_ids_more nodes i d inside = ap route_ids (drop_more nodes i d inside)

range_more : (a n : ℕ) → range_with_len a (suc n) ≡ range_with_len a n ++ (a + n) ∷ []
range_more a zero = ap (λ k. k ∷ []) (sym (add-zero a))
range_more a (suc n) =
    let same : a + 1 + n ≡ a + suc n = omega arith in
    ap (λ l. a ∷ l) (range_more (a + 1) n ∙ ap (λ k. range_with_len (a + 1) n ++ k ∷ []) same)

-- the keys of one node more
pub keys_more : (nodes : List NodeLine) (n : ℕ)
    → flat_map (keys_of_node nodes) (range_with_len 0 (n + 1)) ≡ flat_map (keys_of_node nodes) (range_with_len 0 n) ++ keys_of_node nodes n
keys_more nodes n =
    let on : n + 1 ≡ suc n = omega arith in
    let at : 0 + n ≡ n = omega arith in
    ap (λ k. flat_map (keys_of_node nodes) (range_with_len 0 k)) on
    ∙ ap (flat_map (keys_of_node nodes)) (range_more 0 n ∙ ap (λ k. range_with_len 0 n ++ k ∷ []) at)
    ∙ flat_map-append (keys_of_node nodes) (range_with_len 0 n) (n ∷ [])
    ∙ ap (λ (l : List Event). flat_map (keys_of_node nodes) (range_with_len 0 n) ++ l) (append-nil (keys_of_node nodes n))

-- the keys of a node for the slots from 4 on, below this one
abbrev pub keys_below : List NodeLine → ℕ → ℕ → List Event
keys_below nodes node slot = map (λ s. key_for nodes node s 1 (replicate 16 255)) (range_with_len 4 (slot - 4))

pub slot_more : (nodes : List NodeLine) (node slot : ℕ) (items : List Event) → 4 ≤ slot
    → (items ++ keys_below nodes node slot) ++ key_for nodes node slot 1 (replicate 16 255) ∷ [] ≡ items ++ keys_below nodes node (slot + 1)
slot_more nodes node slot items least =
    let key : ℕ → Event = λ s. key_for nodes node s 1 (replicate 16 255) in
    let on : slot - 4 + 1 ≡ slot + 1 - 4 = omega arith in
    let at : 4 + (slot - 4) ≡ slot = omega arith in
    append_assoc items (keys_below nodes node slot) (key slot ∷ [])
    ∙ ap (λ (l : List Event). items ++ l) (sym (map-range_with_len_more key 4 (slot - 4) slot at) ∙ ap (λ n. map key (range_with_len 4 n)) on)

-- if no route sends, and if there is none
pub no_sender : (senders : List Sender) (x : ℕ) → length senders ≡ 0 → IsDrawn (send_drawn senders x) first_delivered x
no_sender [] x none = (refl, refl)
no_sender (first ∷ more) x none = absurd (omega arith)

pub no_id : (nodes : ℕ) (ids : List ℕ) (x : ℕ) → length ids ≡ 0 → IsDrawn (inject_drawn nodes ids x) first_delivered x
no_id nodes [] x none = (refl, refl)
no_id nodes (first ∷ more) x none = absurd (omega arith)

-- one event more, which was drawn
pub event_more : (nodes : List NodeLine) (items : List Event) (count done number x after : ℕ) (event : Event) → done < count
    → IsDrawn (drawn_event nodes number x) event after
    → items ++ drawn_events nodes (count - done) number x ≡ (items ++ event ∷ []) ++ drawn_events nodes (count - (done + 1)) (number + 1) after
event_more nodes items count done number x after event inside is =
    let left : count - done ≡ suc (count - (done + 1)) = omega arith in
    let first = drawn_event nodes number x in
    ap (λ n. items ++ drawn_events nodes n number x) left
    ∙ ap (λ (e : Event). items ++ e ∷ drawn_events nodes (count - (done + 1)) (number + 1) first.after) (sym is.0)
    ∙ ap (λ s. items ++ event ∷ drawn_events nodes (count - (done + 1)) (number + 1) s) (sym is.1)
    ∙ sym (append_assoc items (event ∷ []) (drawn_events nodes (count - (done + 1)) (number + 1) after))

-- the events so far and those that are left, after so many
abbrev pub events_and_left : List NodeLine → ℕ → ℕ → List Event → ℕ → List Event
events_and_left nodes count done items x = items ++ drawn_events nodes (count - done) (10 * length nodes + 1 + done) x

pub events_more : (nodes : List NodeLine) (items : List Event) (count done numbered x after : ℕ) (event : Event) → done < count
    → numbered ≡ 10 * length nodes + 1 + done → IsDrawn (drawn_event nodes numbered x) event after
    → events_and_left nodes count done items x ≡ events_and_left nodes count (done + 1) (items ++ event ∷ []) after
events_more nodes items count done numbered x after event inside same is =
    let number = 10 * length nodes + 1 + done in
    let on : number + 1 ≡ 10 * length nodes + 1 + (done + 1) = omega arith in
    event_more nodes items count done number x after event inside (subst (λ n. IsDrawn (drawn_event nodes n x) event after) same is)
    ∙ ap (λ n. (items ++ event ∷ []) ++ drawn_events nodes (count - (done + 1)) n after) on

-- none is left after the last
pub events_done : (nodes : List NodeLine) (items : List Event) (count done x : ℕ) → count ≤ done → items ≡ events_and_left nodes count done items x
events_done nodes items count done x past =
    let none : 0 ≡ count - done = omega arith in
    sym (append-nil items) ∙ ap (λ n. items ++ drawn_events nodes n (10 * length nodes + 1 + done) x) none

-- before the first all are left
pub events_first : (nodes : List NodeLine) (items : List Event) (count x : ℕ)
    → events_and_left nodes count 0 items x ≡ items ++ drawn_events nodes count (10 * length nodes + 1) x
events_first nodes items count x =
    let all : count - 0 ≡ count = omega arith in
    let first : 10 * length nodes + 1 + 0 ≡ 10 * length nodes + 1 = omega arith in
    ap (λ n. items ++ drawn_events nodes n (10 * length nodes + 1 + 0) x) all ∙ ap (λ n. items ++ drawn_events nodes count n x) first
