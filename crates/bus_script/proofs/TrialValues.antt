-- The events of a trial are events that a script can have.
use Rattle.std.proofs.Common.{◌≡◌, ℕ, zero, suc, ◌+◌, ◌*◌, ◌%◌, ◌<◌, ◌≤◌, ◌^◌, Bool, true, false, List, [], ◌∷◌, length, replicate, get_or, All, refl, ap, subst, arith, lit<, mod-lt, length-append}
use Rattle.std.specs.Prelude.{◌==◌, nat_le, if◌then◌else◌, filter}
use Rattle.std.specs.List.{flat_map}
use Rattle.std.specs.List.{range_with_len}
use Rattle.std.proofs.lemmas.List.{length-replicate}
use Rattle.std.proofs.lemmas.List.Elements.{All-nil, All-cons, All-head, All-tail, All-append, All-map, All-filter, All-replicate, All-weaker}
use Rattle.std.proofs.lemmas.List.FromFn.{length-map-range_with_len, length-range_with_len, get_or-range_with_len}
use Rattle.basics.specs.Bytes.{IsBytes}
use Rattle.cut_disk.specs.declared.Torn.TheVariants.{Keep, Old, Half, Fill}
use Rattle.freshness_routes.specs.declared.routes.Direction.TheVariants.{Sends}
use Rattle.freshness_routes.specs.declared.routes.Route.{Route}
use Rattle.freshness_routes.specs.Config.{IsRoute}
use Rattle.bus_config.specs.declared.node_lines.NodeLine.{NodeLine}
use Rattle.bus_config.specs.Buses.{NamedBus, IsNamedBus, IsNodeLine, ids_sent_by}
use Rattle.bus_machine.specs.Node.{same_direction}
use Rattle.bus_machine.specs.declared.events.Event.TheVariants as event
use Rattle.bus_script.specs.declared.trial.Sender.{Sender}
use Rattle.bus_script.specs.declared.trial.Theme.{Theme}
use Rattle.bus_script.specs.declared.trial.Theme.TheVariants.{Send, Deliver, Inject, Key, Disk}
use Rattle.bus_script.specs.EventForms.{no_node}
use Rattle.bus_script.specs.ScriptEvents.{AreBytes, IsTorn, IsScriptEvent}
use Rattle.bus_script.specs.Draws.{after_draws, draw, bytes_drawn}
use Rattle.bus_script.specs.Trials.{senders_at, senders, ids_at, route_ids, slot_key, key_for, keys_of_node, keys_of_bus, theme_of, without_route, send_drawn, deliver_drawn, inject_drawn, key_drawn, torn_of, disk_event, drawn_of, drawn_event, drawn_events, trial_events}

-- ---- bytes

below_mod : (a n : ℕ) → 0 < n → a % n < n
below_mod a n pos = mod-lt a pos

bytes_drawn-value : (x count : ℕ) → AreBytes (bytes_drawn x count)
bytes_drawn-value x count = record {
  size = refl;
  bytes = All-map (λ b. b < 256) (λ n. draw x n % 256) (range_with_len 0 count) (λ k d lt. below_mod (draw x (get_or (range_with_len 0 count) k d)) 256 (lit< tt));
}

same_bytes : (n byte : ℕ) → byte < 256 → IsBytes n (replicate n byte)
same_bytes n byte small = record {
  size = length-replicate n byte;
  bytes = All-replicate (λ b. b < 256) n byte small;
}

-- ---- routes

-- a sender of a bus with so many nodes
abbrev InBus : ℕ → Sender → Type 0
InBus n s = (s.node < n) × (s.id < 2 ^ 16)

ids_at-value : (routes : List Route) → All IsRoute routes → All (λ id. id < 2 ^ 16) (ids_at routes)
ids_at-value routes are = All-map (λ id. id < 2 ^ 16) (λ r. r.id) routes (All-weaker IsRoute (λ r. r.id < 2 ^ 16) (λ r is. is.id_fits) routes are)

sent-value : (routes : List Route) → All IsRoute routes → All (λ id. id < 2 ^ 16) (ids_sent_by routes)
sent-value routes are =
    let sends : Route → Bool = λ route. same_direction route.direction Sends in
    ids_at-value (filter sends routes) (All-filter sends IsRoute routes are)

senders-value : (n place : ℕ) (nodes : List NodeLine) → All IsNodeLine nodes → place + length nodes ≡ n → All (InBus n) (senders place nodes)
senders-value n place [] are here = All-nil (InBus n)
senders-value n place (node ∷ nodes) are here =
    let ids = ids_sent_by node.config.routes in
    let there : place < n = omega arith in
    let onward : place + 1 + length nodes ≡ n = omega arith in
    All-append (InBus n) (senders_at place ids) (senders (place + 1) nodes)
    (All-map (InBus n) (λ id. record { node = place; id = id }) ids
    (All-weaker (λ id. id < 2 ^ 16) (λ id. InBus n (record { node = place; id = id })) (λ id small. (there, small)) ids
    (sent-value node.config.routes (All-head IsNodeLine node nodes are).config.are_routes)))
    (senders-value n (place + 1) nodes (All-tail IsNodeLine node nodes are) onward)

route_ids-value : (nodes : List NodeLine) → All IsNodeLine nodes → All (λ id. id < 2 ^ 16) (route_ids nodes)
route_ids-value [] are = All-nil (λ id. id < 2 ^ 16)
route_ids-value (node ∷ nodes) are =
    All-append (λ id. id < 2 ^ 16) (ids_at node.config.routes) (route_ids nodes)
    (ids_at-value node.config.routes (All-head IsNodeLine node nodes are).config.are_routes)
    (route_ids-value nodes (All-tail IsNodeLine node nodes are))

-- ---- each event

key_for-value : (nodes : List NodeLine) (node slot counter : ℕ) (authkey : List ℕ) → All IsNodeLine nodes → node < length nodes → slot < 14 → counter ≤ 1000 → IsBytes 16 authkey
    → IsScriptEvent nodes (key_for nodes node slot counter authkey)
key_for-value nodes node slot counter authkey are here fits low is = record {
  node = here;
  fields = (
    record {
      is_uid = (are node no_node here).config.is_uid;
      id_fits = fits;
      auth_fits = fits;
      counter_fits = omega arith;
      is_key = same_bytes 16 slot (omega arith);
    },
    is,
  );
}

without_route-value : (nodes : List NodeLine) (x : ℕ) → 0 < length nodes → IsScriptEvent nodes (without_route x).event
without_route-value nodes x some = record { node = some; fields = (omega arith, omega arith) }

send-value : (nodes : List NodeLine) (sending : List Sender) (x : ℕ) → 0 < length nodes → All (InBus (length nodes)) sending
    → IsScriptEvent nodes (send_drawn sending x).event
send-value nodes [] x some are = without_route-value nodes x some
send-value nodes (first ∷ more) x some are =
    let n = length (first ∷ more) in
    let there : draw x 0 % n < n = below_mod (draw x 0) n (omega arith) in
    let is = are (draw x 0 % n) first there in
    record {
      node = is.0;
      fields = (is.1, bytes_drawn-value (after_draws x 2) (1 + draw x 1 % 8));
    }

deliver-value : (nodes : List NodeLine) (number x : ℕ) → 0 < length nodes → 9 ≤ number → number ≤ 65536
    → IsScriptEvent nodes (deliver_drawn (length nodes) number x).event
deliver-value nodes number x some far near =
    let back : draw x 1 % 8 < 8 = below_mod (draw x 1) 8 (lit< tt) in
    record {
      node = below_mod (draw x 0) (length nodes) some;
      fields = (omega arith, omega arith);
    }

inject-value : (nodes : List NodeLine) (ids : List ℕ) (x : ℕ) → 0 < length nodes → All (λ id. id < 2 ^ 16) ids
    → IsScriptEvent nodes (inject_drawn (length nodes) ids x).event
inject-value nodes [] x some are = without_route-value nodes x some
inject-value nodes (first ∷ more) x some are =
    let n = length (first ∷ more) in
    let there : draw x 1 % n < n = below_mod (draw x 1) n (omega arith) in
    record {
      node = below_mod (draw x 0) (length nodes) some;
      fields = (are (draw x 1 % n) first there, bytes_drawn-value (after_draws x 3) (5 + draw x 2 % 8));
    }

key-value : (nodes : List NodeLine) (x : ℕ) → 0 < length nodes → All IsNodeLine nodes → IsScriptEvent nodes (key_drawn nodes x).event
key-value nodes x some are =
    let slot = 4 + draw x 1 % 10 in
    let a : draw x 1 % 10 < 10 = below_mod (draw x 1) 10 (lit< tt) in
    let b : draw x 2 % 1000 < 1000 = below_mod (draw x 2) 1000 (lit< tt) in
    key_for-value nodes (draw x 0 % length nodes) slot (1 + draw x 2 % 1000) (slot_key slot) are
    (below_mod (draw x 0) (length nodes) some) (omega arith) (omega arith) (same_bytes 16 slot (omega arith))

torn-value : (value : ℕ) → IsTorn (torn_of value)
torn-value value = cases (value == 0) (value == 1) (value == 2)
  where
    cases : (a b c : Bool) → IsTorn (if a then Keep else if b then Old else if c then Half else Fill 167)
    cases true b c = tt
    cases false true c = tt
    cases false false true = tt
    cases false false false = lit< tt

disk_event-value : (nodes : List NodeLine) (value node last : ℕ) → node < length nodes → IsScriptEvent nodes (disk_event value node last)
disk_event-value nodes value node last here =
    let small : last % 8 < 8 = below_mod last 8 (lit< tt) in
    cases (nat_le value 1) (value == 2) small
  where
    cases : (a b : Bool) → last % 8 < 8 → IsScriptEvent nodes (if a then event.Cut node (torn_of (last % 4)) else if b then event.Stop node (1 + last % 8) else event.Fail node (1 + last % 8))
    cases true b small = record { node = here; fields = torn-value (last % 4) }
    cases false true small = record { node = here; fields = (omega arith, omega arith) }
    cases false false small = record { node = here; fields = (omega arith, omega arith) }

drawn_of-value : (theme : Theme) (nodes : List NodeLine) (number x : ℕ) → 0 < length nodes → All IsNodeLine nodes → 9 ≤ number → number ≤ 65536
    → IsScriptEvent nodes (drawn_of theme nodes number x).event
drawn_of-value Send nodes number x some are far near = send-value nodes (senders 0 nodes) x some (senders-value (length nodes) 0 nodes are (omega arith))
drawn_of-value Deliver nodes number x some are far near = deliver-value nodes number x some far near
drawn_of-value Inject nodes number x some are far near = inject-value nodes (route_ids nodes) x some (route_ids-value nodes are)
drawn_of-value Key nodes number x some are far near = key-value nodes x some are
drawn_of-value Disk nodes number x some are far near = disk_event-value nodes (draw x 0 % 4) (draw x 1 % length nodes) (draw x 2) (below_mod (draw x 1) (length nodes) some)

drawn_event-value : (nodes : List NodeLine) (number x : ℕ) → 0 < length nodes → All IsNodeLine nodes → 9 ≤ number → number ≤ 65536
    → IsScriptEvent nodes (drawn_event nodes number x).event
unfolding drawn_event
drawn_event-value nodes number x some are far near = drawn_of-value (theme_of (draw x 0 % 16)) nodes number (after_draws x 1) some are far near

-- ---- the whole list

drawn_events-value : (nodes : List NodeLine) (count number x : ℕ) → 0 < length nodes → All IsNodeLine nodes → 9 ≤ number → number + count ≤ 65537
    → All (IsScriptEvent nodes) (drawn_events nodes count number x)
drawn_events-value nodes zero number x some are far near = All-nil (IsScriptEvent nodes)
drawn_events-value nodes (suc count) number x some are far near =
    let first = drawn_event nodes number x in
    All-cons (IsScriptEvent nodes) first.event (drawn_events nodes count (number + 1) first.after)
    (drawn_event-value nodes number x some are far (omega arith))
    (drawn_events-value nodes count (number + 1) first.after some are (omega arith) (omega arith))

keys_of_node-value : (nodes : List NodeLine) (node : ℕ) → All IsNodeLine nodes → node < length nodes → All (IsScriptEvent nodes) (keys_of_node nodes node)
keys_of_node-value nodes node are here =
    All-map (IsScriptEvent nodes) (λ slot. key_for nodes node slot 1 (replicate 16 255)) (range_with_len 4 10) (λ k d lt.
    let slot = get_or (range_with_len 4 10) k d in
    let small : k < 10 = subst (λ n. k < n) (length-range_with_len 4 10) lt in
    let at = get_or-range_with_len 4 10 k d small in
    key_for-value nodes node slot 1 (replicate 16 255) are here (omega (arith, at)) (omega arith) (same_bytes 16 255 (lit< tt)))

some_keys-value : (nodes : List NodeLine) (place n : ℕ) → All IsNodeLine nodes → place + n ≤ length nodes → All (IsScriptEvent nodes) (flat_map (keys_of_node nodes) (range_with_len place n))
some_keys-value nodes place zero are few = All-nil (IsScriptEvent nodes)
some_keys-value nodes place (suc n) are few =
    All-append (IsScriptEvent nodes) (keys_of_node nodes place) (flat_map (keys_of_node nodes) (range_with_len (place + 1) n))
    (keys_of_node-value nodes place are (omega arith))
    (some_keys-value nodes (place + 1) n are (omega arith))

-- each of at most 60,000 events is one that a script can have
pub trial_events-value : (bus : NamedBus) (count seed : ℕ) → IsNamedBus bus → count ≤ 60000 → All (IsScriptEvent bus.nodes) (trial_events bus.nodes count seed)
unfolding trial_events
trial_events-value bus count seed is few =
    let nodes = bus.nodes in
    let least = is.least in
    let most = is.most in
    All-append (IsScriptEvent nodes) (keys_of_bus nodes) (drawn_events nodes count (10 * length nodes + 1) seed)
    (some_keys-value nodes 0 (length nodes) is.are_nodes (omega arith))
    (drawn_events-value nodes count (10 * length nodes + 1) seed (omega arith) is.are_nodes (omega arith) (omega arith))

-- ---- how many

length-drawn_events : (nodes : List NodeLine) (count number x : ℕ) → length (drawn_events nodes count number x) ≡ count
length-drawn_events nodes zero number x = refl
length-drawn_events nodes (suc count) number x =
    ap suc (length-drawn_events nodes count (number + 1) (drawn_event nodes number x).after)

length-keys_of_node : (nodes : List NodeLine) (node : ℕ) → length (keys_of_node nodes node) ≡ 10
length-keys_of_node nodes node = length-map-range_with_len (λ slot. key_for nodes node slot 1 (replicate 16 255)) 4 10

length-some_keys : (nodes : List NodeLine) (place n : ℕ) → length (flat_map (keys_of_node nodes) (range_with_len place n)) ≡ 10 * n
length-some_keys nodes place zero = refl
length-some_keys nodes place (suc n) =
    let here = length-keys_of_node nodes place in
    let rest = length-some_keys nodes (place + 1) n in
    let both = length-append (keys_of_node nodes place) (flat_map (keys_of_node nodes) (range_with_len (place + 1) n)) in
    omega (arith, here, rest, both)

pub length-trial_events : (nodes : List NodeLine) (count seed : ℕ) → length (trial_events nodes count seed) ≡ 10 * length nodes + count
unfolding trial_events
length-trial_events nodes count seed =
    let keys = length-some_keys nodes 0 (length nodes) in
    let drawn = length-drawn_events nodes count (10 * length nodes + 1) seed in
    let both = length-append (keys_of_bus nodes) (drawn_events nodes count (10 * length nodes + 1) seed) in
    omega (arith, keys, drawn, both)
