-- The events of a trial: keys for every node, and then so many events that the draws of a seed give (own).
use Rattle.std.specs.Prelude.{ℕ, zero, suc, ◌+◌, ◌-◌, ◌*◌, ◌%◌, ◌==◌, nat_le, if◌then◌else◌, false, true, List, [], ◌∷◌}
use Rattle.std.specs.Prelude.{◌++◌, length, map, flat_map, replicate, slice_index_or}
use Rattle.std.specs.List.{range_with_len}
use Rattle.cut_disk.specs.declared.Torn.{Torn}
use Rattle.cut_disk.specs.declared.Torn.TheVariants.{Keep, Old, Half, Fill}
use Rattle.key_slots.specs.declared.memory.Flags.{Flags}
use Rattle.freshness_routes.specs.declared.routes.Route.{Route}
use Rattle.bus_config.specs.declared.node_lines.NodeLine.{NodeLine}
use Rattle.bus_config.specs.Buses.{ids_sent_by}
use Rattle.bus_machine.specs.declared.events.Event.{Event}
use Rattle.bus_machine.specs.declared.events.Event.TheVariants as event
use Rattle.bus_script.specs.declared.trial.Sender.{Sender}
use Rattle.bus_script.specs.declared.trial.Theme.{Theme}
use Rattle.bus_script.specs.declared.trial.Theme.TheVariants.{Send, Deliver, Inject, Key, Disk}
use Rattle.bus_script.specs.EventForms.{uid_at}
use Rattle.bus_script.specs.Draws.{after_draws, draw, bytes_drawn}

-- ---- the routes of a bus, in the order of its nodes and of their routes

-- the node at this place sends these Data IDs
abbrev pub senders_at : ℕ → List ℕ → List Sender
senders_at place ids = map (λ id. record { node = place; id = id }) ids

-- the routes that send; the first of these nodes stands at `place`
abbrev pub senders : ℕ → List NodeLine → List Sender
senders place [] = []
senders place (node ∷ nodes) = senders_at place (ids_sent_by node.config.routes) ++ senders (place + 1) nodes

-- the Data IDs of routes
abbrev pub ids_at : List Route → List ℕ
ids_at routes = map (λ route. route.id) routes

-- the Data IDs of all routes
abbrev pub route_ids : List NodeLine → List ℕ
route_ids nodes = flat_map (λ node. ids_at node.config.routes) nodes

-- ---- the keys

-- KEY_USAGE is set alone
abbrev pub usage_alone : Flags
usage_alone = record { write = false; boot = false; debugger = false; usage = true; wildcard = false }

-- the key of a slot: sixteen times its number
abbrev pub slot_key : ℕ → List ℕ
slot_key slot = replicate 16 slot

-- a node's slot gets its key, authorised by itself
abbrev pub key_for : List NodeLine → ℕ → ℕ → ℕ → List ℕ → Event
key_for nodes node slot counter authkey =
    event.Key node
    (record {
      uid = uid_at nodes node;
      id = slot;
      auth = slot;
      counter = counter;
      flags = usage_alone;
      key = slot_key slot;
    }) authkey

-- the slots 4 to 13 of a node get their keys, each while it is empty
abbrev pub keys_of_node : List NodeLine → ℕ → List Event
keys_of_node nodes node = map (λ slot. key_for nodes node slot 1 (replicate 16 255)) (range_with_len 4 10)

-- so do those of all nodes, in their order
abbrev pub keys_of_bus : List NodeLine → List Event
keys_of_bus nodes = flat_map (keys_of_node nodes) (range_with_len 0 (length nodes))

-- ---- an event by its draws

-- an event, and the state of the generator after its draws
pub record Drawn : Type 0 where
  pub event : Event
  pub after : ℕ

-- the first draw of an event tells what it is about
abbrev pub theme_of : ℕ → Theme
theme_of value =
    if nat_le value 6 then Send else if nat_le value 12 then Deliver else if value == 13 then Inject
    else if value == 14 then Key else Disk

-- instead of what the bus has no route for: the first event, to the first node, with no draw
abbrev pub first_delivered : Event
first_delivered = event.Deliver 0 1

abbrev pub without_route : ℕ → Drawn
without_route x = record { event = first_delivered; after = x }

-- one of the routes that send, the length of the payload, and its bytes
abbrev pub send_drawn : List Sender → ℕ → Drawn
send_drawn [] x = without_route x
send_drawn (first ∷ more) x =
    let sender = slice_index_or (first ∷ more) (draw x 0 % length (first ∷ more)) first in
    let size = 1 + draw x 1 % 8 in
    record {
      event = event.Send sender.node sender.id (bytes_drawn (after_draws x 2) size);
      after = after_draws (after_draws x 2) size;
    }

-- one of so many nodes, and how far back the event is; `number` is the number of this one
abbrev pub deliver_drawn : ℕ → ℕ → ℕ → Drawn
deliver_drawn nodes number x =
    record { event = event.Deliver (draw x 0 % nodes) (number - 1 - draw x 1 % 8); after = after_draws x 2 }

-- one of so many nodes, the Data ID of one of the routes, the length of the PDU, and its bytes
abbrev pub inject_drawn : ℕ → List ℕ → ℕ → Drawn
inject_drawn nodes [] x = without_route x
inject_drawn nodes (first ∷ more) x =
    let id = slice_index_or (first ∷ more) (draw x 1 % length (first ∷ more)) first in
    let size = 5 + draw x 2 % 8 in
    record {
      event = event.Inject (draw x 0 % nodes) id (bytes_drawn (after_draws x 3) size);
      after = after_draws (after_draws x 3) size;
    }

-- a node, a slot, and the counter
abbrev pub key_drawn : List NodeLine → ℕ → Drawn
key_drawn nodes x =
    let slot = 4 + draw x 1 % 10 in
    record {
      event = key_for nodes (draw x 0 % length nodes) slot (1 + draw x 2 % 1000) (slot_key slot);
      after = after_draws x 3;
    }

-- what a power cut leaves
abbrev pub torn_of : ℕ → Torn
torn_of value = if value == 0 then Keep else if value == 1 then Old else if value == 2 then Half else Fill 167

-- what happens to a disk: a power cut, or that its calls stop, or that one fails
abbrev pub disk_event : ℕ → ℕ → ℕ → Event
disk_event value node last =
    if nat_le value 1 then event.Cut node (torn_of (last % 4)) else if value == 2 then event.Stop node (1 + last % 8)
    else event.Fail node (1 + last % 8)

-- what happens, to one of so many nodes, and how
abbrev pub disk_drawn : ℕ → ℕ → Drawn
disk_drawn nodes x = record { event = disk_event (draw x 0 % 4) (draw x 1 % nodes) (draw x 2); after = after_draws x 3 }

-- what is drawn of a theme
abbrev pub drawn_of : Theme → List NodeLine → ℕ → ℕ → Drawn
drawn_of Send nodes number x = send_drawn (senders 0 nodes) x
drawn_of Deliver nodes number x = deliver_drawn (length nodes) number x
drawn_of Inject nodes number x = inject_drawn (length nodes) (route_ids nodes) x
drawn_of Key nodes number x = key_drawn nodes x
drawn_of Disk nodes number x = disk_drawn (length nodes) x

-- the event of this number
unfoldable pub drawn_event : List NodeLine → ℕ → ℕ → Drawn
drawn_event nodes number x = drawn_of (theme_of (draw x 0 % 16)) nodes number (after_draws x 1)

-- ---- the whole list

-- so many events, the first of this number
abbrev pub drawn_events : List NodeLine → ℕ → ℕ → ℕ → List Event
drawn_events nodes zero number x = []
drawn_events nodes (suc count) number x =
    let first = drawn_event nodes number x in
    first.event ∷ drawn_events nodes count (number + 1) first.after

-- the keys of all nodes, and then so many events that a seed gives
unfoldable pub trial_events : List NodeLine → ℕ → ℕ → List Event
trial_events nodes count seed = keys_of_bus nodes ++ drawn_events nodes count (10 * length nodes + 1) seed
