-- What the words of a line mean as an event of a bus, whose nodes are these.
use Rattle.std.specs.Prelude.{ℕ, if◌then◌else◌, List, [], slice_index_or, codes, Option, Some, Result, Ok}
use Rattle.std.specs.Option.{ok_or}
use Rattle.std.specs.Str.{bytes_eq}
use Rattle.bus_config.specs.declared.node_lines.NodeLine.{NodeLine}
use Rattle.bus_config.specs.Buses.{place_named}
use Rattle.bus_machine.specs.Bus.{no_config}
use Rattle.bus_machine.specs.declared.events.Event.{Event}
use Rattle.bus_machine.specs.declared.events.Event.TheVariants as event
use Rattle.text_lines.specs.declared.fault.Cause.{Cause}
use Rattle.text_lines.specs.declared.fault.Cause.TheVariants as cause
use Rattle.secoc_words.specs.DiskForms.{torn_form, calls_form}
use Rattle.secoc_words.specs.Forms.{key_form, two_form, data_id_form}
use Rattle.text_lines.specs.Forms.{number_form, bytes_form, hex_bytes_form}
use Rattle.secoc_words.specs.KeyForms.{uid_form, slot_form, counter_form, flags_form}
use Rattle.text_lines.specs.Readings.{Fault, ◌>>=◌, nth_word, field, with_count, read_all, most_lines}
use Rattle.bus_script.specs.declared.kinds.EventKind.{EventKind}
use Rattle.bus_script.specs.declared.kinds.EventKind.TheVariants.{Send, Deliver, Inject, Load, Key, Boot, Cut, Stop}
use Rattle.bus_script.specs.declared.kinds.EventKind.TheVariants.{Fail}
use Rattle.bus_script.specs.EventKinds.{kinds, own_kinds, kind_of, kind_words}

-- the node at a place; past the last one without a name
abbrev pub no_node : NodeLine
no_node = record { name = []; config = no_config }

abbrev pub node_line_at : List NodeLine → ℕ → NodeLine
node_line_at nodes place = slice_index_or nodes place no_node

-- the UID of the node at a place
abbrev pub uid_at : List NodeLine → ℕ → List ℕ
uid_at nodes place = (node_line_at nodes place).config.uid

-- UID in an event: 30 hexadecimal digits, or `-` for the node's own
unfoldable pub event_uid_form : List ℕ → List ℕ → Option (List ℕ)
event_uid_form own word = if bytes_eq word (codes "-") then Some own else uid_form word

-- EVENT: the number of an event, from 1 to 65536
abbrev pub event_form : List ℕ → Option ℕ
event_form word = number_form 1 65536 word

-- IMAGE: 1 to 65,536 bytes, two hexadecimal digits each
abbrev pub image_form : List ℕ → Option (List ℕ)
image_form word = hex_bytes_form 1 65536 word

-- Of a line's words NODE is the name of a node of the bus, for the node's place, counted from 0.

-- `send NODE ID BYTES`
unfoldable pub send_of : List NodeLine → List (List ℕ) → Result Event Cause
send_of nodes words = do
  node ← field 2 (place_named nodes (nth_word words 2))
  id ← field 3 (data_id_form (nth_word words 3))
  payload ← field 4 (bytes_form (nth_word words 4))
  Ok (event.Send node id payload)

-- `deliver NODE EVENT`
unfoldable pub deliver_of : List NodeLine → List (List ℕ) → Result Event Cause
deliver_of nodes words = do
  node ← field 2 (place_named nodes (nth_word words 2))
  number ← field 3 (event_form (nth_word words 3))
  Ok (event.Deliver node number)

-- `inject NODE ID BYTES`
unfoldable pub inject_of : List NodeLine → List (List ℕ) → Result Event Cause
inject_of nodes words = do
  node ← field 2 (place_named nodes (nth_word words 2))
  id ← field 3 (data_id_form (nth_word words 3))
  pdu ← field 4 (bytes_form (nth_word words 4))
  Ok (event.Inject node id pdu)

-- `load NODE M1 M2 M3`
unfoldable pub load_event_of : List NodeLine → List (List ℕ) → Result Event Cause
load_event_of nodes words = do
  node ← field 2 (place_named nodes (nth_word words 2))
  m1 ← field 3 (key_form (nth_word words 3))
  m2 ← field 4 (two_form (nth_word words 4))
  m3 ← field 5 (key_form (nth_word words 5))
  Ok (event.Load node (record { m1 = m1; m2 = m2; m3 = m3 }))

-- `key NODE UID SLOT SLOT KEY COUNTER FLAGS KEY`: UID', ID, AuthID, the authorising key, counter, flags, the new key
unfoldable pub key_event_of : List NodeLine → List (List ℕ) → Result Event Cause
key_event_of nodes words = do
  node ← field 2 (place_named nodes (nth_word words 2))
  uid ← field 3 (event_uid_form (uid_at nodes node) (nth_word words 3))
  id ← field 4 (slot_form (nth_word words 4))
  auth ← field 5 (slot_form (nth_word words 5))
  authkey ← field 6 (key_form (nth_word words 6))
  counter ← field 7 (counter_form (nth_word words 7))
  flags ← field 8 (flags_form (nth_word words 8))
  key ← field 9 (key_form (nth_word words 9))
  Ok (event.Key node (record { uid = uid; id = id; auth = auth; counter = counter; flags = flags; key = key }) authkey)

-- `boot NODE IMAGE`
unfoldable pub boot_of : List NodeLine → List (List ℕ) → Result Event Cause
boot_of nodes words = do
  node ← field 2 (place_named nodes (nth_word words 2))
  image ← field 3 (image_form (nth_word words 3))
  Ok (event.Boot node image)

-- `cut NODE TORN`
unfoldable pub cut_of : List NodeLine → List (List ℕ) → Result Event Cause
cut_of nodes words = do
  node ← field 2 (place_named nodes (nth_word words 2))
  torn ← field 3 (torn_form (nth_word words 3))
  Ok (event.Cut node torn)

-- `stop NODE CALLS`
unfoldable pub stop_of : List NodeLine → List (List ℕ) → Result Event Cause
stop_of nodes words = do
  node ← field 2 (place_named nodes (nth_word words 2))
  calls ← field 3 (calls_form (nth_word words 3))
  Ok (event.Stop node calls)

-- `fail NODE CALLS`
unfoldable pub fail_of : List NodeLine → List (List ℕ) → Result Event Cause
fail_of nodes words = do
  node ← field 2 (place_named nodes (nth_word words 2))
  calls ← field 3 (calls_form (nth_word words 3))
  Ok (event.Fail node calls)

-- the event of a kind that words mean
abbrev pub fields_of : EventKind → List NodeLine → List (List ℕ) → Result Event Cause
fields_of Send = send_of
fields_of Deliver = deliver_of
fields_of Inject = inject_of
fields_of Load = load_event_of
fields_of Key = key_event_of
fields_of Boot = boot_of
fields_of Cut = cut_of
fields_of Stop = stop_of
fields_of Fail = fail_of

-- the event of one of these kinds that the words of a line mean: the first word names the kind
unfoldable pub event_among : List EventKind → List NodeLine → List (List ℕ) → Result Event Cause
event_among among nodes words = do
  kind ← ok_or (kind_of among (nth_word words 1)) cause.Event
  with_count (kind_words kind) words (fields_of kind nodes words)

-- the events of a script of these kinds of events over a bus with these nodes, or its first fault
unfoldable pub events_among : List EventKind → List NodeLine → List ℕ → Result (List Event) Fault
events_among among nodes text = read_all (λ _ words. event_among among nodes words) most_lines text

-- the events of a script
abbrev pub events_of : List NodeLine → List ℕ → Result (List Event) Fault
events_of = events_among kinds

-- the events of a script in which each is a node's own
abbrev pub own_events_of : List NodeLine → List ℕ → Result (List Event) Fault
own_events_of = events_among own_kinds
