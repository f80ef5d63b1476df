-- The canonical lines of events are read as these events.
use Rattle.std.proofs.Common.{◌≡◌, ℕ, ◌<◌, ◌≤◌, ◌^◌, Bool, true, List, [], ◌∷◌, ◌++◌, length, map, All, Some, Ok, refl, sym, ◌∙◌, ap, arith, lit<, append-nil}
use Rattle.std.specs.Prelude.{◌==◌, ◌&&◌, not, slice_index}
use Rattle.std.specs.List.{list_all, flat_map}
use Rattle.std.proofs.lemmas.Bool.{and_parts}
use Rattle.std.proofs.lemmas.List.Elements.{All-nil, All-cons}
use Rattle.basics.specs.Bytes.{IsBytes}
use Rattle.basics.specs.Numbers.{bytes_of}
use Rattle.basics.proofs.CallerLemmas.{IsBytes-bytes_of}
use Rattle.hex.specs.Hex.{encode_lower}
use Rattle.cut_disk.specs.declared.Torn.{Torn}
use Rattle.memory_update.specs.declared.messages.Request.{Request}
use Rattle.memory_update.specs.declared.messages.Update.{Update}
use Rattle.memory_update.specs.Messages.{IsUpdate}
use Rattle.text_lines.specs.Readings.{most_lines}
use Rattle.text_lines.specs.Lines.{lines_of}
use Rattle.secoc_words.specs.Written.{IsLoad}
use Rattle.text_lines.specs.Written.{written, is_word_byte, is_plain_word, is_writable, bytes_word}
use Rattle.secoc_words.proofs.CallerLemmas.{key_form-encode, data_id_form-encode, pair_encode, blocks_word}
use Rattle.text_lines.proofs.CallerLemmas.{bytes_form-word, hex_bytes_form-encode, plain_word, bytes_word-plain, all_writable, read_from-words, words-written}
use Rattle.bus_config.specs.declared.node_lines.NodeLine.{NodeLine}
use Rattle.bus_config.specs.Names.{is_name_byte, is_name}
use Rattle.bus_config.specs.Buses.{NamedBus, IsNamedBus, place_named}
use Rattle.bus_config.proofs.CallerLemmas.{own_name_found}
use Rattle.bus_machine.specs.declared.events.Event.{Event}
use Rattle.bus_machine.specs.declared.events.Event.TheVariants as event
use Rattle.bus_machine.specs.Bus.{node_of}
use Rattle.bus_script.specs.EventKinds.{kind_name, kinds, kind_of}
use Rattle.bus_script.specs.EventForms.{no_node, uid_at, send_of, deliver_of, inject_of, load_event_of, key_event_of, boot_of, cut_of, stop_of, fail_of, event_among, events_among, events_of}
use Rattle.bus_script.specs.Canon.{name_at, field_words, event_words, event_kind, canon}
use Rattle.bus_script.specs.ScriptEvents.{AreBytes, IsTorn, IsScriptEvent}
use Rattle.bus_script.proofs.EventsWritten.{uid_written, number_written, number_plain, flags_written, flags_plain, torn_written, torn_plain}
use Rattle.bus_script.proofs.EventValues.{events_among-are_events, events_among-few}

-- a number that is small enough fits 64 bits
fits : (most n : ℕ) → n ≤ most → most < 2 ^ 64 → n < 2 ^ 64
fits most n below small = omega arith

-- ---- the words of an event mean it

send_read : (nodes : List NodeLine) (node id : ℕ) (payload : List ℕ) → place_named nodes (name_at nodes node) ≡ Some node → id < 2 ^ 16 → AreBytes payload
    → event_among kinds nodes (event_words nodes (event.Send node id payload)) ≡ Ok (event.Send node id payload)
unfolding event_among kind_of send_of
send_read nodes node id payload here small bytes = rw (here, data_id_form-encode id small, bytes_form-word payload bytes) refl

inject_read : (nodes : List NodeLine) (node id : ℕ) (pdu : List ℕ) → place_named nodes (name_at nodes node) ≡ Some node → id < 2 ^ 16 → AreBytes pdu
    → event_among kinds nodes (event_words nodes (event.Inject node id pdu)) ≡ Ok (event.Inject node id pdu)
unfolding event_among kind_of inject_of
inject_read nodes node id pdu here small bytes = rw (here, data_id_form-encode id small, bytes_form-word pdu bytes) refl

deliver_read : (nodes : List NodeLine) (node number : ℕ) → place_named nodes (name_at nodes node) ≡ Some node → 1 ≤ number → number ≤ 65536
    → event_among kinds nodes (event_words nodes (event.Deliver node number)) ≡ Ok (event.Deliver node number)
unfolding event_among kind_of deliver_of
deliver_read nodes node number here above below = rw (here, number_written 1 65536 number (fits 65536 number below (lit< tt)) above below) refl

load_read : (nodes : List NodeLine) (node : ℕ) (request : Request) → place_named nodes (name_at nodes node) ≡ Some node → IsLoad request
    → event_among kinds nodes (event_words nodes (event.Load node request)) ≡ Ok (event.Load node request)
unfolding event_among kind_of load_event_of
load_read nodes node request here is =
    rw (here, key_form-encode request.m1 is.m1, pair_encode request.m2 is.two is.m2, key_form-encode request.m3 is.m3) refl

key_read : (nodes : List NodeLine) (node : ℕ) (update : Update) (authkey : List ℕ) → place_named nodes (name_at nodes node) ≡ Some node → IsUpdate update → IsBytes 16 authkey
    → event_among kinds nodes (event_words nodes (event.Key node update authkey)) ≡ Ok (event.Key node update authkey)
unfolding event_among kind_of key_event_of
key_read nodes node update authkey here is key =
    let id : update.id ≤ 13 = let f = is.id_fits in omega arith in
    let auth : update.auth ≤ 13 = let f = is.auth_fits in omega arith in
    let counter : update.counter ≤ 268435455 = let f = is.counter_fits in omega arith in
    rw (
      here,
      uid_written (uid_at nodes node) update.uid is.is_uid,
      number_written 0 13 update.id (fits 13 update.id id (lit< tt)) (omega arith) id,
      number_written 0 13 update.auth (fits 13 update.auth auth (lit< tt)) (omega arith) auth,
      key_form-encode authkey key,
      number_written 0 268435455 update.counter (fits 268435455 update.counter counter (lit< tt)) (omega arith) counter,
      flags_written update.flags,
      key_form-encode update.key is.is_key,
    ) refl

-- an image is written as its digits
image_word : (image : List ℕ) → 1 ≤ length image → bytes_word image ≡ encode_lower image
image_word [] some = absurd (omega arith)
image_word (b ∷ image) some = refl

boot_read : (nodes : List NodeLine) (node : ℕ) (image : List ℕ) → place_named nodes (name_at nodes node) ≡ Some node → 1 ≤ length image → length image ≤ 65536 → AreBytes image
    → event_among kinds nodes (event_words nodes (event.Boot node image)) ≡ Ok (event.Boot node image)
unfolding event_among kind_of boot_of
boot_read nodes node image here some few bytes =
    rw (image_word image some, here, hex_bytes_form-encode 1 65536 image some few bytes) refl

cut_read : (nodes : List NodeLine) (node : ℕ) (torn : Torn) → place_named nodes (name_at nodes node) ≡ Some node → IsTorn torn
    → event_among kinds nodes (event_words nodes (event.Cut node torn)) ≡ Ok (event.Cut node torn)
unfolding event_among kind_of cut_of
cut_read nodes node torn here is = rw (here, torn_written torn is) refl

stop_read : (nodes : List NodeLine) (node calls : ℕ) → place_named nodes (name_at nodes node) ≡ Some node → 1 ≤ calls → calls ≤ 1000000
    → event_among kinds nodes (event_words nodes (event.Stop node calls)) ≡ Ok (event.Stop node calls)
unfolding event_among kind_of stop_of
stop_read nodes node calls here above below = rw (here, number_written 1 1000000 calls (fits 1000000 calls below (lit< tt)) above below) refl

fail_read : (nodes : List NodeLine) (node calls : ℕ) → place_named nodes (name_at nodes node) ≡ Some node → 1 ≤ calls → calls ≤ 1000000
    → event_among kinds nodes (event_words nodes (event.Fail node calls)) ≡ Ok (event.Fail node calls)
unfolding event_among kind_of fail_of
fail_read nodes node calls here above below = rw (here, number_written 1 1000000 calls (fits 1000000 calls below (lit< tt)) above below) refl

words_mean : (bus : NamedBus) → IsNamedBus bus → (e : Event) → IsScriptEvent bus.nodes e → event_among kinds bus.nodes (event_words bus.nodes e) ≡ Ok e
words_mean bus is (event.Send node id payload) h = send_read bus.nodes node id payload (own_name_found bus is node no_node h.node) h.fields.0 h.fields.1
words_mean bus is (event.Deliver node number) h = deliver_read bus.nodes node number (own_name_found bus is node no_node h.node) h.fields.0 h.fields.1
words_mean bus is (event.Inject node id pdu) h = inject_read bus.nodes node id pdu (own_name_found bus is node no_node h.node) h.fields.0 h.fields.1
words_mean bus is (event.Load node request) h = load_read bus.nodes node request (own_name_found bus is node no_node h.node) h.fields
words_mean bus is (event.Key node update authkey) h = key_read bus.nodes node update authkey (own_name_found bus is node no_node h.node) h.fields.0 h.fields.1
words_mean bus is (event.Boot node image) h = boot_read bus.nodes node image (own_name_found bus is node no_node h.node) h.fields.0 h.fields.1 h.fields.2
words_mean bus is (event.Cut node torn) h = cut_read bus.nodes node torn (own_name_found bus is node no_node h.node) h.fields
words_mean bus is (event.Stop node calls) h = stop_read bus.nodes node calls (own_name_found bus is node no_node h.node) h.fields.0 h.fields.1
words_mean bus is (event.Fail node calls) h = fail_read bus.nodes node calls (own_name_found bus is node no_node h.node) h.fields.0 h.fields.1

-- ---- and may be written

name_byte_plain : (c : ℕ) → is_name_byte c ≡ true → is_word_byte c ≡ true
name_byte_plain c h = grind arith

name_bytes_plain : (name : List ℕ) → list_all is_name_byte name ≡ true → list_all is_word_byte name ≡ true
name_bytes_plain [] h = refl
name_bytes_plain (c ∷ name) h =
    let parts = and_parts (is_name_byte c) (list_all is_name_byte name) h in
    rw (name_byte_plain c parts.0) (name_bytes_plain name parts.1)

name_plain : (name : List ℕ) → is_name name ≡ true → is_plain_word name ≡ true
name_plain name h =
    let all : list_all is_name_byte name ≡ true = grind arith in
    let some : 1 ≤ length name = grind arith in
    rw (name_bytes_plain name all) (grind arith)

plain_id : (id : ℕ) → is_plain_word (encode_lower (bytes_of 2 id)) ≡ true
plain_id id = plain_word 2 (bytes_of 2 id) (lit< tt) (IsBytes-bytes_of 2 id)

fields_plain : (e : Event) (nodes : List NodeLine) → IsScriptEvent nodes e → list_all is_plain_word (field_words e) ≡ true
fields_plain (event.Send node id payload) nodes h = rw (plain_id id, bytes_word-plain payload h.fields.1) refl
fields_plain (event.Deliver node number) nodes h = rw (number_plain number (fits 65536 number h.fields.1 (lit< tt))) refl
fields_plain (event.Inject node id pdu) nodes h = rw (plain_id id, bytes_word-plain pdu h.fields.1) refl
fields_plain (event.Load node request) nodes h =
    rw (plain_word 16 request.m1 (lit< tt) h.fields.m1, blocks_word request.m2 h.fields.two h.fields.m2, plain_word 16 request.m3 (lit< tt) h.fields.m3) refl
fields_plain (event.Key node update authkey) nodes h =
    let is : IsUpdate update = h.fields.0 in
    let id : update.id < 2 ^ 64 = let f = is.id_fits in omega arith in
    let auth : update.auth < 2 ^ 64 = let f = is.auth_fits in omega arith in
    let counter : update.counter < 2 ^ 64 = let f = is.counter_fits in omega arith in
    rw (
      plain_word 15 update.uid (lit< tt) is.is_uid,
      number_plain update.id id,
      number_plain update.auth auth,
      plain_word 16 authkey (lit< tt) h.fields.1,
      number_plain update.counter counter,
      flags_plain update.flags,
      plain_word 16 update.key (lit< tt) is.is_key,
    ) refl
fields_plain (event.Boot node image) nodes h = rw (bytes_word-plain image h.fields.2) refl
fields_plain (event.Cut node torn) nodes h = rw (torn_plain torn h.fields) refl
fields_plain (event.Stop node calls) nodes h = rw (number_plain calls (fits 1000000 calls h.fields.1 (lit< tt))) refl
fields_plain (event.Fail node calls) nodes h = rw (number_plain calls (fits 1000000 calls h.fields.1 (lit< tt))) refl

-- the name of a kind may stand first
first_plain : (e : Event) → (not (slice_index (kind_name (event_kind e)) 0 == 35) && is_plain_word (kind_name (event_kind e))) ≡ true
first_plain (event.Send node id payload) = refl
first_plain (event.Deliver node number) = refl
first_plain (event.Inject node id pdu) = refl
first_plain (event.Load node request) = refl
first_plain (event.Key node update authkey) = refl
first_plain (event.Boot node image) = refl
first_plain (event.Cut node torn) = refl
first_plain (event.Stop node calls) = refl
first_plain (event.Fail node calls) = refl

three_parts : (a b c d : Bool) → (a && b) ≡ true → c ≡ true → d ≡ true → (a && (b && (c && d))) ≡ true
three_parts a b c d p q r = grind arith

words_writable : (bus : NamedBus) → IsNamedBus bus → (e : Event) → IsScriptEvent bus.nodes e → is_writable (event_words bus.nodes e) ≡ true
words_writable bus is e h =
    let named : is_name (name_at bus.nodes (node_of e)) ≡ true = (is.are_nodes (node_of e) no_node h.node).named in
    three_parts _ _ _ _ (first_plain e) (name_plain (name_at bus.nodes (node_of e)) named) (fields_plain e bus.nodes h)

-- ---- so what is written is read again

lines_read : (bus : NamedBus) → IsNamedBus bus → (events : List Event) → All (IsScriptEvent bus.nodes) events → length events ≤ most_lines
    → events_of bus.nodes (flat_map written (map (event_words bus.nodes) events)) ≡ Ok events
unfolding events_among
lines_read bus is events are few =
    read_from-words (IsScriptEvent bus.nodes) (event_among kinds bus.nodes) (event_words bus.nodes) (words_mean bus is) most_lines []
    (lines_of (flat_map written (map (event_words bus.nodes) events))) events
    (words-written (map (event_words bus.nodes) events) (all_writable (IsScriptEvent bus.nodes) (event_words bus.nodes) (words_writable bus is) events are))
    are (omega arith)

canon_lines : (nodes : List NodeLine) (events : List Event) → flat_map written (map (event_words nodes) events) ≡ flat_map (canon nodes) events
unfolding canon
canon_lines nodes [] = refl
canon_lines nodes (e ∷ events) = ap (λ (l : List ℕ). written (event_words nodes e) ++ l) (canon_lines nodes events)

pub events_read : (bus : NamedBus) → IsNamedBus bus → (events : List Event) → All (IsScriptEvent bus.nodes) events → length events ≤ most_lines
    → events_of bus.nodes (flat_map (canon bus.nodes) events) ≡ Ok events
events_read bus is events are few = ap (events_of bus.nodes) (sym (canon_lines bus.nodes events)) ∙ lines_read bus is events are few

pub event_read : (bus : NamedBus) → IsNamedBus bus → (e : Event) → IsScriptEvent bus.nodes e → events_of bus.nodes (canon bus.nodes e) ≡ Ok (e ∷ [])
event_read bus is e h =
    ap (events_of bus.nodes) (sym (append-nil (canon bus.nodes e)))
    ∙ events_read bus is (e ∷ []) (All-cons (IsScriptEvent bus.nodes) e [] h (All-nil (IsScriptEvent bus.nodes))) (lit≤)
  where
    lit≤ : 1 ≤ 65536
    lit≤ = omega arith

pub script_read : (bus : NamedBus) → IsNamedBus bus → (text : List ℕ) (events : List Event) → events_of bus.nodes text ≡ Ok events
    → events_of bus.nodes (flat_map (canon bus.nodes) events) ≡ Ok events
script_read bus is text events given =
    events_read bus is events (events_among-are_events kinds bus.nodes text events is.are_nodes given) (events_among-few kinds bus.nodes text events given)
