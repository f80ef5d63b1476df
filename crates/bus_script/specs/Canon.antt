-- The canonical line of an event: single spaces, lower-case digits, every identifier written out, `-` for no bytes.
use Rattle.std.specs.Prelude.{ℕ, List, [], ◌∷◌, codes}
use Rattle.std.specs.Fmt.{decimal}
use Rattle.basics.specs.Numbers.{bytes_of}
use Rattle.hex.specs.Hex.{encode_lower}
use Rattle.cut_disk.specs.declared.Torn.{Torn}
use Rattle.cut_disk.specs.declared.Torn.TheVariants.{Keep, Old, Half, Fill}
use Rattle.memory_update.specs.declared.messages.Update.{Update}
use Rattle.secoc_words.specs.Written.{load_words, flags_text}
use Rattle.text_lines.specs.Written.{written, bytes_word}
use Rattle.bus_config.specs.declared.node_lines.NodeLine.{NodeLine}
use Rattle.bus_machine.specs.declared.events.Event.{Event}
use Rattle.bus_machine.specs.declared.events.Event.TheVariants as event
use Rattle.bus_machine.specs.Bus.{node_of}
use Rattle.bus_script.specs.declared.kinds.EventKind.{EventKind}
use Rattle.bus_script.specs.declared.kinds.EventKind.TheVariants.{Send, Deliver, Inject, Load, Key, Boot, Cut, Stop}
use Rattle.bus_script.specs.declared.kinds.EventKind.TheVariants.{Fail}
use Rattle.bus_script.specs.EventKinds.{kind_name}
use Rattle.bus_script.specs.EventForms.{node_line_at}

-- the kind of an event
abbrev pub event_kind : Event → EventKind
event_kind (event.Send node id payload) = Send
event_kind (event.Deliver node number) = Deliver
event_kind (event.Inject node id pdu) = Inject
event_kind (event.Load node request) = Load
event_kind (event.Key node update authkey) = Key
event_kind (event.Boot node image) = Boot
event_kind (event.Cut node torn) = Cut
event_kind (event.Stop node calls) = Stop
event_kind (event.Fail node calls) = Fail

-- the name of the node at a place
abbrev pub name_at : List NodeLine → ℕ → List ℕ
name_at nodes place = (node_line_at nodes place).name

-- what a power cut leaves, as a word
abbrev pub torn_word : Torn → List ℕ
torn_word Keep = codes "keep"
torn_word Old = codes "old"
torn_word Half = codes "half"
torn_word (Fill byte) = encode_lower (byte ∷ [])

-- an update and its authorising key: UID', ID, AuthID, the authorising key, counter, flags, the new key
abbrev pub update_words : Update → List ℕ → List (List ℕ)
update_words update authkey =
    encode_lower update.uid ∷ decimal update.id ∷ decimal update.auth ∷ encode_lower authkey
    ∷ decimal update.counter ∷ flags_text update.flags ∷ encode_lower update.key ∷ []

-- the words of an event after its node
abbrev pub field_words : Event → List (List ℕ)
field_words (event.Send node id payload) = encode_lower (bytes_of 2 id) ∷ bytes_word payload ∷ []
field_words (event.Deliver node number) = decimal number ∷ []
field_words (event.Inject node id pdu) = encode_lower (bytes_of 2 id) ∷ bytes_word pdu ∷ []
field_words (event.Load node request) = load_words request
field_words (event.Key node update authkey) = update_words update authkey
field_words (event.Boot node image) = bytes_word image ∷ []
field_words (event.Cut node torn) = torn_word torn ∷ []
field_words (event.Stop node calls) = decimal calls ∷ []
field_words (event.Fail node calls) = decimal calls ∷ []

-- the words of an event: the name of its kind, the name of its node, and the rest
abbrev pub event_words : List NodeLine → Event → List (List ℕ)
event_words nodes e = kind_name (event_kind e) ∷ name_at nodes (node_of e) ∷ field_words e

-- the canonical line
unfoldable pub canon : List NodeLine → Event → List ℕ
canon nodes e = written (event_words nodes e)
