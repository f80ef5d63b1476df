-- The events of the worked example, computed
use Rattle.std.specs.Prelude.{◌≡◌, ℕ, List, [], ◌∷◌, Option, None, Some, Result, Ok, codes}
use Rattle.std.proofs.Common.{sym, subst}
use Rattle.basics.specs.Numbers.{number_of}
use Rattle.hex.specs.Hex.{decode_pairs}
use Rattle.program_edge.proofs.CallerLemmas.{Offers-whole}
use Rattle.secoc_gateway.specs.Words.{Update}
use Rattle.text_lines.specs.Forms.{number_form, hex_bytes_form, bytes_form}
use Rattle.text_lines.specs.Lines.{words_of, is_skipped, kept, numbered, lines_of}
use Rattle.text_lines.specs.Readings.{Fault, ◌>>=◌, field, at_line, read_from}
use Rattle.secoc_words.specs.Forms.{key_form, data_id_form}
use Rattle.secoc_words.specs.KeyForms.{uid_form, flags_form}
use Rattle.bus_machine.specs.declared.events.Event.{Event}
use Rattle.bus_machine.specs.declared.events.Event.TheVariants.{Key, Inject}
use Rattle.bus_config.specs.Buses.{place_named}
use Rattle.bus_script.specs.EventKinds.{kind_of}
use Rattle.bus_script.specs.EventForms.{own_events_of, events_among, event_among, inject_of, key_event_of, event_uid_form}
use Rattle.gateway_commands.specs.declared.example.TheConstants.{SCRIPT}
use Rattle.gateway_commands.specs.ExampleEvents.{AreReplay, ExampleReplays}

-- what the script means, by the place of the node that it names, and by what is in its lines
abbrev meaning : Option ℕ → (ℕ → Update) → List ℕ → ℕ → List ℕ → Result (List Event) Fault
meaning place update authkey id pdu = do
  key ← at_line 1 (do
    node ← field 2 place
    Ok (Key node (update node) authkey))
  first ← at_line 2 (do
    node ← field 2 place
    Ok (Inject node id pdu))
  second ← at_line 3 (do
    node ← field 2 place
    Ok (Inject node id pdu))
  Ok (key ∷ first ∷ second ∷ [])

means_replay : (place : Option ℕ) (update : ℕ → Update) (authkey : List ℕ) (id : ℕ) (pdu : List ℕ) (events : List Event)
    → meaning place update authkey id pdu ≡ Ok events → AreReplay events
means_replay None update authkey id pdu events is = absurd (let no : ⊥ = cc is in no)
means_replay (Some node) update authkey id pdu events is =
    let same : Key node (update node) authkey ∷ Inject node id pdu ∷ Inject node id pdu ∷ [] ≡ events = cc is in
    (node, update node, authkey, id, pdu, sym same)

pub example_events : ExampleReplays
unfolding events_among event_among inject_of key_event_of event_uid_form kind_of read_from lines_of numbered kept is_skipped words_of number_form hex_bytes_form bytes_form key_form data_id_form uid_form flags_form decode_pairs number_of
example_events i bus pairs events is set =
    means_replay (place_named bus.nodes (codes "gate")) _ _ _ _ events
    (subst (λ (text : List ℕ). own_events_of bus.nodes text ≡ Ok events) (Offers-whole i.script SCRIPT.now set.text is.script set.whole) set.has)
