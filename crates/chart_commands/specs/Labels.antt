-- The labels of a chart: what stands beside the mark of an event (own)
use Rattle.std.specs.Prelude.{ℕ, ◌%◌, Option, List, [], ◌++◌, codes}
use Rattle.std.specs.Fmt.{decimal}
use Rattle.basics.specs.Numbers.{bytes_of}
use Rattle.hex.specs.Hex.{encode_lower}
use Rattle.bus_machine.specs.declared.events.Event.{Event}
use Rattle.bus_machine.specs.declared.events.Event.TheVariants as event
use Rattle.bus_machine.specs.declared.lines.Line.{Line}
use Rattle.bus_machine.specs.declared.lines.Line.TheVariants.{Sent, Accepted, FreshnessFailure, VerificationFailure}
use Rattle.bus_machine.specs.declared.lines.Line.TheVariants.{Keyed, Loaded, Boot, Up, Armed, NoFrame, Refused}
use Rattle.bus_script.specs.LineTexts.{source_word, boot_word, refusal_words}
use Rattle.text_lines.specs.Spaced.{spaced}
use Rattle.bus_script.specs.Canon.{torn_word}

-- a Data ID has four digits, and of a freshness its last four are shown
abbrev pub sent_label : ℕ → ℕ → List ℕ
sent_label id v =
    codes "sent " ++ (encode_lower (bytes_of 2 id) ++ (codes " .." ++ encode_lower (bytes_of 2 (v % 65536))))

abbrev pub accepted_label : ℕ → Option ℕ → List ℕ
accepted_label id source = codes "accepted " ++ (encode_lower (bytes_of 2 id) ++ (codes " from " ++ source_word source))

-- the event whose PDU was delivered
abbrev pub delivered_label : Event → List ℕ
delivered_label (event.Deliver node number) = codes " of " ++ decimal number
delivered_label _ = []

-- what the cut left
abbrev pub up_label : Event → List ℕ
up_label (event.Cut node torn) = codes "cut " ++ (torn_word torn ++ codes ", up")
up_label _ = codes "up"

-- the failure that is armed
abbrev pub armed_label : Event → List ℕ
armed_label (event.Stop node calls) = codes "armed stop " ++ decimal calls
armed_label (event.Fail node calls) = codes "armed fail " ++ decimal calls
armed_label _ = codes "armed"

-- the label of an event and its line; a reply and the bytes of a PDU are left out
abbrev pub label_text : Event → Line → List ℕ
label_text e (Sent id v pdu) = sent_label id v
label_text e (Accepted id v payload source) = accepted_label id source
label_text e FreshnessFailure = codes "FRESHNESSFAILURE" ++ delivered_label e
label_text e VerificationFailure = codes "VERIFICATIONFAILURE" ++ delivered_label e
label_text e (Keyed slot) = codes "keyed " ++ decimal slot
label_text e (Loaded reply) = codes "loaded"
label_text e (Boot good) = codes "boot " ++ boot_word good
label_text e Up = up_label e
label_text e Armed = armed_label e
label_text e NoFrame = codes "no frame"
label_text e (Refused refusal) = codes "refused" ++ spaced (refusal_words refusal)
