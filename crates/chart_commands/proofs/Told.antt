-- The words of lines and the labels of rows have none of the characters that would have to be escaped
use Rattle.std.specs.Prelude.{◌≡◌, ℕ, ◌%◌, ◌<◌, Bool, true, false, Option, None, Some, [], ◌∷◌, ◌++◌, codes}
use Rattle.std.specs.Fmt.{decimal}
use Rattle.std.proofs.Common.{refl}
use Rattle.std.proofs.lemmas.List.Elements.{All-cons, All-nil}
use Rattle.basics.specs.Numbers.{bytes_of}
use Rattle.hex.specs.Hex.{encode_lower}
use Rattle.key_slots.specs.declared.refusals.Erc.{Erc}
use Rattle.key_slots.specs.declared.refusals.Erc.TheVariants.{KeyNotAvailable, KeyInvalid, KeyEmpty, NoSecureBoot, KeyWriteProtected, KeyUpdateError, SequenceError}
use Rattle.key_slots.specs.Names.{erc_name}
use Rattle.cut_disk.specs.declared.Torn.{Torn}
use Rattle.cut_disk.specs.declared.Torn.TheVariants.{Keep, Old, Half, Fill}
use Rattle.bus_machine.specs.declared.events.Event.{Event}
use Rattle.bus_machine.specs.declared.events.Event.TheVariants as event
use Rattle.bus_machine.specs.declared.lines.Line.{Line}
use Rattle.bus_machine.specs.declared.lines.Line.TheVariants.{Sent, Accepted, FreshnessFailure, VerificationFailure, Keyed, Loaded, Boot, Up, Armed, NoFrame, Refused}
use Rattle.bus_machine.specs.declared.lines.Refusal.{Refusal}
use Rattle.bus_machine.specs.declared.lines.Refusal.TheVariants.{Down, NoRoute, BadLength, Key, Exhausted, MemoryFailure, NotFormatted, Damaged, BadSlot, BadBound}
use Rattle.bus_script.specs.LineTexts.{told_words, refusal_words, source_word, boot_word}
use Rattle.bus_machine.specs.LineKinds.{IsLine}
use Rattle.text_lines.specs.Spaced.{spaced}
use Rattle.bus_script.specs.Canon.{torn_word}
use Rattle.bus_script.specs.ScriptEvents.{HasFields, IsTorn}
use Rattle.chart_commands.specs.Grammar.{is_content_text}
use Rattle.chart_commands.specs.Labels.{sent_label, accepted_label, delivered_label, up_label, armed_label, label_text}
use Rattle.chart_commands.proofs.Contents.{both_content, AreContent, spaced_content, decimal_content, hex_content, id_content, freshness_content, blocks_content}

-- ---- the words of a line

erc_content : (refusal : Erc) → is_content_text (erc_name refusal) ≡ true
erc_content KeyNotAvailable = refl
erc_content KeyInvalid = refl
erc_content KeyEmpty = refl
erc_content NoSecureBoot = refl
erc_content KeyWriteProtected = refl
erc_content KeyUpdateError = refl
erc_content SequenceError = refl

refusal_content : (refusal : Refusal) → AreContent (refusal_words refusal)
refusal_content Down = (refl, tt)
refusal_content NoRoute = (refl, tt)
refusal_content BadLength = (refl, tt)
refusal_content (Key erc) = (erc_content erc, tt)
refusal_content Exhausted = (refl, tt)
refusal_content MemoryFailure = (refl, tt)
refusal_content NotFormatted = (refl, tt)
refusal_content (Damaged place) = (refl, (decimal_content place, tt))
refusal_content (BadSlot slot) = (refl, (decimal_content slot, tt))
refusal_content (BadBound cell) = (refl, (decimal_content cell, tt))

source_content : (source : Option ℕ) → is_content_text (source_word source) ≡ true
source_content None = refl
source_content (Some number) = decimal_content number

boot_content : (good : Bool) → is_content_text (boot_word good) ≡ true
boot_content true = refl
boot_content false = refl

pub told_content : (line : Line) → IsLine line → AreContent (told_words line)
told_content (Sent id v pdu) is = (refl, (id_content id, (freshness_content v, (hex_content pdu is.2.are_bytes.bytes, tt))))
told_content (Accepted id v payload source) is =
    (refl, (id_content id, (freshness_content v, (hex_content payload is.2.are_bytes.bytes, (refl, (source_content source, tt))))))
told_content FreshnessFailure is = (refl, tt)
told_content VerificationFailure is = (refl, tt)
told_content (Keyed slot) is = (refl, (decimal_content slot, tt))
told_content (Loaded reply) is = (refl, (blocks_content reply.m4 is.m4, (hex_content reply.m5 is.m5.bytes, tt)))
told_content (Boot good) is = (refl, (boot_content good, tt))
told_content Up is = (refl, tt)
told_content Armed is = (refl, tt)
told_content NoFrame is = (refl, (refl, tt))
told_content (Refused refusal) is = (refl, refusal_content refusal)

-- ---- the label of a row

delivered_content : (e : Event) → is_content_text (delivered_label e) ≡ true
delivered_content (event.Deliver node number) = both_content (codes " of ") (decimal number) refl (decimal_content number)
delivered_content _ = refl

torn_content : (torn : Torn) → IsTorn torn → is_content_text (torn_word torn) ≡ true
torn_content Keep is = refl
torn_content Old is = refl
torn_content Half is = refl
torn_content (Fill byte) is = hex_content (byte ∷ []) (All-cons (λ x. x < 256) byte [] is (All-nil (λ x. x < 256)))

up_content : (e : Event) → HasFields e → is_content_text (up_label e) ≡ true
up_content (event.Cut node torn) has =
    both_content (codes "cut ") (torn_word torn ++ codes ", up") refl (both_content (torn_word torn) (codes ", up") (torn_content torn has) refl)
up_content _ has = refl

armed_content : (e : Event) → is_content_text (armed_label e) ≡ true
armed_content (event.Stop node calls) = both_content (codes "armed stop ") (decimal calls) refl (decimal_content calls)
armed_content (event.Fail node calls) = both_content (codes "armed fail ") (decimal calls) refl (decimal_content calls)
armed_content _ = refl

sent_content : (id v : ℕ) → is_content_text (sent_label id v) ≡ true
sent_content id v =
    both_content (codes "sent ") (encode_lower (bytes_of 2 id) ++ (codes " .." ++ encode_lower (bytes_of 2 (v % 65536)))) refl
    (both_content (encode_lower (bytes_of 2 id)) (codes " .." ++ encode_lower (bytes_of 2 (v % 65536))) (id_content id)
    (both_content (codes " ..") (encode_lower (bytes_of 2 (v % 65536))) refl (id_content (v % 65536))))

accepted_content : (id : ℕ) (source : Option ℕ) → is_content_text (accepted_label id source) ≡ true
accepted_content id source =
    both_content (codes "accepted ") (encode_lower (bytes_of 2 id) ++ (codes " from " ++ source_word source)) refl
    (both_content (encode_lower (bytes_of 2 id)) (codes " from " ++ source_word source) (id_content id)
    (both_content (codes " from ") (source_word source) refl (source_content source)))

pub label_content : (e : Event) (line : Line) → HasFields e → is_content_text (label_text e line) ≡ true
label_content e (Sent id v pdu) has = sent_content id v
label_content e (Accepted id v payload source) has = accepted_content id source
label_content e FreshnessFailure has = both_content (codes "FRESHNESSFAILURE") (delivered_label e) refl (delivered_content e)
label_content e VerificationFailure has = both_content (codes "VERIFICATIONFAILURE") (delivered_label e) refl (delivered_content e)
label_content e (Keyed slot) has = both_content (codes "keyed ") (decimal slot) refl (decimal_content slot)
label_content e (Loaded reply) has = refl
label_content e (Boot good) has = both_content (codes "boot ") (boot_word good) refl (boot_content good)
label_content e Up has = up_content e has
label_content e Armed has = armed_content e
label_content e NoFrame has = refl
label_content e (Refused refusal) has =
    both_content (codes "refused") (spaced (refusal_words refusal)) refl (spaced_content (refusal_words refusal) (refusal_content refusal))
