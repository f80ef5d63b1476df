-- The printed texts of what came of events: the number of the line and words, one space between each two, and a line
-- feed at the end
use Rattle.std.specs.Prelude.{ℕ, Bool, true, false, Option, None, Some, List, [], ◌∷◌, codes}
use Rattle.std.specs.Fmt.{decimal}
use Rattle.std.specs.List.{flat_map}
use Rattle.basics.specs.Numbers.{bytes_of}
use Rattle.hex.specs.Hex.{encode_lower}
use Rattle.key_slots.specs.Names.{erc_name}
use Rattle.text_lines.specs.Written.{written}
use Rattle.bus_machine.specs.declared.lines.Line.{Line}
use Rattle.bus_machine.specs.declared.lines.Line.TheVariants.{Sent, Accepted, FreshnessFailure, VerificationFailure}
use Rattle.bus_machine.specs.declared.lines.Line.TheVariants.{Keyed, Loaded, Boot, Up, Armed, NoFrame, Refused}
use Rattle.bus_machine.specs.declared.lines.Refusal.{Refusal}
use Rattle.bus_machine.specs.declared.lines.Refusal.TheVariants.{Down, NoRoute, BadLength, Key, Exhausted}
use Rattle.bus_machine.specs.declared.lines.Refusal.TheVariants.{MemoryFailure, NotFormatted, Damaged, BadSlot}
use Rattle.bus_machine.specs.declared.lines.Refusal.TheVariants.{BadBound}
use Rattle.run_driver.specs.Printed.{texts}

-- the words of a refusal; numbers are decimal
abbrev pub refusal_words : Refusal → List (List ℕ)
refusal_words Down = codes "Down" ∷ []
refusal_words NoRoute = codes "NoRoute" ∷ []
refusal_words BadLength = codes "BadLength" ∷ []
refusal_words (Key refusal) = erc_name refusal ∷ []
refusal_words Exhausted = codes "Exhausted" ∷ []
refusal_words MemoryFailure = codes "MEMORY_FAILURE" ∷ []
refusal_words NotFormatted = codes "NotFormatted" ∷ []
refusal_words (Damaged place) = codes "Damaged" ∷ decimal place ∷ []
refusal_words (BadSlot slot) = codes "BadSlot" ∷ decimal slot ∷ []
refusal_words (BadBound cell) = codes "BadBound" ∷ decimal cell ∷ []

-- the number of the event that sent what was accepted
abbrev pub source_word : Option ℕ → List ℕ
source_word None = codes "none"
source_word (Some event) = decimal event

abbrev pub boot_word : Bool → List ℕ
boot_word true = codes "ok"
boot_word false = codes "wrong"

-- the words of a line after its number: a Data ID has four digits, a freshness 16, and bytes two each, in lower case
abbrev pub told_words : Line → List (List ℕ)
told_words (Sent id v pdu) =
    codes "sent" ∷ encode_lower (bytes_of 2 id) ∷ encode_lower (bytes_of 8 v) ∷ encode_lower pdu ∷ []
told_words (Accepted id v payload source) =
    codes "accepted" ∷ encode_lower (bytes_of 2 id) ∷ encode_lower (bytes_of 8 v) ∷ encode_lower payload
    ∷ codes "from" ∷ source_word source ∷ []
told_words FreshnessFailure = codes "FRESHNESSFAILURE" ∷ []
told_words VerificationFailure = codes "VERIFICATIONFAILURE" ∷ []
told_words (Keyed slot) = codes "keyed" ∷ decimal slot ∷ []
told_words (Loaded reply) = codes "loaded" ∷ flat_map encode_lower reply.m4 ∷ encode_lower reply.m5 ∷ []
told_words (Boot good) = codes "boot" ∷ boot_word good ∷ []
told_words Up = codes "up" ∷ []
told_words Armed = codes "armed" ∷ []
told_words NoFrame = codes "no" ∷ codes "frame" ∷ []
told_words (Refused refusal) = codes "refused" ∷ refusal_words refusal

-- the text of the line with this number
abbrev pub line_text : ℕ → Line → List ℕ
line_text number line = written (decimal number ∷ told_words line)

-- the text of lines, which are numbered from 1
abbrev pub text_of : List Line → List ℕ
text_of = texts line_text 1
