-- What is said of each line of a script of pairs, and printed
use Rattle.std.specs.Prelude.{◌≡◌, ◌⊎◌, ℕ, List, [], ◌∷◌, ◌++◌, map, codes, Option, None, Some}
use Rattle.std.specs.List.{flat_map}
use Rattle.hex.specs.Hex.{encode_lower}
use Rattle.secured_pdu.specs.Verdict.{Outcome, Verdict}
use Rattle.secoc_words.specs.Counting.{Acceptance, accepted_by, last_accepted, AcceptedRise}
use Rattle.secoc_words.specs.Texts.{outcome_text, bad_length_text}
use Rattle.text_lines.specs.Texts.{line}
use Rattle.pdu_collection.specs.declared.pair_lines.Head.{Head}
use Rattle.pdu_collection.specs.declared.pair_lines.Entry.{Entry}
use Rattle.pdu_collection.specs.declared.pair_lines.Entry.TheVariants.{Authentic, Cryptographic, Secured}
use Rattle.pdu_collection.specs.declared.pair_lines.PairLine.{PairLine}
use Rattle.pdu_collection.specs.PairLines.{IsScript}
use Rattle.pdu_collection.specs.Collection.{Place, IsAuthentic, IsCryptographic, IsPartOf}
use Rattle.pdu_collection.specs.Joining.{Kind, authentic, cryptographic, Arrival}
use Rattle.pdu_collection.specs.Joined.{NextJoins, joined_with}

-- what is said of a line
pub data Said : Type 0 where
  bad_length : Said
  waits : Said
  judged : (outcome : Outcome) → Said
  made : (payload pdu : List ℕ) → Said

-- the text of it: for PDUs that were asked for both, in lower-case digits
abbrev pub said_text : Said → List ℕ
said_text bad_length = bad_length_text
said_text waits = line (codes "waiting")
said_text (judged outcome) = outcome_text outcome
said_text (made payload pdu) = line (encode_lower payload ++ codes " " ++ encode_lower pdu)

-- ---- arrivals

-- a PDU has the length of its kind
abbrev pub HasLength : Place → Kind → List ℕ → Type 0
HasLength place authentic pdu = IsAuthentic place pdu
HasLength place cryptographic pdu = IsCryptographic place pdu

-- the arrival of a PDU with this answer: none if its length is bad
abbrev pub arrives : Kind → List ℕ → Said → List Arrival
arrives kind pdu bad_length = []
arrives kind pdu said = record { kind = kind; pdu = pdu } ∷ []

-- the arrival of an entry, if it is one
abbrev pub arrival_of : Entry → Said → List Arrival
arrival_of (Authentic pdu) said = arrives authentic pdu said
arrival_of (Cryptographic pdu) said = arrives cryptographic pdu said
arrival_of (Secured freshness payload) said = []

-- ---- the counter

-- what is accepted of a line, if it is; a script has one receiver, which has the number 0
abbrev pub said_accepts : Said → Option Acceptance
said_accepts bad_length = None
said_accepts waits = None
said_accepts (judged outcome) = accepted_by 0 outcome
said_accepts (made payload pdu) = None

-- the counter after these lines: the freshness of the latest that was accepted, or the head's
abbrev pub counter_behind_lines : Head → List Said → ℕ
counter_behind_lines head said = last_accepted 0 head.counter (map said_accepts said)

-- ---- what is said of one line

-- an arrival waits, or joins one before it, and both together are judged as one Secured I-PDU is, by a receiver with
-- the widest window
abbrev pub SaysOf : Head → List Arrival → ℕ → Kind → List ℕ → Said → Type 0
SaysOf head before counter kind pdu bad_length = ¬ HasLength head.place kind pdu
SaysOf head before counter kind pdu waits =
    HasLength head.place kind pdu × NextJoins head.place before (record { kind = kind; pdu = pdu }) None
SaysOf head before counter kind pdu (judged outcome) =
    HasLength head.place kind pdu
    × ((joined : List ℕ) × NextJoins head.place before (record { kind = kind; pdu = pdu }) (Some joined)
    × Verdict head.key head.id counter 256 (joined_with kind pdu joined) outcome)
SaysOf head before counter kind pdu (made payload part) = ⊥

-- the PDUs that are asked for are those of the payload
abbrev pub SaysMade : Head → ℕ → List ℕ → Said → Type 0
SaysMade head freshness payload bad_length = ¬ IsAuthentic head.place payload
SaysMade head freshness payload (made authentic_pdu part) =
    IsAuthentic head.place payload × (authentic_pdu ≡ payload)
    × IsPartOf head.key head.id head.place payload freshness part
SaysMade head freshness payload waits = ⊥
SaysMade head freshness payload (judged outcome) = ⊥

-- after these arrivals, and with this counter
abbrev pub Says : Head → List Arrival → ℕ → Entry → Said → Type 0
Says head before counter (Authentic pdu) said = SaysOf head before counter authentic pdu said
Says head before counter (Cryptographic pdu) said = SaysOf head before counter cryptographic pdu said
Says head before counter (Secured freshness payload) said = SaysMade head freshness payload said

-- ---- the whole script

-- what is said of the entries so far, and the arrivals among them; of one more it is said after these, with the
-- freshness that was accepted last
pub data SaysEach (head : Head) : List Entry → List Arrival → List Said → Type 0 where
  none : SaysEach head [] [] []
  more : (entries : List Entry) (arrivals : List Arrival) (said : List Said) (entry : Entry) (s : Said)
      → SaysEach head entries arrivals said
      → Says head arrivals (counter_behind_lines head said) entry s
      → SaysEach head (entries ++ entry ∷ []) (arrivals ++ arrival_of entry s) (said ++ s ∷ [])

-- the text is what is said of each line after the head; without a head there is none
abbrev pub TellsPairs : List PairLine → List ℕ → Type 0
TellsPairs lines text =
    ((lines ≡ []) × (text ≡ []))
    ⊎ ((head : Head) × (entries : List Entry) × (arrivals : List Arrival) × (said : List Said)
    × IsScript lines head entries × SaysEach head entries arrivals said × (text ≡ flat_map said_text said))

-- ---- what holds of it

-- what is said of each line, and the text is that of it. The later of two lines that were accepted has the greater
-- freshness
abbrev pub TellsRising : List PairLine → List ℕ → Type 0
TellsRising lines text =
    ((lines ≡ []) × (text ≡ []))
    ⊎ ((head : Head) × (entries : List Entry) × (arrivals : List Arrival) × (said : List Said)
    × IsScript lines head entries × SaysEach head entries arrivals said
    × AcceptedRise (map said_accepts said) × (text ≡ flat_map said_text said))
