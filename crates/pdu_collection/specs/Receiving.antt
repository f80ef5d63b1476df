-- What the steps of the answers say to one another
use Rattle.std.specs.Prelude.{◌≡◌, ◌⊎◌, ℕ, List, [], ◌++◌, map}
use Rattle.std.specs.Prelude.{Option, Result, Ok, Err}
use Rattle.std.specs.List.{flat_map}
use Rattle.secoc_words.specs.Counting.{next_counter}
use Rattle.pdu_collection.specs.declared.joiner.BadLength.{BadLength}
use Rattle.pdu_collection.specs.declared.answering.Receiver.{Receiver}
use Rattle.pdu_collection.specs.declared.pair_lines.Head.{Head}
use Rattle.pdu_collection.specs.declared.pair_lines.Entry.{Entry}
use Rattle.pdu_collection.specs.declared.pair_lines.PairLine.{PairLine}
use Rattle.pdu_collection.specs.declared.pair_lines.PairLine.TheVariants as line
use Rattle.pdu_collection.specs.Joining.{Kind, Arrival}
use Rattle.pdu_collection.specs.Joined.{JoinerState, Given, Arrives}
use Rattle.pdu_collection.specs.PairLines.{IsScript}
use Rattle.pdu_collection.specs.Answering.{HasLength, Said, said_text, arrives, arrival_of, said_accepts}
use Rattle.pdu_collection.specs.Answering.{counter_behind_lines, SaysOf, Says, SaysMade, SaysEach}

-- the lines are none, or a script
abbrev pub IsPairScript : List PairLine → Type 0
IsPairScript lines = (lines ≡ []) ⊎ ((head : Head) × (entries : List Entry) × IsScript lines head entries)

-- the lines are entries alone
abbrev pub AreEntries : List PairLine → Type 0
AreEntries lines = (entries : List Entry) × (lines ≡ map line.Entry entries)

-- the text is what is said of each of the lines, which are entries
abbrev pub TellsEntries : Head → List PairLine → List ℕ → Type 0
TellsEntries head lines text =
    (entries : List Entry) × (arrivals : List Arrival) × (said : List Said)
    × (lines ≡ map line.Entry entries) × SaysEach head entries arrivals said × (text ≡ flat_map said_text said)

-- what is said of an entry was added, and the receiver was given it, whatever it was given before
abbrev pub Answers : Head → Receiver → Receiver → Entry → List ℕ → List ℕ → Type 0
Answers head old new entry before after =
    (said : Said) × (after ≡ before ++ said_text said) × (new.joiner.place ≡ old.joiner.place)
    × (new.counter ≡ next_counter 0 old.counter (said_accepts said))
    × ((arrivals : List Arrival) → Given old.joiner arrivals
    → Says head arrivals old.counter entry said × Given new.joiner (arrivals ++ arrival_of entry said))

-- the same of a PDU of this kind
abbrev pub AnswersArrival : Head → Receiver → Receiver → Kind → List ℕ → List ℕ → List ℕ → Type 0
AnswersArrival head old new kind pdu before after =
    (said : Said) × (after ≡ before ++ said_text said) × (new.joiner.place ≡ old.joiner.place)
    × (new.counter ≡ next_counter 0 old.counter (said_accepts said))
    × ((arrivals : List Arrival) → Given old.joiner arrivals
    → SaysOf head arrivals old.counter kind pdu said × Given new.joiner (arrivals ++ arrives kind pdu said))

-- the PDUs that are asked for were added
abbrev pub AddsMade : Head → ℕ → List ℕ → List ℕ → List ℕ → Type 0
AddsMade head freshness payload before after =
    (said : Said) × SaysMade head freshness payload said × (after ≡ before ++ said_text said)

-- what a joiner told of a PDU of this kind that arrived
abbrev pub Arrived : JoinerState → JoinerState → Kind → List ℕ → List ℕ → Result (Option ℕ) BadLength → Type 0
Arrived old new kind pdu joined (Ok size) =
    HasLength old.place kind pdu
    × ((room : List ℕ) × Arrives old new (record { kind = kind; pdu = pdu }) room joined size)
Arrived old new kind pdu joined (Err refused) = ¬ HasLength old.place kind pdu × (new ≡ old)

-- the entries so far were answered
pub record Answered (head : Head) (entries : List Entry) (receiver : Receiver) (text : List ℕ) : Type 0 where
  pub arrivals : List Arrival
  pub said : List Said
  pub says : SaysEach head entries arrivals said
  pub text_is : text ≡ flat_map said_text said
  pub place_is : receiver.joiner.place ≡ head.place
  pub counter_is : receiver.counter ≡ counter_behind_lines head said
  pub given : Given receiver.joiner arrivals
