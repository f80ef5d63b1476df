-- What a world keeps of the past: how many events there were, and which lines were sent
use Rattle.std.specs.Prelude.{◌≡◌, ℕ, ◌+◌, ◌^◌, ◌<◌, ◌≤◌, ◌&&◌, ◌==◌, bytes_eq, Bool, true, Option, List, [], ◌∷◌, ◌++◌}
use Rattle.std.specs.Prelude.{length, get_or, find, option_map}
use Rattle.bus_machine.specs.declared.lines.Line.{Line}
use Rattle.bus_machine.specs.declared.lines.Line.TheVariants.{Sent}
use Rattle.bus_machine.specs.Bus.{SentLine}
use Rattle.secured_pdu.specs.Verdict.{payload_of}
use Rattle.bus_world.specs.declared.records.Record.{Record}
use Rattle.bus_world.specs.declared.history.Frame.{Frame}
use Rattle.bus_world.specs.Records.{IsLatest, Linked, RisesByID, RisesByNumber}

-- the number of events so far, the most there may be, and the lines that were sent
pub record HistoryState : Type 0 where
  pub events : ℕ
  pub most : ℕ
  pub lines : List SentLine

-- the sent line that a record stands for
abbrev pub line_of : Record → SentLine
line_of r = record { number = r.number; id = r.id; payload = payload_of r.pdu; freshness = r.freshness; pdu = r.pdu }

-- one more event, which sent
abbrev pub with_sent : HistoryState → ℕ → ℕ → List ℕ → HistoryState
with_sent h id v pdu = record {
  events = h.events + 1;
  most = h.most;
  lines = h.lines ++ record { number = h.events + 1; id = id; payload = payload_of pdu; freshness = v; pdu = pdu } ∷ [];
}

-- one more event with this line
abbrev pub with_line : HistoryState → Line → HistoryState
with_line h (Sent id v pdu) = with_sent h id v pdu
with_line h _ = record { events = h.events + 1; most = h.most; lines = h.lines }

-- the Data ID and the PDU of the line of this event, if it sent one
abbrev pub frame_in : ℕ → List SentLine → Option Frame
frame_in number lines = option_map (λ s. record { id = s.id; pdu = s.pdu }) (find (λ s. s.number == number) lines)

abbrev pub has_values : ℕ → List ℕ → ℕ → SentLine → Bool
has_values id payload v s = (s.id == id) && bytes_eq s.payload payload && (s.freshness == v)

-- the records of so many events, at most so many, in room for so many lines, and the places of the latest by Data ID
pub record WellKept (events most room : ℕ) (records : List Record) (latest : List (Option ℕ))
    (rising : Bool) : Type 0 where
  pub within : events ≤ most
  pub reserved : most ≤ room
  pub few : length records ≤ events
  pub fits : most < 2 ^ 32
  pub numbered : RisesByNumber records
  pub numbers : (i : ℕ) (d : Record) → i < length records → (get_or records i d).number ≤ events
  pub ids : length latest ≡ 65536
  pub heads : (id : ℕ) (d : Option ℕ) → id < 65536 → IsLatest records id (length records) (get_or latest id d)
  pub linked : Linked records
  pub bounded : (i : ℕ) (d : Record) → i < length records → (get_or records i d).freshness < 2 ^ 64
  pub rises : rising ≡ true → RisesByID records
