-- How an ending is printed.
use Rattle.std.specs.Prelude.{◌≡◌, ◌⊎◌, ℕ, List}
use Rattle.bus_port.specs.Fault.{Rose}
use Rattle.bus_port.specs.Sink.{SinkState, Appended}
use Rattle.bus_port.specs.Whole.{AppendedPart}

-- the text was written, and no fault was counted
abbrev pub AppendedWell : SinkState → SinkState → List ℕ → Type 0
AppendedWell before after text = (after.faults ≡ before.faults) × Appended before after text

-- the whole text was written, no fault was counted, and the ending's status is answered
abbrev pub ToldWhole : SinkState → SinkState → List ℕ → ℕ → ℕ → Type 0
ToldWhole before after text status answer = (answer ≡ status) × AppendedWell before after text

-- the sink failed: a proper prefix of the text was written, and 6 is answered
abbrev pub ToldFront : SinkState → SinkState → List ℕ → ℕ → Type 0
ToldFront before after text answer = (answer ≡ 6) × Rose before.faults after.faults × AppendedPart before after text

-- an ending with this text and status was printed
abbrev pub EndingTold : SinkState → SinkState → List ℕ → ℕ → ℕ → Type 0
EndingTold before after text status answer =
    ToldWhole before after text status answer ⊎ ToldFront before after text answer
