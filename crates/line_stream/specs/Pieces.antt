-- A log that comes in pieces: its lines, how much of one is looked at, and what is written for a piece
use Rattle.std.specs.Prelude.{ℕ, min, List, Result, MatchResult}
use Rattle.std.specs.List.{slice_split}
use Rattle.basics.specs.FaultCount.{last_count}
use Rattle.bus_port.specs.Fault.{Rose}
use Rattle.bus_port.specs.Sink.{SinkState}
use Rattle.bus_port.specs.Whole.{AppendedPart}
use Rattle.program_edge.specs.Told.{AppendedWell}
use Rattle.text_lines.specs.Lines.{is_line_feed}

-- the most bytes of a line that is looked at, its line feed not counted
abbrev pub line_limit : ℕ
line_limit = 4096

-- the lines of a log: what stands before each line feed, and after the last one
abbrev pub log_lines : List ℕ → List (List ℕ)
log_lines log = slice_split is_line_feed log

-- a count in 64 bits: it stands still at its last value
abbrev pub in_64_bits : ℕ → ℕ
in_64_bits count = min count last_count

-- this text was written; or the sink failed, and a proper prefix of it was
abbrev pub PutsPiece : {A E : Type 0} → SinkState → SinkState → List ℕ → Result A E → Type 0
PutsPiece before after text result =
    MatchResult result (λ _. AppendedWell before after text)
    (λ _. Rose before.faults after.faults × AppendedPart before after text)
