-- What the two phases of `pairing` say to one another
use Rattle.std.specs.Prelude.{◌≡◌, ℕ, List, Result, Ok, Err, Vec}
use Rattle.std.specs.declared.alloc.Global.{Global}
use Rattle.program_edge.specs.Rows.{Row, row_of, memory_row}
use Rattle.text_lines.specs.LineRows.{NoLines}
use Rattle.pdu_collection.specs.declared.pair_lines.PairLine.{PairLine}
use Rattle.pdu_collection.specs.PairLines.{pairs_of}
use Rattle.pdu_collection.specs.Answering.{TellsPairs}
use Rattle.pdu_collection.specs.Receiving.{IsPairScript}
use Rattle.pdu_collection.specs.Rows.{PairingInputs, OverPairs, ComesInPairing}

-- the lines of a script, or the row of its first fault
abbrev pub ReadsPairs : List ℕ → Result (Vec PairLine Global) Row → Type 0
ReadsPairs read (Ok lines) = (pairs_of read ≡ Ok lines.items) × IsPairScript lines.items
ReadsPairs read (Err row) = NoLines (pairs_of read) row

-- how the first phase ends: in the lines of the whole script, or in a row that comes
abbrev pub PreparesPairs : PairingInputs → Result (Vec PairLine Global) Row → Type 0
PreparesPairs i (Ok lines) = IsPairScript lines.items × OverPairs i (λ read. pairs_of read ≡ Ok lines.items)
PreparesPairs i (Err row) = ComesInPairing i row

-- what the second phase ends in: exactly what is said is printed, or there was no memory for it
pub data DoesPairs (lines : List PairLine) : Row → Type 0 where
  said : (text : List ℕ) → TellsPairs lines text → DoesPairs lines (row_of 0 text)
  no_text : DoesPairs lines memory_row
