-- The table of answers of `pairing`: its rows, and when each comes
use Rattle.std.specs.Prelude.{◌≡◌, ℕ, List, length, Ok, Err, codes}
use Rattle.text_lines.specs.Readings.{Fault}
use Rattle.text_lines.specs.Texts.{line}
use Rattle.program_edge.specs.declared.input.InputFault.{InputFault}
use Rattle.program_edge.specs.Rows.{Row, row_of, input_row}
use Rattle.program_edge.specs.Inputs.{Reading, IsUnread, ReadsWhole, Lacks, Offers}
use Rattle.text_lines.specs.LineRows.{line_row}
use Rattle.pdu_collection.specs.declared.pair_lines.PairLine.{PairLine}
use Rattle.pdu_collection.specs.declared.start.TheConstants.{EXAMPLE}
use Rattle.pdu_collection.specs.PairLines.{pairs_of}
use Rattle.pdu_collection.specs.Answering.{TellsPairs}

-- what goes into a run: its words, and what was known of the source of the script
pub record PairingInputs : Type 0 where
  pub words : List (List ℕ)
  pub script : Reading

-- one word asks for the pairs of the script that it names
abbrev pub NamesInput : List (List ℕ) → Type 0
NamesInput words = length words ≡ 1

-- a run of the example: of one word, over a source that tells its text, and doesn't fail
abbrev pub IsExampleScript : PairingInputs → Type 0
IsExampleScript i = NamesInput i.words × Offers i.script EXAMPLE.now

-- the line that is printed if they are malformed
abbrev pub pairing_usage : List ℕ
pairing_usage = line (codes "usage: pairing F")

-- the text is what is printed of a script
abbrev pub PrintsPairs : List ℕ → List ℕ → Type 0
PrintsPairs read text = (lines : List PairLine) × (pairs_of read ≡ Ok lines) × TellsPairs lines text

-- the words are of the form, and the script was read whole; this holds of it
abbrev pub OverPairs : PairingInputs → (List ℕ → Type 0) → Type 0
OverPairs i P = NamesInput i.words × ((read : List ℕ) × ReadsWhole i.script read × P read)

-- the table: when each row comes, with its status and text
pub data ComesInPairing (i : PairingInputs) : Row → Type 0 where
  no_form : ¬ NamesInput i.words → IsUnread i.script → ComesInPairing i (row_of 2 pairing_usage)
  no_input : (fault : InputFault) → NamesInput i.words → Lacks i.script fault → ComesInPairing i (input_row fault)
  line_fault : (fault : Fault) → OverPairs i (λ read. pairs_of read ≡ Err fault) → ComesInPairing i (line_row fault)
  done : (text : List ℕ) → OverPairs i (λ read. PrintsPairs read text) → ComesInPairing i (row_of 0 text)
