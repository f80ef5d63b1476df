-- The two phases of a run, put together.
use Rattle.std.proofs.Common.{◌≡◌, ℕ, List, subst, sym, inl, inr}
use Rattle.std.specs.Prelude.{Result, Ok, Err, Vec}
use Rattle.std.specs.declared.alloc.Global.{Global}
use Rattle.program_edge.specs.declared.input.InputFault.TheVariants as input
use Rattle.program_edge.specs.Rows.{Row}
use Rattle.program_edge.specs.Inputs.{ReadsWhole}
use Rattle.program_edge.proofs.CallerLemmas.{Lacks-whole}
use Rattle.pdu_collection.specs.declared.pair_lines.PairLine.{PairLine}
use Rattle.pdu_collection.specs.PairLines.{pairs_of}
use Rattle.pdu_collection.specs.Rows.{PairingInputs, NamesInput, OverPairs, ComesInPairing, no_input, line_fault, done}
use Rattle.pdu_collection.specs.Steps.{DoesPairs, said, no_text, PreparesPairs, ReadsPairs}

-- the lines of the script that was read, or the row of one of them
pub Prepares-over : (i : PairingInputs) (read : List ℕ) (result : Result (Vec PairLine Global) Row) → NamesInput i.words
    → ReadsWhole i.script read → ReadsPairs read result → PreparesPairs i result
Prepares-over i read (Ok lines) asks whole (are, script) = (script, (asks, (read, whole, are)))
Prepares-over i read (Err row) asks whole (inl (fault, is, row_is)) = subst (ComesInPairing i) (sym row_is) (line_fault fault (asks, (read, whole, is)))
Prepares-over i read (Err row) asks whole (inr memory) =
    subst (ComesInPairing i) (sym memory) (no_input input.Memory asks (Lacks-whole i.script read whole))

-- lines that were prepared, and then told
pub Comes-does : (i : PairingInputs) (lines : List PairLine) → OverPairs i (λ read. pairs_of read ≡ Ok lines)
    → (row : Row) → DoesPairs lines row → ComesInPairing i row
Comes-does i lines (asks, (read, whole, are)) row (said text tells) = done text (asks, (read, whole, (lines, are, tells)))
Comes-does i lines (asks, (read, whole, are)) row no_text = no_input input.Memory asks (Lacks-whole i.script read whole)
