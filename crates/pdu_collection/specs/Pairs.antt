-- What a run of `pairing` promises
use Rattle.std.specs.Prelude.{◌≡◌, ◌⊎◌, ℕ, List, [], Ok, Err, codes}
use Rattle.text_lines.specs.Readings.{Fault}
use Rattle.text_lines.specs.Texts.{fault_text_of}
use Rattle.program_edge.specs.declared.input.InputFault.TheVariants as input
use Rattle.program_edge.specs.Inputs.{IsUnread, Lacks, SourceFailed, CountsFault, GivesTooMuch, CountsTooMuch, Offers}
use Rattle.program_edge.specs.Endings.{Ending, EndsInRow, EndsIn, MayEndIn, PrintsWhole, PrintsFront}
use Rattle.program_edge.specs.Endings.{SinkFailed, CountsWriteFault}
use Rattle.pdu_collection.specs.declared.pair_lines.PairLine.{PairLine}
use Rattle.pdu_collection.specs.PairLines.{pairs_of}
use Rattle.pdu_collection.specs.Answering.{TellsRising}
use Rattle.pdu_collection.specs.Rows.{PairingInputs, NamesInput, pairing_usage, PrintsPairs, OverPairs, ComesInPairing}

-- what a run promises that has these inputs and ends so, in the order of the table of answers
pub record RunsPairs (i : PairingInputs) (e : Ending) : Type 0 where
  -- The program prints a row of the table and ends with its status, or at 6 a prefix of one.
  pub ends : EndsInRow (ComesInPairing i) e
  -- 0: the script was read whole, and exactly what is said of its lines was printed.
  pub done : e.status ≡ 0 → OverPairs i (λ read. (text : List ℕ) × PrintsPairs read text × PrintsWhole e text)
  -- 0: of two lines that were accepted, the later has the greater freshness.
  pub rising : e.status ≡ 0 →
      OverPairs i (λ read. (lines : List PairLine) × (pairs_of read ≡ Ok lines)
      × (text : List ℕ) × TellsRising lines text × PrintsWhole e text)
  -- 2: exactly if the arguments are malformed; nothing was read.
  pub usage : e.status ≡ 2 → (¬ NamesInput i.words) × IsUnread i.script × PrintsWhole e pairing_usage
  pub usage_only : ¬ NamesInput i.words → EndsIn 2 e
  -- 4: the script was read whole, and its first fault is printed, with the line and the cause.
  pub refused : e.status ≡ 4 →
      OverPairs i (λ read. (fault : Fault) × (pairs_of read ≡ Err fault) × PrintsWhole e (fault_text_of fault))
  pub refused_only : (text : List ℕ) (fault : Fault) → NamesInput i.words
      → Offers i.script text → pairs_of text ≡ Err fault → MayEndIn 4 e
  -- 5: exactly if the source's count of faults rose.
  pub read_fault : e.status ≡ 5 → NamesInput i.words × SourceFailed i.script × PrintsWhole e (codes "read fault\n")
  pub read_fault_only : CountsFault i.script → EndsIn 5 e
  -- 6: exactly if the sink's count of faults rose; a proper prefix was written of the text of another row that comes.
  pub write_fault : e.status ≡ 6 → SinkFailed e × PrintsFront (ComesInPairing i) e
  pub write_fault_only : CountsWriteFault e → e.status ≡ 6
  -- 7: only if the words are of the form, and the source didn't fail or give too much; nothing was written.
  pub no_memory : e.status ≡ 7 → NamesInput i.words × Lacks i.script input.Memory × PrintsWhole e []
  -- 8: exactly if one byte more than an input may have came from the source.
  pub too_long : e.status ≡ 8 → NamesInput i.words × GivesTooMuch i.script × PrintsWhole e (codes "input too long\n")
  pub too_long_only : CountsTooMuch i.script → EndsIn 8 e
  -- Completeness: what is valid is done, if no port failed and there was memory.
  pub complete : (text : List ℕ) (lines : List PairLine) → NamesInput i.words → Offers i.script text
      → pairs_of text ≡ Ok lines → ¬ SinkFailed e → (e.status ≡ 0) ⊎ (e.status ≡ 7)
