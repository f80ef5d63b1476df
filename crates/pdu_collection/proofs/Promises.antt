-- What a run that ends in a row of the table promises
use Rattle.std.proofs.Common.{◌≡◌, ℕ, List, [], inl, inr, refl, arith, rules}
use Rattle.std.specs.Prelude.{Ok}
use Rattle.std.proofs.lemmas.Grind.{common_steps}
use Rattle.program_edge.specs.declared.input.InputFault.TheVariants as input
use Rattle.program_edge.specs.Rows.{Row}
use Rattle.program_edge.specs.Inputs.{Lacks}
use Rattle.program_edge.specs.Endings.{Ending, PrintsWhole, EndsInRow}
use Rattle.program_edge.proofs.CallerLemmas.{EndsInRow-at}
use Rattle.pdu_collection.specs.declared.pair_lines.PairLine.{PairLine}
use Rattle.pdu_collection.specs.PairLines.{pairs_of}
use Rattle.pdu_collection.specs.Answering.{TellsPairs, TellsRising}
use Rattle.pdu_collection.specs.Rows.{PairingInputs, NamesInput, OverPairs, ComesInPairing, done}
use Rattle.pdu_collection.specs.Pairs.{RunsPairs}
use Rattle.pdu_collection.proofs.Rising.{all_rise}

tells_rising : (lines : List PairLine) (text : List ℕ) → TellsPairs lines text → TellsRising lines text
tells_rising lines text (inl none) = inl none
tells_rising lines text (inr (head, entries, arrivals, said, script, says, text_is)) =
    inr (head, entries, arrivals, said, script, says, all_rise head entries arrivals said says, text_is)

rising_0 : (i : PairingInputs) (e : Ending) (row : Row) → ComesInPairing i row → row.status ≡ 0 → PrintsWhole e row.text
    → OverPairs i (λ read. (lines : List PairLine) × (pairs_of read ≡ Ok lines) × (text : List ℕ) × TellsRising lines text × PrintsWhole e text)
rising_0 i e row (done text (names, (read, whole, (lines, are, tells)))) zero prints =
    (names, (read, whole, (lines, are, text, tells_rising lines text tells, prints)))
rising_0 i e row _ zero prints = search rules

at_7 : (i : PairingInputs) (e : Ending) (row : Row) → ComesInPairing i row → row.status ≡ 7 → PrintsWhole e row.text
    → NamesInput i.words × Lacks i.script input.Memory × PrintsWhole e []
at_7 i e row comes seven prints = grind arith

pub RunsPairs-row : (i : PairingInputs) (e : Ending) → EndsInRow (ComesInPairing i) e → RunsPairs i e
RunsPairs-row i e ends = record {
  ends = ends;
  done = search rules;
  rising = EndsInRow-at ends 0 refl (rising_0 i e);
  usage = search rules;
  usage_only = search rules;
  refused = search rules;
  refused_only = grind (arith, common_steps);
  read_fault = search rules;
  read_fault_only = search rules;
  write_fault = search rules;
  write_fault_only = search rules;
  no_memory = EndsInRow-at ends 7 refl (at_7 i e);
  too_long = search rules;
  too_long_only = search rules;
  complete = grind (arith, common_steps);
}
