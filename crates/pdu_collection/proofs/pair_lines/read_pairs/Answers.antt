use Rattle.std.proofs.Common.{ℕ, List}
use Rattle.std.specs.Prelude.{Result, Ok, Err, IfOk, Vec}
use Rattle.std.specs.declared.alloc.Global.{Global}
use Rattle.text_lines.specs.declared.fault.ScriptFault.{ScriptFault}
use Rattle.text_lines.specs.Readings.{Gives}
use Rattle.pdu_collection.specs.declared.pair_lines.PairLine.{PairLine}
use Rattle.pdu_collection.specs.PairLines.{pairs_of}
use Rattle.pdu_collection.specs.Receiving.{IsPairScript}
use Rattle.pdu_collection.proofs.Scripts.{pairs_are_a_script}
use Rattle.pdu_collection.proofs.pair_lines.read_pairs.Goals as goal

given : (text : List ℕ) (result : Result (Vec PairLine Global) ScriptFault) → Gives (pairs_of text) result → IfOk result (λ lines. IsPairScript lines.items)
given text (Ok lines) gives = pairs_are_a_script text lines.items gives
given text (Err fault) gives = tt

pub returns-clause-script : goal.returns-clause-script
unfolding pairs_of
returns-clause-script c = given c.args.text.now c.read_lines.result c.read_lines.ensures
