-- the lines so far were answered
use Rattle.std.proofs.Common.{◌≡◌, take, map, List}
use Rattle.pdu_collection.specs.declared.pair_lines.Entry.{Entry}
use Rattle.pdu_collection.specs.declared.pair_lines.PairLine.TheVariants as line
use Rattle.pdu_collection.specs.Receiving.{Answered}
use Rattle.pdu_collection.proofs.answering.entry_answers.Given as goal

abbrev pub invariant-loop-line : goal.invariant-loop-line
invariant-loop-line l =
    (entries : List Entry) × (take l.line-index l.lines ≡ map line.Entry entries) × Answered l.head entries l.receiver l.text.items
