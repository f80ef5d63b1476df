-- So many entries were made, each for a state of the size.
use Rattle.std.proofs.Common.{◌≡◌, length}
use Rattle.cut_disk.specs.Tape.{AllSized}
use Rattle.cut_disk.proofs.tape.Tape.new.Given as goal

abbrev pub invariant-loop : goal.invariant-loop
invariant-loop l = record { count : length l.entries.items ≡ l.counter; sized : AllSized l.size l.entries.items }
