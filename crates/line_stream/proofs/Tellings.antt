-- What is printed after what was printed well, and what is counted
use Rattle.std.proofs.Common.{◌≡◌, ℕ, ◌+◌, List, ◌++◌, length, sym, subst, inl, inr, arith, length-append}
use Rattle.std.specs.Prelude.{Result, Ok, Err, OnOk, OnErr}
use Rattle.std.proofs.Math.Seq.{take-append-add}
use Rattle.bus_port.specs.Fault.{Rose}
use Rattle.basics.proofs.CallerLemmas.{rose_after}
use Rattle.bus_port.specs.Sink.{SinkState, Appended}
use Rattle.bus_port.proofs.CallerLemmas.{Appended-more}
use Rattle.bus_port.specs.Whole.{AppendedPart}
use Rattle.program_edge.specs.Told.{AppendedWell, EndingTold}
use Rattle.program_edge.proofs.CallerLemmas.{AppendedWell-more}
use Rattle.line_stream.specs.Pieces.{PutsPiece}

part_more : (first before after : SinkState) (some more : List ℕ) → Appended first before some → AppendedPart before after more
    → AppendedPart first after (some ++ more)
part_more first before after some more one (n, less, two) = (
  length some + n,
  omega (arith, less, length-append some more),
  subst (Appended first after) (sym (take-append-add some more n)) (Appended-more one two),
)

pub told_more : (first before after : SinkState) (some text : List ℕ) (status answer : ℕ) → AppendedWell first before some
    → EndingTold before after text status answer → EndingTold first after (some ++ text) status answer
told_more first before after some text status answer well (inl (is, told)) = inl (is, AppendedWell-more first before after some text well told)
told_more first before after some text status answer well (inr (six, rose, part)) =
    inr (six, rose_after first.faults before.faults after.faults well.1.later rose, part_more first before after some text well.1 part)

-- what was written of a text, as it is told
pub puts : {A E : Type 0} (before after : SinkState) (text : List ℕ) (result : Result A E) → OnOk result (Appended before after text)
    → OnOk result (after.faults ≡ before.faults) → OnErr result (Rose before.faults after.faults)
    → OnErr result (AppendedPart before after text) → PutsPiece before after text result
puts before after text (Ok _) appended calm rose part = (calm, appended)
puts before after text (Err e) appended calm rose part = (rose, part)
