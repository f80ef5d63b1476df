-- What came piece by piece, and what was appended piece by piece.
use Rattle.std.proofs.Common.{◌≡◌, ℕ, ◌+◌, ◌-◌, ◌<◌, ◌≤◌, List, ◌++◌, length, take, drop, ◌∙◌, subst, sym, ap, arith, append-nil, length-append}
use Rattle.std.proofs.Math.Seq.{take-add}
use Rattle.basics.proofs.CallerLemmas.{rose_after}
use Rattle.bus_port.specs.Source.{SourceState, Came}
use Rattle.bus_port.specs.Sink.{SinkState, Appended, WriteFails}
use Rattle.bus_port.proofs.CallerLemmas.{Came-more, Appended-more}
use Rattle.bus_port.specs.Whole.{ReadsPart, AppendedPart, PieceWritten}
use Rattle.bus_port.specs.declared.whole_streams.ReadAll.{ReadAll}
use Rattle.bus_port.specs.declared.whole_streams.ReadAll.TheVariants.{Failed, TooLong, Memory}

-- a refusal after these bytes came
pub ReadsPart-more : {first before : SourceState} {some : List ℕ} (after : SourceState) (limit : ℕ) (cause : ReadAll) → length some ≤ limit
    → before.faults ≡ first.faults → Came first before some → ReadsPart before after (limit - length some) cause → ReadsPart first after limit cause
ReadsPart-more {some} after limit Failed fits no_fault so_far h =
    let bytes = h.1.0 in
    (rose_after _ _ _ so_far.later h.0, (some ++ bytes, omega (arith, length-append some bytes, h.1.1), Came-more so_far h.1.2))
ReadsPart-more {some} after limit TooLong fits no_fault so_far h =
    let bytes = h.1.0 in
    (h.0 ∙ no_fault, (some ++ bytes, omega (arith, length-append some bytes, h.1.1), Came-more so_far h.1.2))
ReadsPart-more {some} after limit Memory fits no_fault so_far h =
    let bytes = h.1.0 in
    (h.0 ∙ no_fault, (some ++ bytes, omega (arith, length-append some bytes, h.1.1), Came-more so_far h.1.2))

-- a call that fails after a prefix was appended leaves that prefix
pub AppendedPart-failed : {first before after : SinkState} (bytes : List ℕ) (n : ℕ) → n < length bytes
    → Appended first before (take n bytes) → WriteFails before after → AppendedPart first after bytes
AppendedPart-failed {first} {before} {after} bytes n fits so_far failed =
    (n, fits, subst (Appended first after) (append-nil (take n bytes)) (Appended-more so_far failed.nothing))

-- a prefix was appended, and then a piece of the rest
pub Appended-front : {first before after : SinkState} (bytes : List ℕ) (done n : ℕ)
    → Appended first before (take done bytes) → PieceWritten before after bytes done n → Appended first after (take n bytes)
Appended-front {first} {before} {after} bytes done n so_far piece =
    let joined : take (done + (n - done)) bytes ≡ take done bytes ++ take (n - done) (drop done bytes) = take-add done (n - done) bytes in
    let all : done + (n - done) ≡ n = omega (arith, piece.more) in
    subst (Appended first after) (sym joined ∙ ap (λ k. take k bytes) all) (Appended-more so_far piece.appended)
