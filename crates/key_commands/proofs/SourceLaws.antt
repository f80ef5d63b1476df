-- The requests of a source, and how loading them ends
use Rattle.std.proofs.Common.{◌≡◌, ℕ, ◌<◌, ◌≤◌, List, [], ◌∷◌, ◌++◌, length, refl, ap, ap₂, map, get_or, take, drop, sym, subst, inl, inr, arith, length-append}
use Rattle.std.specs.Prelude.{Result, Ok, Err, Vec, IfOk, IfErr}
use Rattle.std.specs.declared.alloc.Global.{Global}
use Rattle.cut_disk.specs.State.{DiskState}
use Rattle.cut_disk.specs.Calls.{IsDisk}
use Rattle.program_edge.specs.declared.input.InputFault.TheVariants as input
use Rattle.memory_update.specs.declared.messages.Request.{Request}
use Rattle.text_lines.specs.declared.fault.Cause.{Cause}
use Rattle.secoc_words.specs.Frames.{load_of, loads_of}
use Rattle.text_lines.specs.Readings.{most_lines, at_line, limited, read_from}
use Rattle.text_lines.specs.Lines.{TextLine, lines_of}
use Rattle.text_lines.proofs.CallerLemmas.{bind_ok, at_line_ok, limited_ok}
use Rattle.program_edge.specs.Rows.{Row}
use Rattle.program_edge.specs.Inputs.{Reading, ReadsWhole}
use Rattle.program_edge.proofs.CallerLemmas.{Lacks-whole, EndsInRow-more}
use Rattle.program_edge.specs.Endings.{Ending, EndsInRow}
use Rattle.text_lines.specs.LineRows.{NoLines}
use Rattle.key_commands.specs.Loads.{ComesInLoad, EndsLoad, EndsOnDisk, EndsOverDisks, LacksRequests, LoadInputs, ReadsRequests, ReadsRequestSource, in_lines, in_row, loads_into, no_disk_row, no_first, no_requests_read, not_open, on_first, refused_request, without_disk, without_engine}

-- no more values than may be read
few_from : {A : Type 0} (means : List A → List (List ℕ) → Result A Cause) (most : ℕ) (seen : List A) (lines : List TextLine) (xs : List A)
    → length seen ≤ most → read_from means most seen lines ≡ Ok xs → length xs ≤ most
unfolding read_from
few_from means most seen [] xs few h = let same : seen ≡ xs = cc h in subst (λ l. length l ≤ most) same few
few_from means most seen (line ∷ lines) xs few h =
    let first = bind_ok (at_line line.number (limited most (length seen) (means seen line.words))) _ xs h in
    let one = limited_ok most (length seen) (means seen line.words) first.0 (at_line_ok line.number _ first.0 first.1) in
    few_from means most (seen ++ first.0 ∷ []) lines xs (omega (arith, one.0, length-append seen (first.0 ∷ []))) first.2

pub few_requests : (text : List ℕ) (requests : List Request) → loads_of text ≡ Ok requests → length requests ≤ 65536
unfolding loads_of
few_requests text requests h = few_from (λ _ words. load_of words) most_lines [] (lines_of text) requests (omega arith) h

-- the requests of a source that was read whole, or why it has none
pub ReadsRequestSource-read : (reading : Reading) (text : List ℕ) (result : Result (Vec Request Global) Row) → ReadsWhole reading text
    → IfOk result (λ requests. loads_of text ≡ Ok requests.items) → IfErr result (NoLines (loads_of text)) → ReadsRequestSource reading result
ReadsRequestSource-read reading text (Ok requests) whole is well = (text, whole, is)
ReadsRequestSource-read reading text (Err row) whole ok (inl (fault, is, row_is)) =
    subst (LacksRequests reading) (sym row_is) (refused_request fault (text, whole, is))
ReadsRequestSource-read reading text (Err row) whole ok (inr memory) =
    subst (LacksRequests reading) (sym memory) (no_requests_read input.Memory (Lacks-whole reading text whole))

-- how it ends over the first disk
on_disk : (i : LoadInputs) (requests : List Request) (e : Ending) (old new : DiskState) (others : List DiskState) → ReadsRequests i.request requests
    → IsDisk old → i.before ≡ old ∷ others → i.after ≡ new ∷ others → EndsOnDisk i.uid requests e old new → EndsLoad i e
on_disk i requests e old new others reads disk before after (not_open told) =
    in_row (EndsInRow-more (λ row gives. without_engine requests row reads
    (record { old = old; new = new; others = others; is_disk = disk; before_is = before; after_is = after; holds = gives })) told)
on_disk i requests e old new others reads disk before after (loads_into ends) =
    in_lines (requests, reads, record { old = old; new = new; others = others; is_disk = disk; before_is = before; after_is = after; holds = ends })

pub ends_over : (i : LoadInputs) (requests : List Request) (e : Ending) → ReadsRequests i.request requests
    → EndsOverDisks i.uid requests e i.before i.after → EndsLoad i e
ends_over i requests e reads (no_first none left told) =
    in_row (EndsInRow-more (λ row is. subst (ComesInLoad i) (sym is) (without_disk requests reads none left)) told)
ends_over i requests e reads (on_first first) =
    on_disk i requests e first.old first.new first.others reads first.is_disk first.before_is first.after_is first.holds

-- the first of some disks was taken, and one was put in its place
pub over_first : {D : Type 0} (state : D → DiskState) (uid : List ℕ) (requests : List Request) (e : Ending) (before rest after : List D) (disk back : D)
    → ((d : D) → IsDisk (state d)) → 0 < length before → disk ≡ get_or before 0 disk → rest ≡ take 0 before ++ drop 1 before → after ≡ back ∷ rest
    → EndsOnDisk uid requests e (state disk) (state back) → EndsOverDisks uid requests e (map state before) (map state after)
over_first state uid requests e [] rest after disk back disks some at left is ends = absurd (omega (arith, some))
over_first state uid requests e (x ∷ xs) rest after disk back disks some at left is ends = on_first (record {
  old = state disk;
  new = state back;
  others = map state rest;
  is_disk = disks disk;
  before_is = ap₂ (λ y ys. state y ∷ map state ys) (sym at) (sym left);
  after_is = ap (map state) is;
  holds = ends;
})

pub over_none : {D : Type 0} (state : D → DiskState) (uid : List ℕ) (requests : List Request) (e : Ending) (disks : List D) → length disks ≡ 0
    → EndsInRow (λ row. row ≡ no_disk_row) e → EndsOverDisks uid requests e (map state disks) (map state disks)
over_none state uid requests e [] none told = no_first refl refl told
over_none state uid requests e (disk ∷ disks) none told = absurd (omega (arith, none))
