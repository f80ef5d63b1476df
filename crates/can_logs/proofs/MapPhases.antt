-- A map that was read, or why there is none
use Rattle.std.proofs.Common.{◌≡◌, ◌≤◌, ◌+◌, ℕ, List, [], ◌∷◌, ◌++◌, length, inl, inr, subst, sym, ◌∙◌, ap, arith, length-append}
use Rattle.std.specs.Prelude.{Result, Ok, Err, IfOk, IfErr}
use Rattle.std.proofs.lemmas.List.{length-map}
use Rattle.program_edge.specs.Rows.{Row}
use Rattle.program_edge.specs.declared.input.InputFault.TheVariants as input
use Rattle.program_edge.specs.Inputs.{Reading, ReadsWhole}
use Rattle.program_edge.proofs.CallerLemmas.{Lacks-whole}
use Rattle.text_lines.specs.Lines.{TextLine, lines_of}
use Rattle.text_lines.specs.declared.fault.Cause.{Cause}
use Rattle.text_lines.specs.declared.fault.ScriptFault.{ScriptFault}
use Rattle.text_lines.specs.declared.fault.ScriptFault.TheVariants.{At, Memory}
use Rattle.text_lines.specs.Readings.{Fault, Gives, at_line, limited, read_from}
use Rattle.text_lines.proofs.CallerLemmas.{bind_ok, values_given}
use Rattle.can_logs.specs.declared.map_lines.MapLine.{MapLine}
use Rattle.can_logs.specs.MapLines.{most_map_lines}
use Rattle.can_logs.specs.MapFaults.{IsMapRowOf, NoMapLines}
use Rattle.can_logs.specs.LogRuns.{LacksWatchMap, no_map, refused, ReadsWatchSource}
use Rattle.can_logs.specs.WatchMaps.{NumberedMap, IsMapOf, line_numbers, watch_line_of, watch_map_of}

-- the map that was read whole, or why there is none
pub ReadsWatchSource-read : (map : Reading) (text : List ℕ) (result : Result NumberedMap Row) → ReadsWhole map text
    → IfOk result (IsMapOf text) → IfErr result (NoMapLines (watch_map_of text)) → ReadsWatchSource map result
ReadsWatchSource-read map text (Ok mapping) whole is well = (text, whole, is)
ReadsWatchSource-read map text (Err row) whole ok (inl (fault, is, row_is)) = subst (LacksWatchMap map) (sym row_is) (refused fault (text, whole, is))
ReadsWatchSource-read map text (Err row) whole ok (inr memory) = subst (LacksWatchMap map) (sym memory) (no_map input.Memory (Lacks-whole map text whole))

-- the row of a map whose lines are refused
pub no_map_lines : {A : Type 0} (meaning : Result (List A) Fault) (fault : ScriptFault) (row : Row) → Gives meaning (Err fault) → IsMapRowOf fault row → NoMapLines meaning row
no_map_lines meaning (At line cause) row is (inl row_is) = inl (record { line = line; cause = cause }, is, row_is)
no_map_lines meaning (At line cause) row is (inr memory) = inr memory
no_map_lines meaning Memory row is memory = inr memory

-- each line that is read gives a value
read_as_many : {A : Type 0} (means : List A → List (List ℕ) → Result A Cause) (most : ℕ) (seen : List A) (lines : List TextLine) (all : List A)
    → read_from means most seen lines ≡ Ok all → length all ≡ length seen + length lines
unfolding read_from
read_as_many means most seen [] all h = let same : seen ≡ all = cc h in omega (arith, ap length same)
read_as_many {A} means most seen (l ∷ lines) all h =
    let first = bind_ok (at_line l.number (limited most (length seen) (means seen l.words))) _ all h in
    let rest : length all ≡ length (seen ++ first.0 ∷ []) + length lines = read_as_many means most (seen ++ first.0 ∷ []) lines all first.2 in
    omega (arith, rest, length-append seen (first.0 ∷ []))

-- as many numbers as lines, and few
pub numbers_fit : (text : List ℕ) (lines : List MapLine) → watch_map_of text ≡ Ok lines → (length lines ≤ 256) × (length (line_numbers text) ≡ length lines)
unfolding watch_map_of
numbers_fit text lines is =
    let (values, same, behind, few) = values_given watch_line_of most_map_lines [] (lines_of text) lines (omega arith) is in
    let all : length lines ≡ length (lines_of text) = read_as_many watch_line_of most_map_lines [] (lines_of text) lines is ∙ omega arith in
    (few, length-map (lines_of text) (λ (l : TextLine). l.number) ∙ sym all)
