-- The two phases of a run, put together
use Rattle.std.proofs.Common.{◌≡◌, List, ℕ, inl, inr, sym, ◌∙◌, ap, subst}
use Rattle.std.specs.Prelude.{Ok}
use Rattle.program_edge.specs.declared.input.InputFault.TheVariants as input
use Rattle.program_edge.specs.Rows.{Row}
use Rattle.program_edge.specs.Inputs.{IsUnread, ReadsWhole}
use Rattle.program_edge.proofs.CallerLemmas.{Lacks-whole, EndsInRow-more}
use Rattle.can_logs.specs.LogRuns.{LogInputs, WatchEnding}
use Rattle.can_logs.specs.MapFaults.{NoMapLines}
use Rattle.can_logs.specs.WatchMaps.{watch_map_of}
use Rattle.locate_commands.specs.declared.run.Locating.{Locating}
use Rattle.locate_commands.specs.Locating.{zeroed, FoundIn}
use Rattle.locate_commands.specs.LocateRows.{AsksLocate, located_row, LocateOnErrors, done, no_map, map_fault, no_memory, EndsLocate}
use Rattle.locate_commands.specs.LocateSteps.{found_in, PreparesLocate, DoesLocate}

-- the map has no lines
pub Comes-no_lines : (i : LogInputs) (text : List ℕ) (row : Row) → AsksLocate i.words → ReadsWhole i.map text → NoMapLines (watch_map_of (zeroed text)) row
    → IsUnread i.log → LocateOnErrors i row
Comes-no_lines i text row asks whole (inl (fault, is, row_is)) unread = subst (LocateOnErrors i) (sym row_is) (map_fault fault asks (text, whole, is) unread)
Comes-no_lines i text row asks whole (inr memory) unread = subst (LocateOnErrors i) (sym memory) (no_map input.Memory asks (Lacks-whole i.map text whole) unread)

-- what was prepared, and then done
pub Ends-does : (i : LogInputs) (l : Locating) (e : WatchEnding) → PreparesLocate i (Ok l) → DoesLocate l e → EndsLocate i e
Ends-does i l e (short, few, (asked, text, f, names, same, reads, whole, (text_is, f_is))) (inl (ends, unwritten)) =
    let rows : located_row l.text.items (found_in l) ≡ located_row text f =
    ap (λ (t : List ℕ). located_row t (found_in l)) (sym text_is) ∙ ap (λ (g : FoundIn). located_row text g) (sym f_is) in
    inl (EndsInRow-more (λ row is. done row (asked, text, f, names, same, reads, whole, is ∙ rows)) ends, unwritten)
Ends-does i l e (short, few, (asked, text, f, names, same, reads, whole, (text_is, f_is))) (inr (ends, unwritten)) =
    inr (EndsInRow-more (λ row is. subst (LocateOnErrors i) (sym is) (no_memory (asked, names) (Lacks-whole i.map text reads.0) (Lacks-whole i.log f.log whole))) ends, unwritten)
