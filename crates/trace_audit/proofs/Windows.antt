-- The lines of the map of an audit have windows.
use Rattle.std.proofs.Common.{◌≡◌, ℕ, List, [], length, Option, Some, None, Ok, subst, arith}
use Rattle.std.specs.Prelude.{◌==◌}
use Rattle.std.proofs.lemmas.Option.{same_Some}
use Rattle.std.proofs.lemmas.List.Elements.{All-nil}
use Rattle.secured_pdu.specs.Frame.{IsWindow}
use Rattle.secured_pdu.specs.declared.frame.TheConstants.{WIDEST_WINDOW}
use Rattle.text_lines.specs.Lines.{lines_of}
use Rattle.text_lines.specs.Readings.{nth_word}
use Rattle.text_lines.proofs.CallerLemmas.{counted_ok, All-read_from}
use Rattle.can_logs.specs.declared.map_lines.MapLine.{MapLine}
use Rattle.trace_audit.specs.AuditMaps.{new_can_form, map_line_of, map_of}
use Rattle.can_logs.specs.MapLines.{line_with, most_map_lines}
use Rattle.can_logs.proofs.CallerLemmas.{HaveWindows, line_with-window}

-- a line of the map of an audit has the widest
map_line_of-window : (before : List MapLine) (words : List (List ℕ)) (l : MapLine) → map_line_of before words ≡ Ok l → IsWindow l.window
unfolding map_line_of
map_line_of-window before words l h =
    let can : Option (List ℕ) = new_can_form before (nth_word words 1) in
    let is : Some WIDEST_WINDOW ≡ Some l.window =
    line_with-window can (Some WIDEST_WINDOW) None words l (counted_ok (length words == 5) (line_with can (Some WIDEST_WINDOW) None words) l h) in
    subst IsWindow (same_Some WIDEST_WINDOW l.window is) (omega arith, omega arith)

pub map_of-windows : (text : List ℕ) (mapping : List MapLine) → map_of text ≡ Ok mapping → HaveWindows mapping
unfolding map_of
map_of-windows text mapping h =
    All-read_from (λ (l : MapLine). IsWindow l.window) map_line_of map_line_of-window most_map_lines [] (lines_of text) mapping
    (All-nil (λ (l : MapLine). IsWindow l.window)) h
