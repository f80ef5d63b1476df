-- The lines of a map have windows
use Rattle.std.proofs.Common.{◌≡◌, ℕ, All, List, Option, Some, Result, Ok, Err, ap, ◌∙◌, subst}
use Rattle.std.specs.List.{slice_get}
use Rattle.std.proofs.lemmas.Option.{get_or_from_slice_get, slice_get_within}
use Rattle.std.proofs.lemmas.List.Elements.{All-get_or}
use Rattle.secured_pdu.specs.Frame.{IsWindow}
use Rattle.text_lines.specs.declared.fault.Cause.{Cause}
use Rattle.secoc_words.specs.Forms.{key_form, data_id_form, fresh_form}
use Rattle.text_lines.specs.Forms.{number_form}
use Rattle.text_lines.specs.Readings.{nth_word, field}
use Rattle.text_lines.proofs.CallerLemmas.{bind_ok, field_ok}
use Rattle.can_logs.specs.declared.map_lines.MapLine.{MapLine}
use Rattle.can_logs.specs.MapLines.{line_with}

-- each line has a window
abbrev pub HaveWindows : List MapLine → Type 0
HaveWindows mapping = All (λ (l : MapLine). IsWindow l.window) mapping

pub window_at : (mapping : List MapLine) (place : ℕ) (l : MapLine) → HaveWindows mapping → slice_get mapping place ≡ Some l → IsWindow l.window
window_at mapping place l windows is =
    subst (λ (m : MapLine). IsWindow m.window) (get_or_from_slice_get mapping place l l is)
    (All-get_or (λ (m : MapLine). IsWindow m.window) mapping place l (slice_get_within mapping place l is) windows)

abbrev window_or : Result MapLine Cause → ℕ
window_or (Ok l) = l.window
window_or (Err cause) = 0

-- the window of a line is the one that it is made with
pub line_with-window : (can : Option (List ℕ)) (window : Option ℕ) (channel : Option (List ℕ)) (words : List (List ℕ)) (l : MapLine)
    → line_with can window channel words ≡ Ok l → window ≡ Some l.window
unfolding line_with
line_with-window can window channel words l h =
    let digits = bind_ok (field 1 can) _ l h in
    let id = bind_ok (field 2 (data_id_form (nth_word words 2))) _ l digits.2 in
    let key = bind_ok (field 3 (key_form (nth_word words 3))) _ l id.2 in
    let counter = bind_ok (field 4 (fresh_form (nth_word words 4))) _ l key.2 in
    let size = bind_ok (field 5 (number_form 1 60 (nth_word words 5))) _ l counter.2 in
    let width = bind_ok (field 6 window) _ l size.2 in
    field_ok 6 window width.0 width.1 ∙ ap Some (ap window_or width.2)
