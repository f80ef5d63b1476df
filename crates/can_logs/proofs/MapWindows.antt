-- The lines of a map have windows
use Rattle.std.proofs.Common.{◌≡◌, ℕ, ◌+◌, ◌&&◌, Bool, true, false, List, [], drop, Option, Some, Result, Ok, refl, sym, ap, ◌∙◌, subst, arith}
use Rattle.std.specs.Prelude.{nat_le, nat_lt, if◌then◌else◌, None, Err, option_map, is_none, codes, bytes_eq}
use Rattle.std.proofs.lemmas.Option.{same_Some}
use Rattle.std.proofs.lemmas.List.Elements.{All-nil}
use Rattle.secured_pdu.specs.Frame.{IsWindow}
use Rattle.secured_pdu.specs.declared.frame.TheConstants.{WIDEST_WINDOW}
use Rattle.text_lines.specs.Forms.{number_form}
use Rattle.text_lines.specs.Lines.{lines_of}
use Rattle.text_lines.specs.Readings.{◌>>=◌, field, nth_word}
use Rattle.text_lines.specs.declared.fault.Cause.{Cause}
use Rattle.text_lines.specs.declared.fault.Cause.TheVariants as cause
use Rattle.text_lines.proofs.CallerLemmas.{number_in_range, bind_ok, counted_ok, All-read_from}
use Rattle.can_logs.specs.declared.map_lines.MapLine.{MapLine}
use Rattle.can_logs.specs.MapLines.{line_with, most_map_lines}
use Rattle.can_logs.proofs.CallerLemmas.{HaveWindows, line_with-window}
use Rattle.can_logs.specs.Seconds.{period_form}
use Rattle.can_logs.specs.WatchMaps.{words_to, own_channel, own_window, reached_can_form, line_name_form, begins_every, begins_silent, marked_optional, marked_every, marked_silent, marked_name, with_mark, chosen_mark, with_two_marks, with_line_marks, watch_line_of, watch_map_of}

-- the window of a line that is given, and of another if none is
abbrev window_in : MapLine → Result MapLine Cause → ℕ
window_in other (Ok l) = l.window
window_in other (Err fault) = other.window

chosen_window : (left_out : Bool) (word : List ℕ) (window : ℕ) → (if left_out then Some WIDEST_WINDOW else number_form 1 WIDEST_WINDOW word) ≡ Some window → IsWindow window
chosen_window true word window h = subst IsWindow (same_Some WIDEST_WINDOW window h) (omega arith, omega arith)
chosen_window false word window h = number_in_range 1 WIDEST_WINDOW word window h

-- a mark leaves the window as it is
optional_mark-window : (is_there : Bool) (number : ℕ) (l m : MapLine)
    → (if is_there then Err (cause.Field number) else Ok (record l { optional = true })) ≡ Ok m → m.window ≡ l.window
optional_mark-window true number l m h = cc
optional_mark-window false number l m h = ap (window_in l) (sym h)

-- so does one with a value
module _ {A : Type 0} (with : A → MapLine) (l : MapLine) (keeps : (a : A) → (with a).window ≡ l.window) where
  given_mark-window : (number : ℕ) (form : Option A) (m : MapLine) → field number (option_map with form) ≡ Ok m → m.window ≡ l.window
  given_mark-window number None m h = cc
  given_mark-window number (Some a) m h = ap (window_in l) (sym h) ∙ keeps a

  valued_mark-window : (is_free : Bool) (number : ℕ) (form : Option A) (m : MapLine)
      → (if is_free then field number (option_map with form) else Err (cause.Field number)) ≡ Ok m → m.window ≡ l.window
  valued_mark-window true number form m h = given_mark-window number form m h
  valued_mark-window false number form m h = cc

every_mark-window : (number : ℕ) (word : List ℕ) (l m : MapLine) → marked_every number word l ≡ Ok m → m.window ≡ l.window
every_mark-window number word l m h =
    valued_mark-window (λ (time : ℕ). record l { every = Some time }) l (λ time. refl) (is_none l.every) number (period_form (drop 6 word)) m h

silent_mark-window : (number : ℕ) (word : List ℕ) (l m : MapLine) → marked_silent number word l ≡ Ok m → m.window ≡ l.window
silent_mark-window number word l m h =
    valued_mark-window (λ (time : ℕ). record l { silent = Some time }) l (λ time. refl) (is_none l.silent) number (period_form (drop 7 word)) m h

name_mark-window : (number : ℕ) (word : List ℕ) (l m : MapLine) → marked_name number word l ≡ Ok m → m.window ≡ l.window
name_mark-window number word l m h =
    valued_mark-window (λ (name : List ℕ). record l { name = Some name }) l (λ name. refl) (is_none l.name) number (line_name_form word) m h

mark-window : (is_optional is_every is_silent : Bool) (number : ℕ) (word : List ℕ) (l m : MapLine)
    → (if is_optional then marked_optional number l else if is_every then marked_every number word l
    else if is_silent then marked_silent number word l else marked_name number word l) ≡ Ok m → m.window ≡ l.window
mark-window true is_every is_silent number word l m h = optional_mark-window l.optional number l m h
mark-window false true is_silent number word l m h = every_mark-window number word l m h
mark-window false false true number word l m h = silent_mark-window number word l m h
mark-window false false false number word l m h = name_mark-window number word l m h

with_mark-window : (number : ℕ) (words : List (List ℕ)) (l m : MapLine) → with_mark number words l ≡ Ok m → m.window ≡ l.window
with_mark-window number words l m h =
    let word : List ℕ = nth_word words number in
    mark-window (bytes_eq word (codes "optional")) (begins_every word) (begins_silent word) number word l m h

chosen_mark-window : (is_there : Bool) (number : ℕ) (words : List (List ℕ)) (l m : MapLine)
    → (if is_there then with_mark number words l else Ok l) ≡ Ok m → m.window ≡ l.window
chosen_mark-window true number words l m h = with_mark-window number words l m h
chosen_mark-window false number words l m h = ap (window_in l) (sym h)

two_marks-window : (count told : ℕ) (words : List (List ℕ)) (l m : MapLine) → with_two_marks count told words l ≡ Ok m → m.window ≡ l.window
two_marks-window count told words l m h =
    let first = bind_ok (chosen_mark count told words l) (chosen_mark (count + 1) told words) m h in
    chosen_mark-window (nat_lt (count + 1) told) (count + 1 + 1) words first.0 m first.2
    ∙ chosen_mark-window (nat_lt count told) (count + 1) words l first.0 first.1

with_line_marks-window : (count told : ℕ) (words : List (List ℕ)) (l m : MapLine) → with_line_marks count told words l ≡ Ok m → m.window ≡ l.window
with_line_marks-window count told words l m h =
    let first = bind_ok (with_two_marks count told words l) (with_two_marks (count + 2) told words) m h in
    two_marks-window (count + 2) told words first.0 m first.2 ∙ two_marks-window count told words l first.0 first.1

watch_line_of-window : (before : List MapLine) (words : List (List ℕ)) (l : MapLine) → watch_line_of before words ≡ Ok l → IsWindow l.window
unfolding watch_line_of
watch_line_of-window before words l h =
    let count : ℕ = words_to true words in
    let told : ℕ = words_to false words in
    let can : Option (List ℕ) = reached_can_form before (own_channel count words) (nth_word words 1) in
    let plain : Result MapLine Cause = line_with can (own_window count words) (own_channel count words) words in
    let given = bind_ok plain (with_line_marks count told words) l
    (counted_ok (nat_le 5 count && nat_le count 7 && nat_le told (count + 4)) (plain >>= with_line_marks count told words) l h) in
    subst IsWindow (sym (with_line_marks-window count told words given.0 l given.2))
    (chosen_window (nat_lt count 6) (nth_word words 6) given.0.window
    (line_with-window can (own_window count words) (own_channel count words) words given.0 given.1))

pub watch_map_of-windows : (text : List ℕ) (mapping : List MapLine) → watch_map_of text ≡ Ok mapping → HaveWindows mapping
unfolding watch_map_of
watch_map_of-windows text mapping h =
    All-read_from (λ (l : MapLine). IsWindow l.window) watch_line_of watch_line_of-window most_map_lines [] (lines_of text) mapping
    (All-nil (λ (l : MapLine). IsWindow l.window)) h
