-- The lines of a map of `watch`: as for an audit, and then, if the line has them, the window, the channel, marks and a
-- comment
use Rattle.std.specs.Prelude.{◌≡◌, ℕ, ◌+◌, ◌==◌, ◌&&◌, ◌||◌, not, nat_le, nat_lt, Bool, true, false, if◌then◌else◌, List, length, take, drop, map, slice_index, codes, bytes_eq, is_none, Option, None, Some, option_map, option_and_then, Result, Ok, Err}
use Rattle.std.specs.List.{list_all, list_any, position_or_len}
use Rattle.std.specs.Char.{is_ascii_alphanumeric}
use Rattle.secured_pdu.specs.declared.frame.TheConstants.{WIDEST_WINDOW}
use Rattle.text_lines.specs.declared.fault.Cause.{Cause}
use Rattle.text_lines.specs.declared.fault.Cause.TheVariants as cause
use Rattle.text_lines.specs.Forms.{number_form}
use Rattle.text_lines.specs.Lines.{lines_of}
use Rattle.text_lines.specs.Readings.{Fault, ◌>>=◌, field, nth_word, read_all}
use Rattle.can_logs.specs.declared.map_lines.MapLine.{MapLine}
use Rattle.can_logs.specs.MapLines.{can_form, line_with, most_map_lines}
use Rattle.can_logs.specs.Frames.{is_data_can}
use Rattle.can_logs.specs.Seconds.{period_form}

-- a word that begins with `#`, which is 35, begins a comment
abbrev pub begins_comment : List ℕ → Bool
begins_comment word = slice_index word 0 == 35

-- the marks of a line: `optional`, and words that begin with `every=`, `silent=` or `name=`
abbrev pub begins_every : List ℕ → Bool
begins_every word = bytes_eq (take 6 word) (codes "every=")

abbrev pub begins_silent : List ℕ → Bool
begins_silent word = bytes_eq (take 7 word) (codes "silent=")

abbrev pub begins_name : List ℕ → Bool
begins_name word = bytes_eq (take 5 word) (codes "name=")

abbrev pub is_mark : List ℕ → Bool
is_mark word = bytes_eq word (codes "optional") || begins_every word || begins_silent word || begins_name word

-- how many words stand before a comment, or before that and the first mark
abbrev pub ends_words : Bool → List ℕ → Bool
ends_words marks word = begins_comment word || (marks && is_mark word)

abbrev pub words_to : Bool → List (List ℕ) → ℕ
words_to marks words = position_or_len (ends_words marks) words

-- CHANNEL: the channel that a line of so many words hears; every one for `-`, and if the word is left out
abbrev pub own_channel : ℕ → List (List ℕ) → Option (List ℕ)
own_channel count words =
    if nat_lt count 7 || bytes_eq (nth_word words 7) (codes "-") then None else Some (nth_word words 7)

-- WINDOW: 1 to the widest, which it is if the word is left out
abbrev pub own_window : ℕ → List (List ℕ) → Option ℕ
own_window count words = if nat_lt count 6 then Some WIDEST_WINDOW else number_form 1 WIDEST_WINDOW (nth_word words 6)

-- what the first hears the second can't miss: a line that hears every channel, or the same one
abbrev pub hears_all_of : Option (List ℕ) → Option (List ℕ) → Bool
hears_all_of None later = true
hears_all_of (Some own) None = false
hears_all_of (Some own) (Some later) = bytes_eq own later

-- no frame would reach a line with this CAN identifier and channel: a line before hears all that it would
abbrev pub is_shadowed : List MapLine → List ℕ → Option (List ℕ) → Bool
is_shadowed before can channel = list_any (λ l. bytes_eq l.can can && hears_all_of l.channel channel) before

-- a CAN identifier that some data frame can have, and such a frame can reach
abbrev pub is_reached : List MapLine → Option (List ℕ) → List ℕ → Bool
is_reached before channel can = is_data_can can && not (is_shadowed before can channel)

unfoldable pub reached_can_form : List MapLine → Option (List ℕ) → List ℕ → Option (List ℕ)
reached_can_form before channel word =
    option_and_then (λ can. if is_reached before channel can then Some can else None) (can_form word)

-- the bytes of a name: digits, letters, `-`, `.` and `_`, which are 45, 46 and 95
abbrev pub is_line_name_byte : ℕ → Bool
is_line_name_byte byte = is_ascii_alphanumeric byte || byte == 45 || byte == 46 || byte == 95

-- `name=NAME`, of 1 to 32 such bytes
abbrev pub is_named : List ℕ → Bool
is_named word =
    begins_name word && nat_lt 5 (length word) && nat_le (length word) 37
    && list_all is_line_name_byte (drop 5 word)

unfoldable pub line_name_form : List ℕ → Option (List ℕ)
line_name_form word = if is_named word then Some (drop 5 word) else None

-- a line with one more mark, the word with this number, if the line hasn't such a mark yet
abbrev pub marked_optional : ℕ → MapLine → Result MapLine Cause
marked_optional number l = if l.optional then Err (cause.Field number) else Ok (record l { optional = true })

-- the time from one of its frames to the next
abbrev pub marked_every : ℕ → List ℕ → MapLine → Result MapLine Cause
marked_every number word l =
    if is_none l.every
    then field number (option_map (λ time. record l { every = Some time }) (period_form (drop 6 word)))
    else Err (cause.Field number)

-- the time without an accepted frame that is too long
abbrev pub marked_silent : ℕ → List ℕ → MapLine → Result MapLine Cause
marked_silent number word l =
    if is_none l.silent
    then field number (option_map (λ time. record l { silent = Some time }) (period_form (drop 7 word)))
    else Err (cause.Field number)

abbrev pub marked_name : ℕ → List ℕ → MapLine → Result MapLine Cause
marked_name number word l =
    if is_none l.name
    then field number (option_map (λ name. record l { name = Some name }) (line_name_form word))
    else Err (cause.Field number)

abbrev pub marked_by : ℕ → List ℕ → MapLine → Result MapLine Cause
marked_by number word l =
    if bytes_eq word (codes "optional") then marked_optional number l
    else if begins_every word then marked_every number word l
    else if begins_silent word then marked_silent number word l
    else marked_name number word l

abbrev pub with_mark : ℕ → List (List ℕ) → MapLine → Result MapLine Cause
with_mark number words l = marked_by number (nth_word words number) l

-- a line with the marks that follow its first `count` words, of `told` in all: at most one, two or four
abbrev pub chosen_mark : ℕ → ℕ → List (List ℕ) → MapLine → Result MapLine Cause
chosen_mark count told words l = if nat_lt count told then with_mark (count + 1) words l else Ok l

abbrev pub with_two_marks : ℕ → ℕ → List (List ℕ) → MapLine → Result MapLine Cause
with_two_marks count told words l = chosen_mark count told words l >>= chosen_mark (count + 1) told words

abbrev pub with_line_marks : ℕ → ℕ → List (List ℕ) → MapLine → Result MapLine Cause
with_line_marks count told words l =
    with_two_marks count told words l >>= with_two_marks (count + 2) told words

-- the line of so many words, with its marks
abbrev pub counted_line_of : ℕ → ℕ → List MapLine → List (List ℕ) → Result MapLine Cause
counted_line_of count told before words =
    if nat_le 5 count && nat_le count 7 && nat_le told (count + 4)
    then line_with (reached_can_form before (own_channel count words) (nth_word words 1))
    (own_window count words) (own_channel count words) words
    >>= with_line_marks count told words
    else Err cause.Count

-- `CANID ID KEY FRESH LEN [WINDOW [CHANNEL]] [optional] [every=SECONDS] [silent=SECONDS] [name=NAME] [# COMMENT]`; the
-- marks come in any order
unfoldable pub watch_line_of : List MapLine → List (List ℕ) → Result MapLine Cause
watch_line_of before words = counted_line_of (words_to true words) (words_to false words) before words

-- the lines of a map, or its first fault
unfoldable pub watch_map_of : List ℕ → Result (List MapLine) Fault
watch_map_of text = read_all watch_line_of most_map_lines text

-- the lines of a map, and the number of each in the text of the map
pub record NumberedMap : Type 0 where
  pub lines : List MapLine
  pub numbers : List ℕ

-- the numbers of the lines that aren't skipped
abbrev pub line_numbers : List ℕ → List ℕ
line_numbers text = map (λ l. l.number) (lines_of text)

-- a text is this map
abbrev pub IsMapOf : List ℕ → NumberedMap → Type 0
IsMapOf text mapping = (watch_map_of text ≡ Ok mapping.lines) × (mapping.numbers ≡ line_numbers text)
