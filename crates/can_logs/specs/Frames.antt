-- The lines of a log, as `candump` of can-utils writes them: data frames, and the others.
use Rattle.std.specs.Prelude.{ℕ, ◌+◌, ◌==◌, ◌&&◌, ◌||◌, nat_le, Bool, false, if◌then◌else◌, List, length, take, drop, slice_index, position, Option, None, Some, option_map, option_and_then}
use Rattle.std.specs.List.{list_all}
use Rattle.std.specs.Char.{is_ascii_hexdigit}
use Rattle.text_lines.specs.Lines.{last_byte}
use Rattle.text_lines.specs.Forms.{hex_bytes_form}
use Rattle.text_lines.specs.Readings.{nth_word}
use Rattle.can_logs.specs.declared.frames.LogFrame.{LogFrame}
use Rattle.can_logs.specs.declared.frames.OtherLine.{OtherLine}
use Rattle.can_logs.specs.declared.frames.OtherLine.TheVariants as kind
use Rattle.can_logs.specs.MapLines.{is_can, can_form}

-- a word that begins with `(`, which is 40, and ends with `)`, which is 41
abbrev pub is_time : List ℕ → Bool
is_time word = slice_index word 0 == 40 && last_byte word == 41

-- what stands after the second `#` of a frame of CAN FD: a digit for its flags, and up to 64 bytes
abbrev pub fd_form : List ℕ → Option (List ℕ)
fd_form rest = if is_ascii_hexdigit (slice_index rest 0) then hex_bytes_form 0 64 (drop 1 rest) else None

-- a data length code above 8, a digit from `9`, which is 57, to `F`: behind 8 bytes, and `_`, which is 95. The frame has
-- these 8 bytes
abbrev pub has_long_code : List ℕ → Bool
has_long_code rest =
    length rest == 18 && slice_index rest 16 == 95 && is_ascii_hexdigit (slice_index rest 17)
    && nat_le 57 (slice_index rest 17)

abbrev pub without_long_code : List ℕ → List ℕ
without_long_code rest = if has_long_code rest then take 16 rest else rest

-- what stands after `#`, which is 35: up to 8 bytes, or a second `#`
unfoldable pub data_form : List ℕ → Option (List ℕ)
data_form rest =
    if slice_index rest 0 == 35 then fd_form (drop 1 rest) else hex_bytes_form 0 8 (without_long_code rest)

-- the frame of a CAN identifier and what stands after `#`
unfoldable pub frame_parts : List ℕ → List ℕ → Option LogFrame
frame_parts can rest =
    option_and_then (λ can. option_map (λ bytes. record { can = can; bytes = bytes }) (data_form rest)) (can_form can)

-- a frame: a CAN identifier, the first `#`, and what stands after it
unfoldable pub frame_form : List ℕ → Option LogFrame
frame_form word =
    option_and_then (λ at. frame_parts (take at word) (drop (at + 1) word)) (position (λ byte. byte == 35) word)

-- the data frame of a line of a log: a time, a word for the interface, and the frame; words after them are ignored
unfoldable pub log_frame_of : List (List ℕ) → Option LogFrame
log_frame_of words =
    if nat_le 3 (length words) && is_time (nth_word words 1) then frame_form (nth_word words 3) else None

-- ---- the lines that no line of a map judges

-- a CAN identifier that a data frame can have: 11 bits in three digits, 29 in eight. `7` is 55, and `1` is 49
abbrev pub is_data_can : List ℕ → Bool
is_data_can can = nat_le (slice_index can 0) (if length can == 3 then 55 else 49)

-- that of an error frame: eight digits, the first of which is `2` or `3`, which are 50 and 51
abbrev pub is_error_can : List ℕ → Bool
is_error_can can = length can == 8 && (slice_index can 0 == 50 || slice_index can 0 == 51)

-- a data frame that no line of a map hears. An identifier that no frame has is malformed
abbrev pub unheard_kind : List ℕ → OtherLine
unheard_kind can =
    if is_data_can can then kind.Unmapped
    else if is_error_can can then kind.OtherFrame
    else kind.Malformed

-- before the first `#` of a frame of CAN XL stand five digits
abbrev pub is_xl : List ℕ → Bool
is_xl word = list_all is_ascii_hexdigit word && length word == 5

-- before that of a remote frame stands a CAN identifier, and after it `R`, which is 82
abbrev pub is_remote : List ℕ → List ℕ → Bool
is_remote can rest = is_can can && slice_index rest 0 == 82

-- a frame without data has this before and this after its first `#`
abbrev pub is_dataless : List ℕ → List ℕ → Bool
is_dataless can rest = is_xl can || is_remote can rest

-- the same of a whole word, and of the place of its first `#`
abbrev pub is_dataless_at : List ℕ → Option ℕ → Bool
is_dataless_at word None = false
is_dataless_at word (Some at) = is_dataless (take at word) (drop (at + 1) word)

abbrev pub is_dataless_word : List ℕ → Bool
is_dataless_word word = is_dataless_at word (position (λ byte. byte == 35) word)

-- a line that has no data frame: another frame, or none at all
unfoldable pub dataless_kind : List (List ℕ) → OtherLine
dataless_kind words =
    if nat_le 3 (length words) && is_time (nth_word words 1) && is_dataless_word (nth_word words 3)
    then kind.OtherFrame
    else kind.Malformed

-- what a line is, if no line of a map hears it
abbrev pub other_line_by : List (List ℕ) → Option LogFrame → OtherLine
other_line_by words None = dataless_kind words
other_line_by words (Some frame) = unheard_kind frame.can

abbrev pub other_line_of : List (List ℕ) → OtherLine
other_line_of words = other_line_by words (log_frame_of words)
