-- The lines of a map: what stands after the CAN identifiers of a bus.
use Rattle.std.specs.Prelude.{ℕ, ◌*◌, ◌==◌, ◌&&◌, ◌||◌, Bool, true, false, if◌then◌else◌, List, length, map, Option, None, Some, option_map, unwrap_or, Result, Ok}
use Rattle.std.specs.List.{list_all, position}
use Rattle.std.specs.Char.{is_ascii_hexdigit, to_ascii_lowercase}
use Rattle.std.specs.Str.{bytes_eq}
use Rattle.text_lines.specs.declared.fault.Cause.{Cause}
use Rattle.secoc_words.specs.Forms.{key_form, data_id_form, fresh_form}
use Rattle.text_lines.specs.Forms.{number_form}
use Rattle.text_lines.specs.Readings.{◌>>=◌, nth_word, field}
use Rattle.can_logs.specs.declared.map_lines.MapLine.{MapLine}

-- three or eight hexadecimal digits of either case
abbrev pub is_can : List ℕ → Bool
is_can word = list_all is_ascii_hexdigit word && (length word == 3 || length word == 8)

-- CANID: its digits in lower case, which are the same for two of them exactly if their lengths and values are
unfoldable pub can_form : List ℕ → Option (List ℕ)
can_form word = if is_can word then Some (map to_ascii_lowercase word) else None

-- the place of the line for a CAN identifier, counted from 0
abbrev pub place_of_can : List MapLine → List ℕ → Option ℕ
place_of_can mapping can = position (λ l. bytes_eq l.can can) mapping

-- what is printed of a line of a map: its name, or else its CAN identifier
abbrev pub row_head : MapLine → List ℕ
row_head l = unwrap_or l.name l.can

-- the microseconds without an accepted frame that are too many for a line: those that it tells, or five of its periods
abbrev pub own_silence_by : Option ℕ → Option ℕ → Option ℕ
own_silence_by (Some silent) every = Some silent
own_silence_by None every = option_map (λ period. period * 5) every

abbrev pub own_silence : MapLine → Option ℕ
own_silence l = own_silence_by l.silent l.every

-- a line hears a channel: its own, or any if it names none
abbrev pub hears : Option (List ℕ) → List ℕ → Bool
hears None channel = true
hears (Some own) channel = bytes_eq own channel

-- a line hears a frame: its CAN identifier, on this channel
abbrev pub hears_frame : MapLine → List ℕ → List ℕ → Bool
hears_frame l can channel = bytes_eq l.can can && hears l.channel channel

-- the place of the first line that hears a frame, counted from 0
abbrev pub place_of_frame : List MapLine → List ℕ → List ℕ → Option ℕ
place_of_frame mapping can channel = position (λ l. hears_frame l can channel) mapping

-- the line of `CANID ID KEY FRESH LEN`, where FRESH is the receiver's counter. Each program says what its CAN
-- identifier and its window are, if they are of their forms, and its channel. It has no marks
unfoldable pub line_with : Option (List ℕ) → Option ℕ → Option (List ℕ) → List (List ℕ) → Result MapLine Cause
line_with can window channel words = do
  can ← field 1 can
  id ← field 2 (data_id_form (nth_word words 2))
  key ← field 3 (key_form (nth_word words 3))
  counter ← field 4 (fresh_form (nth_word words 4))
  size ← field 5 (number_form 1 60 (nth_word words 5))
  window ← field 6 window
  Ok (record {
    can = can;
    id = id;
    key = key;
    counter = counter;
    size = size;
    window = window;
    channel = channel;
    optional = false;
    every = None;
    silent = None;
    name = None;
  })

-- the most lines that a map has
abbrev pub most_map_lines : ℕ
most_map_lines = 256
