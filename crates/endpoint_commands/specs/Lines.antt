-- The lines that `endpoint` prints: frames as a log has them, and comments
use Rattle.std.specs.Prelude.{ℕ, ◌-◌, ◌+◌, ◌==◌, ◌&&◌, nat_le, if◌then◌else◌, List, [], ◌∷◌, ◌++◌, length, map, drop}
use Rattle.std.specs.Prelude.{codes}
use Rattle.std.specs.Prelude.{replicate, slice_index, position, Option, None, Some, find, unwrap_or}
use Rattle.std.specs.Option.{option_map_or}
use Rattle.std.specs.Char.{to_ascii_uppercase}
use Rattle.std.specs.Fmt.{decimal}
use Rattle.hex.specs.Hex.{encode_upper}
use Rattle.text_lines.specs.Readings.{nth_word}
use Rattle.text_lines.specs.Spaced.{spaced}
use Rattle.text_lines.specs.Texts.{line}
use Rattle.bus_machine.specs.declared.lines.Line.{Line}
use Rattle.bus_machine.specs.declared.lines.Line.TheVariants.{Sent, Accepted, Refused}
use Rattle.bus_machine.specs.declared.lines.Refusal.TheVariants.{BadLength}
use Rattle.bus_script.specs.LineTexts.{told_words}
use Rattle.endpoint_commands.specs.declared.rules.FrameRule.{FrameRule}
use Rattle.endpoint_commands.specs.declared.asking.Asked.{Asked}
use Rattle.endpoint_commands.specs.declared.asking.Asked.TheVariants.{Frame, Load}
use Rattle.endpoint_commands.specs.Asking.{rule_at}

-- ---- a frame

-- what stands behind the first `#` of a frame, which is 35: of CAN FD another one, and the digit of its flags
abbrev pub flags_behind : List ℕ → ℕ
flags_behind rest =
    if nat_le 2 (length rest) && (slice_index rest 0 == 35) then to_ascii_uppercase (slice_index rest 1) else 48

-- the digit of a frame's flags, in upper case: `0`, which is 48, of a classic one
unfoldable pub flags_digit : List ℕ → ℕ
flags_digit word = option_map_or (λ at. flags_behind (drop (at + 1) word)) (position (λ byte. byte == 35) word) 48

-- the lengths that CAN FD has above 8
abbrev pub fd_lengths : List ℕ
fd_lengths = 12 ∷ 16 ∷ 20 ∷ 24 ∷ 32 ∷ 48 ∷ 64 ∷ []

-- the next of them
unfoldable pub fd_length : ℕ → ℕ
fd_length size = unwrap_or (find (λ n. nat_le size n) fd_lengths) size

-- bytes, and zero bytes up to that length
abbrev pub padded : List ℕ → List ℕ
padded bytes = bytes ++ replicate (fd_length (length bytes) - length bytes) 0

-- the data behind a CAN identifier: up to 8 bytes in a classic frame; more in one of CAN FD, with these flags
unfoldable pub data_text : ℕ → List ℕ → List ℕ
data_text flags bytes =
    if nat_le (length bytes) 8 then 35 ∷ encode_upper bytes else 35 ∷ 35 ∷ flags ∷ encode_upper (padded bytes)

-- a frame by a rule, at the time and with the flags of the line of the log that has these words
abbrev pub frame_text : FrameRule → List (List ℕ) → List ℕ → List ℕ
frame_text rule words bytes =
    line (nth_word words 1
    ++ spaced (rule.to ∷ (map to_ascii_uppercase rule.can ++ data_text (flags_digit (nth_word words 3)) bytes) ∷ []))

-- ---- a comment, which begins with `#`

abbrev pub comment_text : List (List ℕ) → List ℕ
comment_text words = line (codes "#" ++ spaced words)

-- ---- the answer to a line of the log

-- the answer to a frame: the frame that was sent, or the payload that was accepted; else what the node tells
unfoldable pub frame_answer : FrameRule → ℕ → List (List ℕ) → Line → List ℕ
frame_answer rule number words (Sent id v pdu) = frame_text rule words pdu
frame_answer rule number words (Accepted id v payload source) = frame_text rule words payload
frame_answer rule number words told = comment_text (decimal number ∷ rule.can ∷ told_words told)

-- what is told of a frame: what the node tells; of one with too few bytes that its length is bad
abbrev pub told_or_bad_length : Option Line → Line
told_or_bad_length None = Refused BadLength
told_or_bad_length (Some told) = told

-- the answer to a line with this number and these words, and what the node told, if an event was asked of it
unfoldable pub answer_text : List FrameRule → ℕ → List (List ℕ) → Asked → Option Line → List ℕ
answer_text rules number words (Frame place bytes) told =
    frame_answer (rule_at rules place) number words (told_or_bad_length told)
answer_text rules number words (Load request) told =
    comment_text (decimal number ∷ told_words (told_or_bad_length told))
answer_text rules number words _ told = []
