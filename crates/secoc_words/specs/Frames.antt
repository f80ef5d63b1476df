-- The lines of `frame`, `judge` and `load`, by their forms.
use Rattle.std.specs.Prelude.{ℕ, List, Result, Ok}
use Rattle.memory_update.specs.declared.messages.Request.{Request}
use Rattle.text_lines.specs.declared.fault.Cause.{Cause}
use Rattle.secoc_words.specs.declared.frames.FrameLine.{FrameLine}
use Rattle.secoc_words.specs.declared.judges.JudgeLine.{JudgeLine}
use Rattle.secoc_words.specs.Forms.{key_form, two_form, data_id_form, fresh_form}
use Rattle.text_lines.specs.Forms.{hex_bytes_form, bytes_form}
use Rattle.text_lines.specs.Readings.{Fault, ◌>>=◌, nth_word, field, with_count, read_all, most_lines}

-- a line of `frame`: KEY ID FRESH and a payload of 1 to 60 bytes
unfoldable pub frame_of : List (List ℕ) → Result FrameLine Cause
frame_of words = with_count 4 words (do
  key ← field 1 (key_form (nth_word words 1))
  id ← field 2 (data_id_form (nth_word words 2))
  freshness ← field 3 (fresh_form (nth_word words 3))
  payload ← field 4 (hex_bytes_form 1 60 (nth_word words 4))
  Ok (record { key = key; id = id; freshness = freshness; payload = payload }))

-- a line of `judge`: KEY ID FRESH BYTES, where FRESH is the receiver's counter
unfoldable pub judge_of : List (List ℕ) → Result JudgeLine Cause
judge_of words = with_count 4 words (do
  key ← field 1 (key_form (nth_word words 1))
  id ← field 2 (data_id_form (nth_word words 2))
  counter ← field 3 (fresh_form (nth_word words 3))
  pdu ← field 4 (bytes_form (nth_word words 4))
  Ok (record { key = key; id = id; counter = counter; pdu = pdu }))

-- a line of `load`: M1 M2 M3
unfoldable pub load_of : List (List ℕ) → Result Request Cause
load_of words = with_count 3 words (do
  m1 ← field 1 (key_form (nth_word words 1))
  m2 ← field 2 (two_form (nth_word words 2))
  m3 ← field 3 (key_form (nth_word words 3))
  Ok (record { m1 = m1; m2 = m2; m3 = m3 }))

-- the lines of `frame` that a text has, or its first fault
unfoldable pub frames_of : List ℕ → Result (List FrameLine) Fault
frames_of text = read_all (λ _ words. frame_of words) most_lines text

-- the lines of `judge` that a text has, or its first fault
unfoldable pub judges_of : List ℕ → Result (List JudgeLine) Fault
judges_of text = read_all (λ _ words. judge_of words) most_lines text

-- the lines of `load` that a text has, or its first fault
unfoldable pub loads_of : List ℕ → Result (List Request) Fault
loads_of text = read_all (λ _ words. load_of words) most_lines text
