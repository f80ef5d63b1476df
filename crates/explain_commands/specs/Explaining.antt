-- What is said of each line of a log
use Rattle.std.specs.Prelude.{◌≡◌, ℕ, ◌+◌, nat_lt, ◌||◌, ◌&&◌, Bool, true, false, if◌then◌else◌, List, [], ◌∷◌, ◌++◌, length, take, reverse, fold, flat_map, filter_map, slice_get, slice_index, slice_set, Option, None, Some, option_map, unwrap_or}
use Rattle.std.specs.List.{list_any, list_all, range_with_len}
use Rattle.secoc_words.specs.Counting.{Acceptance}
use Rattle.text_lines.specs.Lines.{words_of}
use Rattle.can_logs.specs.declared.map_lines.MapLine.{MapLine}
use Rattle.can_logs.specs.declared.frames.LogFrame.{LogFrame}
use Rattle.can_logs.specs.MapLines.{row_head, place_of_frame}
use Rattle.can_logs.specs.Frames.{log_frame_of}
use Rattle.can_logs.specs.Findings.{channel_of, first_counters}
use Rattle.line_stream.specs.Pieces.{line_limit, log_lines, in_64_bits}
use Rattle.can_logs.specs.WatchMaps.{NumberedMap}
use Rattle.explain_commands.specs.declared.recent.Accepted.{Accepted}
use Rattle.explain_commands.specs.declared.answers.LineAnswer.{LineAnswer}
use Rattle.explain_commands.specs.declared.answers.LineAnswer.TheVariants as answer
use Rattle.explain_commands.specs.declared.kinds.Explained.{Explained}
use Rattle.explain_commands.specs.Trials.{accepted_freshness, carried_tag}
use Rattle.explain_commands.specs.Reasons.{Failing, receiver_of, explained}
use Rattle.explain_commands.specs.ReasonTexts.{explained_line}

-- ---- one line

-- a frame is accepted with a freshness, or it fails
abbrev pub answer_by : Failing → ℕ → Option ℕ → LineAnswer
answer_by f number (Some v) = answer.Accepted (record {
  number = number;
  place = f.place;
  freshness = v;
  tag = carried_tag f.receiver f.bytes;
})
answer_by f number None = answer.Failed number f.place (explained f)

-- what was known before a line: the map, the counters of its lines, and the frames that were accepted last, the latest
-- first
pub record Known : Type 0 where
  pub mapping : NumberedMap
  pub counters : List ℕ
  pub recent : List Accepted

-- a frame as the line of the map at this place hears it
abbrev pub frame_at : Known → ℕ → List ℕ → MapLine → Failing
frame_at known place bytes entry = record {
  lines = known.mapping.lines;
  numbers = known.mapping.numbers;
  counters = known.counters;
  recent = known.recent;
  place = place;
  receiver = receiver_of entry (slice_index known.counters place);
  bytes = bytes;
}

abbrev pub answer_line_at : Known → ℕ → List ℕ → ℕ → MapLine → LineAnswer
answer_line_at known number bytes place entry =
    let f : Failing = frame_at known place bytes entry in answer_by f number (accepted_freshness f.receiver f.bytes)

-- nothing is said of a frame that no line of the map hears
abbrev pub answer_at : Known → ℕ → List ℕ → Option ℕ → LineAnswer
answer_at known number bytes None = answer.Silent
answer_at known number bytes (Some place) =
    unwrap_or (option_map (answer_line_at known number bytes place) (slice_get known.mapping.lines place)) answer.Silent

-- nothing is said of a line that has no data frame
abbrev pub answer_frame : Known → ℕ → List (List ℕ) → Option LogFrame → LineAnswer
answer_frame known number words None = answer.Silent
answer_frame known number words (Some frame) =
    answer_at known number frame.bytes (place_of_frame known.mapping.lines frame.can (channel_of words))

unfoldable pub answer_words : Known → ℕ → List (List ℕ) → LineAnswer
answer_words known number words = answer_frame known number words (log_frame_of words)

-- nothing is said of a line that is too long
abbrev pub answer_line : Known → ℕ → List ℕ → LineAnswer
answer_line known number bytes =
    if nat_lt line_limit (length bytes) then answer.Silent else answer_words known number (words_of bytes)

-- ---- the lines of a log

abbrev pub accepted_of : LineAnswer → Option Accepted
accepted_of answer.Silent = None
accepted_of (answer.Accepted a) = Some a
accepted_of (answer.Failed number place e) = None

-- the same as an acceptance of the receiver at this place
abbrev pub answer_accepts : LineAnswer → Option Acceptance
answer_accepts answer.Silent = None
answer_accepts (answer.Accepted a) = Some (record { receiver = a.place; freshness = a.freshness })
answer_accepts (answer.Failed number place e) = None

abbrev pub is_failure : LineAnswer → Bool
is_failure answer.Silent = false
is_failure (answer.Accepted a) = false
is_failure (answer.Failed number place e) = true

-- the frames that were accepted
abbrev pub accepted_in : List LineAnswer → List Accepted
accepted_in answers = filter_map accepted_of answers

-- the last 65,536 of them, the latest first
abbrev pub recent_of : List LineAnswer → List Accepted
recent_of answers = take 65536 (reverse (accepted_in answers))

-- an accepted freshness is the next counter of its line
abbrev pub next_counters : List ℕ → Accepted → List ℕ
next_counters counters a = slice_set counters a.place a.freshness

abbrev pub counters_after : NumberedMap → List LineAnswer → List ℕ
counters_after mapping answers = fold next_counters (first_counters mapping.lines) (accepted_in answers)

abbrev pub known_after : NumberedMap → List LineAnswer → Known
known_after mapping answers = record {
  mapping = mapping;
  counters = counters_after mapping answers;
  recent = recent_of answers;
}

-- the answer to one more line
abbrev pub with_answer : NumberedMap → List LineAnswer → List ℕ → List LineAnswer
with_answer mapping answers bytes =
    answers ++ answer_line (known_after mapping answers) (in_64_bits (length answers + 1)) bytes ∷ []

-- the answers to the lines of a log, one to each
unfoldable pub answers_to : NumberedMap → List (List ℕ) → List LineAnswer
answers_to mapping lines = fold (with_answer mapping) [] lines

-- ---- a log that comes in pieces

-- the answers to the complete lines of these bytes: to those before a line feed
pub record ExplainsComplete (mapping : NumberedMap) (bytes : List ℕ) (answers : List LineAnswer) : Type 0 where
  pub lines : List (List ℕ)
  pub rest : List ℕ
  pub cut : log_lines bytes ≡ lines ++ rest ∷ []
  pub finds : answers ≡ answers_to mapping lines

-- the answers to all lines of a log; after its last line feed there may be nothing
abbrev pub ExplainsAll : NumberedMap → List ℕ → List LineAnswer → Type 0
ExplainsAll mapping log answers = answers ≡ answers_to mapping (log_lines log)

-- ---- what is printed, and the status

abbrev pub failure_text : ℕ → Explained → MapLine → List ℕ
failure_text number e entry = explained_line number (row_head entry) e

-- a line for each frame that fails, and nothing else
abbrev pub said_of : NumberedMap → LineAnswer → List ℕ
said_of mapping answer.Silent = []
said_of mapping (answer.Accepted a) = []
said_of mapping (answer.Failed number place e) =
    unwrap_or (option_map (failure_text number e) (slice_get mapping.lines place)) []

abbrev pub explained_lines : NumberedMap → List LineAnswer → List ℕ
explained_lines mapping answers = flat_map (said_of mapping) answers

abbrev pub some_failed : List LineAnswer → Bool
some_failed answers = list_any is_failure answers

-- a line of the map is optional, or its counter rose, since it accepted a frame
abbrev pub has_risen : ℕ → MapLine → Bool
has_risen counter entry = entry.optional || nat_lt entry.counter counter

abbrev pub has_risen_at : NumberedMap → List ℕ → ℕ → Bool
has_risen_at mapping counters place =
    unwrap_or (option_map (has_risen (slice_index counters place)) (slice_get mapping.lines place)) true

-- a map has lines, and each of them did
abbrev pub have_risen : NumberedMap → List ℕ → Bool
have_risen mapping counters =
    list_all (has_risen_at mapping counters) (range_with_len 0 (length mapping.lines))
    && nat_lt 0 (length mapping.lines)

-- 1 if a frame fails; else 3 if a line of the map that isn't optional accepted none, or the map has no line; else 0
abbrev pub status_by : Bool → Bool → ℕ
status_by failed risen = if failed then 1 else if risen then 0 else 3

abbrev pub explain_status : NumberedMap → List LineAnswer → ℕ
explain_status mapping answers =
    status_by (some_failed answers) (have_risen mapping (counters_after mapping answers))
