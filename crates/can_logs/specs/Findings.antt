-- What is found of a line of a log, and printed
use Rattle.std.specs.Prelude.{◌≡◌, ℕ, ◌<◌, ◌≤◌, ◌+◌, Bool, true, false, List, [], ◌++◌, length, take, map, slice_index, codes, Option, None, Some}
use Rattle.std.specs.List.{slice_get}
use Rattle.std.specs.Fmt.{decimal}
use Rattle.secured_pdu.specs.Verdict.{Outcome, Accepted, FreshnessFailure, VerificationFailure, Verdict}
use Rattle.secoc_words.specs.Counting.{Acceptance, accepted_by, last_accepted}
use Rattle.text_lines.specs.Lines.{TextLine}
use Rattle.text_lines.specs.Readings.{nth_word}
use Rattle.secoc_words.specs.Texts.{outcome_text, bad_length_text}
use Rattle.can_logs.specs.declared.map_lines.MapLine.{MapLine}
use Rattle.can_logs.specs.declared.frames.LogFrame.{LogFrame}
use Rattle.can_logs.specs.declared.frames.OtherLine.{OtherLine}
use Rattle.can_logs.specs.declared.findings.FrameTally.{FrameTally}
use Rattle.can_logs.specs.declared.findings.FrameTally.TheVariants as tally
use Rattle.can_logs.specs.MapLines.{row_head, place_of_frame}
use Rattle.can_logs.specs.Frames.{log_frame_of, other_line_of}

-- what is found of a line: that no line of the map judges it, and what it is then; or the line's number, the place of
-- the map's line, counted from 0, and what is printed of that line, with the verdict, or that the frame is too short
pub data Finding : Type 0 where
  other : (kind : OtherLine) → Finding
  too_short : (number place : ℕ) (head : List ℕ) → Finding
  verdict : (number place : ℕ) (head : List ℕ) (outcome : Outcome) → Finding

-- the number of a line of the log and what is printed of the map's line, each with a space after it
abbrev pub front_text : ℕ → List ℕ → List ℕ
front_text number head = decimal number ++ codes " " ++ head ++ codes " "

-- the text of a finding; of other lines only the number is printed
abbrev pub finding_text : Finding → List ℕ
finding_text (other kind) = []
finding_text (too_short number place head) = front_text number head ++ bad_length_text
finding_text (verdict number place head outcome) = front_text number head ++ outcome_text outcome

abbrev pub is_other : Finding → Bool
is_other (other kind) = true
is_other (too_short number place head) = false
is_other (verdict number place head outcome) = false

-- what a verdict for the map's line at this place counts as
abbrev pub tally_by : ℕ → Outcome → FrameTally
tally_by place (Accepted payload freshness) = tally.Accepted place
tally_by place FreshnessFailure = tally.Failed place
tally_by place VerificationFailure = tally.Failed place

-- what a finding counts as
abbrev pub tally_of : Finding → FrameTally
tally_of (other kind) = tally.Other kind
tally_of (too_short number place head) = tally.Failed place
tally_of (verdict number place head outcome) = tally_by place outcome

abbrev pub is_other_tally : FrameTally → Bool
is_other_tally (tally.Other kind) = true
is_other_tally (tally.Accepted place) = false
is_other_tally (tally.Failed place) = false

abbrev pub is_accepted_tally : FrameTally → Bool
is_accepted_tally (tally.Other kind) = false
is_accepted_tally (tally.Accepted place) = true
is_accepted_tally (tally.Failed place) = false

-- ---- the counters

-- what a finding accepts, if it does, by the place of the map's line
abbrev pub finding_accepts : Finding → Option Acceptance
finding_accepts (other kind) = None
finding_accepts (too_short number place head) = None
finding_accepts (verdict number place head outcome) = accepted_by place outcome

-- the counters of the map's lines before the log
abbrev pub first_counters : List MapLine → List ℕ
first_counters mapping = map (λ l. l.counter) mapping

-- the counter of the map's line at this place after these findings
abbrev pub counter_of_place : List MapLine → List Finding → ℕ → ℕ
counter_of_place mapping findings place =
    last_accepted place (slice_index (first_counters mapping) place) (map finding_accepts findings)

-- ---- what is found of one line

-- what a mapped line is judged by: the map's line and its place, and the data
pub record Mapped : Type 0 where
  pub place : ℕ
  pub entry : MapLine
  pub bytes : List ℕ

-- the channel of a line of a log: its second word
abbrev pub channel_of : List (List ℕ) → List ℕ
channel_of words = nth_word words 2

-- the words are a data frame, and this is the first line of the map that hears it
abbrev pub IsMapped : List MapLine → List (List ℕ) → Mapped → Type 0
IsMapped mapping words m =
    (frame : LogFrame) × (log_frame_of words ≡ Some frame)
    × (place_of_frame mapping frame.can (channel_of words) ≡ Some m.place)
    × (slice_get mapping m.place ≡ Some m.entry) × (m.bytes ≡ frame.bytes)

-- the words are no data frame, or no line of the map hears it
abbrev pub IsUnmapped : List MapLine → List (List ℕ) → Type 0
IsUnmapped mapping words =
    (frame : LogFrame) → log_frame_of words ≡ Some frame → place_of_frame mapping frame.can (channel_of words) ≡ None

-- the first bytes of a mapped frame are judged as a Secured I-PDU with a payload of the map's length, and the rest is
-- padding. The receiver has the window of the map's line, and the counter that `counter` gives for that line
abbrev pub AuditsLine : List MapLine → (ℕ → ℕ) → TextLine → Finding → Type 0
AuditsLine mapping counter text_line (other kind) =
    IsUnmapped mapping text_line.words × (kind ≡ other_line_of text_line.words)
AuditsLine mapping counter text_line (too_short number place head) =
    (m : Mapped) × IsMapped mapping text_line.words m
    × (number ≡ text_line.number) × (place ≡ m.place) × (head ≡ row_head m.entry)
    × (length m.bytes < m.entry.size + 4)
AuditsLine mapping counter text_line (verdict number place head outcome) =
    (m : Mapped) × IsMapped mapping text_line.words m
    × (number ≡ text_line.number) × (place ≡ m.place) × (head ≡ row_head m.entry)
    × (m.entry.size + 4 ≤ length m.bytes)
    × Verdict m.entry.key m.entry.id (counter place) m.entry.window (take (m.entry.size + 4) m.bytes) outcome
