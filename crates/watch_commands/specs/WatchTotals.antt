-- The numbers at the end of a log: those of each line of the map, and those of the whole log
use Rattle.std.specs.Prelude.{ℕ, ◌-◌, ◌==◌, ◌&&◌, ◌||◌, nat_lt, Bool, true, false, if◌then◌else◌, List, [], ◌++◌, length, filter, codes, Option, None, Some, is_none, option_map, unwrap_or}
use Rattle.std.specs.List.{flat_map, list_all, range_with_len, slice_get}
use Rattle.std.specs.Option.{option_or}
use Rattle.std.specs.Fmt.{decimal}
use Rattle.basics.specs.Numbers.{bytes_of}
use Rattle.hex.specs.Hex.{encode_lower}
use Rattle.text_lines.specs.Texts.{line}
use Rattle.can_logs.specs.declared.map_lines.MapLine.{MapLine}
use Rattle.can_logs.specs.declared.frames.OtherLine.{OtherLine}
use Rattle.can_logs.specs.declared.frames.OtherLine.TheVariants as kind
use Rattle.can_logs.specs.declared.findings.FrameTally.{FrameTally}
use Rattle.can_logs.specs.declared.findings.FrameTally.TheVariants as tally
use Rattle.watch_commands.specs.declared.counts.WatchCounts.{WatchCounts}
use Rattle.watch_commands.specs.declared.counts.LineCounts.{LineCounts}
use Rattle.watch_commands.specs.declared.limits.Limits.{Limits}
use Rattle.watch_commands.specs.declared.options.WatchOptions.{WatchOptions}
use Rattle.watch_commands.specs.declared.times.Silence.{Silence}
use Rattle.watch_commands.specs.Seconds.{seconds_text}
use Rattle.watch_commands.specs.Silences.{lasts}
use Rattle.watch_commands.specs.Limits.{limit_over, limit_reached, is_within, share_of, limits_in}
use Rattle.can_logs.specs.MapLines.{row_head, own_silence}
use Rattle.line_stream.specs.Pieces.{in_64_bits}
use Rattle.watch_commands.specs.WatchedMaps.{WatchedMap}
use Rattle.can_logs.specs.Findings.{Finding, is_accepted_tally, tally_of}

-- ---- what is counted

abbrev pub is_failed_tally : FrameTally → Bool
is_failed_tally (tally.Other kind) = false
is_failed_tally (tally.Accepted place) = false
is_failed_tally (tally.Failed place) = true

-- accepted for the map's line at this place
abbrev pub is_accepted_at : ℕ → FrameTally → Bool
is_accepted_at place (tally.Other kind) = false
is_accepted_at place (tally.Accepted at) = at == place
is_accepted_at place (tally.Failed at) = false

abbrev pub is_failed_at : ℕ → FrameTally → Bool
is_failed_at place (tally.Other kind) = false
is_failed_at place (tally.Accepted at) = false
is_failed_at place (tally.Failed at) = at == place

abbrev pub is_unmapped_line : OtherLine → Bool
is_unmapped_line kind.Unmapped = true
is_unmapped_line kind.OtherFrame = false
is_unmapped_line kind.Malformed = false

abbrev pub is_other_frame : OtherLine → Bool
is_other_frame kind.Unmapped = false
is_other_frame kind.OtherFrame = true
is_other_frame kind.Malformed = false

abbrev pub is_malformed_line : OtherLine → Bool
is_malformed_line kind.Unmapped = false
is_malformed_line kind.OtherFrame = false
is_malformed_line kind.Malformed = true

-- a line that no line of the map judges, and that passes
abbrev pub is_other_of : (OtherLine → Bool) → FrameTally → Bool
is_other_of passes (tally.Other kind) = passes kind
is_other_of passes (tally.Accepted place) = false
is_other_of passes (tally.Failed place) = false

-- how many findings count as something that passes
abbrev pub count_of : (FrameTally → Bool) → List Finding → ℕ
count_of passes findings = length (filter (λ finding. passes (tally_of finding)) findings)

-- the same in 64 bits
abbrev pub counted_of : (FrameTally → Bool) → List Finding → ℕ
counted_of passes findings = in_64_bits (count_of passes findings)

-- the five numbers of a log: frames that were accepted, and that weren't; data frames that no line of the map hears;
-- frames without data; all other lines that aren't skipped
abbrev pub counts_of : List Finding → WatchCounts
counts_of findings = record {
  accepted = counted_of is_accepted_tally findings;
  failed = counted_of is_failed_tally findings;
  unmapped = counted_of (is_other_of is_unmapped_line) findings;
  other_frames = counted_of (is_other_of is_other_frame) findings;
  malformed = counted_of (is_other_of is_malformed_line) findings;
}

-- ---- what is printed of them

-- a name and a number
abbrev pub named : List ℕ → ℕ → List ℕ
named name number = name ++ decimal number

-- what stands before a value: in an object of JSON, or in a line of words
abbrev pub before_value : Bool → List ℕ → List ℕ → List ℕ
before_value json object words = if json then object else words

-- one of the five numbers: on a line of its own, or in the one object
abbrev pub count_text : Bool → List ℕ → List ℕ → ℕ → List ℕ
count_text json object words number =
    named (before_value json object words) number ++ before_value json [] (line [])

-- a line for each of the five numbers, or an object
abbrev pub counts_text : Bool → WatchCounts → List ℕ
counts_text json counts =
    before_value json (codes "{\"kind\":\"log\"") []
    ++ count_text json (codes ",\"accepted\":") (codes "accepted ") counts.accepted
    ++ count_text json (codes ",\"failed\":") (codes "failed ") counts.failed
    ++ count_text json (codes ",\"unmapped\":") (codes "unmapped ") counts.unmapped
    ++ count_text json (codes ",\"other_frames\":") (codes "other frames ") counts.other_frames
    ++ count_text json (codes ",\"malformed\":") (codes "malformed ") counts.malformed
    ++ before_value json (line (codes "}")) []

-- the CAN identifier of a line of the map, in an object
abbrev pub can_text : Bool → MapLine → List ℕ
can_text json entry = if json then codes "\",\"can\":\"" ++ entry.can else []

-- the number of a line of the map, its name or else its CAN identifier, that identifier in an object, and its Data ID
abbrev pub line_head : Bool → ℕ → MapLine → List ℕ
line_head json number entry =
    named (before_value json (codes "\"line\":") (codes "line ")) number
    ++ before_value json (codes ",\"name\":\"") (codes " ") ++ row_head entry ++ can_text json entry
    ++ before_value json (codes "\",\"id\":\"") (codes " ") ++ encode_lower (bytes_of 2 entry.id)

-- the freshness that was accepted last, as FRESH of a map
abbrev pub last_text : Bool → ℕ → List ℕ
last_text json last =
    before_value json (codes ",\"last\":\"") (codes " last ") ++ encode_lower (bytes_of 8 last)
    ++ before_value json (line (codes "\"}")) (line [])

-- how many values of freshness above the map's and up to the last one a line of the map has, how many of them weren't
-- accepted, and their share in percent
abbrev pub values_counted : MapLine → LineCounts → ℕ
values_counted entry counts = counts.last - entry.counter

abbrev pub missed_of : MapLine → LineCounts → ℕ
missed_of entry counts = values_counted entry counts - counts.accepted

abbrev pub missed_share_of : MapLine → LineCounts → ℕ
missed_share_of entry counts = share_of (missed_of entry counts) (values_counted entry counts)

-- the numbers of a line of the map: how many frames it accepted, how many it didn't, how many values of freshness it
-- missed, and the one that it accepted last
abbrev pub total_line : Bool → LineCounts → MapLine → List ℕ
total_line json counts entry =
    before_value json (codes "{\"kind\":\"line\",") [] ++ line_head json counts.number entry
    ++ named (before_value json (codes "\",\"accepted\":") (codes " accepted ")) counts.accepted
    ++ named (before_value json (codes ",\"failed\":") (codes " failed ")) counts.failed
    ++ named (before_value json (codes ",\"missed\":") (codes " missed ")) (missed_of entry counts)
    ++ last_text json counts.last

-- the numbers of the line at a place; `totals` has those of each line by its place
abbrev pub total_line_at : WatchedMap → (ℕ → LineCounts) → ℕ → List ℕ
total_line_at mapping totals place =
    unwrap_or (option_map (total_line mapping.options.json (totals place)) (slice_get mapping.lines place)) []

-- the places of the lines of a map, in their order
abbrev pub map_places : WatchedMap → List ℕ
map_places mapping = range_with_len 0 (length mapping.lines)

-- ---- what is more than it may be

-- the name, the number and the limit of what is more than it may be
abbrev pub over_end : Bool → List ℕ → ℕ → ℕ → List ℕ
over_end json name number most =
    before_value json (codes "\"what\":\"") [] ++ name
    ++ named (before_value json (codes "\",\"number\":") (codes " ")) number
    ++ named (before_value json (codes ",\"limit\":") (codes " limit ")) most
    ++ before_value json (line (codes "}")) (line [])

-- a line for it, behind what it is a number of; none if it is within its limit
abbrev pub over_text : Bool → List ℕ → List ℕ → ℕ → Option ℕ → List ℕ
over_text json head name number None = []
over_text json head name number (Some most) =
    before_value json (codes "{\"kind\":\"over\",") (codes "over ") ++ head ++ over_end json name number most

-- what stands before a number of a line of the map
abbrev pub over_head : Bool → ℕ → MapLine → List ℕ
over_head json number entry = line_head json number entry ++ before_value json (codes "\",") (codes " ")

-- what is more than it may be of a line of the map: the values that it missed, and their share
abbrev pub line_over : WatchOptions → LineCounts → MapLine → List ℕ
line_over options counts entry =
    over_text options.json (over_head options.json counts.number entry) (codes "missed") (missed_of entry counts)
    (limit_over (limits_in options).missed (missed_of entry counts))
    ++ over_text options.json (over_head options.json counts.number entry) (codes "missed-share")
    (missed_share_of entry counts) (limit_over (limits_in options).missed_share (missed_share_of entry counts))

-- from when to when a silence lasts, and its limit
abbrev pub silence_end : Bool → Silence → ℕ → List ℕ
silence_end json silence limit =
    before_value json (codes "\"from\":\"") (codes "from ") ++ seconds_text silence.from
    ++ before_value json (codes "\",\"to\":\"") (codes " to ") ++ seconds_text silence.to
    ++ before_value json (codes "\",\"limit\":\"") (codes " limit ") ++ seconds_text limit
    ++ before_value json (line (codes "\"}")) (line [])

-- the silence that is too long for a line of the map: its own, or that of the options
abbrev pub silence_limit : Limits → MapLine → Option ℕ
silence_limit limits entry = option_or (own_silence entry) limits.silent

-- a line for a silence that reaches its limit, behind the head of its line; none of a line that is optional
abbrev pub silence_text : Bool → List ℕ → Silence → Option ℕ → List ℕ
silence_text json head silence None = []
silence_text json head silence (Some limit) =
    before_value json (codes "{\"kind\":\"silent\",") (codes "silent ") ++ head ++ silence_end json silence limit

abbrev pub line_silence : WatchOptions → LineCounts → MapLine → List ℕ
line_silence options counts entry =
    if entry.optional then []
    else silence_text options.json (over_head options.json counts.number entry) counts.silence
    (limit_reached (silence_limit (limits_in options) entry) (lasts counts.silence))

-- all of it of a line of the map
abbrev pub line_beyond : WatchOptions → LineCounts → MapLine → List ℕ
line_beyond options counts entry = line_over options counts entry ++ line_silence options counts entry

abbrev pub line_over_at : WatchedMap → (ℕ → LineCounts) → ℕ → List ℕ
line_over_at mapping totals place =
    unwrap_or (option_map (line_beyond mapping.options (totals place)) (slice_get mapping.lines place)) []

-- and of the whole log: malformed lines, and data frames that no line of the map hears
abbrev pub log_over : WatchOptions → WatchCounts → List ℕ
log_over options counts =
    over_text options.json [] (codes "malformed") counts.malformed
    (limit_over (limits_in options).malformed counts.malformed)
    ++ over_text options.json [] (codes "unmapped") counts.unmapped
    (limit_over (limits_in options).unmapped counts.unmapped)

-- ---- the end of a log

-- a line for each line of the map, the five numbers, and a line for each number that is more than it may be
abbrev pub totals_text_of : WatchedMap → (ℕ → LineCounts) → WatchCounts → List ℕ
totals_text_of mapping totals counts =
    flat_map (total_line_at mapping totals) (map_places mapping) ++ counts_text mapping.options.json counts
    ++ flat_map (line_over_at mapping totals) (map_places mapping) ++ log_over mapping.options counts

-- ---- the status at the end of a log

-- a line of the map is optional, or one frame at least was accepted for it; and it is within its limits
abbrev pub is_heard : ℕ → MapLine → Bool
is_heard accepted entry = entry.optional || nat_lt 0 accepted

abbrev pub does_pass : Limits → LineCounts → MapLine → Bool
does_pass limits counts entry =
    is_heard counts.accepted entry && is_within limits.missed (missed_of entry counts)
    && is_within limits.missed_share (missed_share_of entry counts)
    && (entry.optional || is_none (limit_reached (silence_limit limits entry) (lasts counts.silence)))

abbrev pub passes_at : WatchedMap → (ℕ → LineCounts) → ℕ → Bool
passes_at mapping totals place =
    unwrap_or (option_map (does_pass (limits_in mapping.options) (totals place)) (slice_get mapping.lines place)) true

-- a map has lines, and each of them passes
abbrev pub all_pass : WatchedMap → (ℕ → LineCounts) → Bool
all_pass mapping totals = list_all (passes_at mapping totals) (map_places mapping) && nat_lt 0 (length mapping.lines)

-- the whole log is within its limits
abbrev pub log_passes : Limits → WatchCounts → Bool
log_passes limits counts =
    is_within limits.malformed counts.malformed && is_within limits.unmapped counts.unmapped

-- 1 if a mapped frame wasn't accepted; else 3 if a line of the map that isn't optional accepted none, the map has no
-- line, or a number is more than it may be; else 0
abbrev pub status_of : WatchedMap → (ℕ → LineCounts) → WatchCounts → ℕ
status_of mapping totals counts =
    if nat_lt 0 counts.failed then 1
    else if all_pass mapping totals && log_passes (limits_in mapping.options) counts then 0
    else 3
