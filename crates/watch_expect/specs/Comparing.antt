-- A kept text, and what `watch` prints
use Rattle.std.specs.Prelude.{◌≡◌, ℕ, ◌+◌, ◌<◌, ◌==◌, if◌then◌else◌, List, [], ◌∷◌, ◌++◌, length, take, drop, filter, position, codes, Option, None, Some}
use Rattle.std.specs.List.{slice_get}
use Rattle.std.specs.Fmt.{decimal}
use Rattle.bus_port.specs.Sink.{SinkState}
use Rattle.text_lines.specs.Lines.{is_line_feed}
use Rattle.text_lines.specs.Texts.{line}
use Rattle.program_edge.specs.Inputs.{Reading}
use Rattle.watch_commands.specs.WatchedMaps.{WatchedMap}
use Rattle.watch_commands.specs.Watching.{Found, FindsComplete, FindsAll, found_text}
use Rattle.watch_commands.specs.LogTotals.{totals_text}
use Rattle.can_logs.specs.LogRuns.{Writing, ReadsToEnd, HasCome}

-- two texts go on in different ways
abbrev pub Parts : Option ℕ → Option ℕ → Type 0
Parts one other = ¬ (one ≡ other)

-- the number of the line of a text that goes on behind its first n bytes, counted from 1
abbrev pub line_number : List ℕ → ℕ → ℕ
line_number text n = length (filter is_line_feed (take n text)) + 1

-- what stands behind the last line feed of a text, and before its first one
abbrev pub last_line_from : List ℕ → List ℕ → List ℕ
last_line_from so_far [] = so_far
last_line_from so_far (c ∷ cs) =
    if is_line_feed c then last_line_from [] cs else last_line_from (so_far ++ c ∷ []) cs

abbrev pub last_line : List ℕ → List ℕ
last_line text = last_line_from [] text

abbrev pub first_line_to : List ℕ → Option ℕ → List ℕ
first_line_to text None = text
first_line_to text (Some at) = take at text

abbrev pub first_line : List ℕ → List ℕ
first_line text = first_line_to text (position (λ byte. byte == 10) text)

-- a line of a text with these bytes before a place and behind it, of which 4,096 on each side at most are told
abbrev pub told_line : List ℕ → List ℕ → List ℕ → List ℕ
told_line mark before behind = line (mark ++ take 4096 (last_line before) ++ take 4096 (first_line behind))

-- what is told of a difference behind the first n bytes of a kept text, where this is printed instead: the number of the
-- line, what the kept text has there, and what came
abbrev pub difference_text : List ℕ → ℕ → List ℕ → List ℕ
difference_text text n came =
    line (codes "expect: line " ++ decimal (line_number text n))
    ++ told_line (codes "- ") (take n text) (drop n text) ++ told_line (codes "+ ") (take n text) came

-- two texts have the same first n bytes, and then the other one a byte that the first hasn't there
abbrev pub LeavesAt : List ℕ → List ℕ → ℕ → Type 0
LeavesAt text other n =
    (take n other ≡ take n text) × (n < length other) × Parts (slice_get text n) (slice_get other n)

-- exactly this is printed of a log: what is found of all its lines, and the totals
abbrev pub PrintsAll : WatchedMap → Reading → List ℕ → Type 0
PrintsAll mapping log text = (bytes : List ℕ) × (findings : List Found) × ReadsToEnd log bytes
    × FindsAll mapping.lines bytes findings
    × (text ≡ found_text mapping findings ++ totals_text mapping findings)

-- behind its first n bytes a kept text isn't what is printed of a log, but this comes. Of what came of the log another
-- byte is printed there, or all that is printed ends there; and the log didn't fail
pub data DiffersIn (mapping : WatchedMap) (log : Reading) (text : List ℕ) (n : ℕ) (came : List ℕ) : Type 0 where
  goes_on : (bytes : List ℕ) (findings : List Found) → HasCome log bytes → log.after.faults ≡ log.before.faults
      → FindsComplete mapping.lines bytes findings → LeavesAt text (found_text mapping findings) n
      → came ≡ drop n (found_text mapping findings) → DiffersIn mapping log text n came
  at_end : (whole : List ℕ) → PrintsAll mapping log whole → LeavesAt text whole n → came ≡ drop n whole
      → DiffersIn mapping log text n came
  ends : PrintsAll mapping log (take n text) → n < length text → came ≡ [] → DiffersIn mapping log text n came

-- a sink that these bytes, and no others, were written to
abbrev pub holds_bytes : List ℕ → SinkState
holds_bytes bytes = record { told = Some bytes; faults = 0 }

abbrev pub writes_bytes : List ℕ → Writing
writes_bytes bytes = record { before = holds_bytes []; after = holds_bytes bytes }
