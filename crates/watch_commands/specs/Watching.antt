-- What is found of each line of a log that has no greatest length, and printed
use Rattle.std.specs.Prelude.{◌≡◌, ◌⊎◌, ℕ, ◌+◌, ◌<◌, ◌≤◌, ◌&&◌, Bool, true, false, if◌then◌else◌, List, [], ◌∷◌, ◌++◌, length, map}
use Rattle.std.specs.List.{flat_map}
use Rattle.text_lines.specs.Lines.{words_of, is_skipped}
use Rattle.can_logs.specs.declared.map_lines.MapLine.{MapLine}
use Rattle.can_logs.specs.declared.frames.OtherLine.TheVariants as kind
use Rattle.watch_commands.specs.declared.options.WatchOptions.{WatchOptions}
use Rattle.watch_commands.specs.Objects.{finding_object}
use Rattle.watch_commands.specs.WatchedMaps.{WatchedMap}
use Rattle.watch_commands.specs.Stamps.{LineStamp, stamp_of, lead_text}
use Rattle.can_logs.specs.Findings.{Finding, other, is_other, finding_text, tally_of, counter_of_place, AuditsLine, is_accepted_tally}
use Rattle.line_stream.specs.Pieces.{line_limit, log_lines, in_64_bits}

-- what is found of a line: it is malformed if it is too long; nothing if it is skipped; else as for an audit
abbrev pub WatchesLine : List MapLine → (ℕ → ℕ) → ℕ → List ℕ → List Finding → Type 0
WatchesLine mapping counter number bytes findings =
    ((line_limit < length bytes) × (findings ≡ other kind.Malformed ∷ []))
    ⊎ ((length bytes ≤ line_limit) × (is_skipped (words_of bytes) ≡ true) × (findings ≡ []))
    ⊎ ((length bytes ≤ line_limit) × (is_skipped (words_of bytes) ≡ false)
    × ((finding : Finding) × (findings ≡ finding ∷ [])
    × AuditsLine mapping counter (record { number = number; words = words_of bytes }) finding))

-- what is found of a line, and the line's time and channel
pub record Found : Type 0 where
  pub finding : Finding
  pub stamp : LineStamp

-- what is found of a line of these bytes, with its time and channel
abbrev pub stamped : List ℕ → List Finding → List Found
stamped bytes findings = map (λ finding. record { finding = finding; stamp = stamp_of (words_of bytes) }) findings

abbrev pub findings_of : List Found → List Finding
findings_of found = map (λ f. f.finding) found

-- what is found of these lines, the first with the number 1. One more is judged with the freshness that each line of
-- the map accepted last
pub data WatchesEach (mapping : List MapLine) : List (List ℕ) → List Found → Type 0 where
  none : WatchesEach mapping [] []
  more : (lines : List (List ℕ)) (found : List Found) (bytes : List ℕ) (findings : List Finding)
      → WatchesEach mapping lines found
      → WatchesLine mapping (counter_of_place mapping (findings_of found)) (in_64_bits (length lines + 1)) bytes findings
      → WatchesEach mapping (lines ++ bytes ∷ []) (found ++ stamped bytes findings)

-- ---- a log

-- what is found of the complete lines of these bytes: of those before a line feed
pub record FindsComplete (mapping : List MapLine) (bytes : List ℕ) (found : List Found) : Type 0 where
  pub lines : List (List ℕ)
  pub rest : List ℕ
  pub cut : log_lines bytes ≡ lines ++ rest ∷ []
  pub finds : WatchesEach mapping lines found

-- what is found of all lines of a log; after its last line feed there may be nothing, and of that nothing is found
abbrev pub FindsAll : List MapLine → List ℕ → List Found → Type 0
FindsAll mapping log found = WatchesEach mapping (log_lines log) found

-- the answer itself: the rest of an object, or a line of words
abbrev pub finding_line : Bool → Finding → List ℕ
finding_line json finding = if json then finding_object finding else finding_text finding

-- what is printed of what was found: nothing of a line that no line of the map judges, nor of an accepted frame if these
-- are left out; else the answer behind its time and channel
abbrev pub told_text : WatchOptions → Found → List ℕ
told_text options found =
    if is_other found.finding then []
    else if is_accepted_tally (tally_of found.finding) && options.quiet then []
    else lead_text options found.stamp ++ finding_line options.json found.finding

-- what is printed of all that was found, one after the other
abbrev pub found_text : WatchedMap → List Found → List ℕ
found_text mapping found = flat_map (told_text mapping.options) found
