-- What is added of a line of a log
use Rattle.std.specs.Prelude.{◌≡◌, ◌⊎◌, ℕ, ◌<◌, ◌≤◌, ◌+◌, List, ◌++◌, length, take, slice_index}
use Rattle.text_lines.specs.Lines.{TextLine}
use Rattle.secoc_words.specs.Texts.{outcome_text, bad_length_text}
use Rattle.secured_pdu.specs.Verdict.{Outcome, Verdict}
use Rattle.secoc_words.specs.Counting.{counter_behind, next_counter}
use Rattle.can_logs.specs.declared.map_lines.MapLine.{MapLine}
use Rattle.can_logs.specs.declared.findings.FrameTally.{FrameTally}
use Rattle.can_logs.specs.declared.findings.FrameTally.TheVariants as tally
use Rattle.can_logs.specs.Findings.{Finding, finding_text, tally_by, tally_of, finding_accepts, AuditsLine}

-- the bad length of the data was added, or the verdict on its beginning, and the answer is what it counts as for the
-- map's line at this place
abbrev pub AddsDataVerdict : MapLine → ℕ → ℕ → ℕ → List ℕ → List ℕ → List ℕ → FrameTally → Type 0
AddsDataVerdict entry place old new bytes before after counts =
    ((length bytes < entry.size + 4) × (new ≡ old) × (after ≡ before ++ bad_length_text)
    × (counts ≡ tally.Failed place))
    ⊎ ((entry.size + 4 ≤ length bytes) × ((outcome : Outcome)
    × Verdict entry.key entry.id old entry.window (take (entry.size + 4) bytes) outcome
    × (after ≡ before ++ outcome_text outcome) × (new ≡ counter_behind old outcome)
    × (counts ≡ tally_by place outcome)))

-- what is found of a line was added, each counter is the one after it, and the answer is what it counts as
abbrev pub AddsFinding : List MapLine → List ℕ → List ℕ → TextLine → List ℕ → List ℕ → FrameTally → Type 0
AddsFinding mapping old new text_line before after counts =
    (finding : Finding) × AuditsLine mapping (slice_index old) text_line finding
    × (after ≡ before ++ finding_text finding)
    × (counts ≡ tally_of finding) × (length new ≡ length old)
    × ((place : ℕ) → place < length old
    → slice_index new place ≡ next_counter place (slice_index old place) (finding_accepts finding))
