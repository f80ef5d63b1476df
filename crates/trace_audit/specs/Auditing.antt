-- What is found of the lines of a log, and printed
use Rattle.std.specs.Prelude.{◌≡◌, ℕ, List, [], ◌∷◌, ◌++◌, length, filter, codes}
use Rattle.std.specs.List.{flat_map}
use Rattle.std.specs.Fmt.{decimal}
use Rattle.text_lines.specs.Lines.{TextLine, lines_of}
use Rattle.text_lines.specs.Texts.{line}
use Rattle.can_logs.specs.declared.map_lines.MapLine.{MapLine}
use Rattle.can_logs.specs.Findings.{Finding, finding_text, is_other, counter_of_place, AuditsLine}

-- how many lines no line of the map judges
abbrev pub others_in : List Finding → ℕ
others_in findings = length (filter is_other findings)

abbrev pub others_text : ℕ → List ℕ
others_text count = line (codes "other " ++ decimal count)

-- what is found of the lines so far; of one more it is found with the freshness that each line of the map accepted last
pub data AuditsEach (mapping : List MapLine) : List TextLine → List Finding → Type 0 where
  none : AuditsEach mapping [] []
  more : (lines : List TextLine) (findings : List Finding) (text_line : TextLine) (finding : Finding)
      → AuditsEach mapping lines findings → AuditsLine mapping (counter_of_place mapping findings) text_line finding
      → AuditsEach mapping (lines ++ text_line ∷ []) (findings ++ finding ∷ [])

-- the text of findings, one after the other, and then the number of the others
abbrev pub findings_text : List Finding → List ℕ
findings_text findings = flat_map finding_text findings ++ others_text (others_in findings)

-- the text is that of what is found of the lines of the log
abbrev pub TellsAudit : List MapLine → List ℕ → List ℕ → Type 0
TellsAudit mapping log text =
    (findings : List Finding) × AuditsEach mapping (lines_of log) findings × (text ≡ findings_text findings)
