-- What the steps that print an answer say to one another
use Rattle.std.specs.Prelude.{◌≡◌, ℕ, Bool, if◌then◌else◌, List, ◌++◌, take, drop, codes, Option, None, Some}
use Rattle.std.specs.List.{slice_get}
use Rattle.text_lines.specs.Texts.{line}
use Rattle.can_logs.specs.declared.map_lines.MapLine.{MapLine}
use Rattle.can_logs.specs.declared.findings.FrameTally.{FrameTally}
use Rattle.can_logs.specs.declared.findings.FrameTally.TheVariants as tally
use Rattle.can_logs.specs.MapLines.{row_head}
use Rattle.can_logs.specs.Findings.{Finding, other, too_short, verdict, finding_text, tally_of, is_accepted_tally}

-- the front of an object, by the digits of the number
abbrev pub front_object : List ℕ → List ℕ → List ℕ
front_object digits head =
    codes "\"frame\":" ++ digits ++ codes ",\"name\":\"" ++ head ++ codes "\",\"verdict\":\""

-- what is said of an accepted frame, behind the front: the word, and then the freshness and the payload
abbrev pub accepted_values : List ℕ → List ℕ
accepted_values said =
    take 19 said ++ codes "\",\"freshness\":\"" ++ take 16 (drop 20 said) ++ codes "\",\"payload\":\"" ++ drop 37 said

abbrev pub said_values : Bool → List ℕ → List ℕ
said_values accepted said = if accepted then accepted_values said else said

abbrev pub said_object : Bool → List ℕ → List ℕ
said_object accepted said = said_values accepted said ++ line (codes "\"}")

-- the answer is the text of this finding, which isn't of another line: its line of the log has this number, and its
-- line of the map this head
abbrev pub IsAnswerTo : ℕ → List ℕ → Bool → List ℕ → Finding → Type 0
IsAnswerTo number head accepted answer (other kind) = ⊥
IsAnswerTo number head accepted answer (too_short n place can) =
    (n ≡ number) × (can ≡ head) × (accepted ≡ is_accepted_tally (tally_of (too_short n place can)))
    × (answer ≡ finding_text (too_short n place can))
IsAnswerTo number head accepted answer (verdict n place can outcome) =
    (n ≡ number) × (can ≡ head) × (accepted ≡ is_accepted_tally (tally_of (verdict n place can outcome)))
    × (answer ≡ finding_text (verdict n place can outcome))

-- the place of the map's line that judged it
abbrev pub judged_place : FrameTally → Option ℕ
judged_place (tally.Other kind) = None
judged_place (tally.Accepted place) = Some place
judged_place (tally.Failed place) = Some place

-- the head of the map's line at a place is this
abbrev pub IsHeadAt : List MapLine → ℕ → List ℕ → Type 0
IsHeadAt mapping place head = (entry : MapLine) × (slice_get mapping place ≡ Some entry) × (head ≡ row_head entry)

-- the answer is the text of this finding, which counts so: its line of the log has this number, and its line of the map
-- the head
abbrev pub IsAnswerIn : List MapLine → ℕ → FrameTally → List ℕ → Finding → Type 0
IsAnswerIn mapping number counts answer (other kind) = counts ≡ tally_of (other kind)
IsAnswerIn mapping number counts answer (too_short n place can) =
    (n ≡ number) × IsHeadAt mapping place can × (counts ≡ tally_of (too_short n place can))
    × (answer ≡ finding_text (too_short n place can))
IsAnswerIn mapping number counts answer (verdict n place can outcome) =
    (n ≡ number) × IsHeadAt mapping place can × (counts ≡ tally_of (verdict n place can outcome))
    × (answer ≡ finding_text (verdict n place can outcome))
