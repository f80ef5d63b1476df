-- The printed texts of verdicts, in lower-case digits, each line with its line feed.
use Rattle.std.specs.Prelude.{ℕ, List, ◌++◌, codes}
use Rattle.basics.specs.Numbers.{bytes_of}
use Rattle.hex.specs.Hex.{encode_lower}
use Rattle.secured_pdu.specs.Verdict.{Outcome, Accepted, FreshnessFailure, VerificationFailure}
use Rattle.text_lines.specs.Texts.{line}

-- the text of a verdict: the freshness has 16 digits
abbrev pub outcome_text : Outcome → List ℕ
outcome_text (Accepted payload freshness) =
    line (codes "VERIFICATIONSUCCESS " ++ encode_lower (bytes_of 8 freshness) ++ codes " " ++ encode_lower payload)
outcome_text FreshnessFailure = line (codes "FRESHNESSFAILURE")
outcome_text VerificationFailure = line (codes "VERIFICATIONFAILURE")

-- the text if a PDU has a length that no frame has
abbrev pub bad_length_text : List ℕ
bad_length_text = line (codes "BadLength")
