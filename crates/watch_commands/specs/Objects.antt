-- What is printed of a finding as an object of JSON, on one line, after its bracket or its time and channel
use Rattle.std.specs.Prelude.{ℕ, List, [], ◌++◌, codes}
use Rattle.std.specs.Fmt.{decimal}
use Rattle.basics.specs.Numbers.{bytes_of}
use Rattle.hex.specs.Hex.{encode_lower}
use Rattle.secured_pdu.specs.Verdict.{Outcome, Accepted, FreshnessFailure, VerificationFailure}
use Rattle.text_lines.specs.Texts.{line}
use Rattle.can_logs.specs.Findings.{Finding, other, too_short, verdict}

-- the number of the frame's line in the log, the name or CAN identifier of the map's line, and what is said of the frame
abbrev pub object_front : ℕ → List ℕ → List ℕ → List ℕ
object_front number can said =
    codes "\"frame\":" ++ decimal number ++ codes ",\"name\":\"" ++ can ++ codes "\",\"verdict\":\"" ++ said

-- the freshness and the payload of an accepted frame
abbrev pub accepted_object : List ℕ → ℕ → List ℕ
accepted_object payload freshness =
    codes "\",\"freshness\":\"" ++ encode_lower (bytes_of 8 freshness)
    ++ codes "\",\"payload\":\"" ++ encode_lower payload

abbrev pub outcome_object : ℕ → List ℕ → Outcome → List ℕ
outcome_object number can (Accepted payload freshness) =
    object_front number can (codes "VERIFICATIONSUCCESS") ++ accepted_object payload freshness
outcome_object number can FreshnessFailure = object_front number can (codes "FRESHNESSFAILURE")
outcome_object number can VerificationFailure = object_front number can (codes "VERIFICATIONFAILURE")

abbrev pub finding_object : Finding → List ℕ
finding_object (other kind) = []
finding_object (too_short number place can) = object_front number can (codes "BadLength") ++ line (codes "\"}")
finding_object (verdict number place can outcome) = outcome_object number can outcome ++ line (codes "\"}")
