-- What the calls from C take, and what they answer
use Rattle.std.specs.Prelude.{◌≡◌, ℕ, ◌+◌, ◌/◌, ◌%◌, ◌≤◌, List, length}
use Rattle.std.specs.Simd.{first_chunks}
use Rattle.secured_pdu.specs.Frame.{IsPayload, IsFrame}
use Rattle.secured_pdu.specs.Verdict.{Outcome, Accepted, FreshnessFailure, VerificationFailure}
use Rattle.rathonsi_c.specs.declared.TheConstants.{OK, FRESHNESS_FAILURE, VERIFICATION_FAILURE}
use Rattle.rathonsi_c.specs.declared.secoc.RathonsiVerdict.{RathonsiVerdict}

-- the length of a key of AES-128
abbrev pub IsKey : List ℕ → Type 0
IsKey key = length key ≡ 16

-- the lengths that the four calls of AES take: a key, and whole blocks
abbrev pub TakesText : List ℕ → List ℕ → Type 0
TakesText key text = IsKey key × (length text % 16 ≡ 0)

-- the 16-byte blocks of a text that has only whole ones
abbrev pub whole_blocks : List ℕ → List (List ℕ)
whole_blocks text = first_chunks 16 (length text / 16) text

-- the lengths that `rathonsi_secoc_protect` takes: a key, a payload, and a buffer for the payload and four bytes
abbrev pub TakesProtect : List ℕ → List ℕ → List ℕ → Type 0
TakesProtect key payload pdu = IsKey key × IsPayload payload × (length payload + 4 ≤ length pdu)

-- the lengths that `rathonsi_secoc_protect_in_place` takes, if the payload has n bytes
abbrev pub TakesInPlace : List ℕ → ℕ → List ℕ → Type 0
TakesInPlace key n pdu = IsKey key × (1 ≤ n) × (n ≤ 60) × (n + 4 ≤ length pdu)

-- the lengths that `rathonsi_secoc_verify` takes
abbrev pub FitsVerify : List ℕ → List ℕ → Type 0
FitsVerify key pdu = IsKey key × IsFrame pdu

-- the struct that tells a verdict: of what isn't accepted, no payload and no freshness
abbrev pub answer_to : Outcome → RathonsiVerdict
answer_to (Accepted payload freshness) = record { status = OK; payload_length = length payload; freshness = freshness }
answer_to FreshnessFailure = record { status = FRESHNESS_FAILURE; payload_length = 0; freshness = 0 }
answer_to VerificationFailure = record { status = VERIFICATION_FAILURE; payload_length = 0; freshness = 0 }
