-- What a receiver says of a frame (AUTOSAR SecOC, profile 1): the freshness comes first, then the authenticator
use Rattle.std.specs.Prelude.{◌≡◌, ℕ, ◌-◌, List, length, take, slice_index}
use Rattle.secured_pdu.specs.Frame.{Secured, Ahead}

pub data Outcome : Type 0 where
  Accepted : (payload : List ℕ) (freshness : ℕ) → Outcome
  FreshnessFailure : Outcome
  VerificationFailure : Outcome

-- all of a frame but its last four bytes, and the first of these
abbrev pub payload_of : List ℕ → List ℕ
payload_of frame = take (length frame - 4) frame

abbrev pub low_of : List ℕ → ℕ
low_of frame = slice_index frame (length frame - 4)

-- the verdict on a frame of 5 to 64 bytes under this key and Data ID. The receiver has this counter and a window of 1
-- to 256
abbrev pub Verdict : List ℕ → ℕ → ℕ → ℕ → List ℕ → Outcome → Type 0
Verdict key id counter window frame (Accepted payload freshness) =
    Ahead counter window (low_of frame) freshness × (payload ≡ payload_of frame)
    × Secured key id payload freshness frame
Verdict key id counter window frame FreshnessFailure = (v : ℕ) → ¬ Ahead counter window (low_of frame) v
Verdict key id counter window frame VerificationFailure =
    (v : ℕ) × Ahead counter window (low_of frame) v × ¬ Secured key id (payload_of frame) v frame
