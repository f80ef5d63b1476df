-- A send and a receive in two steps: the input of the MAC comes out, and the MAC goes in. The caller says that it is
-- the key's; the one-step calls are the two with the CMAC under the key of the slot.
use Rattle.std.specs.Prelude.{ℤ, ◌≡◌, ◌≢◌, ℕ, ◌+◌, ◌-◌, ◌^◌, List, ◌++◌, length, take, drop, replicate}
use Rattle.freshness_routes.specs.declared.routes.Direction.{Direction}
use Rattle.freshness_routes.specs.declared.routes.Direction.TheVariants.{Sends, Receives}
use Rattle.secured_pdu.specs.Frame.{authenticated_input, assembled, IsPayload, IsFrame, Ahead}
use Rattle.secured_pdu.specs.Verdict.{Outcome, Accepted, VerificationFailure, payload_of, low_of}
use Rattle.rathonsi_c.specs.declared.TheConstants.{OK, BAD_LENGTH, BAD_VALUE, DAMAGED, WRONG_CELL, RESERVE, EXHAUSTED}
use Rattle.rathonsi_c.specs.declared.TheConstants.{FRESHNESS_FAILURE}
use Rattle.rathonsi_c.specs.declared.secoc.RathonsiVerdict.{RathonsiVerdict}
use Rattle.rathonsi_c.specs.declared.route.RathonsiRoute.{RathonsiRoute}
use Rattle.rathonsi_c.specs.declared.steps.RathonsiInput.{RathonsiInput}
use Rattle.rathonsi_c.specs.Causes.{IfCause, IsDone}
use Rattle.rathonsi_c.specs.Images.{ImageBound, DamagedCell, OthersCell}
use Rattle.rathonsi_c.specs.Routes.{IsFreshnessOnly, InUse, BoundBelow, CounterAnswers, TakesSend, status_alone, no_verdict}
use Rattle.rathonsi_c.specs.Routes.{bounded_answer}

-- what the MAC of a PDU covers: the input, and zeros after it
pub record InputOf (id : ℕ) (payload : List ℕ) (freshness : ℕ) (input : RathonsiInput) : Type 0 where
  pub freshness_is : input.freshness ≡ freshness
  pub size_is : input.size ≡ length payload + 10
  pub bytes_are : input.bytes ≡ authenticated_input id payload freshness ++ replicate (60 - length payload) 0

-- the causes for which a route has no bound to work with, and else what the rest says; its slot isn't read
abbrev pub BoundAnswers : {A : Type 0} → (ℤ → A) → RathonsiRoute → Direction → List ℕ → (A → Type 0) → A → Type 0
BoundAnswers {A} tell r direction image rest answer =
    IfCause (¬ InUse r direction) (tell BAD_VALUE)
    (IfCause (OthersCell image r.cell r.data_id direction) (tell WRONG_CELL)
    (IfCause (DamagedCell image r.cell) (tell DAMAGED) rest)) answer

-- ---- sending

-- what a route that sends answers where the freshness of its next PDU is asked for
abbrev pub NextFreshness : RathonsiRoute → List ℕ → ℤ → Type 0
NextFreshness r image status = BoundAnswers status_alone r Sends image (CounterAnswers r image) status

-- what `rathonsi_send_input` answers
abbrev pub SendInputAnswers : RathonsiRoute → List ℕ → List ℕ → ℤ → Type 0
SendInputAnswers r image payload status =
    IfCause (¬ IsPayload payload) BAD_LENGTH (IfCause (IsFreshnessOnly r) BAD_VALUE (NextFreshness r image)) status

-- the status of why there is no freshness to send with
abbrev pub NextRefused : RathonsiRoute → List ℕ → ℤ → Type 0
NextRefused r image status =
    BoundAnswers status_alone r Sends image (λ answer. (answer ≢ OK) × CounterAnswers r image answer) status

-- the input isn't that of the next PDU with this payload
abbrev pub OtherInput : RathonsiRoute → List ℕ → RathonsiInput → Type 0
OtherInput r payload input = ¬ InputOf r.data_id payload (r.counter + 1) input

-- what `rathonsi_send_mac` answers: the input is looked at last
abbrev pub SendMacAnswers : RathonsiRoute → List ℕ → List ℕ → RathonsiInput → List ℕ → ℤ → Type 0
SendMacAnswers r image payload input pdu status =
    IfCause (¬ TakesSend payload pdu) BAD_LENGTH
    (IfCause (IsFreshnessOnly r) BAD_VALUE
    (BoundAnswers status_alone r Sends image
    (IfCause (r.counter + 1 ≡ 2 ^ 64) EXHAUSTED
    (IfCause (BoundBelow r image Sends (r.counter + 1)) RESERVE
    (IfCause (OtherInput r payload input) BAD_VALUE IsDone))))) status

-- the PDU of this payload, with the freshness above the counter and this MAC
abbrev pub SentWith : RathonsiRoute → List ℕ → List ℕ → List ℕ → Type 0
SentWith r payload mac pdu = pdu ≡ assembled payload (r.counter + 1) mac

-- ---- receiving

-- the PDU has this freshness, if it is authentic
pub record IsCandidate (r : RathonsiRoute) (pdu : List ℕ) (freshness : ℕ) : Type 0 where
  pub is_frame : IsFrame pdu
  pub ahead : Ahead r.counter r.window (low_of pdu) freshness

-- what the MAC of the PDU covers, if it is authentic
pub record CandidateOf (r : RathonsiRoute) (pdu : List ℕ) (input : RathonsiInput) : Type 0 where
  pub candidate : IsCandidate r pdu input.freshness
  pub covers : InputOf r.data_id (payload_of pdu) input.freshness input

-- no freshness within the window has the low byte of the PDU
abbrev pub NoCandidate : RathonsiRoute → List ℕ → Type 0
NoCandidate r pdu = (freshness : ℕ) → ¬ IsCandidate r pdu freshness

-- the status of why a PDU with this low byte has no freshness to be judged with
abbrev pub CandidateRefused : RathonsiRoute → List ℕ → ℕ → ℤ → Type 0
CandidateRefused r image low status =
    BoundAnswers status_alone r Receives image
    (IfCause ((freshness : ℕ) → ¬ Ahead r.counter r.window low freshness) FRESHNESS_FAILURE (λ _. ⊥)) status

-- what `rathonsi_receive_input` answers
abbrev pub ReceiveInputAnswers : RathonsiRoute → List ℕ → List ℕ → ℤ → Type 0
ReceiveInputAnswers r image pdu status =
    IfCause (¬ IsFrame pdu) BAD_LENGTH
    (IfCause (IsFreshnessOnly r) BAD_VALUE
    (BoundAnswers status_alone r Receives image (IfCause (NoCandidate r pdu) FRESHNESS_FAILURE IsDone))) status

-- the three bytes of the PDU are the first three of this MAC, or they aren't
abbrev pub JudgedBy : List ℕ → List ℕ → ℕ → Outcome → Type 0
JudgedBy mac pdu freshness outcome =
    IfCause (drop (length pdu - 3) pdu ≡ take 3 mac) (Accepted (payload_of pdu) freshness)
    (λ other. other ≡ VerificationFailure) outcome

-- the verdict of a receiver on the PDU by this MAC
pub record JudgesBy (r : RathonsiRoute) (image pdu mac : List ℕ) (verdict : RathonsiVerdict) : Type 0 where
  pub bound : ℕ
  pub kept : ImageBound image r.cell r.data_id Receives bound
  pub freshness : ℕ
  pub candidate : IsCandidate r pdu freshness
  pub outcome : Outcome
  pub judged : JudgedBy mac pdu freshness outcome
  pub is : verdict ≡ bounded_answer bound outcome

-- what `rathonsi_receive_mac` answers
abbrev pub ReceiveMacAnswers : RathonsiRoute → List ℕ → List ℕ → RathonsiInput → List ℕ → RathonsiVerdict → Type 0
ReceiveMacAnswers r image pdu input mac verdict =
    IfCause (¬ IsFrame pdu) (no_verdict BAD_LENGTH)
    (IfCause (IsFreshnessOnly r) (no_verdict BAD_VALUE)
    (BoundAnswers no_verdict r Receives image
    (IfCause (NoCandidate r pdu) (no_verdict FRESHNESS_FAILURE)
    (IfCause (¬ CandidateOf r pdu input) (no_verdict BAD_VALUE) (JudgesBy r image pdu mac))))) verdict
