-- Receivers that keep their counters
use Rattle.std.specs.Prelude.{◌≡◌, ℕ, ◌<◌, ◌==◌, if◌then◌else◌, List, [], ◌∷◌, ◌++◌, AllPairs}
use Rattle.std.specs.Prelude.{Option, None, Some, IfSome}
use Rattle.secured_pdu.specs.Verdict.{Outcome, Accepted, FreshnessFailure, VerificationFailure, Verdict}
use Rattle.secoc_words.specs.Texts.{outcome_text}

-- the counter after a verdict: the freshness that was accepted, or the counter of before
abbrev pub counter_behind : ℕ → Outcome → ℕ
counter_behind counter (Accepted payload freshness) = freshness
counter_behind counter FreshnessFailure = counter
counter_behind counter VerificationFailure = counter

-- the text of the verdict on a Secured I-PDU was added, and the counter is the one after it
abbrev pub AddsVerdict : List ℕ → ℕ → ℕ → ℕ → ℕ → List ℕ → List ℕ → List ℕ → Type 0
AddsVerdict key id window old new pdu before after =
    (outcome : Outcome) × Verdict key id old window pdu outcome
    × (after ≡ before ++ outcome_text outcome) × (new ≡ counter_behind old outcome)

-- ---- the answers of several receivers, which are numbered

-- a receiver accepted a PDU with this freshness
pub record Acceptance : Type 0 where
  pub receiver : ℕ
  pub freshness : ℕ

-- what a verdict of a receiver accepts, if it does
abbrev pub accepted_by : ℕ → Outcome → Option Acceptance
accepted_by receiver (Accepted payload freshness) = Some (record { receiver = receiver; freshness = freshness })
accepted_by receiver FreshnessFailure = None
accepted_by receiver VerificationFailure = None

-- the counter of a receiver after an answer
abbrev pub next_counter : ℕ → ℕ → Option Acceptance → ℕ
next_counter receiver counter None = counter
next_counter receiver counter (Some a) = if a.receiver == receiver then a.freshness else counter

-- the counter of a receiver after these answers: the latest freshness that it accepted, or its counter of before
abbrev pub last_accepted : ℕ → ℕ → List (Option Acceptance) → ℕ
last_accepted receiver counter [] = counter
last_accepted receiver counter (answer ∷ answers) =
    last_accepted receiver (next_counter receiver counter answer) answers

-- each receiver keeps its counter: what it accepts is above the counter that it has after the answers before
pub data KeepsCounters (first : ℕ → ℕ) : List (Option Acceptance) → Type 0 where
  none : KeepsCounters first []
  more : (answers : List (Option Acceptance)) (answer : Option Acceptance) → KeepsCounters first answers
      → IfSome answer (λ a. last_accepted a.receiver (first a.receiver) answers < a.freshness)
      → KeepsCounters first (answers ++ answer ∷ [])

-- if the same receiver accepted both, the second has the greater freshness
abbrev pub IsBelow : Option Acceptance → Option Acceptance → Type 0
IsBelow None later = Unit {0}
IsBelow (Some a) None = Unit {0}
IsBelow (Some a) (Some b) = a.receiver ≡ b.receiver → a.freshness < b.freshness

-- of two that the same receiver accepted, the later has the greater freshness
abbrev pub AcceptedRise : List (Option Acceptance) → Type 0
AcceptedRise answers = AllPairs IsBelow answers
