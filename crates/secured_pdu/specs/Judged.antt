-- What the answer of `judge` says
use Rattle.std.specs.Prelude.{ℕ, List}
use Rattle.secured_pdu.specs.Verdict.{Outcome, Accepted, FreshnessFailure, VerificationFailure}
use Rattle.secured_pdu.specs.declared.verdict.Judgement.{Judgement}
use Rattle.secured_pdu.specs.declared.verdict.Judgement.TheVariants as judgement

-- an accepted PDU is accepted with the payload of its parts
abbrev pub outcome_of : List ℕ → Judgement → Outcome
outcome_of payload (judgement.Accepted freshness) = Accepted payload freshness
outcome_of payload judgement.FreshnessFailure = FreshnessFailure
outcome_of payload judgement.VerificationFailure = VerificationFailure
