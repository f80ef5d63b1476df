-- A receiver that is back at once after a reset: its counter goes down to the one that its sender tells.
use Rattle.std.specs.Prelude.{◌≡◌, ◌≢◌, ℕ, ◌<◌, ◌⊎◌, ◌==◌, if◌then◌else◌, Option, Some, None, List}
use Rattle.freshness_routes.specs.declared.routes.Direction.TheVariants.{Receives}
use Rattle.rathonsi_c.specs.declared.TheConstants.{BAD_VALUE, VERIFICATION_FAILURE}
use Rattle.rathonsi_c.specs.declared.opened.TheConstants.{FRESH}
use Rattle.rathonsi_c.specs.declared.secoc.RathonsiVerdict.{RathonsiVerdict}
use Rattle.rathonsi_c.specs.declared.route.RathonsiRoute.{RathonsiRoute}
use Rattle.rathonsi_c.specs.declared.sync.RathonsiQuestion.{RathonsiQuestion}
use Rattle.rathonsi_c.specs.declared.sync.RathonsiAnswerInput.{RathonsiAnswerInput}
use Rattle.rathonsi_c.specs.Causes.{IfCause}
use Rattle.rathonsi_c.specs.Images.{ImageBound, ImageKey}
use Rattle.rathonsi_c.specs.Routes.{InRanges, IsOpened, BoundCovers, RouteReady, RouteAnswers, no_verdict, at_counter, is_booted}
use Rattle.rathonsi_c.specs.Steps.{BoundAnswers}
use Rattle.rathonsi_c.specs.Syncing.{AsksAnother, TellsCounter, TellsCounterWith, told_within, sync_verdict, asked_by, input_of_answer}
use Rattle.counter_answers.specs.Answering.{AnswersWith}

-- What an answer to a question of this life proves. The nonce is one that nobody answered before the route was opened, so
-- the sender's counter was this, or less, when the answer was made, and the route was open. If each PDU that the route
-- ever accepted is one that this sender sent, all that it accepted before it was opened is at most what is told. A route
-- that is fresh accepted nothing since. So a counter as low as this takes no PDU twice, and the bound stays where it is.

-- what a route with this bound says of an answer that tells this counter: a fresh one goes down, too
abbrev pub rejoin_verdict : RathonsiRoute → ℕ → Option ℕ → RathonsiVerdict
rejoin_verdict r bound None = no_verdict VERIFICATION_FAILURE
rejoin_verdict r bound (Some told) =
    if r.opened == FRESH then told_within bound told else sync_verdict r.counter bound (Some told)

-- the verdict of a receiver on an answer to its question
pub record JudgesRejoin (r : RathonsiRoute) (image : List ℕ) (q : RathonsiQuestion) (answer : List ℕ)
    (verdict : RathonsiVerdict) : Type 0 where
  pub key : List ℕ
  pub bound : ℕ
  pub ready : RouteReady r Receives image key bound
  pub told : Option ℕ
  pub tells : TellsCounter key (asked_by r q) answer told
  pub is : verdict ≡ rejoin_verdict r bound told

-- what `rathonsi_sync_rejoin` answers
abbrev pub RejoinAnswers : RathonsiRoute → List ℕ → RathonsiQuestion → List ℕ → RathonsiVerdict → Type 0
RejoinAnswers r image q answer verdict =
    IfCause (¬ AsksAnother q) (no_verdict BAD_VALUE)
    (RouteAnswers no_verdict r Receives image (JudgesRejoin r image q answer)) verdict

-- the counter becomes what was told: up, as a take moves it; or down, if no call moved it since the route was opened
pub record Rejoins (r : RathonsiRoute) (image : List ℕ) (told : ℕ) (next : RathonsiRoute) : Type 0 where
  pub ranges : InRanges r Receives
  pub opened : IsOpened r
  pub may : (r.counter < told) ⊎ (r.opened ≡ FRESH)
  pub covered : BoundCovers r image Receives told
  pub now : next ≡ at_counter r told

-- the answer tells this counter, to whoever asks this, under the key of the route's slot; it is above the route's, or no
-- call moved that since the route was opened
pub record RejoinedBy (r : RathonsiRoute) (image : List ℕ) (q : RathonsiQuestion) (answer : List ℕ) (told : ℕ)
    : Type 0 where
  pub asks : AsksAnother q
  pub key : List ℕ
  pub keyed : ImageKey image r.slot (is_booted r) key
  pub told_so : AnswersWith key (asked_by r q) told answer
  pub may : (r.counter < told) ⊎ (r.opened ≡ FRESH)

-- the verdict by this MAC, of which the caller says that it is that of the input
pub record JudgesRejoinBy (r : RathonsiRoute) (image answer mac : List ℕ) (verdict : RathonsiVerdict) : Type 0 where
  pub bound : ℕ
  pub kept : ImageBound image r.cell r.data_id Receives bound
  pub told : Option ℕ
  pub tells : TellsCounterWith mac answer told
  pub is : verdict ≡ rejoin_verdict r bound told

-- what `rathonsi_sync_rejoin_mac` answers
abbrev pub RejoinMacAnswers : RathonsiRoute → List ℕ → RathonsiQuestion → List ℕ → RathonsiAnswerInput → List ℕ
    → RathonsiVerdict → Type 0
RejoinMacAnswers r image q answer input mac verdict =
    IfCause (¬ AsksAnother q) (no_verdict BAD_VALUE)
    (BoundAnswers no_verdict r Receives image
    (IfCause (input ≢ input_of_answer r q answer) (no_verdict BAD_VALUE) (JudgesRejoinBy r image answer mac))) verdict
