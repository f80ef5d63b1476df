-- A route that fell behind the one of another unit: what the other answers to its question, and what it makes of the
-- answer.
use Rattle.std.specs.Prelude.{ℤ, ◌≡◌, ◌≢◌, ℕ, ◌<◌, ◌==◌, nat_lt, if◌then◌else◌, Option, Some, None, List, take, drop}
use Rattle.basics.specs.Numbers.{number_of, bytes_of}
use Rattle.counter_answers.specs.Answering.{AnswersWith, TellsWith, answer_input}
use Rattle.counter_answers.specs.declared.answering.CounterQuestion.{CounterQuestion}
use Rattle.freshness_routes.specs.declared.routes.Direction.{Direction}
use Rattle.freshness_routes.specs.declared.routes.Direction.TheVariants.{Sends, Receives}
use Rattle.freshness_store.specs.Bound.{direction_number}
use Rattle.rathonsi_c.specs.declared.TheConstants.{OK, BAD_VALUE, FRESHNESS_FAILURE, VERIFICATION_FAILURE, RESERVE}
use Rattle.rathonsi_c.specs.declared.secoc.RathonsiVerdict.{RathonsiVerdict}
use Rattle.rathonsi_c.specs.declared.route.RathonsiRoute.{RathonsiRoute}
use Rattle.rathonsi_c.specs.declared.sync.RathonsiQuestion.{RathonsiQuestion}
use Rattle.rathonsi_c.specs.declared.sync.RathonsiAnswerInput.{RathonsiAnswerInput}
use Rattle.rathonsi_c.specs.Causes.{IfCause, IsDone}
use Rattle.rathonsi_c.specs.Images.{ImageKey, ImageBound}
use Rattle.rathonsi_c.specs.Routes.{RouteReady, RouteAnswers, status_alone, no_verdict, is_booted}
use Rattle.rathonsi_c.specs.Steps.{BoundAnswers}

-- the direction of a route that is within its ranges
abbrev pub way_of : RathonsiRoute → Direction
way_of r = if r.direction == 1 then Sends else Receives

-- that of the route on the other side
abbrev pub far_way : RathonsiRoute → Direction
far_way r = if r.direction == 1 then Receives else Sends

-- one unit asks another
abbrev pub AsksAnother : RathonsiQuestion → Type 0
AsksAnother q = q.asker ≢ q.answerer

-- the question for the counter of the route of this Data ID and direction
abbrev pub question_for : RathonsiQuestion → ℕ → Direction → CounterQuestion
question_for q id direction = record {
  id = id;
  direction = direction_number direction;
  asker = q.asker;
  answerer = q.answerer;
  nonce = q.nonce;
}

-- the question for the counter of this route, and for that of the route on the other side
abbrev pub asked_of : RathonsiRoute → RathonsiQuestion → CounterQuestion
asked_of r q = question_for q r.data_id (way_of r)

abbrev pub asked_by : RathonsiRoute → RathonsiQuestion → CounterQuestion
asked_by r q = question_for q r.data_id (far_way r)

-- ---- the answer

-- what `rathonsi_sync_answer` answers
abbrev pub SyncAnswerAnswers : RathonsiRoute → List ℕ → RathonsiQuestion → ℤ → Type 0
SyncAnswerAnswers r image q status =
    IfCause (¬ AsksAnother q) BAD_VALUE (RouteAnswers status_alone r (way_of r) image IsDone) status

-- the answer tells the counter of the route, under the key of its slot, to whoever asks this
pub record AnsweredBy (r : RathonsiRoute) (image : List ℕ) (q : RathonsiQuestion) (answer : List ℕ) : Type 0 where
  pub key : List ℕ
  pub keyed : ImageKey image r.slot (is_booted r) key
  pub told : AnswersWith key (asked_of r q) r.counter answer

-- what the MAC of an answer covers, and the counter that it tells
abbrev pub input_with : CounterQuestion → ℕ → RathonsiAnswerInput
input_with q counter = record { counter = counter; bytes = answer_input q counter }

-- what `rathonsi_sync_answer_input` answers
abbrev pub AnswerInputAnswers : RathonsiRoute → List ℕ → RathonsiQuestion → ℤ → Type 0
AnswerInputAnswers r image q status =
    IfCause (¬ AsksAnother q) BAD_VALUE (BoundAnswers status_alone r (way_of r) image IsDone) status

-- the input ends in its counter
abbrev pub EndsInCounter : RathonsiAnswerInput → Type 0
EndsInCounter input = drop 80 input.bytes ≡ bytes_of 8 input.counter

-- what `rathonsi_sync_answer_mac` answers
abbrev pub AnswerMacAnswers : RathonsiAnswerInput → ℤ → Type 0
AnswerMacAnswers input status = IfCause (¬ EndsInCounter input) BAD_VALUE IsDone status

-- ---- what is made of it

-- the counter that an answer tells; none if it is no answer to this question
abbrev pub TellsCounter : List ℕ → CounterQuestion → List ℕ → Option ℕ → Type 0
TellsCounter key q answer (Some counter) = AnswersWith key q counter answer
TellsCounter key q answer None = (counter : ℕ) → ¬ AnswersWith key q counter answer

-- the same by its MAC
abbrev pub TellsCounterWith : List ℕ → List ℕ → Option ℕ → Type 0
TellsCounterWith mac answer (Some counter) = TellsWith mac counter answer
TellsCounterWith mac answer None = (counter : ℕ) → ¬ TellsWith mac counter answer

-- the counter may become this one; a counter above the bound is to be reserved first
abbrev pub told_within : ℕ → ℕ → RathonsiVerdict
told_within bound told =
    if nat_lt bound told
    then record { status = RESERVE; payload_length = 0; freshness = told }
    else record { status = OK; payload_length = 0; freshness = told }

-- what a route with this counter and this bound says of it
abbrev pub sync_verdict : ℕ → ℕ → Option ℕ → RathonsiVerdict
sync_verdict counter bound None = no_verdict VERIFICATION_FAILURE
sync_verdict counter bound (Some told) =
    if nat_lt counter told then told_within bound told else no_verdict FRESHNESS_FAILURE

-- the verdict of a route on an answer to its question
pub record JudgesSync (r : RathonsiRoute) (image : List ℕ) (q : RathonsiQuestion) (answer : List ℕ)
    (verdict : RathonsiVerdict) : Type 0 where
  pub key : List ℕ
  pub bound : ℕ
  pub ready : RouteReady r (way_of r) image key bound
  pub told : Option ℕ
  pub tells : TellsCounter key (asked_by r q) answer told
  pub is : verdict ≡ sync_verdict r.counter bound told

-- what `rathonsi_sync_take` answers
abbrev pub SyncTakeAnswers : RathonsiRoute → List ℕ → RathonsiQuestion → List ℕ → RathonsiVerdict → Type 0
SyncTakeAnswers r image q answer verdict =
    IfCause (¬ AsksAnother q) (no_verdict BAD_VALUE)
    (RouteAnswers no_verdict r (way_of r) image (JudgesSync r image q answer)) verdict

-- the answer tells this counter, above the route's, to whoever asks this, under the key of the route's slot
pub record TookAnswer (r : RathonsiRoute) (image : List ℕ) (q : RathonsiQuestion) (answer : List ℕ) (told : ℕ)
    : Type 0 where
  pub asks : AsksAnother q
  pub key : List ℕ
  pub keyed : ImageKey image r.slot (is_booted r) key
  pub told_so : AnswersWith key (asked_by r q) told answer
  pub above : r.counter < told

-- what the MAC of this answer is to cover
abbrev pub input_of_answer : RathonsiRoute → RathonsiQuestion → List ℕ → RathonsiAnswerInput
input_of_answer r q answer = input_with (asked_by r q) (number_of (take 8 answer))

-- the verdict by this MAC, of which the caller says that it is that of the input
pub record JudgesSyncBy (r : RathonsiRoute) (image answer mac : List ℕ) (verdict : RathonsiVerdict) : Type 0 where
  pub bound : ℕ
  pub kept : ImageBound image r.cell r.data_id (way_of r) bound
  pub told : Option ℕ
  pub tells : TellsCounterWith mac answer told
  pub is : verdict ≡ sync_verdict r.counter bound told

-- what `rathonsi_sync_take_mac` answers
abbrev pub TakeMacAnswers : RathonsiRoute → List ℕ → RathonsiQuestion → List ℕ → RathonsiAnswerInput → List ℕ
    → RathonsiVerdict → Type 0
TakeMacAnswers r image q answer input mac verdict =
    IfCause (¬ AsksAnother q) (no_verdict BAD_VALUE)
    (BoundAnswers no_verdict r (way_of r) image
    (IfCause (input ≢ input_of_answer r q answer) (no_verdict BAD_VALUE) (JudgesSyncBy r image answer mac))) verdict
