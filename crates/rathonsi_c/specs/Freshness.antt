-- A freshness manager: freshness is given and taken, and another module makes and checks the authenticators (AUTOSAR
-- SecOC, interface to the freshness manager).
use Rattle.std.specs.Prelude.{ℤ, ◌≡◌, ℕ, zero, suc, ◌+◌, ◌<◌, ◌≤◌, List}
use Rattle.freshness_routes.specs.declared.routes.Direction.TheVariants.{Receives}
use Rattle.secured_pdu.specs.Frame.{AheadWithBits, TakesBits}
use Rattle.store_plan.specs.declared.planning.Plan.{Plan}
use Rattle.rathonsi_c.specs.declared.TheConstants.{BAD_VALUE, FRESHNESS_FAILURE, RESERVE}
use Rattle.rathonsi_c.specs.declared.route.RathonsiRoute.{RathonsiRoute}
use Rattle.rathonsi_c.specs.Causes.{IfCause, IsDone}
use Rattle.rathonsi_c.specs.Images.{ImageBound}
use Rattle.rathonsi_c.specs.Routes.{IsFreshnessOnly, BoundBelow, BoundCovers, Reserves, status_alone}
use Rattle.rathonsi_c.specs.Steps.{BoundAnswers, NextFreshness}
use Rattle.rathonsi_c.specs.Lives.{PlanDone, Memory, Deed, Lives, PlansBound, FinishesPlan, NeverRejoins}

-- the route as it is if another module makes and checks the authenticators
abbrev pub as_freshness_only : RathonsiRoute → RathonsiRoute
as_freshness_only r = record r { freshness_only = 1 }

-- the freshness is one to the window above the counter
pub record WithinWindow (counter window freshness : ℕ) : Type 0 where
  pub above : counter < freshness
  pub near : freshness ≤ counter + window

-- the freshness with these low bits is above the bound in the image
pub record AheadOfBound (r : RathonsiRoute) (image : List ℕ) (bits truncated : ℕ) : Type 0 where
  pub freshness : ℕ
  pub ahead : AheadWithBits r.counter r.window bits truncated freshness
  pub below : BoundBelow r image Receives freshness

-- what `rathonsi_freshness_next` answers
abbrev pub NextAnswers : RathonsiRoute → List ℕ → ℤ → Type 0
NextAnswers r image status = IfCause (¬ IsFreshnessOnly r) BAD_VALUE (NextFreshness r image) status

-- what `rathonsi_freshness_candidate` answers
abbrev pub CandidateAnswers : RathonsiRoute → List ℕ → ℕ → ℕ → ℤ → Type 0
CandidateAnswers r image truncated bits status =
    IfCause (¬ IsFreshnessOnly r) BAD_VALUE
    (IfCause (¬ TakesBits r.window bits truncated) BAD_VALUE
    (BoundAnswers status_alone r Receives image
    (IfCause ((freshness : ℕ) → ¬ AheadWithBits r.counter r.window bits truncated freshness) FRESHNESS_FAILURE
    (IfCause (AheadOfBound r image bits truncated) RESERVE IsDone)))) status

-- what `rathonsi_freshness_accept` answers
abbrev pub AcceptAnswers : RathonsiRoute → List ℕ → ℕ → ℤ → Type 0
AcceptAnswers r image freshness status =
    IfCause (¬ IsFreshnessOnly r) BAD_VALUE
    (BoundAnswers status_alone r Receives image
    (IfCause (¬ WithinWindow r.counter r.window freshness) FRESHNESS_FAILURE
    (IfCause (BoundBelow r image Receives freshness) RESERVE IsDone))) status

-- ---- what candidates make a device write

-- a candidate is told that the bound doesn't cover; the caller reserves it, and does the plan
pub record WritesForCandidate (r : RathonsiRoute) (image next : List ℕ) : Type 0 where
  pub truncated : ℕ
  pub bits : ℕ
  pub freshness : ℕ
  pub old : Plan
  pub plan : Plan
  pub emptied : Plan
  pub answer : CandidateAnswers r image truncated bits RESERVE
  pub ahead : AheadWithBits r.counter r.window bits truncated freshness
  pub reserved : Reserves r image freshness old plan
  pub done : PlanDone image plan next emptied

-- every bound of the route in the first image is covered in the second
abbrev pub BoundStaysCovered : RathonsiRoute → List ℕ → List ℕ → Type 0
BoundStaysCovered r image later =
    (bound : ℕ) → ImageBound image r.cell r.data_id Receives bound → BoundCovers r later Receives bound

-- so many times, one after the other; whatever happens in between lowers no bound
abbrev pub CandidateWrites : ℕ → RathonsiRoute → List ℕ → Type 0
CandidateWrites zero r image = Unit {0}
CandidateWrites (suc n) r image =
    (next : List ℕ) × (WritesForCandidate r image next
    × ((later : List ℕ) × (BoundStaysCovered r next later × CandidateWrites n r later)))

-- ---- over all lives

-- what a caller with n routes may do in between: any deeds of any lives in which route k doesn't rejoin
abbrev pub LivesBetween : (n k : ℕ) → Memory → Memory → Type 0
LivesBetween n k a c = (deeds : List Deed) × (Lives n deeds a c × NeverRejoins k deeds)

-- Route k is asked for a candidate. Its freshness, which no bound covers when the plan is made, is reserved, and the
-- plan is done. The window is at most this when it is asked, and the reserve at least this when it is planned.
pub record WritesWhenAsked (n k reserve window : ℕ) (asked next : Memory) : Type 0 where
  pub planning : Memory
  pub planned : Memory
  pub finishing : Memory
  pub truncated : ℕ
  pub bits : ℕ
  pub window_most : (asked.routes k).window ≤ window
  pub waits : LivesBetween n k asked planning
  pub reserve_least : reserve ≤ (planning.routes k).reserve
  pub plans : PlansBound n k planning planned
  pub candidate : AheadWithBits (asked.routes k).counter (asked.routes k).window bits truncated plans.freshness
  pub uncovered : BoundBelow (planning.routes k) planning.image Receives plans.freshness
  pub writes : LivesBetween n k planned finishing
  pub image_stays : finishing.image ≡ planned.image
  pub plan_stays : finishing.plan ≡ planned.plan
  pub done : FinishesPlan finishing next

-- so many times, one after the other; whatever else is done before each, and after the last
abbrev pub AskedWrites : ℕ → ℕ → ℕ → ℕ → ℕ → Memory → Memory → Type 0
AskedWrites zero n k reserve window a c = LivesBetween n k a c
AskedWrites (suc m) n k reserve window a c =
    (asked : Memory) × (LivesBetween n k a asked
    × ((next : Memory) × (WritesWhenAsked n k reserve window asked next
    × AskedWrites m n k reserve window next c)))
