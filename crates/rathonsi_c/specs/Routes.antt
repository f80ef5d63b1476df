-- Routes over the image of a store, and what the calls on them do and answer.
use Rattle.std.specs.Prelude.{ℤ, ◌≡◌, ℕ, ◌+◌, ◌*◌, ◌%◌, ◌^◌, ◌<◌, ◌≤◌, ◌==◌, ◌⊎◌, nat_lt, if◌then◌else◌, Bool, List}
use Rattle.std.specs.Prelude.{length}
use Rattle.basics.specs.Numbers.{bytes_of}
use Rattle.key_slots.specs.declared.refusals.Erc.{Erc}
use Rattle.freshness_routes.specs.Changes.{bound_ahead}
use Rattle.freshness_routes.specs.declared.config.TheConstants.{MOST_RESERVE}
use Rattle.freshness_routes.specs.declared.routes.Direction.{Direction}
use Rattle.freshness_routes.specs.declared.routes.Direction.TheVariants.{Sends, Receives}
use Rattle.freshness_store.specs.Bound.{direction_number, bound_cell}
use Rattle.secured_pdu.specs.Frame.{IsPayload, IsFrame, IsWindow, Secured}
use Rattle.secured_pdu.specs.declared.frame.TheConstants.{WIDEST_WINDOW}
use Rattle.secured_pdu.specs.Verdict.{Outcome, Verdict, Accepted, FreshnessFailure, VerificationFailure}
use Rattle.store_plan.specs.declared.planning.Plan.{Plan}
use Rattle.store_plan.specs.Plans.{PlansPut, IsEmptyPlan}
use Rattle.rathonsi_c.specs.declared.TheConstants.{OK, BAD_LENGTH, BAD_VALUE, FRESHNESS_FAILURE, VERIFICATION_FAILURE}
use Rattle.rathonsi_c.specs.declared.TheConstants.{DAMAGED, BUSY, RESERVE, EXHAUSTED, WRONG_CELL}
use Rattle.rathonsi_c.specs.declared.opened.TheConstants.{CHECK_PRIME, FRESH, MOVED}
use Rattle.rathonsi_c.specs.declared.secoc.RathonsiVerdict.{RathonsiVerdict}
use Rattle.rathonsi_c.specs.declared.route.RathonsiRoute.{RathonsiRoute}
use Rattle.rathonsi_c.specs.Causes.{IfCause, IsDone, erc_status}
use Rattle.rathonsi_c.specs.Images.{ImageBound, DamagedCell, OthersCell, ImageKey, NoSlot, SlotRefuses}

-- the numbers of a route in this direction are within their ranges
pub record InRanges (r : RathonsiRoute) (direction : Direction) : Type 0 where
  pub direction_is : r.direction ≡ direction_number direction
  pub cell_least : 14 ≤ r.cell
  pub reserve_least : 1 ≤ r.reserve
  pub reserve_most : r.reserve ≤ MOST_RESERVE
  pub window_is : IsWindow r.window
  pub slot_least : 4 ≤ r.slot
  pub slot_most : r.slot ≤ 13
  pub booted_most : r.booted ≤ 1
  pub freshness_only_most : r.freshness_only ≤ 1

-- they are outside, in whichever direction
abbrev pub OutOfRanges : RathonsiRoute → Type 0
OutOfRanges r = (direction : Direction) → ¬ InRanges r direction

-- the number that an open route keeps of its Data ID, direction, cell, counter and `opened` (own): never 0, and below
-- 2^24
abbrev pub check_number : RathonsiRoute → ℕ
check_number r =
    1 + (r.counter + 3 * (((r.opened * 2 ^ 8 + r.direction) * 2 ^ 16 + r.cell) * 2 ^ 16 + r.data_id)) % CHECK_PRIME

-- in three bytes, the highest first
abbrev pub check_of : RathonsiRoute → List ℕ
check_of r = bytes_of 3 (check_number r)

-- the route with the check value of its fields
abbrev pub sealed : RathonsiRoute → RathonsiRoute
sealed r = record r { check = check_of r }

-- `rathonsi_route_open` opened the route, and its Data ID, direction, cell, counter and mark are as the calls left them
pub record IsOpened (r : RathonsiRoute) : Type 0 where
  pub opened_is : (r.opened ≡ FRESH) ⊎ (r.opened ≡ MOVED)
  pub check_is : r.check ≡ check_of r

-- the route is open, and a call moved its counter
pub record HasMoved (r : RathonsiRoute) : Type 0 where
  pub opened : IsOpened r
  pub moved : r.opened ≡ MOVED

-- the caller says that another module makes and checks the authenticators of the route's PDUs
abbrev pub IsFreshnessOnly : RathonsiRoute → Type 0
IsFreshnessOnly r = r.freshness_only ≡ 1

-- an opened route whose numbers in this direction are within their ranges
pub record InUse (r : RathonsiRoute) (direction : Direction) : Type 0 where
  pub ranges : InRanges r direction
  pub opened : IsOpened r

-- whether the caller says that a secure boot succeeded
abbrev pub is_booted : RathonsiRoute → Bool
is_booted r = r.booted == 1

-- the route with another counter, which a call gave it
abbrev pub at_counter : RathonsiRoute → ℕ → RathonsiRoute
at_counter r counter = sealed (record r { counter = counter; opened = MOVED })

-- the route as it is opened at this bound, with this mark
abbrev pub opened_at : RathonsiRoute → ℕ → ℕ → RathonsiRoute
opened_at r bound mark = sealed (record r { counter = bound; opened = mark })

-- the route as an opening that failed leaves it
abbrev pub closed : RathonsiRoute → RathonsiRoute
closed r = record r { opened = 0 }

-- the image keeps a bound of the route that is at least this freshness
pub record BoundCovers (r : RathonsiRoute) (image : List ℕ) (direction : Direction) (freshness : ℕ) : Type 0 where
  pub bound : ℕ
  pub kept : ImageBound image r.cell r.data_id direction bound
  pub covers : freshness ≤ bound

-- or one that is below it
pub record BoundBelow (r : RathonsiRoute) (image : List ℕ) (direction : Direction) (freshness : ℕ) : Type 0 where
  pub bound : ℕ
  pub kept : ImageBound image r.cell r.data_id direction bound
  pub below : bound < freshness

-- a route that may be used in this direction, with this key and this bound
pub record RouteReady (r : RathonsiRoute) (direction : Direction) (image key : List ℕ) (bound : ℕ) : Type 0 where
  pub ranges : InRanges r direction
  pub opened : IsOpened r
  pub kept : ImageBound image r.cell r.data_id direction bound
  pub keyed : ImageKey image r.slot (is_booted r) key

-- ---- what the calls do

-- the route is opened: its counter is the bound that the image keeps
pub record Opens (r : RathonsiRoute) (image : List ℕ) (opened : RathonsiRoute) : Type 0 where
  pub direction : Direction
  pub ranges : InRanges r direction
  pub bound : ℕ
  pub kept : ImageBound image r.cell r.data_id direction bound
  pub mark : ℕ
  pub still_moved : HasMoved r → mark ≡ MOVED
  pub fresh : ¬ HasMoved r → mark ≡ FRESH
  pub now : opened ≡ opened_at r bound mark

-- a PDU with this freshness is given out, or accepted: it is above the counter, and becomes it, and a bound covers it
pub record RouteAdvances (direction : Direction) (r : RathonsiRoute) (image : List ℕ) (freshness : ℕ)
    (next : RathonsiRoute) : Type 0 where
  pub ranges : InRanges r direction
  pub opened : IsOpened r
  pub above : r.counter < freshness
  pub covered : BoundCovers r image direction freshness
  pub now : next ≡ at_counter r freshness

-- into an empty plan comes the bound ahead of this freshness, or nothing if the image keeps one that is as high
pub record Reserves (r : RathonsiRoute) (image : List ℕ) (freshness : ℕ) (old new : Plan) : Type 0 where
  pub empty : IsEmptyPlan old
  pub direction : Direction
  pub ranges : InRanges r direction
  pub opened : IsOpened r
  pub bound : ℕ
  pub kept : ImageBound image r.cell r.data_id direction bound
  pub enough : bound_ahead r.reserve freshness ≤ bound → new ≡ old
  pub plans : bound < bound_ahead r.reserve freshness
      → PlansPut new image r.cell (bound_cell r.data_id direction (bound_ahead r.reserve freshness))

-- a payload, and room for its PDU
abbrev pub TakesSend : List ℕ → List ℕ → Type 0
TakesSend payload pdu = IsPayload payload × (length payload + 4 ≤ length pdu)

-- the PDU of this payload, with the freshness above the counter, under the key of the route's slot
pub record SentBy (r : RathonsiRoute) (image payload pdu : List ℕ) : Type 0 where
  pub key : List ℕ
  pub keyed : ImageKey image r.slot (is_booted r) key
  pub secured : Secured key r.data_id payload (r.counter + 1) pdu

-- ---- what the calls answer

-- the first refusal of the slot's key, and if there is none what the rest says
abbrev pub IfKeyRefused : {A : Type 0} → (ℤ → A) → List ℕ → ℕ → Bool → (A → Type 0) → A → Type 0
IfKeyRefused {A} tell image place booted rest answer =
    ((refusal : Erc) × (SlotRefuses image place booted refusal × (answer ≡ tell (erc_status refusal))))
    ⊎ (((refusal : Erc) → ¬ SlotRefuses image place booted refusal) × rest answer)

-- the causes for which a route isn't ready, and else what the rest says; `tell` makes an answer of a status
abbrev pub RouteAnswers : {A : Type 0} → (ℤ → A) → RathonsiRoute → Direction → List ℕ → (A → Type 0) → A → Type 0
RouteAnswers {A} tell r direction image rest answer =
    IfCause (¬ InUse r direction) (tell BAD_VALUE)
    (IfCause (OthersCell image r.cell r.data_id direction) (tell WRONG_CELL)
    (IfCause (DamagedCell image r.cell ⊎ NoSlot image r.slot) (tell DAMAGED)
    (IfKeyRefused tell image r.slot (is_booted r) rest))) answer

-- of a route that is ready to send
abbrev pub CounterAnswers : RathonsiRoute → List ℕ → ℤ → Type 0
CounterAnswers r image status =
    IfCause (r.counter + 1 ≡ 2 ^ 64) EXHAUSTED
    (IfCause (BoundBelow r image Sends (r.counter + 1)) RESERVE IsDone) status

abbrev pub status_alone : ℤ → ℤ
status_alone status = status

-- what `rathonsi_route_send` answers
abbrev pub SendAnswers : RathonsiRoute → List ℕ → List ℕ → List ℕ → ℤ → Type 0
SendAnswers r image payload pdu status =
    IfCause (¬ TakesSend payload pdu) BAD_LENGTH
    (IfCause (IsFreshnessOnly r) BAD_VALUE
    (RouteAnswers status_alone r Sends image (CounterAnswers r image))) status

-- the verdict that tells a status alone
abbrev pub no_verdict : ℤ → RathonsiVerdict
no_verdict status = record { status = status; payload_length = 0; freshness = 0 }

-- the outcome as a receiver with this bound tells it: a freshness above the bound is to be reserved first
abbrev pub bounded_answer : ℕ → Outcome → RathonsiVerdict
bounded_answer bound (Accepted payload freshness) =
    if nat_lt bound freshness
    then record { status = RESERVE; payload_length = 0; freshness = freshness }
    else record { status = OK; payload_length = length payload; freshness = freshness }
bounded_answer bound FreshnessFailure = no_verdict FRESHNESS_FAILURE
bounded_answer bound VerificationFailure = no_verdict VERIFICATION_FAILURE

-- the verdict of a receiver with this counter and window on the PDU
pub record JudgesPdu (r : RathonsiRoute) (image pdu : List ℕ) (answer : RathonsiVerdict) : Type 0 where
  pub key : List ℕ
  pub bound : ℕ
  pub ready : RouteReady r Receives image key bound
  pub outcome : Outcome
  pub verdict : Verdict key r.data_id r.counter r.window pdu outcome
  pub is : answer ≡ bounded_answer bound outcome

-- what `rathonsi_route_receive` answers
abbrev pub ReceiveAnswers : RathonsiRoute → List ℕ → List ℕ → RathonsiVerdict → Type 0
ReceiveAnswers r image pdu answer =
    IfCause (¬ IsFrame pdu) (no_verdict BAD_LENGTH)
    (IfCause (IsFreshnessOnly r) (no_verdict BAD_VALUE)
    (RouteAnswers no_verdict r Receives image (JudgesPdu r image pdu))) answer

-- the cell of a route isn't its own, or no copy of it counts, and else what the rest says
abbrev pub CellAnswers : RathonsiRoute → List ℕ → (ℤ → Type 0) → ℤ → Type 0
CellAnswers r image rest status =
    IfCause ((direction : Direction) → InRanges r direction → OthersCell image r.cell r.data_id direction) WRONG_CELL
    (IfCause (DamagedCell image r.cell) DAMAGED rest) status

-- what `rathonsi_route_open` answers
abbrev pub OpenAnswers : RathonsiRoute → List ℕ → ℤ → Type 0
OpenAnswers r image status = IfCause (OutOfRanges r) BAD_VALUE (CellAnswers r image IsDone) status

-- the causes for which nothing is planned for a route, and else what the rest says
abbrev pub PlanAnswers : RathonsiRoute → List ℕ → Plan → (ℤ → Type 0) → ℤ → Type 0
PlanAnswers r image plan rest status =
    IfCause (¬ IsEmptyPlan plan) BUSY
    (IfCause (OutOfRanges r ⊎ ¬ IsOpened r) BAD_VALUE (CellAnswers r image rest)) status

-- once the bound ahead of this freshness is the counter, no freshness is above it
abbrev pub LeavesNothing : RathonsiRoute → ℕ → Type 0
LeavesNothing r freshness = bound_ahead r.reserve freshness + 1 ≡ 2 ^ 64

-- what `rathonsi_route_advance` answers
abbrev pub AdvanceAnswers : RathonsiRoute → List ℕ → ℕ → Plan → ℤ → Type 0
AdvanceAnswers r image freshness plan status =
    PlanAnswers r image plan (IfCause (LeavesNothing r freshness) EXHAUSTED IsDone) status

-- the freshness is further above the bound in the image than any window reaches
pub record IsFarAhead (r : RathonsiRoute) (image : List ℕ) (freshness : ℕ) : Type 0 where
  pub direction : Direction
  pub bound : ℕ
  pub kept : ImageBound image r.cell r.data_id direction bound
  pub far : bound + WIDEST_WINDOW < freshness

-- what `rathonsi_route_reserve` answers
abbrev pub ReserveAnswers : RathonsiRoute → List ℕ → ℕ → Plan → ℤ → Type 0
ReserveAnswers r image freshness plan status =
    PlanAnswers r image plan (IfCause (IsFarAhead r image freshness) BAD_VALUE IsDone) status
