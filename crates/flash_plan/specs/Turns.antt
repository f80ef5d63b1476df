-- The turns of a caller: each operation with its outcome, each loss of power, each start.
use Rattle.std.specs.Prelude.{◌≡◌, Option, Some, None, List, [], ◌∷◌, ◌++◌}
use Rattle.flash_places.specs.Places.{Flash}
use Rattle.flash_laws.specs.Logs.{CellList}
use Rattle.flash_laws.specs.Lives.{FlashLayout, FlashMachine, FlashDeed, FlashLives, puts, cuts_put}
use Rattle.flash_plan.specs.declared.operations.FlashOutcome.{FlashOutcome}
use Rattle.flash_plan.specs.declared.operations.FlashOutcome.TheVariants.{Answered, Done, Failed}
use Rattle.flash_plan.specs.declared.plans.WaitingPut.{WaitingPut}
use Rattle.flash_plan.specs.declared.plans.FlashPlan.{FlashPlan}
use Rattle.flash_plan.specs.Standing.{MovesBy, StandsAt}

-- An operation, its outcome, and the put whose line it programs, if it is one. A loss of power between two operations,
-- and all that is no operation, programs no put.
pub record Turn : Type 0 where
  pub put : Option WaitingPut
  pub outcome : FlashOutcome

abbrev pub PlanTurns : FlashLayout → List Turn → FlashMachine → FlashMachine → Type 0
PlanTurns l [] a c = c ≡ a
PlanTurns l (turn ∷ turns) a c = (b : FlashMachine) × (MovesBy l turn.put turn.outcome a b × PlanTurns l turns b c)

-- the puts that were programmed in these turns, done or cut
abbrev pub deed_in : Option WaitingPut → FlashOutcome → List FlashDeed
deed_in None outcome = []
deed_in (Some put) (Answered answer) = cuts_put put.cell put.payload ∷ []
deed_in (Some put) Done = puts put.cell put.payload ∷ []
deed_in (Some put) Failed = cuts_put put.cell put.payload ∷ []

abbrev pub puts_in : List Turn → List FlashDeed
puts_in [] = []
puts_in (turn ∷ turns) = deed_in turn.put turn.outcome ++ puts_in turns

-- the same run as deeds of the machine
pub record IsLived (l : FlashLayout) (a b : FlashMachine) : Type 0 where
  pub deeds : List FlashDeed
  pub lives : FlashLives l deeds a b

-- the plan stands at some point
pub record IsStanding (l : FlashLayout) (plan : FlashPlan) (cells scratch : CellList) (f : Flash) : Type 0 where
  pub at : FlashMachine
  pub stands : StandsAt l plan cells scratch at f

-- turns lead from a point to one at which it stands
pub record TurnsTo (l : FlashLayout) (plan : FlashPlan) (cells scratch : CellList) (from : FlashMachine) (g : Flash)
    : Type 0 where
  pub turns : List Turn
  pub at : FlashMachine
  pub run : PlanTurns l turns from at
  pub stands : StandsAt l plan cells scratch at g
