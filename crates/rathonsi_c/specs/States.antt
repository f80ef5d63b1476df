-- What the calls that tell of an image answer: of a slot and of a route.
use Rattle.std.specs.Prelude.{ℤ, ◌≡◌, ℕ, ◌<◌, List, [], ◌∷◌}
use Rattle.key_slots.specs.declared.memory.Slot.{Slot}
use Rattle.key_slots.specs.declared.memory.Slot.TheVariants.{Empty, Filled}
use Rattle.key_slots.specs.Flags.{flags_number}
use Rattle.freshness_routes.specs.declared.routes.Direction.{Direction}
use Rattle.rathonsi_c.specs.declared.TheConstants.{BAD_VALUE, DAMAGED}
use Rattle.rathonsi_c.specs.declared.route.RathonsiRoute.{RathonsiRoute}
use Rattle.rathonsi_c.specs.declared.states.RathonsiSlotState.{RathonsiSlotState}
use Rattle.rathonsi_c.specs.declared.states.RathonsiRouteState.{RathonsiRouteState}
use Rattle.rathonsi_c.specs.Causes.{IfCause, IsDone}
use Rattle.rathonsi_c.specs.Images.{ImageBound, ImageSlot, NoSlot}
use Rattle.rathonsi_c.specs.Routes.{InRanges}

-- what is told of a slot: never its key
abbrev pub state_of : Slot → RathonsiSlotState
state_of Empty = record { counter = 0; filled = 0; flags = 0; unused = 0 ∷ 0 ∷ [] }
state_of (Filled key counter flags) =
    record { counter = counter; filled = 1; flags = flags_number flags; unused = 0 ∷ 0 ∷ [] }

-- the image keeps a slot of which this is told
pub record TellsSlot (image : List ℕ) (place : ℕ) (state : RathonsiSlotState) : Type 0 where
  pub slot : Slot
  pub held : ImageSlot image place slot
  pub told : state ≡ state_of slot

-- what `rathonsi_slot_state` answers
abbrev pub SlotStateAnswers : ℕ → List ℕ → ℤ → Type 0
SlotStateAnswers slot image status =
    IfCause (13 < slot) BAD_VALUE (IfCause (NoSlot image slot) DAMAGED IsDone) status

-- the counter of the route, and the bound that the image keeps for it
pub record TellsRoute (r : RathonsiRoute) (image : List ℕ) (state : RathonsiRouteState) : Type 0 where
  pub direction : Direction
  pub ranges : InRanges r direction
  pub kept : ImageBound image r.cell r.data_id direction state.bound
  pub counter : state.counter ≡ r.counter
