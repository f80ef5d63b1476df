-- Why a route isn't used, by the refusals of the code: of several the first.
use Rattle.std.specs.Prelude.{ℤ, ◌≡◌, ℕ, ◌+◌, ◌^◌, ◌⊎◌, Bool, List}
use Rattle.freshness_routes.specs.declared.routes.Direction.{Direction}
use Rattle.freshness_routes.specs.declared.routes.Direction.TheVariants.{Sends}
use Rattle.rathonsi_c.specs.declared.TheConstants.{BAD_VALUE, DAMAGED, RESERVE, EXHAUSTED, WRONG_CELL}
use Rattle.rathonsi_c.specs.declared.route.RathonsiRoute.{RathonsiRoute}
use Rattle.rathonsi_c.specs.declared.refusals.Refusal.{Refusal}
use Rattle.rathonsi_c.specs.declared.refusals.Refusal.TheVariants.{BadValue, WrongCell, Damaged, Key, Exhausted, Reserve}
use Rattle.rathonsi_c.specs.Causes.{erc_status}
use Rattle.rathonsi_c.specs.Images.{ImageBound, DamagedCell, OthersCell, NoSlot, SlotRefuses}
use Rattle.rathonsi_c.specs.Routes.{InUse, RouteReady, BoundBelow, is_booted}

abbrev pub route_status : Refusal → ℤ
route_status BadValue = BAD_VALUE
route_status WrongCell = WRONG_CELL
route_status Damaged = DAMAGED
route_status (Key refusal) = erc_status refusal
route_status Exhausted = EXHAUSTED
route_status Reserve = RESERVE

-- the cell holds no bound of this Data ID and direction
abbrev pub BoundRefused : List ℕ → ℕ → ℕ → Direction → Refusal → Type 0
BoundRefused image place id direction BadValue = ⊥
BoundRefused image place id direction WrongCell = OthersCell image place id direction
BoundRefused image place id direction Damaged = DamagedCell image place
BoundRefused image place id direction (Key refusal) = ⊥
BoundRefused image place id direction Exhausted = ⊥
BoundRefused image place id direction Reserve = ⊥

-- the slot isn't there, or its key isn't for this use
abbrev pub KeyRefused : List ℕ → ℕ → Bool → Refusal → Type 0
KeyRefused image place booted BadValue = ⊥
KeyRefused image place booted WrongCell = ⊥
KeyRefused image place booted Damaged = NoSlot image place
KeyRefused image place booted (Key refusal) = SlotRefuses image place booted refusal
KeyRefused image place booted Exhausted = ⊥
KeyRefused image place booted Reserve = ⊥

-- a route isn't ready for this direction
abbrev pub RouteRefused : RathonsiRoute → Direction → List ℕ → Refusal → Type 0
RouteRefused r direction image BadValue = ¬ InUse r direction
RouteRefused r direction image WrongCell = InUse r direction × OthersCell image r.cell r.data_id direction
RouteRefused r direction image Damaged =
    InUse r direction × (¬ OthersCell image r.cell r.data_id direction) × (DamagedCell image r.cell ⊎ NoSlot image r.slot)
RouteRefused r direction image (Key refusal) =
    InUse r direction × ((bound : ℕ) × ImageBound image r.cell r.data_id direction bound)
    × SlotRefuses image r.slot (is_booted r) refusal
RouteRefused r direction image Exhausted = ⊥
RouteRefused r direction image Reserve = ⊥

-- a route doesn't send
abbrev pub SendRefused : RathonsiRoute → List ℕ → Refusal → Type 0
SendRefused r image BadValue = RouteRefused r Sends image BadValue
SendRefused r image WrongCell = RouteRefused r Sends image WrongCell
SendRefused r image Damaged = RouteRefused r Sends image Damaged
SendRefused r image (Key refusal) = RouteRefused r Sends image (Key refusal)
SendRefused r image Exhausted =
    (r.counter + 1 ≡ 2 ^ 64) × ((key : List ℕ) × ((bound : ℕ) × RouteReady r Sends image key bound))
SendRefused r image Reserve =
    BoundBelow r image Sends (r.counter + 1) × (¬ (r.counter + 1 ≡ 2 ^ 64))
    × ((key : List ℕ) × ((bound : ℕ) × RouteReady r Sends image key bound))
