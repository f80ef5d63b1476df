-- Which number of a route is outside its range.
use Rattle.std.specs.Prelude.{◌≡◌, ℕ, ◌<◌, ◌≤◌}
use Rattle.freshness_routes.specs.declared.config.TheConstants.{MOST_RESERVE}
use Rattle.freshness_routes.specs.declared.routes.Direction.{Direction}
use Rattle.freshness_store.specs.Bound.{direction_number}
use Rattle.secured_pdu.specs.Frame.{IsWindow}
use Rattle.rathonsi_c.specs.declared.route.RathonsiRoute.{RathonsiRoute}
use Rattle.rathonsi_c.specs.Causes.{IfCause}
use Rattle.rathonsi_c.specs.Routes.{IsOpened}

abbrev pub ReserveInRange : RathonsiRoute → Type 0
ReserveInRange r = (1 ≤ r.reserve) × (r.reserve ≤ MOST_RESERVE)

abbrev pub SlotInRange : RathonsiRoute → Type 0
SlotInRange r = (4 ≤ r.slot) × (r.slot ≤ 13)

abbrev pub HasDirection : RathonsiRoute → Type 0
HasDirection r = (direction : Direction) × (r.direction ≡ direction_number direction)

-- the fields in an order, each with its number: the first that is outside its range is told, and else what the rest says
abbrev pub FieldOutside : RathonsiRoute → (ℕ → Type 0) → ℕ → Type 0
FieldOutside r rest field =
    IfCause (r.cell < 14) 1
    (IfCause (¬ ReserveInRange r) 2
    (IfCause (¬ IsWindow r.window) 3
    (IfCause (¬ SlotInRange r) 4
    (IfCause (¬ HasDirection r) 5
    (IfCause (1 < r.booted) 6
    (IfCause (1 < r.freshness_only) 7 rest)))))) field

abbrev pub IsNoField : ℕ → Type 0
IsNoField field = field ≡ 0

-- what `rathonsi_route_fault` tells
abbrev pub TellsFault : RathonsiRoute → ℕ → Type 0
TellsFault r fault = FieldOutside r (IfCause (¬ IsOpened r) 8 IsNoField) fault
