-- All routes of a unit, opened together.
use Rattle.std.specs.Prelude.{ℤ, ◌≡◌, ◌≢◌, ℕ, ◌<◌, ◌≤◌, ◌⊎◌, List, length, take, get_or, replicate}
use Rattle.freshness_routes.specs.declared.config.TheConstants.{MOST_ROUTES}
use Rattle.rathonsi_c.specs.declared.TheConstants.{OK, BAD_LENGTH, BAD_VALUE}
use Rattle.rathonsi_c.specs.declared.route.RathonsiRoute.{RathonsiRoute}
use Rattle.rathonsi_c.specs.Causes.{IfCause, IsDone}
use Rattle.rathonsi_c.specs.Routes.{OutOfRanges, CellAnswers, Opens, closed}
use Rattle.rathonsi_c.specs.Lives.{Apart}

-- what stands where there is no route
abbrev pub blank_route : RathonsiRoute
blank_route = record {
  counter = 0;
  data_id = 0;
  cell = 0;
  reserve = 0;
  window = 0;
  slot = 0;
  direction = 0;
  booted = 0;
  opened = 0;
  freshness_only = 0;
  check = replicate 3 0;
}

-- the routes of a list by their numbers
abbrev pub route_of : List RathonsiRoute → ℕ → RathonsiRoute
route_of routes k = get_or routes k blank_route

-- two routes have neither one cell, nor one Data ID and direction
pub record IsApart (r s : RathonsiRoute) : Type 0 where
  pub cells : s.cell ≢ r.cell
  pub ids : s.data_id ≡ r.data_id → s.direction ≢ r.direction

abbrev pub IsApartFrom : RathonsiRoute → List RathonsiRoute → Type 0
IsApartFrom r others = (k : ℕ) → k < length others → IsApart r (route_of others k)

-- what the opening of a route comes to beside those before it
abbrev pub RouteOpens : RathonsiRoute → List RathonsiRoute → List ℕ → ℤ → Type 0
RouteOpens r before image status =
    IfCause (OutOfRanges r ⊎ ¬ IsApartFrom r before) BAD_VALUE (CellAnswers r image IsDone) status

-- the same of route k of a list
abbrev pub OpensAt : List RathonsiRoute → List ℕ → ℕ → ℤ → Type 0
OpensAt routes image k status = RouteOpens (route_of routes k) (take k routes) image status

-- every route of the list may be opened
abbrev pub AllOpen : List RathonsiRoute → List ℕ → Type 0
AllOpen routes image = (k : ℕ) → k < length routes → OpensAt routes image k OK

-- this is the first that may not, with this status
pub record FirstUnopened (routes : List RathonsiRoute) (image : List ℕ) (which : ℕ) (status : ℤ) : Type 0 where
  pub below : which < length routes
  pub before : (k : ℕ) → k < which → OpensAt routes image k OK
  pub refused : status ≢ OK
  pub is : OpensAt routes image which status

-- each route is opened: its counter is the bound that the image keeps
pub record OpensEach (routes : List RathonsiRoute) (image : List ℕ) (opened : List RathonsiRoute) : Type 0 where
  pub count : length opened ≡ length routes
  pub each : (k : ℕ) → k < length routes → Opens (route_of routes k) image (route_of opened k)

-- each route is closed
pub record ClosesEach (routes closed_routes : List RathonsiRoute) : Type 0 where
  pub count : length closed_routes ≡ length routes
  pub each : (k : ℕ) → k < length routes → route_of closed_routes k ≡ closed (route_of routes k)

-- each route is opened, and no two have one cell, or one Data ID and direction
pub record OpensRoutes (routes : List RathonsiRoute) (image : List ℕ) (opened : List RathonsiRoute) : Type 0 where
  pub opens : OpensEach routes image opened
  pub apart : Apart (length opened) (route_of opened)

-- what `rathonsi_routes_open` answers
abbrev pub RoutesAnswers : List RathonsiRoute → List ℕ → ℤ → Type 0
RoutesAnswers routes image status =
    IfCause (MOST_ROUTES < length routes) BAD_LENGTH
    (λ answer. (AllOpen routes image × IsDone answer)
    ⊎ ((which : ℕ) × FirstUnopened routes image which answer)) status

-- it names the first route that may not be opened, and else leaves what was there
pub record TellsWhich (routes : List RathonsiRoute) (image : List ℕ) (status : ℤ) (old new : ℕ) : Type 0 where
  pub named : length routes ≤ MOST_ROUTES → status ≢ OK → FirstUnopened routes image new status
  pub left : (MOST_ROUTES < length routes) ⊎ (status ≡ OK) → new ≡ old
