-- What the tables of the bus file mean, each by itself (own)
use Rattle.std.specs.Prelude.{ℕ, Bool, ◌==◌, if◌then◌else◌, bytes_eq, codes, Option, Some, None, option_and_then, List}
use Rattle.std.specs.Prelude.{[], ◌∷◌}
use Rattle.std.specs.List.{list_all, list_any}
use Rattle.std.specs.Option.{is_some, option_map_or}
use Rattle.toml.specs.Data.{Data, Members, no_members, member, get_member, as_table}
use Rattle.cell_store.specs.declared.kinds.Kind.{Kind}
use Rattle.cell_store.specs.declared.kinds.Kind.TheVariants.{Twin}
use Rattle.cell_store.specs.declared.kinds.Version.{Version}
use Rattle.cell_store.specs.declared.kinds.Version.TheVariants.{One}
use Rattle.secured_pdu.specs.declared.frame.TheConstants.{WIDEST_WINDOW}
use Rattle.freshness_routes.specs.declared.config.TheConstants.{MOST_RESERVE}
use Rattle.freshness_routes.specs.declared.routes.Direction.{Direction}
use Rattle.freshness_routes.specs.declared.routes.Direction.TheVariants.{Sends, Receives}
use Rattle.freshness_routes.specs.declared.routes.Route.{Route}
use Rattle.bus_config.specs.declared.node_lines.NodeLine.{NodeLine}
use Rattle.bus_config.specs.Buses.{most_routes, place_named}
use Rattle.bus_config.specs.Values.{kind_in, version_in, whole_in, name_in, uid_in, id_in, direction_in, start_in}
use Rattle.bus_config.specs.Values.{tables_in}

-- the second step, if the first gave a value
infixl 10 ◌>>=◌
abbrev ◌>>=◌ : {A B : Type 0} → Option A → (A → Option B) → Option B
value >>= f = option_and_then f value

-- ---- the keys of a table

abbrev pub keys_in : Members → List (List ℕ)
keys_in no_members = []
keys_in (member key value rest) = key ∷ keys_in rest

-- it has no key but these
abbrev pub has_only : List (List ℕ) → Members → Bool
has_only known table = list_all (λ key. list_any (bytes_eq key) known) (keys_in table)

abbrev pub if_only : {A : Type 0} → List (List ℕ) → Members → Option A → Option A
if_only known table meaning = if has_only known table then meaning else None

-- the value at a key that has to be there
abbrev pub needed : {A : Type 0} → (Data → Option A) → List ℕ → Members → Option A
needed form key table = option_and_then form (get_member key table)

-- the value at a key that may be left out
abbrev pub optional : {A : Type 0} → A → (Data → Option A) → List ℕ → Members → Option A
optional without form key table = option_map_or form (get_member key table) (Some without)

-- ---- a route

abbrev pub route_keys : List (List ℕ)
route_keys = codes "id" ∷ codes "direction" ∷ codes "slot" ∷ codes "reserve" ∷ codes "window" ∷ codes "start" ∷ []

-- a route that receives may have a window, and one that sends has none
abbrev pub window_in : Direction → Members → Option ℕ
window_in Receives row = optional WIDEST_WINDOW (whole_in 1 WIDEST_WINDOW) (codes "window") row
window_in Sends row = if is_some (get_member (codes "window") row) then None else Some WIDEST_WINDOW

unfoldable pub route_in_row : Members → Option Route
route_in_row row = if_only route_keys row (do
  id ← needed id_in (codes "id") row
  direction ← needed direction_in (codes "direction") row
  slot ← needed (whole_in 4 13) (codes "slot") row
  reserve ← optional 1 (whole_in 1 MOST_RESERVE) (codes "reserve") row
  window ← window_in direction row
  start ← optional 0 start_in (codes "start") row
  Some (record { id = id; direction = direction; slot = slot; reserve = reserve; window = window; start = start }))

-- a route after those of its node before it, if none of these has its Data ID
abbrev pub unless_taken : List Route → Route → Option Route
unless_taken before route = if list_any (λ r. r.id == route.id) before then None else Some route

unfoldable pub next_route : List Route → Data → Option Route
next_route before row = do
  table ← as_table row
  route ← route_in_row table
  unless_taken before route

-- ---- a node without its routes

pub record NodeHead : Type 0 where
  pub name : List ℕ
  pub uid : List ℕ
  pub rows : List Data

abbrev pub node_keys : List (List ℕ)
node_keys = codes "name" ∷ codes "uid" ∷ codes "route" ∷ []

-- a name that no node before has
abbrev pub unless_named : List NodeLine → List ℕ → Option (List ℕ)
unless_named before name = if is_some (place_named before name) then None else Some name

unfoldable pub node_head : Version → List NodeLine → Members → Option NodeHead
node_head version before row = if_only node_keys row (do
  told ← needed name_in (codes "name") row
  name ← unless_named before told
  uid ← needed uid_in (codes "uid") row
  rows ← optional [] (tables_in 0 (most_routes version)) (codes "route") row
  Some (record { name = name; uid = uid; rows = rows }))

unfoldable pub next_head : Version → List NodeLine → Data → Option NodeHead
next_head version before row = do
  table ← as_table row
  node_head version before table

-- ---- the root

pub record Root : Type 0 where
  pub kind : Kind
  pub version : Version
  pub rows : List Data

abbrev pub root_keys : List (List ℕ)
root_keys = codes "store" ∷ codes "version" ∷ codes "node" ∷ []

unfoldable pub root_in : Members → Option Root
root_in table = if_only root_keys table (do
  kind ← optional Twin kind_in (codes "store") table
  version ← optional One version_in (codes "version") table
  rows ← needed (tables_in 1 8) (codes "node") table
  Some (record { kind = kind; version = version; rows = rows }))
