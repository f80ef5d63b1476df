-- The Data IDs that routes and nodes send, tested and one route or node at a time
use Rattle.std.proofs.Common.{◌≡◌, ℕ, ◌+◌, ◌<◌, Bool, true, false, cond, List, [], ◌∷◌, ◌++◌, length, take, drop, get_or, map, refl, sym, ap, ◌∙◌}
use Rattle.std.specs.Prelude.{◌==◌, ◌&&◌, ◌||◌, filter}
use Rattle.std.specs.List.{list_any}
use Rattle.std.proofs.lemmas.List.{take_more, drop_more, append-nil}
use Rattle.std.proofs.lemmas.List.Folds.{list_any-append}
use Rattle.std.proofs.lemmas.List.Concat.{flat_map-append}
use Rattle.freshness_routes.specs.declared.routes.Direction.TheVariants.{Sends}
use Rattle.freshness_routes.specs.declared.routes.Route.{Route}
use Rattle.bus_machine.specs.Node.{same_direction}
use Rattle.bus_config.specs.declared.node_lines.NodeLine.{NodeLine}
use Rattle.bus_config.specs.Buses.{ids_sent_by, ids_sent}

-- whether a route sends, and whether it sends this Data ID
abbrev pub is_sending : Route → Bool
is_sending route = same_direction route.direction Sends

abbrev pub sends_id : ℕ → Route → Bool
sends_id id route = is_sending route && (route.id == id)

-- what one route adds to the Data IDs of those after it
abbrev added : Bool → Route → List Route → List ℕ
added b route rest = map (λ r. r.id) (cond b (route ∷ filter is_sending rest) (filter is_sending rest))

any_added : (b : Bool) (route : Route) (rest : List Route) (id : ℕ) (rest_any : Bool)
    → rest_any ≡ list_any (λ one. one == id) (ids_sent_by rest)
    → ((b && (route.id == id)) || rest_any) ≡ list_any (λ one. one == id) (added b route rest)
any_added true route rest id t e = ap (λ u. (route.id == id) || u) e
any_added false route rest id t e = e

pub any_sends : (routes : List Route) (id : ℕ) → list_any (sends_id id) routes ≡ list_any (λ one. one == id) (ids_sent_by routes)
any_sends [] id = refl
any_sends (route ∷ rest) id = any_added (is_sending route) route rest id _ (any_sends rest id)

pub any_node : (nodes : List NodeLine) (id : ℕ)
    → list_any (λ n. list_any (λ one. one == id) (ids_sent_by n.config.routes)) nodes ≡ list_any (λ one. one == id) (ids_sent nodes)
any_node [] id = refl
any_node (n ∷ ns) id =
    let here = ids_sent_by n.config.routes in
    ap (λ t. list_any (λ one. one == id) here || t) (any_node ns id) ∙ sym (list_any-append (λ one. one == id) here (ids_sent ns))

-- ---- one route more

-- the Data ID of a route, if it sends
abbrev pub id_if : Bool → Route → List ℕ
id_if b route = cond b (route.id ∷ []) []

added_is : (b : Bool) (route : Route) (rest : List Route) → added b route rest ≡ id_if b route ++ ids_sent_by rest
added_is true route rest = refl
added_is false route rest = refl

pub ids_of_cons : (route : Route) (rest : List Route) → ids_sent_by (route ∷ rest) ≡ id_if (is_sending route) route ++ ids_sent_by rest
ids_of_cons route rest = added_is (is_sending route) route rest

pub ids_of_append : (xs ys : List Route) → ids_sent_by (xs ++ ys) ≡ ids_sent_by xs ++ ids_sent_by ys
ids_of_append [] ys = refl
ids_of_append (x ∷ xs) ys = step (is_sending x) (ids_of_append xs ys)
  where
    step : (b : Bool) → ids_sent_by (xs ++ ys) ≡ ids_sent_by xs ++ ids_sent_by ys → added b x (xs ++ ys) ≡ added b x xs ++ ids_sent_by ys
    step true e = ap (λ (l : List ℕ). x.id ∷ l) e
    step false e = e

pub ids_of_take : (routes : List Route) (i : ℕ) (d : Route) → i < length routes
    → ids_sent_by (take (i + 1) routes) ≡ ids_sent_by (take i routes) ++ id_if (is_sending (get_or routes i d)) (get_or routes i d)
ids_of_take routes i d inside =
    let route = get_or routes i d in
    ap ids_sent_by (take_more routes i d inside) ∙ ids_of_append (take i routes) (route ∷ []) ∙ ap (λ (l : List ℕ). ids_sent_by (take i routes) ++ l) (one (is_sending route) route)
  where
    one : (b : Bool) (route : Route) → added b route [] ≡ id_if b route
    one true route = refl
    one false route = refl

pub ids_of_drop : (routes : List Route) (i : ℕ) (d : Route) → i < length routes
    → ids_sent_by (drop i routes) ≡ id_if (is_sending (get_or routes i d)) (get_or routes i d) ++ ids_sent_by (drop (i + 1) routes)
ids_of_drop routes i d inside =
    ap ids_sent_by (drop_more routes i d inside) ∙ ids_of_cons (get_or routes i d) (drop (i + 1) routes)

-- ---- one node more

pub node_of_drop : (nodes : List NodeLine) (i : ℕ) (node : NodeLine) → i < length nodes → get_or nodes i node ≡ node
    → ids_sent (drop i nodes) ≡ ids_sent_by node.config.routes ++ ids_sent (drop (i + 1) nodes)
node_of_drop nodes i node inside here =
    ap ids_sent (drop_more nodes i node inside) ∙ ap (λ (n : NodeLine). ids_sent_by n.config.routes ++ ids_sent (drop (i + 1) nodes)) here

pub node_of_take : (nodes : List NodeLine) (i : ℕ) (node : NodeLine) → i < length nodes → get_or nodes i node ≡ node
    → ids_sent (take (i + 1) nodes) ≡ ids_sent (take i nodes) ++ ids_sent_by node.config.routes
node_of_take nodes i node inside here =
    ap ids_sent (take_more nodes i node inside)
    ∙ flat_map-append (λ n. ids_sent_by n.config.routes) (take i nodes) (get_or nodes i node ∷ [])
    ∙ ap (λ (l : List ℕ). ids_sent (take i nodes) ++ l) (append-nil (ids_sent_by (get_or nodes i node).config.routes))
    ∙ ap (λ (n : NodeLine). ids_sent (take i nodes) ++ ids_sent_by n.config.routes) here
