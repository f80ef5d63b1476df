-- A named bus is a bus of the machine
use Rattle.std.proofs.Common.{◌≡◌, ℕ, ◌+◌, ◌<◌, Bool, true, false, cond, List, [], ◌∷◌, length, suc, take, drop, refl, sym, ap, subst, ◌∙◌, arith, inl, inr}
use Rattle.std.specs.Prelude.{◌==◌, ◌&&◌, ◌||◌, slice_index_or}
use Rattle.std.specs.List.{list_any}
use Rattle.std.proofs.lemmas.Bool.{cases_order}
use Rattle.std.proofs.lemmas.List.{length-map, get_or-map, drop_more, get_or-take, take-append-drop, length-take-le}
use Rattle.std.proofs.lemmas.List.Concat.{flat_map-append}
use Rattle.std.proofs.lemmas.List.Folds.{list_any_at, list_any-append}
use Rattle.freshness_routes.specs.declared.routes.Direction.TheVariants.{Sends}
use Rattle.freshness_routes.specs.declared.routes.Route.{Route}
use Rattle.freshness_routes.specs.Config.{Config, IsConfig}
use Rattle.bus_machine.specs.Node.{same_direction, place_in, HasRoute, first_node}
use Rattle.bus_machine.specs.Bus.{IsBus, config_at, no_config}
use Rattle.bus_config.specs.declared.node_lines.NodeLine.{NodeLine}
use Rattle.bus_config.specs.Buses.{NamedBus, IsNamedBus, ids_sent_by, ids_sent, configs_of}
use Rattle.bus_config.proofs.Sending.{sends_id, any_sends, any_node}
use Rattle.bus_config.proofs.Again.{stands_in, Differ, parts_apart}

-- a node that has no name
abbrev nobody : NodeLine
nobody = record { name = []; config = no_config }

abbrev node_of : List NodeLine → ℕ → NodeLine
node_of nodes i = slice_index_or nodes i nobody

-- the routes of a node that sends a Data ID
place_sends : (routes : List Route) (id : ℕ) → place_in routes id Sends < length routes → list_any (sends_id id) routes ≡ true
place_sends [] id inside = absurd (omega (arith, inside))
place_sends (r ∷ rs) id inside = by_tests (r.id == id) (same_direction r.direction Sends) (place_sends rs id) inside
  where
    by_tests : (a b : Bool) → (place_in rs id Sends < length rs → list_any (sends_id id) rs ≡ true)
        → cond (a && b) 0 (suc (place_in rs id Sends)) < suc (length rs) → ((b && a) || list_any (sends_id id) rs) ≡ true
    by_tests true true more l = refl
    by_tests true false more l = more (omega (arith, l))
    by_tests false true more l = more (omega (arith, l))
    by_tests false false more l = more (omega (arith, l))

pub node_sends : (config : Config) (id : ℕ) → HasRoute (first_node config) id Sends → stands_in id (ids_sent_by config.routes) ≡ true
node_sends config id has = sym (any_sends config.routes id) ∙ place_sends config.routes id has

config_of_node : (bus : NamedBus) (i : ℕ) → i < length bus.nodes → config_at (configs_of bus) i ≡ (node_of bus.nodes i).config
config_of_node bus i inside = get_or-map (λ n. n.config) bus.nodes i nobody no_config inside

-- the Data IDs before node j, and of it and those after
abbrev sends_at : List NodeLine → ℕ → ℕ → Bool
sends_at nodes i id = stands_in id (ids_sent_by (node_of nodes i).config.routes)

not_twice : (nodes : List NodeLine) (i j id : ℕ) → Differ (ids_sent nodes) → i < j → j < length nodes → sends_at nodes i id ≡ true → sends_at nodes j id ≡ true → ⊥
not_twice nodes i j id differ before inside first second =
    let front : stands_in id (ids_sent (take j nodes)) ≡ true =
    sym (any_node (take j nodes) id)
    ∙ list_any_at (λ n. list_any (λ one. one == id) (ids_sent_by n.config.routes)) (take j nodes) i nobody (omega (arith, before, length-take-le j nodes (omega (arith, inside))))
    (ap (λ n. stands_in id (ids_sent_by n.config.routes)) (get_or-take j nodes i nobody before) ∙ first) in
    let back : stands_in id (ids_sent (drop j nodes)) ≡ true =
    ap (λ (ns : List NodeLine). stands_in id (ids_sent ns)) (drop_more nodes j nobody inside)
    ∙ list_any-append (λ one. one == id) (ids_sent_by (node_of nodes j).config.routes) (ids_sent (drop (j + 1) nodes))
    ∙ ap (λ b. b || stands_in id (ids_sent (drop (j + 1) nodes))) second in
    parts_apart (ids_sent (take j nodes)) (ids_sent (drop j nodes)) id
    (subst Differ (ap ids_sent (sym (take-append-drop j nodes)) ∙ flat_map-append (λ n. ids_sent_by n.config.routes) (take j nodes) (drop j nodes)) differ)
    front back

pub is_bus : (bus : NamedBus) → IsNamedBus bus → IsBus (configs_of bus)
is_bus bus is = record {
  configs = λ i inside.
      let inside' : i < length bus.nodes = subst (λ n. i < n) (length-map bus.nodes (λ n. n.config)) inside in
      subst IsConfig (sym (config_of_node bus i inside')) (is.are_nodes i nobody inside').config;
  one_sender = λ i j id i_in j_in has has'.
      let i_in' : i < length bus.nodes = subst (λ n. i < n) (length-map bus.nodes (λ n. n.config)) i_in in
      let j_in' : j < length bus.nodes = subst (λ n. j < n) (length-map bus.nodes (λ n. n.config)) j_in in
      let first : sends_at bus.nodes i id ≡ true = ap (λ c. stands_in id (ids_sent_by c.routes)) (sym (config_of_node bus i i_in')) ∙ node_sends (config_at (configs_of bus) i) id has in
      let second : sends_at bus.nodes j id ≡ true = ap (λ c. stands_in id (ids_sent_by c.routes)) (sym (config_of_node bus j j_in')) ∙ node_sends (config_at (configs_of bus) j) id has' in
      elim (cases_order i j) [
        | inl same ↦ same
        | inr (inl before) ↦ absurd (not_twice bus.nodes i j id is.sent_once before j_in' first second)
        | inr (inr after) ↦ absurd (not_twice bus.nodes j i id is.sent_once after i_in' second first)
      ];
}
