-- One more row of a node's routes
use Rattle.std.proofs.Common.{◌≡◌, ◌≢◌, ℕ, ◌+◌, ◌<◌, ◌≤◌, false, Some, None, Result, Ok, Err, List, [], ◌∷◌, ◌++◌, length, drop, get_or, map, All, ap, ◌∙◌}
use Rattle.std.specs.Prelude.{◌==◌}
use Rattle.std.specs.Option.{ok_or}
use Rattle.std.specs.List.{list_any}
use Rattle.std.proofs.lemmas.Bool.{both_ways, eq-eqb}
use Rattle.std.proofs.lemmas.List.{drop_all}
use Rattle.std.proofs.lemmas.List.Folds.{list_any_at}
use Rattle.toml.specs.declared.value.Value.{Value}
use Rattle.toml.specs.View.{view}
use Rattle.freshness_routes.specs.declared.routes.Route.{Route}
use Rattle.text_lines.specs.Readings.{◌>>=◌}
use Rattle.bus_config.specs.declared.fault.ConfigFault.{ConfigFault}
use Rattle.bus_config.specs.declared.fault.ConfigFault.TheVariants as fault
use Rattle.bus_config.specs.Rows.{next_route}
use Rattle.bus_config.proofs.RowLists.{rows_left}
use Rattle.bus_config.specs.BusFile.{routes_from}

abbrev pub routes_left : ℕ → List Route → List Value → ℕ → Result (List Route) ConfigFault
routes_left node before rows i = routes_from node before (map view (drop i rows))

pub route_kept : (node : ℕ) (before : List Route) (rows : List Value) (i : ℕ) (row : Value) (route : Route) → i < length rows → get_or rows i row ≡ row
    → next_route before (view row) ≡ Some route → routes_left node before rows i ≡ routes_left node (before ++ route ∷ []) rows (i + 1)
unfolding routes_from
route_kept node before rows i row route inside here next =
    ap (routes_from node before) (rows_left rows i row inside here)
    ∙ ap (λ o. ok_or o (fault.Route node (length before + 1)) >>= (λ r. routes_from node (before ++ r ∷ []) (map view (drop (i + 1) rows)))) next

pub route_refused : (node : ℕ) (before : List Route) (rows : List Value) (i : ℕ) (row : Value) → i < length rows → get_or rows i row ≡ row
    → next_route before (view row) ≡ None → routes_left node before rows i ≡ Err (fault.Route node (length before + 1))
unfolding routes_from
route_refused node before rows i row inside here next =
    ap (routes_from node before) (rows_left rows i row inside here)
    ∙ ap (λ o. ok_or o (fault.Route node (length before + 1)) >>= (λ r. routes_from node (before ++ r ∷ []) (map view (drop (i + 1) rows)))) next

pub routes_done : (node : ℕ) (before : List Route) (rows : List Value) (i : ℕ) → length rows ≤ i → routes_left node before rows i ≡ Ok before
unfolding routes_from
routes_done node before rows i past = ap (λ rs. routes_from node before (map view rs)) (drop_all i rows past)

-- a Data ID that is not taken differs from each
pub not_taken : (routes : List Route) (id : ℕ) → list_any (λ r. r.id == id) routes ≡ false → All (λ r. r.id ≢ id) routes
not_taken routes id free k d inside same = both_ways _ free (list_any_at (λ r. r.id == id) routes k d inside (eq-eqb _ _ same))
