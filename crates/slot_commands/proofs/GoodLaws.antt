-- What a check that finds nothing says of a store: its kind, its version and how many cells it has
use Rattle.std.proofs.Common.{◌≡◌, ◌⊎◌, ◌∙◌, ℕ, ◌+◌, ◌-◌, ◌<◌, ◌≤◌, List, [], ◌++◌, length, length-drop, drop, map, refl, sym, ap, subst, inl, inr, ⊎_elim, arith}
use Rattle.std.specs.Prelude.{Option, Some, None, slice_index_or}
use Rattle.std.proofs.lemmas.Bool.{cases_lt}
use Rattle.std.proofs.lemmas.List.{length-map}
use Rattle.std.proofs.lemmas.Option.{slice_get_within}
use Rattle.cell_store.specs.Layout.{from_base}
use Rattle.cell_store.specs.Twin.{cell_at}
use Rattle.freshness_routes.specs.declared.routes.Route.{Route}
use Rattle.any_cells.specs.declared.finding.CountingStore.{CountingStore}
use Rattle.key_commands.specs.Opening.{layout_of}
use Rattle.slot_commands.specs.Cells.{slot_count}
use Rattle.slot_commands.specs.RouteFindings.{FindsAt, FindsOverRoutes, as_slot, no_copy, no_route, not_its_bound, its_bound}
use Rattle.slot_commands.specs.RouteFindings.{lacking_lines, no_cell_words}
use Rattle.slot_commands.specs.Stores.{ChecksStore, FindsFrom, at_end, a_finding, nothing, FindsInPlaces, of_twin, of_log, of_damaged_log}
use Rattle.slot_commands.specs.Stores.{FindsLayout, none_wanted, as_wanted, another}
use Rattle.slot_commands.proofs.OnceLaws.{no_parts}

-- a store in which nothing is found has the kind and the version that are wanted
wanted_layout : (found : CountingStore) (a : Option CountingStore) (wanted : CountingStore) (f : List (List (List ℕ))) → FindsLayout found a f
    → a ≡ Some wanted → f ≡ [] → layout_of found ≡ layout_of wanted
wanted_layout found a wanted f none_wanted is none = cc is
wanted_layout found a wanted f (as_wanted also same) is none =
    let such : also ≡ wanted = cc is in
    same ∙ ap layout_of such
wanted_layout found a wanted f (another also other) is none = cc none

pub good_layout : (wanted : CountingStore) (routes : Option (List Route)) (x text : List ℕ) (findings : List (List (List ℕ)))
    (checks : ChecksStore (Some wanted) routes x findings text) → findings ≡ [] → layout_of checks.found ≡ layout_of wanted
good_layout wanted routes x text findings checks none =
    let finds = checks.finds in
    let (no_layout, rest) = no_parts finds.of_layout (finds.of_places ++ lacking_lines routes checks.found.cells) (sym finds.all ∙ none) in
    wanted_layout checks.found (Some wanted) wanted finds.of_layout finds.finds_layout refl no_layout

-- a number is a later one, or this
later_or_here : (i k : ℕ) → i ≤ k → (1 + i ≤ k) ⊎ (i ≡ k)
later_or_here i k from = ⊎_elim (λ low. inl (omega (arith, low))) (λ high. inr (omega (arith, from, high))) (cases_lt i k)

-- nothing is found at a place of some of which nothing is found
each_good : (routes : Option (List Route)) (what : ℕ → Option (List ℕ)) (i n : ℕ) (f : List (List (List ℕ))) → FindsFrom routes what i n f → f ≡ []
    → (k : ℕ) → i ≤ k → k < n → FindsAt routes k (what k) None
each_good routes what i n f (at_end _) none k from below = absurd (omega (arith, from, below))
each_good routes what i n f (a_finding _ _ words rest low finds more) none k from below = cc none
each_good routes what i n f (nothing _ _ rest low finds more) none k from below =
    ⊎_elim (λ later. each_good routes what (1 + i) n rest more none k later below)
    (λ here. subst (λ (m : ℕ). FindsAt routes m (what m) None) here finds) (later_or_here i k from)

places_good : (routes : Option (List Route)) (x : List ℕ) (found : CountingStore) (f : List (List (List ℕ))) → FindsInPlaces routes x found f → f ≡ []
    → (k : ℕ) → k < found.cells → (there : Option (List ℕ)) × FindsAt routes k there None
places_good routes x found f (of_twin _ twin finds) none k below =
    (cell_at (from_base found.version x) k, each_good routes (cell_at (from_base found.version x)) 0 found.cells f finds none k (omega arith) below)
places_good routes x found f (of_log cells _ log stands number finds) none k below =
    let what : ℕ → Option (List ℕ) = λ place. Some (slice_index_or cells place []) in
    (what k, each_good routes what 0 found.cells f finds none k (omega arith) below)
places_good routes x found f (of_damaged_log place log first) none k below = cc none

-- a place after the slots at which nothing is found has a route
has_route : (routes : List Route) (place : ℕ) (there : Option (List ℕ)) (o : Option (List (List ℕ))) → FindsOverRoutes routes place there o → o ≡ None
    → slot_count ≤ place → place - slot_count < length routes
has_route routes place there o (as_slot _ _ below finds) none from = absurd (omega (arith, below, from))
has_route routes place there o (no_copy also) none from = cc none
has_route routes place there o (no_route cell also at) none from = cc none
has_route routes place there o (not_its_bound cell route also at not) none from = cc none
has_route routes place there o (its_bound cell route bound also at holds) none from = slice_get_within routes (place - slot_count) route at

-- so the places after the slots are no more than the routes
no_more : (routes : List Route) (x : List ℕ) (found : CountingStore) (f : List (List (List ℕ))) → FindsInPlaces (Some routes) x found f → f ≡ []
    → found.cells ≤ slot_count + length routes
no_more routes x found f finds none =
    ⊎_elim
    (λ some.
    let last = found.cells - 1 in
    let (there, at) = places_good (Some routes) x found f finds none last (omega (arith, some)) in
    let within = has_route routes last there None at refl (omega (arith, some)) in
    omega (arith, some, within))
    (λ few. omega (arith, few)) (cases_lt slot_count found.cells)

-- and no fewer, if no route lacks one
no_fewer : (routes : List Route) (cells : ℕ) → lacking_lines (Some routes) cells ≡ [] → slot_count ≤ cells → slot_count + length routes ≤ cells
no_fewer routes cells none wide =
    let over = drop (cells - slot_count) routes in
    let number : length (map no_cell_words over) ≡ 0 = ap length none in
    omega (arith, number, length-map over no_cell_words, length-drop (cells - slot_count) routes, wide)

pub good_number : (wanted : Option CountingStore) (routes : List Route) (x text : List ℕ) (findings : List (List (List ℕ)))
    (checks : ChecksStore wanted (Some routes) x findings text) → findings ≡ [] → checks.found.cells ≡ slot_count + length routes
good_number wanted routes x text findings checks none =
    let finds = checks.finds in
    let lacking = lacking_lines (Some routes) checks.found.cells in
    let (no_layout, rest) = no_parts finds.of_layout (finds.of_places ++ lacking) (sym finds.all ∙ none) in
    let (no_place, no_route_lacks) = no_parts finds.of_places lacking rest in
    let most = no_more routes x checks.found finds.of_places finds.finds no_place in
    let least = no_fewer routes checks.found.cells no_route_lacks checks.has.wide in
    omega (arith, most, least)
