-- What a check found, and whether it found nothing
use Rattle.std.specs.Prelude.{ℕ, ◌↔◌, ◌≡◌, ◌⊎◌, ◌++◌, Bool, List, [], IsTrue, Option, None, Some}
use Rattle.std.specs.Prelude.{Result, Ok, Err}
use Rattle.cell_store.specs.declared.faults.StoreFault.{StoreFault}
use Rattle.cell_store.specs.declared.faults.StoreFault.TheVariants as store
use Rattle.program_edge.specs.Rows.{Row, memory_row}
use Rattle.key_commands.specs.Opening.{TellsStoreFault}
use Rattle.slot_commands.specs.StoreWords.{damaged_place_words}
use Rattle.text_lines.specs.Written.{written}
use Rattle.freshness_routes.specs.declared.routes.Route.{Route}
use Rattle.slot_commands.specs.RouteFindings.{FindsAt, lacking_lines}
use Rattle.any_cells.specs.declared.finding.CountingStore.{CountingStore}
use Rattle.slot_commands.specs.Stores.{FindsFrom, FindsInPlaces, FindsLayout, ChecksStore, written_lines}

-- the text of a check over these bytes, and whether nothing was found
abbrev pub Checked : Option CountingStore → Option (List Route) → List ℕ → List ℕ → Bool → Type 0
Checked wanted routes x text good =
    (findings : List (List (List ℕ))) × ChecksStore wanted routes x findings text × (IsTrue good ↔ (findings ≡ []))

-- the lines of what is found of places were added: `what` says what stands at each, from the first on, of n
abbrev pub PushesFindings : Option (List Route) → (ℕ → Option (List ℕ)) → ℕ → List ℕ → List ℕ → Type 0
PushesFindings routes what n old new =
    (findings : List (List (List ℕ))) × FindsFrom routes what 0 n findings × (new ≡ old ++ written_lines findings)

-- the lines of what is found in the places of a store were added
abbrev pub PushesPlaces : Option (List Route) → List ℕ → CountingStore → List ℕ → List ℕ → Type 0
PushesPlaces routes x found old new =
    (findings : List (List (List ℕ))) × FindsInPlaces routes x found findings × (new ≡ old ++ written_lines findings)

-- the lines of what is found in the places of a store, and of the routes that have no cell, were added
abbrev pub PushesFound : Option (List Route) → List ℕ → CountingStore → List ℕ → List ℕ → Type 0
PushesFound routes x found old new =
    (findings : List (List (List ℕ))) × FindsInPlaces routes x found findings
    × (new ≡ old ++ written_lines (findings ++ lacking_lines routes found.cells))

-- the line of what is found of the kind and the version of a store was added, if anything is
abbrev pub PushesLayout : Option CountingStore → CountingStore → List ℕ → List ℕ → Type 0
PushesLayout wanted found old new =
    (findings : List (List (List ℕ))) × FindsLayout found wanted findings × (new ≡ old ++ written_lines findings)

-- what stands at a place has a finding, whose line was added; or none, and nothing was
abbrev pub PushesFinding : Option (List Route) → ℕ → Option (List ℕ) → List ℕ → List ℕ → Type 0
PushesFinding routes place there old new =
    ((words : List (List ℕ)) × FindsAt routes place there (Some words) × (new ≡ old ++ written words))
    ⊎ (FindsAt routes place there None × (new ≡ old))

-- the line of a damaged place was added, if this is the fault; of another fault the row that says it comes. Out of
-- memory may come of each
abbrev pub PushesDamage : StoreFault → List ℕ → List ℕ → Result (Unit {0}) Row → Type 0
PushesDamage fault old new (Ok done) =
    (place : ℕ) × (fault ≡ store.Damaged place) × (new ≡ old ++ written (damaged_place_words place))
PushesDamage fault old new (Err row) =
    (row ≡ memory_row) ⊎ (TellsStoreFault fault row × ((place : ℕ) → ¬ (fault ≡ store.Damaged place)))
