-- What bytes are as the store of a unit: the list of what it holds, what is wrong with it, or why they are no store
use Rattle.std.specs.Prelude.{◌≡◌, ℕ, ◌+◌, ◌<◌, ◌≤◌, Option, Some, None, List, [], ◌∷◌}
use Rattle.std.specs.Prelude.{length, slice_index_or, ◌++◌, codes}
use Rattle.std.specs.List.{flat_map}
use Rattle.cell_store.specs.declared.kinds.Kind.TheVariants.{Twin, Log}
use Rattle.cell_store.specs.declared.faults.StoreFault.TheVariants as store
use Rattle.cell_store.specs.Layout.{from_base}
use Rattle.cell_store.specs.Store.{FirstDamaged, Stands, store_size}
use Rattle.cell_store.specs.Twin.{cell_at}
use Rattle.freshness_routes.specs.declared.routes.Route.{Route}
use Rattle.program_edge.specs.Rows.{Row}
use Rattle.text_lines.specs.Written.{written}
use Rattle.any_cells.specs.declared.finding.CountingStore.{CountingStore}
use Rattle.any_cells.specs.Counting.{StoreThatCounts}
use Rattle.key_commands.specs.Opening.{layout_of, fault_row, few_cells_row}
use Rattle.slot_commands.specs.StoreWords.{store_words, store_line_words, damaged_place_words}
use Rattle.slot_commands.specs.Cells.{slot_count, SaysCell}
use Rattle.slot_commands.specs.RouteFindings.{FindsAt, lacking_lines}

-- the first line of a list and of a check
abbrev pub head_words : CountingStore → List (List ℕ)
head_words found = store_words found.kind found.version found.cells

-- the text of lines
abbrev pub written_lines : List (List (List ℕ)) → List ℕ
written_lines lines = flat_map written lines

-- this store counts in the bytes, it has the fourteen slots, and its cells are these
pub record HoldsStore (x : List ℕ) (found : CountingStore) (cells : List (List ℕ)) : Type 0 where
  pub counts : StoreThatCounts x (Some found)
  pub wide : slot_count ≤ found.cells
  pub number : length cells ≡ found.cells
  pub stands : Stands (layout_of found) x cells

-- the lines of these cells, one each, in their order
pub record SayCells (cells : List (List ℕ)) (lines : List (List (List ℕ))) : Type 0 where
  pub count : length lines ≡ length cells
  pub each : (place : ℕ) → place < length cells
      → SaysCell place (slice_index_or cells place []) (slice_index_or lines place [])

-- this text lists these cells, after a first line
abbrev pub ListsCells : List (List ℕ) → List (List ℕ) → List ℕ → Type 0
ListsCells head cells text =
    (lines : List (List (List ℕ))) × SayCells cells lines × (text ≡ written_lines (head ∷ lines))

-- the text of `slots list` over these bytes
pub record ListsStore (x text : List ℕ) : Type 0 where
  pub found : CountingStore
  pub cells : List (List ℕ)
  pub holds : HoldsStore x found cells
  pub lists : ListsCells (head_words found) cells text

-- why the bytes are no store that can be listed, and the row that says so: the first cause that applies
pub data NoStoreIn (x : List ℕ) : Row → Type 0 where
  no_header : length x < 32 → NoStoreIn x (fault_row store.TooSmall)
  none_counts : 32 ≤ length x → StoreThatCounts x None → NoStoreIn x (fault_row store.NotFormatted)
  too_few : (found : CountingStore) → StoreThatCounts x (Some found) → found.cells < slot_count
      → NoStoreIn x few_cells_row
  no_room : (found : CountingStore) → StoreThatCounts x (Some found) → slot_count ≤ found.cells
      → length x < store_size (layout_of found) found.cells → NoStoreIn x (fault_row store.TooSmall)

-- or a place of it is damaged: the first
pub data IsUnreadable (x : List ℕ) : Row → Type 0 where
  no_store : (row : Row) → NoStoreIn x row → IsUnreadable x row
  damaged : (found : CountingStore) (place : ℕ) → StoreThatCounts x (Some found) → slot_count ≤ found.cells
      → store_size (layout_of found) found.cells ≤ length x
      → FirstDamaged (layout_of found) x found.cells place → IsUnreadable x (fault_row (store.Damaged place))

-- ---- a check, by itself or over what the bus file of the unit's node says of its store: kind, version and routes

-- the line of the store that the node wants: `wanted KIND VERSION CELLS`
abbrev pub wanted_words : CountingStore → List (List ℕ)
wanted_words wanted = store_line_words (codes "wanted") wanted.kind wanted.version wanted.cells

-- what is wrong with the kind and the version of the store that counts: they are those of the store that is wanted, if
-- one is, or that one's line is the finding
pub data FindsLayout (found : CountingStore) : Option CountingStore → List (List (List ℕ)) → Type 0 where
  none_wanted : FindsLayout found None []
  as_wanted : (wanted : CountingStore) → layout_of found ≡ layout_of wanted → FindsLayout found (Some wanted) []
  another : (wanted : CountingStore) → ¬ (layout_of found ≡ layout_of wanted)
      → FindsLayout found (Some wanted) (wanted_words wanted ∷ [])

-- the findings of the places from one on, in their order: `what` says what stands at a place
pub data FindsFrom (routes : Option (List Route)) (what : ℕ → Option (List ℕ))
    : ℕ → ℕ → List (List (List ℕ)) → Type 0 where
  at_end : (n : ℕ) → FindsFrom routes what n n []
  a_finding : (place n : ℕ) (words : List (List ℕ)) (rest : List (List (List ℕ))) → place < n
      → FindsAt routes place (what place) (Some words) → FindsFrom routes what (1 + place) n rest
      → FindsFrom routes what place n (words ∷ rest)
  nothing : (place n : ℕ) (rest : List (List (List ℕ))) → place < n
      → FindsAt routes place (what place) None → FindsFrom routes what (1 + place) n rest
      → FindsFrom routes what place n rest

-- What a check finds in the places of a store. In a twin store each cell has its copies, and each is looked at. In a
-- log store the cells stand in one bank and its records: if a place of it is damaged there is no list, and that place is
-- the finding.
pub data FindsInPlaces (routes : Option (List Route)) (x : List ℕ) (found : CountingStore)
    : List (List (List ℕ)) → Type 0 where
  of_twin : (findings : List (List (List ℕ))) → found.kind ≡ Twin
      → FindsFrom routes (cell_at (from_base found.version x)) 0 found.cells findings
      → FindsInPlaces routes x found findings
  of_log : (cells : List (List ℕ)) (findings : List (List (List ℕ))) → found.kind ≡ Log
      → Stands (layout_of found) x cells → length cells ≡ found.cells
      → FindsFrom routes (λ place. Some (slice_index_or cells place [])) 0 found.cells findings
      → FindsInPlaces routes x found findings
  of_damaged_log : (place : ℕ) → found.kind ≡ Log → FirstDamaged (layout_of found) x found.cells place
      → FindsInPlaces routes x found (damaged_place_words place ∷ [])

-- all that it finds: of kind and version, of each place, and then each route that has no cell
pub record FindsInStore (wanted : Option CountingStore) (routes : Option (List Route)) (x : List ℕ)
    (found : CountingStore) (findings : List (List (List ℕ))) : Type 0 where
  pub of_layout : List (List (List ℕ))
  pub of_places : List (List (List ℕ))
  pub finds_layout : FindsLayout found wanted of_layout
  pub finds : FindsInPlaces routes x found of_places
  pub all : findings ≡ of_layout ++ (of_places ++ lacking_lines routes found.cells)

-- this store counts in the bytes, it has the fourteen slots, and the bytes have room for it
pub record HasStoreToCheck (x : List ℕ) (found : CountingStore) : Type 0 where
  pub counts : StoreThatCounts x (Some found)
  pub wide : slot_count ≤ found.cells
  pub room : store_size (layout_of found) found.cells ≤ length x

-- the text of `slots check` over these bytes, and what it finds
pub record ChecksStore (wanted : Option CountingStore) (routes : Option (List Route)) (x : List ℕ)
    (findings : List (List (List ℕ))) (text : List ℕ) : Type 0 where
  pub found : CountingStore
  pub has : HasStoreToCheck x found
  pub finds : FindsInStore wanted routes x found findings
  pub text_is : text ≡ written_lines (head_words found ∷ findings)
