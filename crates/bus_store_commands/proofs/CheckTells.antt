-- What a row of `slots check FILE BUS` says of the sources, and what a check comes to
use Rattle.std.proofs.Common.{◌≡◌, ◌⊎◌, ◌∙◌, ℕ, List, [], true, false, refl, sym, ap, subst, inl, inr, arith}
use Rattle.std.specs.Prelude.{Bool, Option, Some}
use Rattle.program_edge.specs.Input.{input_fault_text}
use Rattle.program_edge.specs.Rows.{Row}
use Rattle.program_edge.specs.Inputs.{Reading, IsUnread}
use Rattle.bus_config.specs.Buses.{NamedBus}
use Rattle.bus_programs.specs.BusRoutes.{routes_of}
use Rattle.bus_programs.proofs.CallerLemmas.{RowTells, calm_unread, calm_whole, told_first, told_second}
use Rattle.cell_store.specs.declared.kinds.Layout.{Layout}
use Rattle.cell_store.specs.declared.kinds.Kind.{Kind}
use Rattle.cell_store.specs.declared.kinds.Version.{Version}
use Rattle.cell_store.specs.declared.kinds.Version.TheVariants.{One, Two}
use Rattle.cell_store.specs.Layout.{layout}
use Rattle.cell_store.proofs.CallerLemmas.{header-not_blank}
use Rattle.any_cells.specs.declared.looking.Found.TheVariants.{Standing}
use Rattle.any_cells.specs.Looking.{IsFound}
use Rattle.any_cells.specs.declared.finding.CountingStore.{CountingStore}
use Rattle.any_cells.specs.Counting.{StoreThatCounts, counting_store, moved_up, not_moved, only_second, no_store}
use Rattle.key_commands.specs.Opening.{layout_of}
use Rattle.slot_commands.specs.Stores.{HasStoreToCheck}
use Rattle.slot_commands.proofs.CallerLemmas.{checked_once, check_clash, no_store_row, same_found, has_store, good_layout, good_number}
use Rattle.bus_store_commands.specs.NodeBuses.{LacksNodeBus}
use Rattle.bus_store_commands.specs.CheckRows.{BusCheckInputs, wanted_store, ChecksNodeStore, DoesBusCheck, found_nothing, found, not_checked, ComesOfBusCheck, no_form, no_node, done}
use Rattle.bus_store_commands.specs.CheckRows as rows

-- a bus file that gives no bus of one node, before a source that wasn't read
pub lacks_tells : (config file : Reading) (row : Row) → LacksNodeBus config row → IsUnread file → RowTells row config file
lacks_tells config file row comes unread = grind (arith, told_first, calm_unread, calm_whole)

-- its row's status
pub node_status : (config : Reading) (row : Row) → LacksNodeBus config row → (row.status ≡ 3) ⊎ ((row.status ≡ 5) ⊎ ((row.status ≡ 7) ⊎ (row.status ≡ 8)))
node_status config row comes = grind arith

pub row_tells : (i : BusCheckInputs) (row : Row) → ComesOfBusCheck i row → RowTells row i.bus i.file
row_tells i row (no_form none bus_unread unread) = inr (inr (calm_unread i.bus bus_unread, calm_unread i.file unread))
row_tells i row (no_node _ asks lacks unread) = lacks_tells i.bus i.file row lacks unread
row_tells i row (rows.no_file bus fault asks ((read, whole, is), one) lacks) =
    told_second fault (input_fault_text fault) i.bus i.file (calm_whole i.bus read whole) lacks
row_tells i row (done bus x _ asks ((read, whole, is), one) reads does) = inr (inr (calm_whole i.bus read whole, calm_whole i.file x reads))

-- words ask for a check or not
pub asks_or_not : (asks : Bool) → asks ≡ false → asks ≡ true → ⊥
asks_or_not asks none some = let clash : false ≡ true = sym none ∙ some in cc clash

-- the status of what a check comes to
abbrev pub IsCheckStatus : ℕ → Type 0
IsCheckStatus status = (status ≡ 0) ⊎ ((status ≡ 1) ⊎ (status ≡ 9))

pub check_status : (bus : NamedBus) (x : List ℕ) (row : Row) → DoesBusCheck bus x row → IsCheckStatus row.status
check_status bus x row comes = grind (arith, no_store_row)

-- and it is one
pub check_once : (bus : NamedBus) (x : List ℕ) (row other : Row) → DoesBusCheck bus x row → DoesBusCheck bus x other → row.status ≡ other.status
check_once bus x row other (found_nothing text checks) (found_nothing text' checks') = refl
check_once bus x row other (found_nothing text checks) (found findings text' some checks') =
    absurd (some (checked_once (Some (wanted_store bus)) (Some (routes_of bus)) x text text' [] findings checks checks' refl))
check_once bus x row other (found_nothing text checks) (not_checked _ none) = absurd (check_clash (Some (wanted_store bus)) (Some (routes_of bus)) x text [] other checks none)
check_once bus x row other (found findings text some checks) (found_nothing text' checks') =
    absurd (some (checked_once (Some (wanted_store bus)) (Some (routes_of bus)) x text' text [] findings checks' checks refl))
check_once bus x row other (found findings text some checks) (found findings' text' some' checks') = refl
check_once bus x row other (found findings text some checks) (not_checked _ none) = absurd (check_clash (Some (wanted_store bus)) (Some (routes_of bus)) x text findings other checks none)
check_once bus x row other (not_checked _ none) (found_nothing text checks) = absurd (check_clash (Some (wanted_store bus)) (Some (routes_of bus)) x text [] row checks none)
check_once bus x row other (not_checked _ none) (found findings text some checks) = absurd (check_clash (Some (wanted_store bus)) (Some (routes_of bus)) x text findings row checks none)
check_once bus x row other (not_checked _ none) (not_checked _ not) = no_store_row x row none ∙ sym (no_store_row x other not)

-- of a store of another kind or version than the bus's it is 1
pub kind_status : (bus : NamedBus) (x : List ℕ) (store : CountingStore) (row : Row) → DoesBusCheck bus x row → HasStoreToCheck x store
    → ¬ (layout_of store ≡ layout bus.kind bus.version) → row.status ≡ 1
kind_status bus x store row (found_nothing text checks) has other =
    absurd (other (ap layout_of (same_found x store checks.found has.counts checks.has.counts)
    ∙ good_layout (wanted_store bus) (Some (routes_of bus)) x text [] checks refl))
kind_status bus x store row (found findings text some checks) has other = refl
kind_status bus x store row (not_checked _ none) has other = absurd (has_store x store row has.counts has.wide has.room none)

-- the store that counts stands where a node of its kind, version and number of cells looks for it
counting_stands : (x : List ℕ) (o : Option CountingStore) (store : CountingStore) → StoreThatCounts x o → o ≡ Some store
    → IsFound store.kind store.version store.cells x Standing
counting_stands x o store (moved_up kind n low high) is =
    let same : counting_store kind Two n ≡ store = cc is in
    subst (λ (s : CountingStore). IsFound s.kind s.version s.cells x Standing) same (inl (high.1, refl))
counting_stands x o store (not_moved kind n low not_high) is =
    let same : counting_store kind One n ≡ store = cc is in
    subst (λ (s : CountingStore). IsFound s.kind s.version s.cells x Standing) same
    (inr (λ high. not_high (low.0, high), inr (λ blank. header-not_blank (layout kind One) n (sym low.1 ∙ blank), inl (low.1, refl))))
counting_stands x o store (only_second kind n none high) is =
    let same : counting_store kind Two n ≡ store = cc is in
    subst (λ (s : CountingStore). IsFound s.kind s.version s.cells x Standing) same (inl (high.1, refl))
counting_stands x o store (no_store low high) is = cc is

-- of a check that finds nothing it is the one that the bus wants
pub good_stands : (bus : NamedBus) (x text : List ℕ) → ChecksNodeStore bus x [] text → IsFound bus.kind bus.version (wanted_store bus).cells x Standing
good_stands bus x text checks =
    let store = checks.found in
    let one_layout = good_layout (wanted_store bus) (Some (routes_of bus)) x text [] checks refl in
    let kinds : store.kind ≡ bus.kind = ap (λ (l : Layout). l.kind) one_layout in
    let versions : store.version ≡ bus.version = ap (λ (l : Layout). l.version) one_layout in
    let number : store.cells ≡ (wanted_store bus).cells = good_number (Some (wanted_store bus)) (routes_of bus) x text [] checks refl in
    subst (λ (n : ℕ). IsFound bus.kind bus.version n x Standing) number
    (subst (λ (version : Version). IsFound bus.kind version store.cells x Standing) versions
    (subst (λ (kind : Kind). IsFound kind store.version store.cells x Standing) kinds
    (counting_stands x (Some store) store checks.has.counts refl)))
