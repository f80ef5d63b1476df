-- What a task over bytes comes to has one status
use Rattle.std.proofs.Common.{◌≡◌, ◌⊎◌, ◌∙◌, ℕ, ◌+◌, ◌≤◌, true, false, List, [], ◌∷◌, ◌++◌, length, refl, sym, ap, subst, arith}
use Rattle.std.specs.Prelude.{Option, Some, None, slice_index_or}
use Rattle.cell_store.specs.declared.kinds.Kind.{Kind}
use Rattle.cell_store.specs.declared.kinds.Kind.TheVariants.{Twin, Log}
use Rattle.cell_store.specs.Store.{FirstDamaged, Stands, size_from_base, store_size}
use Rattle.cell_store.proofs.CallerLemmas.{stands_once, stands-whole}
use Rattle.key_slots.specs.Authority.{is_pair}
use Rattle.key_slots.specs.declared.memory.Slot.{Slot}
use Rattle.slot_disk.specs.Cell.{HoldsSlot}
use Rattle.slot_disk.proofs.CallerLemmas.{one_slot}
use Rattle.freshness_routes.specs.declared.routes.Route.{Route}
use Rattle.program_edge.specs.Rows.{Row}
use Rattle.any_cells.specs.declared.finding.CountingStore.{CountingStore}
use Rattle.any_cells.specs.Counting.{StoreThatCounts}
use Rattle.key_commands.specs.Opening.{layout_of}
use Rattle.any_cells.proofs.CallerLemmas.{counts_once}
use Rattle.slot_commands.specs.declared.tasks.ReplyAsked.{ReplyAsked}
use Rattle.slot_commands.specs.declared.tasks.SlotTask.{SlotTask}
use Rattle.slot_commands.specs.Cells.{slot_count, FindsInCell}
use Rattle.slot_commands.specs.RouteFindings.{FindsAt, FindsOverRoutes, lacking_lines}
use Rattle.slot_commands.specs.Stores.{HoldsStore, ListsStore, ChecksStore, NoStoreIn, IsUnreadable, FindsFrom, at_end, a_finding, nothing}
use Rattle.slot_commands.specs.Stores.{FindsInPlaces, FindsInStore, of_twin, of_log, of_damaged_log, no_store}
use Rattle.slot_commands.specs.Stores.{FindsLayout}
use Rattle.slot_commands.specs.Stores as stores
use Rattle.slot_commands.specs.Replies.{HasSlotCell, SlotReplies, CellReplies, RepliesFrom, bad_slot, of_slot, bad_pair, unreadable, of_cell}
use Rattle.slot_commands.specs.SlotRows.{DoesSlotTask, listed, not_listed, found_nothing, not_checked}
use Rattle.slot_commands.specs.SlotRows as rows

-- ---- the store that counts

pub same_found : (x : List ℕ) (a b : CountingStore) → StoreThatCounts x (Some a) → StoreThatCounts x (Some b) → a ≡ b
same_found x a b first second = let same : Some a ≡ Some b = counts_once x (Some a) (Some b) first second in cc same

none_and_some : (x : List ℕ) (a : CountingStore) → StoreThatCounts x None → StoreThatCounts x (Some a) → ⊥
none_and_some x a none some = let same : None ≡ Some a = counts_once x None (Some a) none some in cc same

-- a store has room for a header
some_size : (kind : Kind) (n : ℕ) → 32 ≤ size_from_base kind n
some_size Twin n = omega arith
some_size Log n = omega arith

header_room : (found : CountingStore) (x : List ℕ) → store_size (layout_of found) found.cells ≤ length x → 32 ≤ length x
header_room found x room = omega (arith, room, some_size found.kind found.cells)

-- one that counts, is wide and has room is no reason why there is none
pub has_store : (x : List ℕ) (found : CountingStore) (row : Row) → StoreThatCounts x (Some found) → slot_count ≤ found.cells
    → store_size (layout_of found) found.cells ≤ length x → NoStoreIn x row → ⊥
has_store x found row counts wide room none = grind (arith, header_room, none_and_some, same_found)

room_of : (x : List ℕ) (found : CountingStore) (cells : List (List ℕ)) → HoldsStore x found cells
    → store_size (layout_of found) found.cells ≤ length x
room_of x found cells holds = subst (λ (n : ℕ). store_size (layout_of found) n ≤ length x) holds.number holds.stands.room

-- a store that is held is no reason why it can't be read
pub held_read : (x : List ℕ) (found : CountingStore) (cells : List (List ℕ)) (row : Row) → HoldsStore x found cells → IsUnreadable x row → ⊥
held_read x found cells row holds (no_store _ none) = has_store x found row holds.counts holds.wide (room_of x found cells holds) none
held_read x found cells row holds (stores.damaged other place also enough room first) =
    let same = same_found x other found also holds.counts in
    stands-whole (layout_of found) x cells found.cells place holds.stands holds.number
    (subst (λ (s : CountingStore). FirstDamaged (layout_of s) x s.cells place) same first)

-- and its cells are one list
pub same_cells : (x : List ℕ) (found other : CountingStore) (cells more : List (List ℕ)) → HoldsStore x found cells → HoldsStore x other more
    → cells ≡ more
same_cells x found other cells more first second =
    let same = same_found x other found second.counts first.counts in
    stands_once (layout_of found) x cells more first.stands (subst (λ (s : CountingStore). Stands (layout_of s) x more) same second.stands)

-- ---- rows of 9

pub no_store_row : (x : List ℕ) (row : Row) → NoStoreIn x row → row.status ≡ 9
no_store_row x row none = grind arith

pub unreadable_row : (x : List ℕ) (row : Row) → IsUnreadable x row → row.status ≡ 9
unreadable_row x row not = grind (arith, no_store_row)

-- ---- findings

-- a cell that is good isn't bad
good_once : (place : ℕ) (a b : Option (List ℕ)) (o q : Option (List (List ℕ))) → FindsInCell place a o → FindsInCell place b q
    → a ≡ b → o ≡ None → q ≡ None
good_once place a b o q first second same none = grind arith

-- nor is one that is good over routes
over_once : (routes : List Route) (place : ℕ) (a b : Option (List ℕ)) (o q : Option (List (List ℕ))) → FindsOverRoutes routes place a o
    → FindsOverRoutes routes place b q → a ≡ b → o ≡ None → q ≡ None
over_once routes place a b o q first second same none = grind (arith, good_once)

find_once : (routes : Option (List Route)) (place : ℕ) (a b : Option (List ℕ)) (o q : Option (List (List ℕ))) → FindsAt routes place a o
    → FindsAt routes place b q → a ≡ b → o ≡ None → q ≡ None
find_once None place a b o q first second same none = good_once place a b o q first second same none
find_once (Some routes) place a b o q first second same none = over_once routes place a b o q first second same none

-- if nothing is found of some places, nothing is found of them again
none_again : (routes : Option (List Route)) (what : ℕ → Option (List ℕ)) (i j n m : ℕ) (f g : List (List (List ℕ))) → FindsFrom routes what i n f
    → FindsFrom routes what j m g → i ≡ j → n ≡ m → f ≡ [] → g ≡ []
none_again routes what i j n m f g (at_end _) (at_end _) at to none = refl
none_again routes what i j n m f g (at_end _) (a_finding _ _ words rest below finds more) at to none = absurd (omega (arith, at, to, below))
none_again routes what i j n m f g (at_end _) (nothing _ _ rest below finds more) at to none = absurd (omega (arith, at, to, below))
none_again routes what i j n m f g (a_finding _ _ words rest below finds more) second at to none = cc none
none_again routes what i j n m f g (nothing _ _ rest below finds more) (at_end _) at to none = absurd (omega (arith, at, to, below))
none_again routes what i j n m f g (nothing _ _ rest below finds more) (a_finding _ _ words others low also next) at to none =
    let clash : Some words ≡ None =
    find_once routes i (what i) (what j) None (Some words) finds (subst (λ (k : ℕ). FindsAt routes k (what j) (Some words)) (sym at) also) (ap what at) refl in
    cc clash
none_again routes what i j n m f g (nothing _ _ rest below finds more) (nothing _ _ others low also next) at to none =
    none_again routes what (1 + i) (1 + j) n m rest others more next (ap (λ (k : ℕ). 1 + k) at) to none

-- what is found in the places of a store, if nothing is
places_once : (routes : Option (List Route)) (x : List ℕ) (found : CountingStore) (f g : List (List (List ℕ))) → FindsInPlaces routes x found f
    → FindsInPlaces routes x found g → f ≡ [] → g ≡ []
places_once routes x found f g (of_twin _ twin finds) (of_twin _ also others) none = none_again routes _ 0 0 _ _ f g finds others refl refl none
places_once routes x found f g (of_twin _ twin finds) (of_log cells _ log stands number others) none = let clash : Twin ≡ Log = sym twin ∙ log in cc clash
places_once routes x found f g (of_twin _ twin finds) (of_damaged_log place log first) none = let clash : Twin ≡ Log = sym twin ∙ log in cc clash
places_once routes x found f g (of_log cells _ log stands number finds) (of_twin _ twin others) none = let clash : Twin ≡ Log = sym twin ∙ log in cc clash
places_once routes x found f g (of_log cells _ log stands number finds) (of_log more _ also stood count others) none =
    let same : more ≡ cells = stands_once (layout_of found) x more cells stood stands in
    none_again routes (λ place. Some (slice_index_or cells place [])) 0 0 _ _ f g finds
    (subst (λ (c : List (List ℕ)). FindsFrom routes (λ place. Some (slice_index_or c place [])) 0 found.cells g) same others) refl refl none
places_once routes x found f g (of_log cells _ log stands number finds) (of_damaged_log place also first) none =
    absurd (stands-whole (layout_of found) x cells found.cells place stands number first)
places_once routes x found f g (of_damaged_log place log first) second none = cc none

pub no_parts : (a b : List (List (List ℕ))) → a ++ b ≡ [] → (a ≡ []) × (b ≡ [])
no_parts [] b is = (refl, is)
no_parts (word ∷ a) b is = cc is

-- what is found of kind and version, if nothing is
layout_once : (found : CountingStore) (a b : Option CountingStore) (f g : List (List (List ℕ))) → FindsLayout found a f → FindsLayout found b g → a ≡ b
    → f ≡ [] → g ≡ []
layout_once found a b f g first second same none = grind arith

-- what is found in a store, if nothing is
nothing_once : (wanted : Option CountingStore) (routes : Option (List Route)) (x : List ℕ) (found : CountingStore) (f g : List (List (List ℕ)))
    → FindsInStore wanted routes x found f → FindsInStore wanted routes x found g → f ≡ [] → g ≡ []
nothing_once wanted routes x found f g first second none =
    let lacking = lacking_lines routes found.cells in
    let (no_layout, rest) = no_parts first.of_layout (first.of_places ++ lacking) (sym first.all ∙ none) in
    let (no_place, no_route_lacks) = no_parts first.of_places lacking rest in
    let none_laid = layout_once found wanted wanted first.of_layout second.of_layout first.finds_layout second.finds_layout refl no_layout in
    let none_placed = places_once routes x found first.of_places second.of_places first.finds second.finds no_place in
    second.all ∙ ap (λ (l : List (List (List ℕ))). l ++ (second.of_places ++ lacking)) none_laid
    ∙ ap (λ (l : List (List (List ℕ))). l ++ lacking) none_placed ∙ no_route_lacks

pub checked_once : (wanted : Option CountingStore) (routes : Option (List Route)) (x text other : List ℕ) (f g : List (List (List ℕ)))
    → ChecksStore wanted routes x f text → ChecksStore wanted routes x g other → f ≡ [] → g ≡ []
checked_once wanted routes x text other f g first second none =
    nothing_once wanted routes x first.found f g first.finds
    (subst (λ (s : CountingStore). FindsInStore wanted routes x s g) (same_found x second.found first.found second.has.counts first.has.counts) second.finds) none

-- ---- replies

-- the status of what a task comes to
abbrev pub IsTaskStatus : ℕ → Type 0
IsTaskStatus status = (status ≡ 0) ⊎ ((status ≡ 1) ⊎ (status ≡ 9))

pair_clash : (id auth : ℕ) → is_pair id auth ≡ false → is_pair id auth ≡ true → ⊥
pair_clash id auth other is = let clash : false ≡ true = sym other ∙ is in cc clash

same_slot : (x : List ℕ) (id : ℕ) (cell other : List ℕ) → HasSlotCell x id cell → HasSlotCell x id other → cell ≡ other
same_slot x id cell other (found, cells, holds, is) (more, others, held, at) =
    sym is ∙ ap (λ (c : List (List ℕ)). slice_index_or c id []) (same_cells x found more cells others holds held) ∙ at

slot_once : (a : ReplyAsked) (slot that : Slot) (row other : Row) → SlotReplies a slot row → SlotReplies a that other → slot ≡ that
    → row.status ≡ other.status
slot_once a slot that row other replies others same = grind arith

cell_once : (a : ReplyAsked) (cell that : List ℕ) (row other : Row) → CellReplies a cell row → CellReplies a that other → cell ≡ that
    → row.status ≡ other.status
cell_once a cell that row other (bad_slot none) (bad_slot none') same = refl
cell_once a cell that row other (bad_slot none) (of_slot slot _ holds replies) same =
    absurd (none slot (subst (λ (c : List ℕ). HoldsSlot c slot) (sym same) holds))
cell_once a cell that row other (of_slot slot _ holds replies) (bad_slot none) same =
    absurd (none slot (subst (λ (c : List ℕ). HoldsSlot c slot) same holds))
cell_once a cell that row other (of_slot slot _ holds replies) (of_slot slot' _ held replies') same =
    slot_once a slot slot' row other replies replies' (one_slot cell slot slot' holds (subst (λ (c : List ℕ). HoldsSlot c slot') (sym same) held))

cell_status : (a : ReplyAsked) (cell : List ℕ) (row : Row) → CellReplies a cell row → IsTaskStatus row.status
cell_status a cell row replies = grind arith

read_clash : (x : List ℕ) (id : ℕ) (cell : List ℕ) (row : Row) → HasSlotCell x id cell → IsUnreadable x row → ⊥
read_clash x id cell row (found, cells, holds, is) not = held_read x found cells row holds not

replies_once : (x : List ℕ) (a : ReplyAsked) (row other : Row) → RepliesFrom x a row → RepliesFrom x a other → row.status ≡ other.status
replies_once x a row other (bad_pair not) (bad_pair also) = refl
replies_once x a row other (bad_pair not) (unreadable _ pair un) = absurd (pair_clash a.id a.auth not pair)
replies_once x a row other (bad_pair not) (of_cell cell _ pair has replies) = absurd (pair_clash a.id a.auth not pair)
replies_once x a row other (unreadable _ pair un) (bad_pair not) = absurd (pair_clash a.id a.auth not pair)
replies_once x a row other (unreadable _ pair un) (unreadable _ also none) = unreadable_row x row un ∙ sym (unreadable_row x other none)
replies_once x a row other (unreadable _ pair un) (of_cell cell _ also has replies) = absurd (read_clash x a.id cell row has un)
replies_once x a row other (of_cell cell _ pair has replies) (bad_pair not) = absurd (pair_clash a.id a.auth not pair)
replies_once x a row other (of_cell cell _ pair has replies) (unreadable _ also un) = absurd (read_clash x a.id cell other has un)
replies_once x a row other (of_cell cell _ pair has replies) (of_cell that _ also had replies') =
    cell_once a cell that row other replies replies' (same_slot x a.id cell that has had)

-- ---- tasks

reply_status : (x : List ℕ) (a : ReplyAsked) (row : Row) → RepliesFrom x a row → IsTaskStatus row.status
reply_status x a row replies = grind (arith, unreadable_row, cell_status)

pub task_status : (x : List ℕ) (asked : SlotTask) (row : Row) → DoesSlotTask x asked row → IsTaskStatus row.status
task_status x asked row does = grind (arith, unreadable_row, no_store_row, reply_status)

-- the bytes have a store that can be checked
pub check_clash : (wanted : Option CountingStore) (routes : Option (List Route)) (x text : List ℕ) (findings : List (List (List ℕ))) (row : Row)
    → ChecksStore wanted routes x findings text → NoStoreIn x row → ⊥
check_clash wanted routes x text findings row checks none = has_store x checks.found row checks.has.counts checks.has.wide checks.has.room none

list_clash : (x text : List ℕ) (row : Row) → ListsStore x text → IsUnreadable x row → ⊥
list_clash x text row lists not = held_read x lists.found lists.cells row lists.holds not

-- a task over some bytes has one status
pub does_once : (x : List ℕ) (asked also : SlotTask) (row other : Row) → DoesSlotTask x asked row → DoesSlotTask x also other → asked ≡ also
    → row.status ≡ other.status
does_once x asked also row other (listed text lists) (listed text' lists') same = refl
does_once x asked also row other (listed text lists) (not_listed _ not) same = absurd (list_clash x text other lists not)
does_once x asked also row other (not_listed _ not) (listed text lists) same = absurd (list_clash x text row lists not)
does_once x asked also row other (not_listed _ not) (not_listed _ none) same = unreadable_row x row not ∙ sym (unreadable_row x other none)
does_once x asked also row other (found_nothing text checks) (found_nothing text' checks') same = refl
does_once x asked also row other (found_nothing text checks) (rows.found findings text' some checks') same =
    absurd (some (checked_once None None x text text' [] findings checks checks' refl))
does_once x asked also row other (found_nothing text checks) (not_checked _ none) same = absurd (check_clash None None x text [] other checks none)
does_once x asked also row other (rows.found findings text some checks) (found_nothing text' checks') same =
    absurd (some (checked_once None None x text' text [] findings checks' checks refl))
does_once x asked also row other (rows.found findings text some checks) (rows.found findings' text' some' checks') same = refl
does_once x asked also row other (rows.found findings text some checks) (not_checked _ none) same = absurd (check_clash None None x text findings other checks none)
does_once x asked also row other (not_checked _ none) (found_nothing text checks) same = absurd (check_clash None None x text [] row checks none)
does_once x asked also row other (not_checked _ none) (rows.found findings text some checks) same = absurd (check_clash None None x text findings row checks none)
does_once x asked also row other (not_checked _ none) (not_checked _ not) same = no_store_row x row none ∙ sym (no_store_row x other not)
does_once x asked also row other (rows.replied a _ replies) (rows.replied b _ others) same =
    let is : b ≡ a = cc same in
    replies_once x a row other replies (subst (λ (c : ReplyAsked). RepliesFrom x c other) is others)
does_once x asked also row other first second same = cc same
