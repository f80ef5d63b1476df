-- What a row of `slots make FILE BUS` says of the bus file's source, and of the disk
use Rattle.std.specs.Prelude.{◌≡◌, ◌≢◌, ◌⊎◌, ℕ, ◌<◌, Option, List, [], codes}
use Rattle.std.proofs.Common.{refl, sym, ◌∙◌, subst, arith, inl, inr}
use Rattle.cut_disk.specs.State.{DiskState, Told}
use Rattle.cell_store.specs.declared.kinds.Kind.{Kind}
use Rattle.cell_store.specs.declared.kinds.Version.{Version}
use Rattle.cell_store.specs.declared.faults.StoreFault.TheVariants as store
use Rattle.cell_store.proofs.CallerLemmas.{stands_once, stands-whole}
use Rattle.any_cells.specs.declared.looking.Found.{Found}
use Rattle.any_cells.specs.declared.looking.Found.TheVariants.{Blank, Standing}
use Rattle.any_cells.specs.Either.{layout}
use Rattle.any_cells.specs.Looking.{IsFound}
use Rattle.any_cells.proofs.CallerLemmas.{found-once}
use Rattle.slot_disk.specs.Cell.{FirstBadSlot}
use Rattle.freshness_routes.specs.Config.{Config, IsConfig}
use Rattle.secoc_node.specs.Cells.{CellsOf, SlotsButNoBound}
use Rattle.secoc_node.proofs.CallerLemmas.{length-CellsOf, no_bad_slot, no_bad_bound}
use Rattle.program_edge.specs.Rows.{Row}
use Rattle.program_edge.specs.Inputs.{Reading}
use Rattle.bus_programs.proofs.CallerLemmas.{RowTells, calm_unread, calm_whole}
use Rattle.bus_world.specs.TakingUp.{cells_in}
use Rattle.bus_store_commands.specs.declared.making.MakeFault.{MakeFault}
use Rattle.bus_store_commands.specs.declared.making.MakeFault.TheVariants as fault
use Rattle.bus_store_commands.specs.NodeStores.{MadeOrFound, made, stood, StoreUnmade, FailedToMake, LeftAsItWas, IsNotTaken, BytesRefused, IsUnused}
use Rattle.bus_store_commands.specs.MakeRows.{MakeInputs, make_row, IsMakeRow, ComesOfMake, no_form, no_node, no_room, unmade}
use Rattle.bus_store_commands.specs.MakeRows as rows
use Rattle.bus_store_commands.specs.MakesUnitStore.{BlankOrWhole}
use Rattle.bus_store_commands.proofs.CheckTells.{lacks_tells}

-- ---- the row of a store that isn't made

-- its status
abbrev pub IsUnmadeStatus : ℕ → Type 0
IsUnmadeStatus status = (status ≡ 9) ⊎ ((status ≡ 10) ⊎ (status ≡ 7))

make_status : (cause : MakeFault) → IsUnmadeStatus (make_row cause).status
make_status cause = grind arith

pub unmade_status : (cause : MakeFault) (row : Row) → IsMakeRow cause row → IsUnmadeStatus row.status
unmade_status cause row is = grind (arith, make_status)

module _ (kind : Kind) (version : Version) (config : Config) (before after : DiskState) where
  left_at_9 : (cause : MakeFault) → StoreUnmade kind version config before after cause → (make_row cause).status ≡ 9 → LeftAsItWas before after
  left_at_9 cause un is = grind arith

  -- 9: nothing was written
  pub unmade_at_9 : (cause : MakeFault) (row : Row) → StoreUnmade kind version config before after cause → IsMakeRow cause row → row.status ≡ 9
      → LeftAsItWas before after × ((make_row cause).status ≡ 9) × (row ≡ make_row cause)
  unmade_at_9 cause row un comes nine = grind (arith, left_at_9)

  failed_at_10 : (cause : MakeFault) → StoreUnmade kind version config before after cause → (make_row cause).status ≡ 10
      → FailedToMake kind version config before after × ((make_row cause).text ≡ codes "store: DiskFailed\n")
  failed_at_10 cause un is = grind arith

  -- 10: the disk failed
  pub unmade_at_10 : (cause : MakeFault) (row : Row) → StoreUnmade kind version config before after cause → IsMakeRow cause row → row.status ≡ 10
      → FailedToMake kind version config before after × (row.text ≡ codes "store: DiskFailed\n")
  unmade_at_10 cause row un comes ten = grind (arith, failed_at_10)

  -- the disk's count rose: it failed
  pub rose_is_10 : (cause : MakeFault) (row : Row) → StoreUnmade kind version config before after cause → IsMakeRow cause row
      → before.faults < after.faults → row.status ≡ 10
  rose_is_10 cause row un is rose = grind arith

-- 7: nothing was written
pub left_at_7 : (kind : Kind) (version : Version) (config : Config) (before after : DiskState) (cause : MakeFault) (row : Row)
    → StoreUnmade kind version config before after cause → IsMakeRow cause row → row.status ≡ 7 → LeftAsItWas before after
left_at_7 kind version config before after cause row un is seven = grind arith

-- 7: nothing is printed
make_text_7 : (cause : MakeFault) → (make_row cause).status ≡ 7 → (make_row cause).text ≡ []
make_text_7 cause is = grind arith

pub unmade_text_7 : (cause : MakeFault) (row : Row) → IsMakeRow cause row → row.status ≡ 7 → row.text ≡ []
unmade_text_7 cause row is seven = grind (arith, make_text_7)

-- ---- bytes are refused, or a store is made or found

module _ (kind : Kind) (version : Version) (config : Config) (x : List ℕ) where
  two_found : (one other : Found) → IsFound kind version (cells_in config) x one → IsFound kind version (cells_in config) x other → one ≢ other → ⊥
  two_found one other first second not =
      let once = found-once kind version (cells_in config) x in not (once.2 one first ∙ sym (once.2 other second))

  blank_standing : IsFound kind version (cells_in config) x Blank → IsFound kind version (cells_in config) x Standing → ⊥
  blank_standing first second = two_found Blank Standing first second (λ same. cc same)

  -- zeros are taken, and so is a store that stands
  blank_taken : IsUnused kind version config x → IsNotTaken kind version config x → ⊥
  blank_taken blank it = grind (arith, two_found)

  standing_taken : IsFound kind version (cells_in config) x Standing → IsNotTaken kind version config x → ⊥
  standing_taken standing it = grind (arith, two_found)

  -- zeros aren't refused
  pub blank_refused : (cause : MakeFault) → IsUnused kind version config x → BytesRefused kind version config x cause → ⊥
  blank_refused cause blank refused = grind (arith, blank_taken, blank_standing)

-- nor are those of a node's store that stands
pub fit_refused : (kind : Kind) (version : Version) (config : Config) (x : List ℕ) (cause : MakeFault) → IsConfig config
    → BlankOrWhole kind version config x → BytesRefused kind version config x cause → ⊥
fit_refused kind version config x cause good (inl blank) refused = blank_refused kind version config x cause blank refused
fit_refused kind version config x (fault.Store store.DiskFailed) good (inr (kept, standing, is, stands)) refused = refused
fit_refused kind version config x (fault.OtherStore there) good (inr (kept, standing, is, stands)) refused =
    standing_taken kind version config x standing refused.0
fit_refused kind version config x (fault.Store store.NotFormatted) good (inr (kept, standing, is, stands)) refused =
    standing_taken kind version config x standing refused.0
fit_refused kind version config x (fault.Store (store.Damaged place)) good (inr (kept, standing, is, stands)) refused =
    stands-whole (layout kind version) x (CellsOf config kept) (cells_in config) place stands (length-CellsOf config kept is) refused.1
fit_refused kind version config x (fault.Store store.TooSmall) good (inr (kept, standing, is, stands)) refused = refused
fit_refused kind version config x (fault.Store store.Memory) good (inr (kept, standing, is, stands)) refused = refused
fit_refused kind version config x (fault.BadSlot slot) good (inr (kept, standing, is, stands)) refused =
    no_bad_slot config kept slot is (subst (λ (cs : List (List ℕ)). FirstBadSlot cs slot)
    (stands_once (layout kind version) x refused.1.cells (CellsOf config kept) refused.1.stands stands) refused.1.such)
fit_refused kind version config x (fault.BadBound place) good (inr (kept, standing, is, stands)) refused =
    no_bad_bound config kept place good is (subst (λ (cs : List (List ℕ)). SlotsButNoBound config.routes cs place)
    (stands_once (layout kind version) x refused.1.cells (CellsOf config kept) refused.1.stands stands) refused.1.such)

-- bytes of which a store was made, or in which it was found, are so
pub made_refused : (kind : Kind) (version : Version) (config : Config) (t : Told) (new : Option Told) (cause : MakeFault) → IsConfig config
    → MadeOrFound kind version config t new → BytesRefused kind version config t.bytes cause → ⊥
made_refused kind version config t new cause good (made blank fresh) refused = fit_refused kind version config t.bytes cause good (inl blank) refused
made_refused kind version config t new cause good (stood kept standing is stands same) refused =
    fit_refused kind version config t.bytes cause good (inr (kept, standing, is, stands)) refused

-- ---- the bus file's source

-- another source, of which nothing is asked
abbrev pub unread_other : Reading → Reading
unread_other bus = record { before = bus.before; after = bus.before }

pub make_tells : (opens : List ℕ → DiskState → Type 0) (i : MakeInputs) (row : Row) → ComesOfMake opens i row → RowTells row i.bus (unread_other i.bus)
make_tells opens i row (no_form none unread opened) = inr (inr (calm_unread i.bus unread, calm_unread (unread_other i.bus) refl))
make_tells opens i row (no_node _ asks lacks opened) = lacks_tells i.bus (unread_other i.bus) row lacks refl
make_tells opens i row (no_room bus asks ((read, whole, is), one) opened) = inr (inr (calm_whole i.bus read whole, calm_unread (unread_other i.bus) refl))
make_tells opens i row (rows.made bus disk after asks ((read, whole, is), one) opened stands) =
    inr (inr (calm_whole i.bus read whole, calm_unread (unread_other i.bus) refl))
make_tells opens i row (unmade bus disk after cause _ asks ((read, whole, is), one) good opened un is_row) =
    inr (inr (calm_whole i.bus read whole, calm_unread (unread_other i.bus) refl))
