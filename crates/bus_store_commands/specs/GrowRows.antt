-- The table of answers of `slots grow FILE BUS`: its rows, and when each comes over a disk
use Rattle.std.specs.Prelude.{◌≡◌, ◌⊎◌, ℕ, List, ◌++◌, length, codes}
use Rattle.std.specs.Fmt.{decimal}
use Rattle.text_lines.specs.Texts.{line}
use Rattle.text_lines.specs.Written.{written}
use Rattle.cut_disk.specs.State.{DiskState}
use Rattle.cell_store.specs.declared.kinds.Kind.TheVariants.{Twin}
use Rattle.cell_store.specs.declared.kinds.Layout.{Layout}
use Rattle.cell_store.specs.declared.kinds.Version.TheVariants.{One}
use Rattle.program_edge.specs.Rows.{Row, row_of, memory_row}
use Rattle.freshness_routes.specs.declared.routes.Route.{Route}
use Rattle.store_growing.specs.declared.faults.GrowFault.{GrowFault}
use Rattle.store_growing.specs.declared.faults.GrowFault.TheVariants.{DiskFailed, NotFormatted, TooSmall, BadBound}
use Rattle.store_growing.specs.declared.faults.GrowFault.TheVariants.{OtherStore, Damaged, BadSlot, Memory}
use Rattle.store_growing.specs.RouteCells.{route_cell}
use Rattle.store_growing.specs.GrowingStores.{OfBytes, CanBeGrown, GrowsStore, NotGrown}
use Rattle.slot_commands.specs.StoreWords.{store_line_words}
use Rattle.bus_store_commands.specs.StandingRows.{standing_row}

-- `grown twin 1 CELLS`
abbrev pub grown_words : ℕ → List (List ℕ)
grown_words cells = store_line_words (codes "grown") Twin One cells

abbrev pub grown_row : ℕ → Row
grown_row cells = row_of 0 (written (grown_words cells))

-- this row, or out of memory for its text
abbrev pub OrMemory : Row → Row → Type 0
OrMemory wanted row = (row ≡ wanted) ⊎ (row ≡ memory_row)

-- the row of a store that isn't grown; out of memory, 7, for one whose text has a number, too
abbrev pub IsGrowRow : GrowFault → Row → Type 0
IsGrowRow DiskFailed row = row ≡ row_of 10 (line (codes "store: DiskFailed"))
IsGrowRow TooSmall row = row ≡ row_of 9 (line (codes "store: TooSmall"))
IsGrowRow (OtherStore there) row = OrMemory (standing_row there) row
IsGrowRow NotFormatted row = row ≡ row_of 9 (line (codes "store: NotFormatted"))
IsGrowRow (Damaged cell) row = OrMemory (row_of 9 (line (codes "store: Damaged " ++ decimal cell))) row
IsGrowRow (BadSlot cell) row = OrMemory (row_of 9 (line (codes "store: BadSlot " ++ decimal cell))) row
IsGrowRow (BadBound cell) row = OrMemory (row_of 9 (line (codes "store: BadBound " ++ decimal cell))) row
IsGrowRow Memory row = row ≡ memory_row

-- what growing the store on a disk comes to, for a bus that wants such a store and has these routes
pub data GrowsOnDisk (wanted : Layout) (routes : List Route) (old new : DiskState) : Row → Type 0 where
  no_text : new ≡ old → GrowsOnDisk wanted routes old new memory_row
  grown : OfBytes old (λ x. CanBeGrown wanted routes old) → GrowsStore routes old new → new.faults ≡ old.faults
      → GrowsOnDisk wanted routes old new (grown_row (route_cell (length routes)))
  not_grown : (fault : GrowFault) (row : Row) → NotGrown wanted routes old new fault → IsGrowRow fault row
      → GrowsOnDisk wanted routes old new row
