-- What a format answers, put together.
use Rattle.std.proofs.Common.{◌≡◌, ℕ, ◌≤◌, List, [], length}
use Rattle.cut_disk.specs.State.{DiskState}
use Rattle.cut_disk.specs.Calls.{Rose, Runs, Grows}
use Rattle.cell_store.specs.declared.kinds.Layout.{Layout}
use Rattle.cell_store.specs.Store.{store_size}
use Rattle.cell_store.specs.Formats.{Formats, LeavesUnformed}
use Rattle.cell_store.specs.Attaching.{Formatted, HalfFormed}

pub formed : (layout : Layout) (most : ℕ) (cells : List (List ℕ)) (before after : DiskState) → store_size layout (length cells) ≤ before.size
    → Runs [] most before after → Grows before after → after.faults ≡ before.faults → Formats layout cells before.told after.told
    → Formatted layout most cells before after
formed layout most cells before after room runs grows faults fresh = record { room = room; runs = runs; grows = grows; faults = faults; fresh = fresh }

pub half_formed : (layout : Layout) (most : ℕ) (cells : List (List ℕ)) (before after : DiskState) → store_size layout (length cells) ≤ before.size
    → Runs [] most before after → Rose before.faults after.faults → LeavesUnformed layout cells before.told after.told
    → HalfFormed layout most cells before after
half_formed layout most cells before after room runs rose unformed = record { room = room; runs = runs; rose = rose; unformed = unformed }
