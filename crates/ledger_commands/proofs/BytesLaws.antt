-- The ledger that bytes stand for, or why they stand for none
use Rattle.std.proofs.Common.{◌≡◌, ◌⊎◌, ℕ, ◌<◌, ◌≤◌, List, length, refl, sym, ap, subst, ◌∙◌, inl, inr, arith}
use Rattle.std.specs.Prelude.{Option, Some}
use Rattle.std.proofs.lemmas.List.{length-map}
use Rattle.cut_disk.specs.State.{DiskState}
use Rattle.cut_disk.specs.Images.{firm}
use Rattle.cut_disk.specs.Calls.{IsQuiet}
use Rattle.cut_disk.specs.Memory.{Contents, fresh, disk_of}
use Rattle.cut_disk.proofs.CallerLemmas.{quiet_never_rose}
use Rattle.cell_store.specs.declared.faults.StoreFault.{StoreFault}
use Rattle.cell_store.specs.declared.faults.StoreFault.TheVariants as store
use Rattle.cell_store.specs.Store.{HasHeader, Stands, store_size}
use Rattle.cell_store.specs.Cells.{CellsState}
use Rattle.cell_store.specs.Attaching.{Attached, NotAttached}
use Rattle.cell_store.proofs.CallerLemmas.{stands_once, stands-whole}
use Rattle.program_edge.specs.Rows.{Row, memory_row}
use Rattle.key_campaign.specs.declared.entries.LedgerEntry.{LedgerEntry}
use Rattle.key_campaign.specs.Entries.{place_count}
use Rattle.key_campaign.specs.Cell.{place_cell, ledger_cells, HoldEntries, FirstBadEntry}
use Rattle.key_campaign.proofs.CallerLemmas.{one_ledger, none_bad}
use Rattle.campaign_commands.specs.Opening.{ledger_layout, ledger_size}
use Rattle.ledger_commands.specs.LedgerBytes.{HoldsLedger, NoLedgerIn, bad_entry_row, too_small, no_header, damaged, bad_entry}
use Rattle.ledger_commands.specs.StoreRows.{IsStoreRow}

-- ---- a ledger that was read of a disk with these bytes

pub read_holds : (reads : ℕ) (x : List ℕ) (before : DiskState) (s : CellsState) (entries : List (Option LedgerEntry)) → before.told ≡ Some (firm x)
    → Attached ledger_layout reads place_count before s → HoldEntries s.cells entries → length entries ≡ place_count → HoldsLedger x entries
read_holds reads x before s entries told attached hold count =
    record { count = count; are = hold.entries_are; stands = subst (λ (cells : List (List ℕ)). Stands ledger_layout x cells) hold.cells_are (attached.stands (firm x) told) }

module _ (x : List ℕ) (row : Row) where
  is_it : {comes : Row} → NoLedgerIn x comes → row ≡ comes → NoLedgerIn x row ⊎ (row ≡ memory_row)
  is_it none is = inl (subst (NoLedgerIn x) (sym is) none)

  or_memory : {comes : Row} → NoLedgerIn x comes → (row ≡ comes) ⊎ (row ≡ memory_row) → NoLedgerIn x row ⊎ (row ≡ memory_row)
  or_memory none (inl is) = is_it none is
  or_memory none (inr memory) = inr memory

  module _ (before : DiskState) (told : before.told ≡ Some (firm x)) (size : before.size ≡ length x) where
    pub not_read : (reads : ℕ) (reads_to : ℕ → ℕ) (after : DiskState) (fault : StoreFault) → IsQuiet before
        → NotAttached ledger_layout reads reads_to place_count before after fault → IsStoreRow fault row → NoLedgerIn x row ⊎ (row ≡ memory_row)
    not_read reads reads_to after store.TooSmall quiet none is = is_it (too_small (subst (λ n. n < ledger_size) size none.0)) is
    not_read reads reads_to after store.Memory quiet none is = inr is
    not_read reads reads_to after store.DiskFailed quiet none is = absurd (quiet_never_rose quiet (none.leaves.runs.quiet refl quiet) none.leaves.rose)
    not_read reads reads_to after store.NotFormatted quiet none is =
        is_it (no_header (subst (λ n. ledger_size ≤ n) size none.room) (none.finds (firm x) told)) is
    not_read reads reads_to after (store.Damaged cell) quiet none is =
        let found = none.finds (firm x) told in
        or_memory (damaged cell found.0 found.1) is

    pub bad_read : (reads : ℕ) (s : CellsState) (bad : ℕ) → Attached ledger_layout reads place_count before s → FirstBadEntry s.cells bad
        → (row ≡ bad_entry_row bad) ⊎ (row ≡ memory_row) → NoLedgerIn x row ⊎ (row ≡ memory_row)
    bad_read reads s bad attached first is = or_memory (bad_entry s.cells bad attached.count (attached.stands (firm x) told) first) is

-- ---- the same of a disk in memory that was made of the bytes

pub at_places : (n : ℕ) → n ≡ 256 → n ≡ place_count
unfolding place_count
at_places n is = is

attached_at : (reads : ℕ) (before : DiskState) (s : CellsState) → Attached ledger_layout reads 256 before s → Attached ledger_layout reads place_count before s
unfolding place_count
attached_at reads before s attached = attached

not_attached_at : (reads : ℕ) (reads_to : ℕ → ℕ) (before after : DiskState) (fault : StoreFault) → NotAttached ledger_layout reads reads_to 256 before after fault
    → NotAttached ledger_layout reads reads_to place_count before after fault
unfolding place_count
not_attached_at reads reads_to before after fault not = not

fresh_quiet : (x : List ℕ) → IsQuiet (disk_of (fresh x))
fresh_quiet x = record { quiet = refl; below = omega arith }

module _ (x : List ℕ) (k : Contents) (is : k ≡ fresh x) where
  told_of_it : (disk_of k).told ≡ Some (firm x)
  told_of_it = ap (λ (c : Contents). (disk_of c).told) is

  size_of_it : (disk_of k).size ≡ length x
  size_of_it = ap (λ (c : Contents). (disk_of c).size) is

  pub read_in_memory : (reads : ℕ) (s : CellsState) (entries : List (Option LedgerEntry)) → Attached ledger_layout reads 256 (disk_of k) s
      → HoldEntries s.cells entries → length entries ≡ place_count → HoldsLedger x entries
  read_in_memory reads s entries attached hold count = read_holds reads x (disk_of k) s entries told_of_it (attached_at reads (disk_of k) s attached) hold count

  pub not_in_memory : (reads : ℕ) (reads_to : ℕ → ℕ) (after : DiskState) (fault : StoreFault) (row : Row)
      → NotAttached ledger_layout reads reads_to 256 (disk_of k) after fault → IsStoreRow fault row → NoLedgerIn x row ⊎ (row ≡ memory_row)
  not_in_memory reads reads_to after fault row not told =
      not_read x row (disk_of k) told_of_it size_of_it reads reads_to after fault (subst (λ (c : Contents). IsQuiet (disk_of c)) (sym is) (fresh_quiet x))
      (not_attached_at reads reads_to (disk_of k) after fault not) told

  pub bad_in_memory : (reads : ℕ) (s : CellsState) (bad : ℕ) (row : Row) → Attached ledger_layout reads 256 (disk_of k) s → FirstBadEntry s.cells bad
      → (row ≡ bad_entry_row bad) ⊎ (row ≡ memory_row) → NoLedgerIn x row ⊎ (row ≡ memory_row)
  bad_in_memory reads s bad row attached first told =
      bad_read x row (disk_of k) told_of_it size_of_it reads s bad (attached_at reads (disk_of k) s attached) first told

-- ---- bytes stand for one ledger, or for none

cells_number : (places : List (Option LedgerEntry)) → length places ≡ place_count → length (ledger_cells places) ≡ place_count
cells_number places count = length-map places place_cell ∙ count

pub holds_or_lacks : (x : List ℕ) (places : List (Option LedgerEntry)) (row : Row) → HoldsLedger x places → NoLedgerIn x row → ⊥
holds_or_lacks x places row holds (too_small small) =
    let room : ledger_size ≤ length x = subst (λ n. store_size ledger_layout n ≤ length x) (cells_number places holds.count) holds.stands.room in
    omega (arith, room, small)
holds_or_lacks x places row holds (no_header room lacking) =
    lacking (subst (λ n. HasHeader ledger_layout n x) (cells_number places holds.count) holds.stands.head)
holds_or_lacks x places row holds (damaged cell head first) =
    stands-whole ledger_layout x (ledger_cells places) place_count cell holds.stands (cells_number places holds.count) first
holds_or_lacks x places row holds (bad_entry cells bad count stands first) =
    none_bad (ledger_cells places) places (record { entries_are = holds.are; cells_are = refl }) bad
    (subst (λ (c : List (List ℕ)). FirstBadEntry c bad) (stands_once ledger_layout x cells (ledger_cells places) stands holds.stands) first)

pub one_holds : (x : List ℕ) (places others : List (Option LedgerEntry)) → HoldsLedger x places → HoldsLedger x others → places ≡ others
one_holds x places others holds also =
    one_ledger (ledger_cells places) places others (record { entries_are = holds.are; cells_are = refl })
    (record { entries_are = also.are; cells_are = stands_once ledger_layout x (ledger_cells places) (ledger_cells others) holds.stands also.stands })
