-- The rows of faults of a store
use Rattle.std.specs.Prelude.{◌≡◌, ◌⊎◌, ◌++◌, codes}
use Rattle.cell_store.specs.declared.faults.StoreFault.{StoreFault}
use Rattle.cell_store.specs.declared.faults.StoreFault.TheVariants as store
use Rattle.any_cells.specs.FaultTexts.{store_fault_text}
use Rattle.text_lines.specs.Texts.{line}
use Rattle.program_edge.specs.Rows.{Row, row_of, memory_row}
use Rattle.ledger_commands.specs.LedgerBytes.{cause_row}

-- the disk failed as it was opened
abbrev pub disk_failed_row : Row
disk_failed_row = row_of 10 (line (codes "store: " ++ store_fault_text store.DiskFailed))

-- the row of a fault: that of its cause; 7 if memory was out for the store, or for a text with a number
abbrev pub IsStoreRow : StoreFault → Row → Type 0
IsStoreRow store.DiskFailed row = row ≡ disk_failed_row
IsStoreRow store.NotFormatted row = row ≡ cause_row (store_fault_text store.NotFormatted)
IsStoreRow store.TooSmall row = row ≡ cause_row (store_fault_text store.TooSmall)
IsStoreRow store.Memory row = row ≡ memory_row
IsStoreRow (store.Damaged cell) row = (row ≡ cause_row (store_fault_text (store.Damaged cell))) ⊎ (row ≡ memory_row)
