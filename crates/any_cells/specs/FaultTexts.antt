-- The texts of a store's faults
use Rattle.std.specs.Prelude.{List, ℕ, ◌++◌, codes}
use Rattle.std.specs.Fmt.{decimal}
use Rattle.cell_store.specs.declared.faults.StoreFault.{StoreFault}
use Rattle.cell_store.specs.declared.faults.StoreFault.TheVariants as store

-- the name of the fault, and the number of what is damaged
abbrev pub store_fault_text : StoreFault → List ℕ
store_fault_text store.DiskFailed = codes "DiskFailed"
store_fault_text store.NotFormatted = codes "NotFormatted"
store_fault_text (store.Damaged number) = codes "Damaged " ++ decimal number
store_fault_text store.TooSmall = codes "TooSmall"
store_fault_text store.Memory = codes "Memory"
