-- A fault of reading anew as a fault of a store.
use Rattle.cell_store.specs.declared.faults.Reread.{Reread}
use Rattle.cell_store.specs.declared.faults.Reread.TheVariants as reread
use Rattle.cell_store.specs.declared.faults.StoreFault.{StoreFault}
use Rattle.cell_store.specs.declared.faults.StoreFault.TheVariants as store

abbrev pub store_fault : Reread → StoreFault
store_fault reread.DiskFailed = store.DiskFailed
store_fault reread.NotFormatted = store.NotFormatted
store_fault (reread.Damaged i) = store.Damaged i
