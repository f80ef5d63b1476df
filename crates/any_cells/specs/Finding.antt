-- What looking for a store leaves if it fails
use Rattle.std.specs.Prelude.{◌≡◌, ◌<◌}
use Rattle.cut_disk.specs.State.{DiskState}
use Rattle.cell_store.specs.declared.faults.StoreFault.{StoreFault}
use Rattle.cell_store.specs.declared.faults.StoreFault.TheVariants as store
use Rattle.cell_store.specs.Reading.{ReadFailed}

-- why it isn't known which store counts: the disk has no room for a header, or a read failed
pub data NotLooked (before after : DiskState) : StoreFault → Type 0 where
  no_header : before.size < 32 → after ≡ before → NotLooked before after store.TooSmall
  not_read : ReadFailed 2 before after → NotLooked before after store.DiskFailed
