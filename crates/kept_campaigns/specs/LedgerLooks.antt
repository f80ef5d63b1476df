-- A look at the disk of a ledger, before a campaign goes on there
use Rattle.std.specs.Prelude.{◌≡◌, ℕ, ◌≤◌, Some, List, [], ◌∷◌, codes}
use Rattle.cut_disk.specs.State.{DiskState, Told}
use Rattle.cut_disk.specs.Calls.{Rose, Runs, AsBefore}
use Rattle.cell_store.specs.declared.kinds.Kind.TheVariants.{Twin}
use Rattle.cell_store.specs.declared.kinds.Version.TheVariants.{One}
use Rattle.disk_looks.specs.declared.looks.Seen.TheVariants.{Other, Neither}
use Rattle.disk_looks.specs.Looks.{LooksAs, CanKeep}
use Rattle.disk_looks.specs.Texts.{standing_text}
use Rattle.program_edge.specs.Rows.{Row, row_of, memory_row}
use Rattle.text_lines.specs.Texts.{line}
use Rattle.cell_store.specs.Store.{store_size}
use Rattle.any_cells.specs.Either.{layout}
use Rattle.kept_campaigns.specs.declared.looking.UnkeptLedger.{UnkeptLedger}
use Rattle.kept_campaigns.specs.declared.looking.UnkeptLedger.TheVariants.{OtherStore, NotFormatted, DiskFailed, Memory}

-- how many cells the store of a ledger has, twin and of version 1
abbrev pub ledger_cell_count : ℕ
ledger_cell_count = 256

-- and how many bytes
abbrev pub ledger_room : ℕ
ledger_room = store_size (layout Twin One) ledger_cell_count

-- told bytes are all zeros, or a ledger's store stands, and no other
abbrev pub KeepsLedgerTold : DiskState → Type 0
KeepsLedgerTold disk = (t : Told) → disk.told ≡ Some t → CanKeep Twin One ledger_cell_count t.bytes

-- why a campaign doesn't go on: told bytes have another store; or neither a store nor zeros alone; and no call failed.
-- Or a call of the disk failed; or there was no memory
abbrev pub UnkeptCause : DiskState → DiskState → UnkeptLedger → Type 0
UnkeptCause disk seen (OtherStore there) = (seen.faults ≡ disk.faults)
    × ((t : Told) → disk.told ≡ Some t → LooksAs Twin One ledger_cell_count t.bytes (Other there))
UnkeptCause disk seen NotFormatted = (seen.faults ≡ disk.faults)
    × ((t : Told) → disk.told ≡ Some t → LooksAs Twin One ledger_cell_count t.bytes Neither)
UnkeptCause disk seen DiskFailed = Rose disk.faults seen.faults
UnkeptCause disk seen Memory = seen.faults ≡ disk.faults

-- so the disk, which has room for a ledger, was only read
pub record FailsToKeepLedger (disk seen : DiskState) (fault : UnkeptLedger) : Type 0 where
  pub room : ledger_room ≤ disk.size
  pub runs : Runs [] 3 disk seen
  pub told : seen.told ≡ disk.told
  pub cause : UnkeptCause disk seen fault

-- the one disk is as before, except for reads; if it has room for a ledger its told bytes are kept
pub record LedgerLooked (before after : List DiskState) : Type 0 where
  pub disk : DiskState
  pub seen : DiskState
  pub before_is : before ≡ disk ∷ []
  pub after_is : after ≡ seen ∷ []
  pub look : AsBefore 3 disk seen
  pub keeps : ledger_room ≤ disk.size → KeepsLedgerTold disk

-- a campaign doesn't go on over the one disk, which was only read
pub record LedgerUnkept (before after : List DiskState) (fault : UnkeptLedger) : Type 0 where
  pub disk : DiskState
  pub seen : DiskState
  pub before_is : before ≡ disk ∷ []
  pub after_is : after ≡ seen ∷ []
  pub fails : FailsToKeepLedger disk seen fault

-- 10 and the line of the store that stands, or that a ledger's isn't there or failed; and out of memory
abbrev pub unkept_row : UnkeptLedger → Row
unkept_row (OtherStore there) = row_of 10 (standing_text there)
unkept_row NotFormatted = row_of 10 (line (codes "store: NotFormatted"))
unkept_row DiskFailed = row_of 10 (line (codes "store: DiskFailed"))
unkept_row Memory = memory_row
