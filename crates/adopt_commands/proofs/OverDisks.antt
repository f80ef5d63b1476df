-- Taking over entries over the first disk, or over none
use Rattle.std.proofs.Common.{◌≡◌, ◌<◌, Bool, List, [], ◌∷◌, ◌++◌, length, refl, ap, ap₂, map, get_or, take, drop, sym, arith}
use Rattle.cut_disk.specs.State.{DiskState}
use Rattle.program_edge.specs.Endings.{Ending, EndsInRow}
use Rattle.key_campaign.specs.declared.entries.LedgerEntry.{LedgerEntry}
use Rattle.adopt_commands.specs.AdoptRows.{EndsOnLedger, EndsOverLedgers, without_disk, on_first_disk, no_ledger_disk_row}

pub over_first : {D : Type 0} (state : D → DiskState) (may strict : Bool) (entries : List LedgerEntry) (e : Ending) (before rest after : List D) (disk back : D)
    → 0 < length before → disk ≡ get_or before 0 disk → rest ≡ take 0 before ++ drop 1 before → after ≡ back ∷ rest
    → EndsOnLedger may strict entries e (state disk) (state back) → EndsOverLedgers may strict entries e (map state before) (map state after)
over_first state may strict entries e [] rest after disk back some at left is ends = absurd (omega (arith, some))
over_first state may strict entries e (x ∷ xs) rest after disk back some at left is ends =
    on_first_disk (state disk) (state back) (map state rest) (ap₂ (λ y ys. state y ∷ map state ys) (sym at) (sym left)) (ap (map state) is) ends

pub over_none : {D : Type 0} (state : D → DiskState) (may strict : Bool) (entries : List LedgerEntry) (e : Ending) (disks : List D) → length disks ≡ 0
    → EndsInRow (λ row. row ≡ no_ledger_disk_row) e → EndsOverLedgers may strict entries e (map state disks) (map state disks)
over_none state may strict entries e [] none told = without_disk refl refl told
over_none state may strict entries e (disk ∷ disks) none told = absurd (omega (arith, none))
