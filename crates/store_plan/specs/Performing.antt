-- What the writes of a plan leave of a disk.
use Rattle.std.specs.Prelude.{◌≡◌, ℕ, ◌<◌, Bool, Option, Some, List, [], length}
use Rattle.cut_disk.specs.State.{DiskState, Told}
use Rattle.cut_disk.specs.Images.{Tears, firm, EachImage}
use Rattle.cut_disk.specs.Calls.{Rose, Runs}
use Rattle.cut_disk.specs.Lasting.{Lasts}
use Rattle.cell_store.specs.declared.kinds.Version.TheVariants.{One}
use Rattle.cell_store.specs.Layout.{twin_layout}
use Rattle.cell_store.specs.Cells.{CellsState}
use Rattle.store_plan.specs.declared.planning.Write.{Write}
use Rattle.store_plan.specs.declared.planning.Plan.{Plan}
use Rattle.store_plan.specs.Plans.{PlansPut, WritesAt, CutWithin, applied, applied_write}

-- the write is done, and durable
pub record WriteDone (w : Write) (old new : Option Told) : Type 0 where
  pub none : w.size ≡ 0 → new ≡ old
  pub lasts : (at : ℕ) (new-bytes : List ℕ) → 0 < length new-bytes → WritesAt w at new-bytes
      → Lasts at new-bytes old new

-- it failed
pub record WriteTorn (w : Write) (old new : Option Told) : Type 0 where
  pub some : 0 < w.size
  pub torn : Tears w.offset w.size old new

-- the plan is one of a put of c at cell i, for what the disk tells of its bytes
abbrev pub Serves : Plan → Option Told → ℕ → List ℕ → Type 0
Serves plan told i c = (t : Told) → told ≡ Some t → PlansPut plan t.bytes i c

-- a twin store of version 1 of these cells on a disk
abbrev pub store_on : List (List ℕ) → DiskState → Bool → CellsState
store_on cells disk broken = record { layout = twin_layout One; cells = cells; disk = disk; broken = broken }

-- if no byte is loose, none is loose after a write
abbrev pub MakesFirm : Write → Option Told → Option Told → Type 0
MakesFirm w old new = (x : List ℕ) → old ≡ Some (firm x) → new ≡ Some (firm (applied_write w x))

-- the same of the writes of a plan
abbrev pub DoesPlan : Plan → Option Told → Option Told → Type 0
DoesPlan plan old new = (x : List ℕ) → old ≡ Some (firm x) → new ≡ Some (firm (applied plan x))

-- if no byte was loose, every image is what the power leaves that goes within the plan
abbrev pub LeavesPlanCut : Plan → Option Told → Option Told → Type 0
LeavesPlanCut plan old new = (x : List ℕ) → old ≡ Some (firm x) → EachImage new (CutWithin plan x)

-- one write was done, and is durable
pub record WritesOne (w : Write) (old new : DiskState) : Type 0 where
  pub runs : Runs [] 2 old new
  pub faults : new.faults ≡ old.faults
  pub done : WriteDone w old.told new.told

-- one write failed
pub record FailsOne (w : Write) (old new : DiskState) : Type 0 where
  pub runs : Runs [] 2 old new
  pub failed : Rose old.faults new.faults
  pub torn : WriteTorn w old.told new.told

-- the writes of a plan were done one after the other
pub record DoesEach (plan : Plan) (old new : DiskState) : Type 0 where
  pub behind_first : DiskState
  pub behind_second : DiskState
  pub first : WritesOne plan.first old behind_first
  pub second : WritesOne plan.second behind_first behind_second
  pub third : WritesOne plan.third behind_second new

-- they were done one after the other up to one that failed, and none after that one was begun
pub data StopsAtFailure (plan : Plan) (old new : DiskState) : Type 0 where
  at_first : FailsOne plan.first old new → StopsAtFailure plan old new
  at_second : (first : DiskState) → WritesOne plan.first old first → FailsOne plan.second first new
      → StopsAtFailure plan old new
  at_third : (first second : DiskState) → WritesOne plan.first old first → WritesOne plan.second first second
      → FailsOne plan.third second new → StopsAtFailure plan old new
