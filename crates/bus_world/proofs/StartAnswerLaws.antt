-- A start that is refused: which row comes, and what that says of the disks
use Rattle.std.specs.Prelude.{◌≡◌, ◌⊎◌, ℕ, ◌+◌, ◌-◌, ◌<◌, ◌≤◌, List, length, map, get_or, Vec}
use Rattle.std.specs.declared.alloc.Global.{Global}
use Rattle.std.proofs.Common.{refl, sym, ap, subst, ◌∙◌, inl, inr, arith}
use Rattle.std.proofs.lemmas.Bool.{cases_lt}
use Rattle.program_edge.specs.Rows.{Row, row_of, memory_row}
use Rattle.cut_disk.specs.State.{DiskState}
use Rattle.cell_store.specs.declared.faults.Reread.TheVariants as reread
use Rattle.freshness_routes.specs.Config.{Config}
use Rattle.bus_config.specs.Buses.{NamedBus}
use Rattle.bus_world.specs.declared.opening.OpenFault.{OpenFault}
use Rattle.bus_world.specs.declared.opening.OpenFault.TheVariants as open_fault
use Rattle.bus_world.specs.declared.start.Start.{Start}
use Rattle.bus_world.specs.declared.start.StartFault.{StartFault}
use Rattle.bus_world.specs.declared.start.StartFault.TheVariants.{TooFew, TooSmall, Store, BadSlot, BadBound, Memory}
use Rattle.bus_world.specs.Starts.{NotStarted, HasRoom, OfNumber, RefusedAt}
use Rattle.bus_world.specs.StartRows.{start_row, StoreCause, LeavesEach}
use Rattle.bus_world.proofs.StartRowLaws.{no_line, no_disk, refused_at_10, leaves_same, start_leaves, no_room_fault}
use Rattle.bus_world.proofs.StartRowLaws.{no_store_cause}
use Rattle.bus_world.specs.StartAnswers.{DiskStates, NoDiskFailed, CountsDiskFault, failed_row}
use Rattle.bus_world.specs.StartAnswers.{ComesOfStart, disks_refused, store_refused, start_without_memory, BusHasDisks}
use Rattle.bus_world.specs.StartAnswers.{ComesUnstarted}

-- ---- the disks that fail

-- only the disk of the node with this number may count a fault
others_calm : (start : Start) (bus : NamedBus) (before after : List DiskState) (number : ℕ)
    (P : Config → DiskState → DiskState → Type 0) → OfNumber start bus before after number P
    → (i : ℕ) (disk : DiskState) → (number ≡ i + 1) ⊎ ((get_or after i disk).faults ≡ (get_or before i disk).faults)
others_calm start bus before after number P of i disk = elim (cases_lt i (number - 1)) [
  | inl earlier ↦ inr (of.earlier i disk earlier)
  | inr reached ↦ elim (cases_lt i number) [
    | inl within ↦ inl (let same : number ≡ i + 1 = omega (arith, of.least, reached, within) in same)
    | inr later ↦ inr (ap (λ (d : DiskState). d.faults) (of.later i disk later))
  ]
]

-- if a node is refused for its bytes, none did
refused_calm : (start : Start) (bus : NamedBus) (before after : List DiskState) (number : ℕ) (f : OpenFault)
    → RefusedAt start bus before after number f → (i : ℕ) (disk : DiskState)
    → (get_or after i disk).faults ≡ (get_or before i disk).faults
refused_calm start bus before after number f of i disk = elim (others_calm start bus before after number _ of i disk) [
  | inl is ↦
      let place : number - 1 ≡ i = omega (arith, is) in
      subst (λ (k : ℕ). (get_or after k disk).faults ≡ (get_or before k disk).faults) place (of.disk no_line disk).1
  | inr calm ↦ calm
]

-- if there was no memory, none did
none_failed : (start : Start) (bus : NamedBus) (d : DiskStates) → NotStarted start bus d.before d.after Memory
    → NoDiskFailed d
none_failed start bus d refused = refused.memory refl

-- ---- the row

-- a store that isn't written, or isn't read
store_row : (start : Start) (bus : NamedBus) (d : DiskStates) (fault : StartFault)
    → NotStarted start bus d.before d.after fault → HasRoom bus d.before → (start_row fault).status ≡ 10
    → ComesOfStart start bus d (row_of 10 (start_row fault).text)
store_row start bus d fault refused room ten =
    store_refused fault room (refused_at_10 start bus d.before d.after fault refused ten)
    (start_leaves start bus d.before d.after fault refused)

-- the row of a start that is refused comes
row_comes : (start : Start) (bus : NamedBus) (d : DiskStates) (fault : StartFault)
    → NotStarted start bus d.before d.after fault → ComesOfStart start bus d (start_row fault)
row_comes start bus d TooFew refused = disks_refused TooFew refused.0 refused.1
row_comes start bus d (TooSmall node) refused = disks_refused (TooSmall node) refused.0 refused.1
row_comes start bus d (Store node cause) refused = store_row start bus d (Store node cause) refused refused.room refl
row_comes start bus d (BadSlot node slot) refused = store_row start bus d (BadSlot node slot) refused refused.room refl
row_comes start bus d (BadBound node cell) refused =
    store_row start bus d (BadBound node cell) refused refused.room refl
row_comes start bus d Memory refused =
    start_without_memory Memory refl refused (none_failed start bus d refused)

-- a start of a bus that is refused ends in a row that comes, with what holds of the disks at 9
pub Comes-unstarted : (same : Type 0) (start : Start) (bus : NamedBus) (d : DiskStates) (fault : StartFault) (row : Row)
    → length bus.nodes ≤ 8 → NotStarted start bus d.before d.after fault → ((start_row fault).status ≡ 9 → same)
    → row ≡ start_row fault → ComesUnstarted same start bus d row
Comes-unstarted same start bus d fault row few refused unread is = (
  subst (ComesOfStart start bus d) (sym is) (row_comes start bus d fault refused),
  λ nine. unread (ap (λ (r : Row). r.status) (sym is) ∙ nine),
)

-- of the same disks the same is known
module _ {D : Type 0} (state : D → DiskState) where
  pub same_known : (old new : Vec D Global) → new ≡ old → map state new.items ≡ map state old.items
  same_known old new same = ap (λ (disks : Vec D Global). map state disks.items) same

-- ---- if a disk's count rose, the row tells that this disk failed

failed_at : (start : Start) (bus : NamedBus) (before after : List DiskState) (number place : ℕ)
    (P : Config → DiskState → DiskState → Type 0) → OfNumber start bus before after number P
    → (get_or before place no_disk).faults < (get_or after place no_disk).faults → number ≡ place + 1
failed_at start bus before after number place P of rose =
    elim (others_calm start bus before after number P of place no_disk) [
      | inl is ↦ is
      | inr calm ↦ absurd (let no : ⊥ = omega (arith, calm, rose) in no)
    ]

not_calm : (start : Start) (bus : NamedBus) (before after : List DiskState) (number place : ℕ) (f : OpenFault)
    → RefusedAt start bus before after number f
    → (get_or before place no_disk).faults < (get_or after place no_disk).faults → ⊥
not_calm start bus before after number place f of rose =
    omega (arith, refused_calm start bus before after number f of place no_disk, rose)

cause_told : (start : Start) (bus : NamedBus) (d : DiskStates) (fault : StartFault) (place : ℕ)
    → StoreCause start bus d.before d.after fault → CountsDiskFault d place
    → row_of 10 (start_row fault).text ≡ failed_row place
cause_told start bus d TooFew place cause rose = absurd cause
cause_told start bus d (TooSmall node) place cause rose = absurd cause
cause_told start bus d (Store node reread.DiskFailed) place cause rose =
    ap (λ (number : ℕ). start_row (Store number reread.DiskFailed))
    (failed_at start bus d.before d.after node place _ cause (rose no_disk))
cause_told start bus d (Store node reread.NotFormatted) place cause rose =
    absurd (not_calm start bus d.before d.after node place (open_fault.Store reread.NotFormatted) cause (rose no_disk))
cause_told start bus d (Store node (reread.Damaged i)) place cause rose =
    absurd (not_calm start bus d.before d.after node place (open_fault.Store (reread.Damaged i)) cause (rose no_disk))
cause_told start bus d (BadSlot node slot) place cause rose =
    absurd (not_calm start bus d.before d.after node place (open_fault.BadSlot slot) cause (rose no_disk))
cause_told start bus d (BadBound node cell) place cause rose =
    absurd (not_calm start bus d.before d.after node place (open_fault.BadBound cell) cause (rose no_disk))
cause_told start bus d Memory place cause rose = absurd cause

-- no count rose of disks that are as before
pub none_counted : (d : DiskStates) (place : ℕ) → d.after ≡ d.before → CountsDiskFault d place → ⊥
none_counted d place same rose =
    let calm = ap (λ (disks : List DiskState). (get_or disks place no_disk).faults) same in
    omega (arith, calm, rose no_disk)

pub failure_told : (start : Start) (bus : NamedBus) (d : DiskStates) (row : Row) (place : ℕ)
    → ComesOfStart start bus d row → CountsDiskFault d place → row ≡ failed_row place
failure_told start bus d row place (disks_refused fault finds same) rose =
    absurd (none_counted d place same rose)
failure_told start bus d row place (store_refused fault room cause left) rose =
    cause_told start bus d fault place cause rose
failure_told start bus d row place (start_without_memory fault may refused calm) rose =
    absurd (let no : ⊥ = omega (arith, calm place no_disk, rose no_disk) in no)

-- what it leaves of the disks
pub Comes-leaves : (start : Start) (bus : NamedBus) (d : DiskStates) (row : Row) → ComesOfStart start bus d row
    → LeavesEach start bus d.before d.after
Comes-leaves start bus d row (disks_refused fault finds same) = leaves_same start bus d.before d.after same
Comes-leaves start bus d row (store_refused fault room cause left) = left
Comes-leaves start bus d row (start_without_memory fault may refused calm) =
    start_leaves start bus d.before d.after fault refused

-- ---- the status

-- it is 9, 10 or 7
pub start_status : (start : Start) (bus : NamedBus) (d : DiskStates) (row : Row) → ComesOfStart start bus d row
    → (row.status ≡ 9) ⊎ ((row.status ≡ 10) ⊎ (row.status ≡ 7))
start_status start bus d row (disks_refused fault finds same) = inl refl
start_status start bus d row (store_refused fault room cause left) = inr (inl refl)
start_status start bus d row (start_without_memory fault may refused calm) = inr (inr refl)

-- a row with the status 7 is that of out of memory
pub start_memory : (start : Start) (bus : NamedBus) (d : DiskStates) (row : Row) → ComesOfStart start bus d row
    → row.status ≡ 7 → row ≡ memory_row
start_memory start bus d row (disks_refused fault finds same) is = absurd (let no : ⊥ = omega (arith, is) in no)
start_memory start bus d row (store_refused fault room cause left) is = absurd (let no : ⊥ = omega (arith, is) in no)
start_memory start bus d row (start_without_memory fault may refused calm) is = refl

-- without room it is 9, or 7
pub start_without_room : (start : Start) (bus : NamedBus) (d : DiskStates) (row : Row) → ComesOfStart start bus d row
    → (HasRoom bus d.before → ⊥) → (row.status ≡ 9) ⊎ (row.status ≡ 7)
start_without_room start bus d row (disks_refused fault finds same) none = inl refl
start_without_room start bus d row (store_refused fault room cause left) none = absurd (none room)
start_without_room start bus d row (start_without_memory fault may refused calm) none = inr refl

-- over disks that do, it is 7
pub start_complete : (start : Start) (bus : NamedBus) (d : DiskStates) (row : Row) → ComesOfStart start bus d row
    → BusHasDisks start bus d → row.status ≡ 7
start_complete start bus d row (disks_refused fault finds same) able =
    absurd (no_room_fault bus d.before fault able.0 finds)
start_complete start bus d row (store_refused fault room cause left) able =
    absurd (no_store_cause start bus d.before d.after fault able.1 cause left)
start_complete start bus d row (start_without_memory fault may refused calm) able = refl
