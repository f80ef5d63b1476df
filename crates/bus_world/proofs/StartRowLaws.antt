-- What follows from the row of a start that is refused
use Rattle.std.specs.Prelude.{◌≡◌, ◌⊎◌, ℕ, ◌-◌, ◌<◌, ◌≤◌, true, None, Some, Option, List, [], length, get_or}
use Rattle.std.proofs.Common.{refl, sym, subst, inl, inr, arith}
use Rattle.cut_disk.specs.State.{DiskState, Told}
use Rattle.cut_disk.specs.Arming.{no_arms}
use Rattle.cut_disk.specs.Calls.{Rose, Runs, IsQuiet}
use Rattle.cut_disk.proofs.CallerLemmas.{runs_none, runs_more}
use Rattle.basics.specs.FaultCount.{last_count}
use Rattle.cell_store.specs.declared.kinds.Kind.{Kind}
use Rattle.cell_store.specs.declared.kinds.Version.{Version}
use Rattle.cell_store.specs.declared.faults.Reread.TheVariants as reread
use Rattle.cell_store.proofs.CallerLemmas.{stays_none}
use Rattle.freshness_routes.specs.Config.{Config}
use Rattle.bus_machine.specs.Bus.{no_config}
use Rattle.bus_config.specs.declared.node_lines.NodeLine.{NodeLine}
use Rattle.bus_config.specs.Buses.{NamedBus}
use Rattle.bus_world.specs.declared.start.StartFault.{StartFault}
use Rattle.bus_world.specs.declared.start.StartFault.TheVariants as fault
use Rattle.bus_world.specs.declared.opening.OpenFault.{OpenFault}
use Rattle.bus_world.specs.declared.opening.OpenFault.TheVariants as open_fault
use Rattle.bus_world.specs.declared.start.Start.{Start}
use Rattle.bus_world.specs.declared.start.Start.TheVariants.{Format, Attach}
use Rattle.bus_world.specs.TakingUp.{start_calls, LeftOver, LeavesDisk, StaysFound, RefusedFor}
use Rattle.bus_world.specs.Starts.{HasRoom, OfNumber, RefusedAt, Broken, NotStarted, FindsRoom}
use Rattle.bus_world.specs.StartRows.{start_row, StoreCause, LeavesEach, CanStart, DisksDo}

-- something past the last node
pub no_line : NodeLine
no_line = record { name = []; config = no_config }

-- a quiet disk doesn't fail
quiet_stays : (n : ℕ) (old new : DiskState) → Runs [] n old new → IsQuiet old
    → (old.faults < new.faults) ⊎ (last_count ≤ new.faults) → ⊥
quiet_stays n old new runs quiet (inl more) = omega (arith, (runs.quiet refl quiet).faults, more)
quiet_stays n old new runs quiet (inr top) = omega (arith, (runs.quiet refl quiet).faults, quiet.below, top)

loud_at : (start : Start) (bus : NamedBus) (before after : List DiskState) (f : StartFault) (number : ℕ)
    → Broken start bus before after f
    → OfNumber start bus before after number (λ config old new. Rose old.faults new.faults)
    → OfNumber start bus before after number (λ config old new. Rose old.faults new.faults × ¬ IsQuiet old)
loud_at start bus before after f number broken of = record {
  least = of.least;
  most = of.most;
  disk = λ l d. (
    of.disk l d,
    λ quiet. quiet_stays _ (get_or before (number - 1) d) (get_or after (number - 1) d)
        (broken.left (number - 1) l d (omega (arith, of.least, of.most))).0 quiet (of.disk l d),
  );
  earlier = of.earlier;
  taken = of.taken;
  later = of.later;
}

-- 10 comes only if a store failed, or its disk doesn't tell its bytes
pub refused_at_10 : (start : Start) (bus : NamedBus) (before after : List DiskState) (f : StartFault)
    → NotStarted start bus before after f → (start_row f).status ≡ 10 → StoreCause start bus before after f
refused_at_10 start bus before after fault.TooFew refused is = absurd (let no : ⊥ = omega (arith, is) in no)
refused_at_10 start bus before after (fault.TooSmall node) refused is = absurd (let no : ⊥ = omega (arith, is) in no)
refused_at_10 start bus before after (fault.Store node reread.DiskFailed) refused is =
    loud_at start bus before after (fault.Store node reread.DiskFailed) node refused refused.cause
refused_at_10 start bus before after (fault.Store node reread.NotFormatted) refused is = refused.cause
refused_at_10 start bus before after (fault.Store node (reread.Damaged place)) refused is = refused.cause
refused_at_10 start bus before after (fault.BadSlot node slot) refused is = refused.cause
refused_at_10 start bus before after (fault.BadBound node cell) refused is = refused.cause
refused_at_10 start bus before after fault.Memory refused is = absurd (let no : ⊥ = omega (arith, is) in no)

left_of : (start : Start) (bus : NamedBus) (before after : List DiskState) (f : StartFault)
    → Broken start bus before after f → LeavesEach start bus before after
left_of start bus before after f broken = record {
  count = broken.count;
  each = broken.left;
  rest = broken.rest;
  leaves = broken.leaves;
  stays = broken.stays;
}

pub untouched_left : (start : Start) (kind : Kind) (version : Version) (config : Config) (before : DiskState)
    → LeftOver start kind version config before before
untouched_left Format kind version config before = inl refl
untouched_left Attach kind version config before = (inl refl, λ t told. inl (told, refl))

pub untouched_leaves : (start : Start) (kind : Kind) (version : Version) (config : Config) (before : DiskState)
    → LeavesDisk start kind version config before before
untouched_leaves Format kind version config before = inl refl
untouched_leaves Attach kind version config before = λ t told. inl (inl told, refl)

pub untouched_stays : (start : Start) (kind : Kind) (version : Version) (config : Config) (before : DiskState)
    → StaysFound start kind version config before before
untouched_stays Format kind version config before = tt
untouched_stays Attach kind version config before = λ t told found. stays_none before

-- disks that are as before
pub leaves_same : (start : Start) (bus : NamedBus) (before after : List DiskState) → after ≡ before
    → LeavesEach start bus before after
leaves_same start bus before after same =
    subst (λ (disks : List DiskState). LeavesEach start bus before disks) (sym same) (record {
      count = refl;
      each = λ i l d inside. (
        runs_more (start_calls start bus.kind (get_or bus.nodes i l).config) (omega arith)
            (runs_none (get_or before i d)),
        untouched_left start bus.kind bus.version (get_or bus.nodes i l).config (get_or before i d),
      );
      rest = refl;
      leaves =
          λ i l d inside. untouched_leaves start bus.kind bus.version (get_or bus.nodes i l).config (get_or before i d);
      stays =
          λ i l d inside. untouched_stays start bus.kind bus.version (get_or bus.nodes i l).config (get_or before i d);
    })

-- what a start that is refused leaves, whatever its cause
pub start_leaves : (start : Start) (bus : NamedBus) (before after : List DiskState) (f : StartFault)
    → NotStarted start bus before after f → LeavesEach start bus before after
start_leaves start bus before after fault.TooFew refused = leaves_same start bus before after refused.1
start_leaves start bus before after (fault.TooSmall node) refused = leaves_same start bus before after refused.1
start_leaves start bus before after (fault.Store node cause) refused =
    left_of start bus before after (fault.Store node cause) refused
start_leaves start bus before after (fault.BadSlot node slot) refused =
    left_of start bus before after (fault.BadSlot node slot) refused
start_leaves start bus before after (fault.BadBound node cell) refused =
    left_of start bus before after (fault.BadBound node cell) refused
start_leaves start bus before after fault.Memory refused = left_of start bus before after fault.Memory refused

-- ---- disks that do

told_not_none : (o : Option Told) (t : Told) → o ≡ Some t → o ≡ None → ⊥
told_not_none o t told none = cc

-- a disk that is quiet, or doesn't fail, doesn't fail
does_not_fail : (n : ℕ) (old new : DiskState) → Runs [] n old new → Rose old.faults new.faults
    → IsQuiet old ⊎ ¬ Rose old.faults new.faults → ⊥
does_not_fail n old new runs rose (inl quiet) = quiet_stays n old new runs quiet rose
does_not_fail n old new runs rose (inr calm) = calm rose

-- any disk
pub no_disk : DiskState
no_disk = record { size = 0; told = None; arms = no_arms; faults = 0; quiet = true; past = None }

-- none of these disks is refused for what it has
able_at : (start : Start) (kind : Kind) (version : Version) (config : Config) (told : Option Told) (f : OpenFault)
    (t : Told) → told ≡ Some t
    → CanStart start kind version config t.bytes → RefusedFor start kind version config told f → ⊥
able_at Format kind version config told f t is able refused = told_not_none told t is refused
able_at Attach kind version config told f t is able refused = (refused t is).none able.0 able.1

told_at : (start : Start) (bus : NamedBus) (before after : List DiskState) (number : ℕ) (f : OpenFault)
    → RefusedAt start bus before after number f → DisksDo start bus before after → ⊥
told_at start bus before after number f of able =
    let has = able (number - 1) no_line no_disk (omega (arith, of.least, of.most)) in
    able_at start bus.kind bus.version (get_or bus.nodes (number - 1) no_line).config
    (get_or before (number - 1) no_disk).told f has.0.0 has.0.1 has.0.2 (of.disk no_line no_disk).0

-- a start over them is refused for no store
pub no_store_cause : (start : Start) (bus : NamedBus) (before after : List DiskState) (f : StartFault)
    → DisksDo start bus before after → StoreCause start bus before after f
    → LeavesEach start bus before after → ⊥
no_store_cause start bus before after (fault.Store node reread.DiskFailed) able cause left =
    let inside : node - 1 < length bus.nodes = omega (arith, cause.least, cause.most) in
    does_not_fail _ (get_or before (node - 1) no_disk) (get_or after (node - 1) no_disk)
    (left.each (node - 1) no_line no_disk inside).0
    (cause.disk no_line no_disk).0 (able (node - 1) no_line no_disk inside).1
no_store_cause start bus before after (fault.Store node reread.NotFormatted) able cause left =
    told_at start bus before after node (open_fault.Store reread.NotFormatted) cause able
no_store_cause start bus before after (fault.Store node (reread.Damaged place)) able cause left =
    told_at start bus before after node (open_fault.Store (reread.Damaged place)) cause able
no_store_cause start bus before after (fault.BadSlot node slot) able cause left =
    told_at start bus before after node (open_fault.BadSlot slot) cause able
no_store_cause start bus before after (fault.BadBound node cell) able cause left =
    told_at start bus before after node (open_fault.BadBound cell) cause able
no_store_cause start bus before after fault.TooFew able cause left = cause
no_store_cause start bus before after (fault.TooSmall node) able cause left = cause
no_store_cause start bus before after fault.Memory able cause left = cause

-- if there is room, no disk is missing or too small
pub no_room_fault : (bus : NamedBus) (disks : List DiskState) (f : StartFault) → HasRoom bus disks
    → FindsRoom bus disks f → ⊥
no_room_fault bus disks fault.TooFew room finds = omega (arith, finds, room.enough)
no_room_fault bus disks (fault.TooSmall node) room finds =
    omega (
      arith,
      finds.small no_line no_disk,
      room.room (node - 1) no_line no_disk (omega (arith, finds.least, finds.most)),
    )
no_room_fault bus disks (fault.Store node cause) room finds = finds
no_room_fault bus disks (fault.BadSlot node slot) room finds = finds
no_room_fault bus disks (fault.BadBound node cell) room finds = finds
no_room_fault bus disks fault.Memory room finds = finds

-- if there is room, a start isn't refused with 9
pub room_not_9 : (start : Start) (bus : NamedBus) (before after : List DiskState) (f : StartFault)
    → HasRoom bus before → NotStarted start bus before after f → (start_row f).status ≡ 9 → ⊥
room_not_9 start bus before after fault.TooFew room refused is = no_room_fault bus before fault.TooFew room refused.0
room_not_9 start bus before after (fault.TooSmall node) room refused is =
    no_room_fault bus before (fault.TooSmall node) room refused.0
room_not_9 start bus before after (fault.Store node cause) room refused is = omega (arith, is)
room_not_9 start bus before after (fault.BadSlot node slot) room refused is = omega (arith, is)
room_not_9 start bus before after (fault.BadBound node cell) room refused is = omega (arith, is)
room_not_9 start bus before after fault.Memory room refused is = omega (arith, is)
