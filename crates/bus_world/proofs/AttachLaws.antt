-- A node that is attached to its store, from what attaching the store and the node ensure
use Rattle.std.specs.Prelude.{◌≡◌, ℕ, ◌≤◌, min, Some, []}
use Rattle.std.proofs.Common.{sym, ap, ◌∙◌, subst, arith}
use Rattle.cut_disk.specs.State.{DiskState, Told}
use Rattle.cut_disk.specs.Calls.{Runs, Grows}
use Rattle.cut_disk.proofs.CallerLemmas.{runs_none, runs_more}
use Rattle.cell_store.specs.declared.kinds.Kind.{Kind}
use Rattle.cell_store.specs.declared.kinds.Version.{Version}
use Rattle.cell_store.specs.declared.faults.Reread.TheVariants as reread
use Rattle.cell_store.specs.declared.faults.StoreFault.{StoreFault}
use Rattle.cell_store.specs.declared.faults.StoreFault.TheVariants as store
use Rattle.cell_store.specs.Store.{Stands, HasHeader, store_size}
use Rattle.cell_store.specs.Cells.{CellsState, Settled}
use Rattle.cell_store.specs.Reading.{StaysTold}
use Rattle.cell_store.specs.ReadOrder.{reads, reads_to}
use Rattle.cell_store.specs.Attaching.{Attached, NotAttached}
use Rattle.cell_store.proofs.CallerLemmas.{stands_once, stands-whole, stays_none}
use Rattle.any_cells.specs.Either.{layout}
use Rattle.slot_disk.specs.Cell.{FirstBadSlot}
use Rattle.freshness_routes.specs.Config.{Config, IsConfig}
use Rattle.bus_machine.specs.Node.{Node, Kept, powered}
use Rattle.bus_machine.specs.Sound.{Sound}
use Rattle.secoc_node.specs.declared.faults.AttachFault.{AttachFault}
use Rattle.secoc_node.specs.declared.faults.AttachFault.TheVariants as cells
use Rattle.secoc_node.specs.Cells.{CellsOf, IsKept, SlotsButNoBound}
use Rattle.secoc_node.specs.Causes.{AttachCause}
use Rattle.secoc_node.specs.State.{NodeState, FitsNow}
use Rattle.secoc_node.proofs.CallerLemmas.{length-CellsOf, kept_of_sound, no_bad_slot, no_bad_bound}
use Rattle.bus_world.specs.declared.opening.OpenFault.{OpenFault}
use Rattle.bus_world.specs.declared.opening.OpenFault.TheVariants as open_fault
use Rattle.bus_world.specs.TakingUp.{cells_in}
use Rattle.bus_world.specs.Opening.{AttachedTo, AttachCauseOf, NotAttachedTo, of_store, of_cells}

pub attached_to : (kind : Kind) (version : Version) (config : Config) (before : DiskState) (s : CellsState) (n : NodeState)
    → Attached (layout kind version) (reads kind (cells_in config)) (cells_in config) before s
    → n.node ≡ powered config n.node.kept → s.cells ≡ CellsOf config n.node.kept → n.store ≡ s → Sound n.node → (Settled s → FitsNow n)
    → AttachedTo kind version config before n
attached_to kind version config before s n a up kept store_is sound fits = record {
  just_powered = up;
  sound = sound;
  layout_is = ap (λ (c : CellsState). c.layout) store_is ∙ a.laid_out;
  stands = λ t told. subst (Stands (layout kind version) t.bytes) kept (a.stands t told);
  fits = λ b told. fits (a.settled b told);
  runs = subst (λ (c : CellsState). Runs [] (reads kind (cells_in config)) before c.disk) (sym store_is) a.as_before.runs;
  told = ap (λ (c : CellsState). c.disk.told) store_is ∙ a.as_before.told;
  stays = subst (λ (c : CellsState). StaysTold before c.disk) (sym store_is) a.as_before.stays;
  grows = subst (λ (c : CellsState). Grows before c.disk) (sym store_is) a.grows;
  faults = ap (λ (c : CellsState). c.disk.faults) store_is ∙ a.as_before.faults;
}

-- what a sound node keeps that has just powered up with this configuration
pub kept_powered : (config : Config) (node : Node) → node ≡ powered config node.kept → Sound node → IsKept config node.kept
kept_powered config node up sound = subst (λ c. IsKept c node.kept) (ap (λ (m : Node). m.config) up) (kept_of_sound node sound)

min_within : (all n : ℕ) → min all n ≤ all
min_within all n = omega arith

-- the store isn't read
pub not_attached_store : (kind : Kind) (version : Version) (config : Config) (before after : DiskState) (f : StoreFault)
    → store_size (layout kind version) (cells_in config) ≤ before.size
    → NotAttached (layout kind version) (reads kind (cells_in config)) (reads_to kind (cells_in config)) (cells_in config) before after f
    → NotAttachedTo kind version config before after (of_store f)
not_attached_store kind version config before after store.TooSmall room h = absurd (omega (arith, room, h.0))
not_attached_store kind version config before after store.Memory room h = record {
  runs = subst (λ d. Runs [] (reads kind (cells_in config)) before d) (sym h.1) (runs_more (reads kind (cells_in config)) (omega arith) (runs_none before));
  told = ap (λ (d : DiskState). d.told) h.1;
  stays = subst (λ (d : DiskState). StaysTold before d) (sym h.1) (stays_none before);
  cause = tt;
  counts = ap (λ (d : DiskState). d.faults) h.1;
  at_fault = tt;
}
not_attached_store kind version config before after store.DiskFailed room h = record {
  runs = h.leaves.runs;
  told = h.leaves.told;
  stays = h.leaves.stays;
  cause = h.leaves.rose;
  counts = h.leaves.rose;
  at_fault = tt;
}
not_attached_store kind version config before after store.NotFormatted room h = record {
  runs = runs_more (reads kind (cells_in config)) (min_within (reads kind (cells_in config)) 1) h.leaves.runs;
  told = h.leaves.told;
  stays = h.leaves.stays;
  cause = h.finds;
  counts = h.leaves.faults;
  at_fault = tt;
}
not_attached_store kind version config before after (store.Damaged place) room h = record {
  runs = runs_more (reads kind (cells_in config)) (min_within (reads kind (cells_in config)) (reads_to kind (cells_in config) place)) h.leaves.runs;
  told = h.leaves.told;
  stays = h.leaves.stays;
  cause = h.finds;
  counts = h.leaves.faults;
  at_fault = tt;
}

-- the cells are no node's
module _ (kind : Kind) (version : Version) (config : Config) (before after : DiskState) (s : CellsState)
    (a : Attached (layout kind version) (reads kind (cells_in config)) (cells_in config) before s) (same : after ≡ s.disk) where
  runs : Runs [] (reads kind (cells_in config)) before after
  runs = subst (λ d. Runs [] (reads kind (cells_in config)) before d) (sym same) a.as_before.runs

  told : after.told ≡ before.told
  told = ap (λ (d : DiskState). d.told) same ∙ a.as_before.told

  stays : StaysTold before after
  stays = subst (λ (d : DiskState). StaysTold before d) (sym same) a.as_before.stays

  faults : after.faults ≡ before.faults
  faults = ap (λ (d : DiskState). d.faults) same ∙ a.as_before.faults

  pub not_attached_cells : (f : AttachFault) → AttachCause config.routes s.cells f → NotAttachedTo kind version config before after (of_cells f)
  not_attached_cells (cells.BadSlot slot) cause = record {
    runs = runs;
    told = told;
    stays = stays;
    cause = λ t is. record { cells = s.cells; count = a.count; stands = a.stands t is; such = cause };
    counts = faults;
    at_fault = (s.cells, a.count, cause);
  }
  not_attached_cells (cells.BadBound place) cause = record {
    runs = runs;
    told = told;
    stays = stays;
    cause = λ t is. record { cells = s.cells; count = a.count; stands = a.stands t is; such = cause };
    counts = faults;
    at_fault = (s.cells, a.count, cause);
  }
  not_attached_cells cells.Memory cause =
      record { runs = runs; told = told; stays = stays; cause = tt; counts = faults; at_fault = tt }

-- only the disk or memory is told by this refusal
abbrev pub OnlyDiskOrMemory : OpenFault → Type 0
OnlyDiskOrMemory (open_fault.Store reread.DiskFailed) = Unit {0}
OnlyDiskOrMemory open_fault.Memory = Unit {0}
OnlyDiskOrMemory fault = ⊥

-- where told bytes stand for the cells of what a node keeps, no other cause is left
pub of_kept_alone : (kind : Kind) (version : Version) (config : Config) (before after : DiskState) (fault : OpenFault) (t : Told) (kept : Kept) → IsConfig config → IsKept config kept
    → before.told ≡ Some t → Stands (layout kind version) t.bytes (CellsOf config kept) → AttachCauseOf kind version config before after fault → OnlyDiskOrMemory fault
of_kept_alone kind version config before after (open_fault.Store reread.DiskFailed) t kept good is tells stands cause = tt
of_kept_alone kind version config before after (open_fault.Store reread.NotFormatted) t kept good is tells stands cause =
    cause t tells (subst (λ n. HasHeader (layout kind version) n t.bytes) (length-CellsOf config kept is) stands.head)
of_kept_alone kind version config before after (open_fault.Store (reread.Damaged i)) t kept good is tells stands cause =
    stands-whole (layout kind version) t.bytes (CellsOf config kept) (cells_in config) i stands (length-CellsOf config kept is) (cause t tells).1
of_kept_alone kind version config before after (open_fault.BadSlot slot) t kept good is tells stands cause =
    let c = cause t tells in
    no_bad_slot config kept slot is (subst (λ xs. FirstBadSlot xs slot) (stands_once (layout kind version) t.bytes c.cells (CellsOf config kept) c.stands stands) c.such)
of_kept_alone kind version config before after (open_fault.BadBound place) t kept good is tells stands cause =
    let c = cause t tells in
    no_bad_bound config kept place good is
    (subst (λ xs. SlotsButNoBound config.routes xs place) (stands_once (layout kind version) t.bytes c.cells (CellsOf config kept) c.stands stands) c.such)
of_kept_alone kind version config before after open_fault.TooSmall t kept good is tells stands cause = cause
of_kept_alone kind version config before after open_fault.Memory t kept good is tells stands cause = tt
