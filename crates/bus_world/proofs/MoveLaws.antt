-- A node that is opened over a store that is moved to version 2 first
use Rattle.std.specs.Prelude.{◌≡◌, ℕ, ◌+◌, ◌≤◌, Option, Some, List, []}
use Rattle.std.proofs.Common.{sym, ap, ◌∙◌, subst, arith, inl, inr}
use Rattle.cut_disk.specs.State.{DiskState, Told}
use Rattle.cut_disk.specs.Images.{firm}
use Rattle.cut_disk.specs.Calls.{Rose, Runs, Grows}
use Rattle.cut_disk.proofs.CallerLemmas.{runs_none, runs_more, runs_join, grows_then}
use Rattle.cell_store.specs.declared.kinds.Kind.{Kind}
use Rattle.cell_store.specs.declared.kinds.Version.{Version}
use Rattle.cell_store.specs.declared.kinds.Version.TheVariants.{One, Two}
use Rattle.cell_store.specs.declared.faults.Reread.TheVariants as reread
use Rattle.cell_store.specs.declared.faults.StoreFault.{StoreFault}
use Rattle.cell_store.specs.declared.faults.StoreFault.TheVariants as store
use Rattle.cell_store.specs.Store.{HasHeader, Stands, store_size}
use Rattle.cell_store.specs.ReadOrder.{reads}
use Rattle.cell_store.specs.Moving.{AfterMove, StandsAsCounted, KeepsCounted, LeavesBelow, move_calls}
use Rattle.cell_store.proofs.CallerLemmas.{stands_once, stands-whole}
use Rattle.any_cells.specs.Either.{layout}
use Rattle.any_cells.specs.Migrating.{Migrated, Migrates, NotMigrated}
use Rattle.slot_disk.specs.Cell.{FirstBadSlot}
use Rattle.freshness_routes.specs.Config.{Config}
use Rattle.secoc_node.specs.Cells.{CellsOf, SlotsButNoBound}
use Rattle.secoc_node.specs.State.{NodeState}
use Rattle.bus_world.specs.declared.opening.OpenFault.{OpenFault}
use Rattle.bus_world.specs.declared.opening.OpenFault.TheVariants as open_fault
use Rattle.bus_world.specs.TakingUp.{cells_in, CountsRefusal, StandsSo}
use Rattle.bus_world.specs.Opening.{AttachedTo, AttachCauseOf, NotAttachedTo, MovedTo, MoveCauseOf, LeavesMoved, NotMovedTo, StandsAs, of_store}

-- bytes that are told after a move stand in version 2 for the cells that were moved
record NowStands (kind : Kind) (cells : List (List ℕ)) (new : Option Told) : Type 0 where
  pub now : Told
  pub told : new ≡ Some now
  pub stands : Stands (layout kind Two) now.bytes cells

now_stands : (kind : Kind) (cells : List (List ℕ)) (t : Told) (new : Option Told) (version : Version) → Stands (layout kind version) t.bytes cells
    → AfterMove kind cells t new version → NowStands kind cells new
now_stands kind cells t new One stands after = record { now = firm after.bytes; told = after.told; stands = after.stands }
now_stands kind cells t new Two stands after = record { now = t; told = after; stands = stands }

moved_stands : (kind : Kind) (n : ℕ) (t : Told) (new : Option Told) → (m : Migrated kind n t new) → NowStands kind m.cells new
moved_stands kind n t new m = now_stands kind m.cells t new m.moved.before.version m.moved.before.stands m.moved.after

-- if no byte was loose, none is after a move
now_firm : (kind : Kind) (cells : List (List ℕ)) (b : List ℕ) (new : Option Told) (version : Version) → AfterMove kind cells (firm b) new version → (c : List ℕ) × (new ≡ Some (firm c))
now_firm kind cells b new One after = (after.bytes, after.told)
now_firm kind cells b new Two after = (b, after)

-- ---- the store is moved, and the node is attached to it

module _ (kind : Kind) (config : Config) (before mid : DiskState) (runs : Runs [] (move_calls kind (cells_in config)) before mid)
    (faults : mid.faults ≡ before.faults) (migrates : Migrates kind (cells_in config) before.told mid.told) where
  pub moved_to : (n : NodeState) → Grows before mid → AttachedTo kind Two config mid n → MovedTo kind config before n
  moved_to n grows a = record {
    just_powered = a.just_powered;
    sound = a.sound;
    layout_is = a.layout_is;
    stood = λ t told.
        let m = migrates t told in
        let now = moved_stands kind (cells_in config) t mid.told m in
        subst (λ cells. StandsAsCounted kind cells t.bytes)
        (stands_once (layout kind Two) now.now.bytes m.cells (CellsOf config n.node.kept) now.stands (a.stands now.now now.told)) m.moved.before;
    moved = subst (λ o. Migrates kind (cells_in config) before.told o) (sym a.told) migrates;
    fits = λ b told.
        let m = migrates (firm b) told in
        let now = now_firm kind m.cells b mid.told m.moved.before.version m.moved.after in
        a.fits now.0 now.1;
    runs = runs_join runs a.runs;
    grows = grows_then grows a.runs;
    faults = a.faults ∙ faults;
  }

  -- the cells that stand after the move are those that stood before it
  so_before : (t : Told) (m : Migrated kind (cells_in config) t mid.told) (P : List (List ℕ) → Type 0)
      → ((u : Told) → mid.told ≡ Some u → StandsAs (layout kind Two) (cells_in config) u.bytes P) → StandsSo kind (cells_in config) t.bytes P
  so_before t m P such =
      let now = moved_stands kind (cells_in config) t mid.told m in
      let c = such now.now now.told in
      record {
        cells = m.cells;
        count = m.count;
        stands = m.moved.before;
        such = subst P (stands_once (layout kind Two) now.now.bytes c.cells m.cells c.stands now.stands) c.such;
      }

  move_cause : (after : DiskState) (fault : OpenFault) → AttachCauseOf kind Two config mid after fault → MoveCauseOf kind config before after fault
  move_cause after (open_fault.Store reread.DiskFailed) cause = subst (λ k. Rose k after.faults) faults cause
  move_cause after (open_fault.Store reread.NotFormatted) cause = λ t told.
      let m = migrates t told in
      let now = moved_stands kind (cells_in config) t mid.told m in
      absurd (cause now.now now.told (subst (λ k. HasHeader (layout kind Two) k now.now.bytes) m.count now.stands.head))
  move_cause after (open_fault.Store (reread.Damaged i)) cause = λ t told.
      let m = migrates t told in
      let now = moved_stands kind (cells_in config) t mid.told m in
      absurd (stands-whole (layout kind Two) now.now.bytes m.cells (cells_in config) i now.stands m.count (cause now.now now.told).1)
  move_cause after (open_fault.BadSlot slot) cause = λ t told. so_before t (migrates t told) (λ cells. FirstBadSlot cells slot) cause
  move_cause after (open_fault.BadBound place) cause = λ t told. so_before t (migrates t told) (λ cells. SlotsButNoBound config.routes cells place) cause
  move_cause after open_fault.TooSmall cause = cause
  move_cause after open_fault.Memory cause = tt

  leaves_moved : (after : DiskState) (fault : OpenFault) → after.told ≡ mid.told → LeavesMoved kind (cells_in config) before.told after.told fault
  leaves_moved after (open_fault.Store reread.DiskFailed) same = tt
  leaves_moved after (open_fault.Store reread.NotFormatted) same = λ t told. inr (subst (Migrated kind (cells_in config) t) (sym same) (migrates t told))
  leaves_moved after (open_fault.Store (reread.Damaged i)) same = λ t told. inr (subst (Migrated kind (cells_in config) t) (sym same) (migrates t told))
  leaves_moved after (open_fault.BadSlot slot) same = λ t told. subst (Migrated kind (cells_in config) t) (sym same) (migrates t told)
  leaves_moved after (open_fault.BadBound place) same = λ t told. subst (Migrated kind (cells_in config) t) (sym same) (migrates t told)
  leaves_moved after open_fault.TooSmall same = λ t told. inr (subst (Migrated kind (cells_in config) t) (sym same) (migrates t told))
  leaves_moved after open_fault.Memory same = λ t told. inr (subst (Migrated kind (cells_in config) t) (sym same) (migrates t told))

  pub not_moved_attach : (after : DiskState) (fault : OpenFault) → KeepsCounted kind (cells_in config) before.told mid.told → LeavesBelow kind (cells_in config) before.told mid.told
      → NotAttachedTo kind Two config mid after fault → NotMovedTo kind config before after fault
  not_moved_attach after fault keeps besides a = record {
    runs = runs_join runs a.runs;
    cause = move_cause after fault a.cause;
    counts = subst (λ k. CountsRefusal fault k after.faults) faults a.counts;
    at_fault = a.at_fault;
    leaves = leaves_moved after fault a.told;
    keeps = subst (λ o. KeepsCounted kind (cells_in config) before.told o) (sym a.told) keeps;
    besides = subst (λ o. LeavesBelow kind (cells_in config) before.told o) (sym a.told) besides;
  }

-- ---- the store isn't moved

pub not_moved : (kind : Kind) (config : Config) (before after : DiskState) (f : StoreFault) → store_size (layout kind Two) (cells_in config) ≤ before.size
    → NotMigrated kind (cells_in config) before after f → KeepsCounted kind (cells_in config) before.told after.told → LeavesBelow kind (cells_in config) before.told after.told
    → NotMovedTo kind config before after (of_store f)
not_moved kind config before after store.TooSmall room h keeps besides = absurd (omega (arith, room, h.0))
not_moved kind config before after store.Memory room h keeps besides = record {
  runs = subst (λ d. Runs [] (move_calls kind (cells_in config) + reads kind (cells_in config)) before d) (sym h.1)
      (runs_more (move_calls kind (cells_in config) + reads kind (cells_in config)) (omega arith) (runs_none before));
  cause = tt;
  counts = ap (λ (d : DiskState). d.faults) h.1;
  at_fault = tt;
  leaves = λ t told. inl (ap (λ (d : DiskState). d.told) h.1 ∙ told);
  keeps = keeps;
  besides = besides;
}
not_moved kind config before after store.DiskFailed room h keeps besides = record {
  runs = runs_more (move_calls kind (cells_in config) + reads kind (cells_in config)) (omega arith) h.runs;
  cause = h.unmoved;
  counts = h.unmoved;
  at_fault = tt;
  leaves = tt;
  keeps = keeps;
  besides = besides;
}
not_moved kind config before after store.NotFormatted room h keeps besides = record {
  runs = runs_more (move_calls kind (cells_in config) + reads kind (cells_in config)) (omega arith) h.runs;
  cause = λ t told. (h.unmoved.1 t told).0;
  counts = h.unmoved.0.faults;
  at_fault = tt;
  leaves = λ t told. inl (h.unmoved.0.told ∙ told);
  keeps = keeps;
  besides = besides;
}
not_moved kind config before after (store.Damaged i) room h keeps besides = record {
  runs = runs_more (move_calls kind (cells_in config) + reads kind (cells_in config)) (omega arith) h.runs;
  cause = h.unmoved.1;
  counts = h.unmoved.0.faults;
  at_fault = tt;
  leaves = λ t told. inl (h.unmoved.0.told ∙ told);
  keeps = keeps;
  besides = besides;
}
