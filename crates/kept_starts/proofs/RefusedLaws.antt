-- A start that is refused after the look, and whose disk didn't fail, leaves each byte of a disk that was in use
use Rattle.std.specs.Prelude.{◌≡◌, ◌⊎◌, ℕ, ◌<◌, ◌≤◌, Some, List, length, get_or}
use Rattle.std.proofs.Common.{sym, subst, arith, inl, inr}
use Rattle.cut_disk.specs.State.{DiskState, Told}
use Rattle.cut_disk.specs.Calls.{Rose}
use Rattle.cell_store.specs.declared.kinds.Version.TheVariants.{One, Two}
use Rattle.cell_store.specs.declared.faults.Reread.TheVariants as reread
use Rattle.any_cells.specs.Either.{layout}
use Rattle.cell_store.specs.Store.{HasHeader}
use Rattle.any_cells.specs.declared.looking.Found.TheVariants.{Older}
use Rattle.any_cells.specs.Looking.{IsFound}
use Rattle.disk_looks.specs.Looks.{AllZeros}
use Rattle.program_edge.specs.Rows.{Row}
use Rattle.freshness_routes.specs.Config.{Config}
use Rattle.secoc_node.proofs.CallerLemmas.{length-CellsOf}
use Rattle.bus_machine.specs.Node.{Kept}
use Rattle.bus_config.specs.declared.node_lines.NodeLine.{NodeLine}
use Rattle.bus_config.specs.Buses.{NamedBus}
use Rattle.bus_world.specs.declared.start.Start.TheVariants.{Attach}
use Rattle.bus_world.specs.declared.start.StartFault.{StartFault}
use Rattle.bus_world.specs.declared.start.StartFault.TheVariants as fault
use Rattle.bus_world.specs.TakingUp.{KeptOn, TakenOver, LeavesDisk}
use Rattle.bus_world.specs.Starts.{HasRoom, OfNumber}
use Rattle.bus_world.specs.StartRows.{StoreCause}
use Rattle.bus_world.specs.StartAnswers.{ComesOfStart, disks_refused, store_refused, start_without_memory}
use Rattle.bus_world.proofs.CallerLemmas.{older_one, no_line}
use Rattle.kept_starts.specs.LookedAt.{config_in_bus, cells_in_bus, UnfinishedInBus, LookedAt}
use Rattle.kept_starts.specs.KeptStores.{FirstTells, RefusedStartsWriteNothing}
use Rattle.kept_starts.proofs.LookLaws.{first_line, look_older, same_faults}
use Rattle.kept_starts.proofs.KeepLaws.{blank_zeros, still, can}

module _ (bus : NamedBus) (before seen after : List DiskState) (t : Told) (one : length bus.nodes ≡ 1) (look : LookedAt bus before seen)
    (room : HasRoom bus before) (tells : FirstTells before t) (d : DiskState) (calm : ¬ Rose (get_or before 0 d).faults (get_or after 0 d).faults) where
  inside : 0 < length bus.nodes
  inside = omega (arith, one)

  still_calm : ¬ Rose (get_or seen 0 d).faults (get_or after 0 d).faults
  still_calm rose = calm (subst (λ (n : ℕ). Rose n (get_or after 0 d).faults) (same_faults bus before seen look 0 d) rose)

  -- over the cells of an older store, which were read, the node goes on
  older_kept : IsFound bus.kind bus.version (cells_in_bus bus) t.bytes Older → (kept : Kept) × KeptOn Attach bus.kind bus.version (config_in_bus bus) t.bytes kept
  older_kept older =
      let held = look_older bus before seen look room d t (tells d) older in
      let long = length-CellsOf (config_in_bus bus) held.0 held.1 in (
        held.0,
        record {
          is_kept = held.1;
          kept_as = inr (
            inr older,
            record {
              version = One;
              counting = λ head. (older_one bus.kind bus.version (cells_in_bus bus) t.bytes older).0 (subst (λ (m : ℕ). HasHeader (layout bus.kind Two) m t.bytes) long head);
              stands = held.2;
            },
          );
        },
      )

  number_one : (number : ℕ) → 1 ≤ number → number ≤ length bus.nodes → number ≡ 1
  number_one number least most = omega (arith, least, most, one)

  -- bytes over which no node is started
  abbrev NoneKept : Config → DiskState → Type 0
  NoneKept config old = (u : Told) → old.told ≡ Some u → (kept : Kept) → KeptOn Attach bus.kind bus.version config u.bytes kept → ⊥

  -- so no refusal for its bytes comes of it
  not_refused : (number : ℕ) (P : Config → DiskState → DiskState → Type 0) → ((c : Config) (old new : DiskState) → P c old new → NoneKept c old)
      → OfNumber Attach bus seen after number P → IsFound bus.kind bus.version (cells_in_bus bus) t.bytes Older → ⊥
  not_refused number P none at older =
      let first = subst (λ (n : ℕ). OfNumber Attach bus seen after n P) (number_one number at.least at.most) at in
      let kept = older_kept older in
      none (get_or bus.nodes 0 no_line).config (get_or seen 0 d) (get_or after 0 d) (first.disk no_line d) t (still bus before seen t one look room tells d) kept.0
      (subst (λ (l : NodeLine). KeptOn Attach bus.kind bus.version l.config t.bytes kept.0) (sym (first_line bus.nodes 0 no_line one inside)) kept.1)

  cause_not_older : (f : StartFault) → StoreCause Attach bus seen after f → IsFound bus.kind bus.version (cells_in_bus bus) t.bytes Older → ⊥
  cause_not_older fault.TooFew cause older = cause
  cause_not_older (fault.TooSmall number) cause older = cause
  cause_not_older (fault.Store number reread.DiskFailed) cause older =
      let first = subst (λ (n : ℕ). StoreCause Attach bus seen after (fault.Store n reread.DiskFailed)) (number_one number cause.least cause.most) cause in
      still_calm (first.disk no_line d).0
  cause_not_older (fault.Store number reread.NotFormatted) cause older = not_refused number _ (λ c old new p u tells_u. (p.0 u tells_u).none) cause older
  cause_not_older (fault.Store number (reread.Damaged place)) cause older = not_refused number _ (λ c old new p u tells_u. (p.0 u tells_u).none) cause older
  cause_not_older (fault.BadSlot number slot) cause older = not_refused number _ (λ c old new p u tells_u. (p.0 u tells_u).none) cause older
  cause_not_older (fault.BadBound number cell) cause older = not_refused number _ (λ c old new p u tells_u. (p.0 u tells_u).none) cause older
  cause_not_older fault.Memory cause older = cause

  taken_same : (f : StartFault) → StoreCause Attach bus seen after f → TakenOver bus.kind bus.version (config_in_bus bus) t (get_or after 0 d).told
      → ((get_or after 0 d).told ≡ Some t) ⊎ (AllZeros t.bytes ⊎ UnfinishedInBus bus t.bytes)
  taken_same f cause (inl same) = inl same
  taken_same f cause (inr (inl (blank, fresh))) =
      inr (blank_zeros bus t.bytes (can bus before seen t one look room tells) blank)
  taken_same f cause (inr (inr (older, moved))) = absurd (cause_not_older f cause older)

  same_or_zeros : (row : Row) → ComesOfStart Attach bus (record { before = seen; after = after }) row → row.status ≡ 10
      → ((get_or after 0 d).told ≡ Some t) ⊎ (AllZeros t.bytes ⊎ UnfinishedInBus bus t.bytes)
  same_or_zeros _ (disks_refused f finds left) ten = absurd (let no : ⊥ = omega (arith, ten) in no)
  same_or_zeros _ (store_refused f there cause leaves) ten =
      let left = subst (λ (n : NodeLine). LeavesDisk Attach bus.kind bus.version n.config (get_or seen 0 d) (get_or after 0 d))
      (first_line bus.nodes 0 no_line one inside) (leaves.leaves 0 no_line d inside) in
      elim (left t (still bus before seen t one look room tells d)) [
        | inl (taken, same) ↦ taken_same f cause taken
        | inr failed ↦ absurd (still_calm failed.failed.rose)
      ]
  same_or_zeros _ (start_without_memory f may refused quiet) ten = absurd (let no : ⊥ = omega (arith, ten) in no)

pub refused_start_writes_nothing : RefusedStartsWriteNothing
refused_start_writes_nothing bus before seen after t row one look room tells comes ten d calm =
    same_or_zeros bus before seen after t one look room tells d calm row comes ten
