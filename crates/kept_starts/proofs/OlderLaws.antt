-- What is seen on a disk, and the cells of a store in version 1 that a start would move
use Rattle.std.specs.Prelude.{◌≡◌, ◌⊎◌, ℕ, ◌≤◌, min, Some, List, [], length, Result, Ok, Err, OnOk, IfErr}
use Rattle.std.proofs.Common.{refl, sym, ap, ◌∙◌, subst, arith, inl, inr}
use Rattle.cut_disk.specs.State.{DiskState, Told}
use Rattle.cut_disk.specs.Calls.{Rose, Runs, AsBefore}
use Rattle.cut_disk.proofs.CallerLemmas.{runs_more, runs_join}
use Rattle.cell_store.specs.declared.kinds.Kind.{Kind}
use Rattle.cell_store.specs.declared.kinds.Version.{Version}
use Rattle.cell_store.specs.declared.kinds.Version.TheVariants.{One, Two}
use Rattle.cell_store.specs.declared.faults.StoreFault.{StoreFault}
use Rattle.cell_store.specs.declared.faults.StoreFault.TheVariants as store
use Rattle.any_cells.specs.Either.{layout}
use Rattle.cell_store.specs.Store.{FewCells, FirstDamaged, HasHeader, Stands, store_size}
use Rattle.cell_store.proofs.CallerLemmas.{stands_once, stands-whole}
use Rattle.slot_disk.specs.Cell.{FirstBadSlot}
use Rattle.cell_store.specs.Moving.{CountsAs, StandsAsCounted}
use Rattle.cell_store.specs.Cells.{CellsState}
use Rattle.cell_store.specs.ReadOrder.{reads, reads_to}
use Rattle.cell_store.specs.Attaching.{Attached, NotAttached}
use Rattle.any_cells.specs.declared.looking.Found.TheVariants.{Older, Foreign}
use Rattle.any_cells.specs.Looking.{IsFound}
use Rattle.store_growing.specs.declared.headers.StoreHeader.{StoreHeader}
use Rattle.store_growing.specs.StoreHeaders.{HeaderStands, store_header}
use Rattle.disk_looks.specs.declared.looks.Seen.{Seen}
use Rattle.disk_looks.specs.declared.looks.Seen.TheVariants as see
use Rattle.disk_looks.specs.declared.looks.LookFault.TheVariants as look_fault
use Rattle.disk_looks.specs.Looks.{CanKeep, FailsLook, seen_unused, seen_standing, seen_older}
use Rattle.disk_looks.proofs.CallerLemmas.{zeros_headless}
use Rattle.freshness_routes.specs.Config.{Config, IsConfig}
use Rattle.bus_machine.specs.Node.{Kept, Node, powered}
use Rattle.bus_machine.specs.Sound.{Sound}
use Rattle.secoc_node.specs.Cells.{CellsOf, IsKept, SlotsButNoBound}
use Rattle.secoc_node.proofs.CallerLemmas.{kept_of_sound, length-CellsOf, no_bad_bound, no_bad_slot}
use Rattle.secoc_node.specs.Causes.{AttachCause}
use Rattle.secoc_node.specs.declared.faults.AttachFault.{AttachFault}
use Rattle.secoc_node.specs.declared.faults.AttachFault.TheVariants as cells
use Rattle.bus_config.specs.Buses.{NamedBus}
use Rattle.bus_world.specs.TakingUp.{cells_in, new_cells, HasNodeStore, KeptOn, NoNodes}
use Rattle.bus_world.specs.declared.start.Start.TheVariants.{Attach}
use Rattle.bus_world.specs.Opening.{of_store, of_cells}
use Rattle.bus_world.proofs.CallerLemmas.{older_one}
use Rattle.kept_starts.specs.declared.first.KeepFault.{KeepFault}
use Rattle.kept_starts.specs.declared.first.KeepFault.TheVariants as keep
use Rattle.kept_starts.specs.LookedAt.{cells_in_bus, size_in_bus, config_in_bus, cells_calls, look_calls, SeenInBus, KeepsTold, KeepsOlder, TellsUnfinished, HoldsOldCells, UnreadInBus, CellsNotInBus, KeepCause, FailsToKeepWithin, keep_fault_of_store, keep_fault_of_cells}
use Rattle.kept_starts.proofs.LookLaws.{unlooked}
use Rattle.kept_starts.proofs.UnfinishedLaws.{unfinished_not_older}
use Rattle.kept_starts.proofs.KeepLaws.{blank_low, first_alone, second_there, first_not_blank}

-- ---- what is seen

module _ (bus : NamedBus) (x : List ℕ) where
  keep_unused : SeenInBus bus x see.Unused → CanKeep bus.kind bus.version (cells_in_bus bus) x
  keep_unused (seen_unused zeros) = inl zeros

  keep_standing : SeenInBus bus x see.Standing → CanKeep bus.kind bus.version (cells_in_bus bus) x
  keep_standing (seen_standing stands) = inr (_, stands, inl refl)

  keep_older : SeenInBus bus x see.Older → CanKeep bus.kind bus.version (cells_in_bus bus) x
  keep_older (seen_older two stands) = inr (_, stands, inr (two, refl))

  unused_not_older : SeenInBus bus x see.Unused → IsFound bus.kind bus.version (cells_in_bus bus) x Older → ⊥
  unused_not_older (seen_unused zeros) older =
      zeros_headless (layout bus.kind One) (cells_in_bus bus) x zeros (older_one bus.kind bus.version (cells_in_bus bus) x older).1

-- the store that is wanted stands in the version that is wanted, so none is older
wanted_not_older : (kind : Kind) (version : Version) (n : ℕ) (x : List ℕ) → HeaderStands x (Some (store_header kind version n)) → IsFound kind version n x Older → ⊥
wanted_not_older kind One n x stands (inl (high, is)) = absurd (let no : ⊥ = cc in no)
wanted_not_older kind One n x stands (inr (none, inl (blank, is))) = absurd (let no : ⊥ = cc in no)
wanted_not_older kind One n x stands (inr (none, inr (neither, inl (low, is)))) = absurd (let no : ⊥ = cc in no)
wanted_not_older kind One n x stands (inr (none, inr (neither, inr (other, is)))) = absurd (let no : ⊥ = cc in no)
wanted_not_older kind Two n x stands older = (older_one kind Two n x older).0 (second_there x (store_header kind Two n) stands refl)

standing_not_older : (bus : NamedBus) (x : List ℕ) → SeenInBus bus x see.Standing → IsFound bus.kind bus.version (cells_in_bus bus) x Older → ⊥
standing_not_older bus x (seen_standing stands) older = wanted_not_older bus.kind bus.version (cells_in_bus bus) x stands older

module _ (bus : NamedBus) (disk : DiskState) where
  abbrev pub SeesTold : Seen → Type 0
  SeesTold seen = (t : Told) → disk.told ≡ Some t → SeenInBus bus t.bytes seen

  told_unused : SeesTold see.Unused → KeepsTold bus disk × KeepsOlder bus disk
  told_unused sees = (
    λ t tells. inl (keep_unused bus t.bytes (sees t tells)),
    λ t tells older. absurd (unused_not_older bus t.bytes (sees t tells) older),
  )

  told_standing : SeesTold see.Standing → KeepsTold bus disk × KeepsOlder bus disk
  told_standing sees = (
    λ t tells. inl (keep_standing bus t.bytes (sees t tells)),
    λ t tells older. absurd (standing_not_older bus t.bytes (sees t tells) older),
  )

  -- unused, or the store stands as it is wanted
  pub told_either : (seen : Seen) → (seen ≡ see.Unused) ⊎ (seen ≡ see.Standing) → SeesTold seen → KeepsTold bus disk × KeepsOlder bus disk
  told_either seen (inl is) sees = told_unused (subst SeesTold is sees)
  told_either seen (inr is) sees = told_standing (subst SeesTold is sees)

  pub told_older : SeesTold see.Older → KeepsTold bus disk
  told_older sees t tells = inl (keep_older bus t.bytes (sees t tells))

  pub older_held : HoldsOldCells bus disk → KeepsOlder bus disk
  older_held holds t tells older = holds t tells

  pub other_fails : (there : StoreHeader) → SeesTold (see.Other there) → FailsToKeepWithin (cells_calls bus) bus disk disk (keep.OtherStore there)
  other_fails there sees = record { runs = (unlooked (cells_calls bus) disk).runs; told = refl; cause = (refl, sees) }

  -- neither a store nor zeros, but the node's unfinished format
  pub told_begun : TellsUnfinished bus disk → KeepsTold bus disk × KeepsOlder bus disk
  told_begun begun = (
    λ t tells. inr (begun t tells),
    λ t tells older. absurd (unfinished_not_older bus.kind bus.version (new_cells (config_in_bus bus)) t.bytes (begun t tells) bus.kind bus.version (cells_in_bus bus) older),
  )

-- ---- the cells in version 1

min_within : (all n : ℕ) → min all n ≤ all
min_within all n = omega arith

pub room_one : (kind : Kind) (version : Version) (n size : ℕ) → store_size (layout kind version) n ≤ size → store_size (layout kind One) n ≤ size
room_one kind One n size room = room
room_one kind Two n size room = omega (arith, room)

-- the bytes of an older store, whatever stands in them
module _ (kind : Kind) (n : ℕ) (x : List ℕ) (few : FewCells n) (stands : HeaderStands x (Some (store_header kind One n))) where
  no_second : HasHeader (layout kind Two) n x → ⊥
  no_second head = (first_alone x (store_header kind One n) stands refl).0 (kind, n, few, head)

  found_older : HasHeader (layout kind One) n x → IsFound kind Two n x Older
  found_older head = inr (no_second, inl (head, refl))

  found_foreign : (HasHeader (layout kind One) n x → ⊥) → IsFound kind Two n x Foreign
  found_foreign none = inr (no_second, inr (none, inr ((λ blank. first_not_blank kind x (first_alone x (store_header kind One n) stands refl).1 blank.0), refl)))

  -- what a node keeps that is started over them stands in version 1
  stands_one : (version : Version) (cells : List (List ℕ)) → length cells ≡ n → CountsAs kind (length cells) x version → Stands (layout kind version) x cells
      → Stands (layout kind One) x cells
  stands_one One cells count counting is = is
  stands_one Two cells count counting is = absurd (no_second (subst (λ (m : ℕ). HasHeader (layout kind Two) m x) count counting))

  kept_one : (config : Config) (kept : Kept) → cells_in config ≡ n → KeptOn Attach kind Two config x kept → Stands (layout kind One) x (CellsOf config kept)
  kept_one config kept long k = elim k.kept_as [
    | inl blank ↦ absurd (first_not_blank kind x (first_alone x (store_header kind One n) stands refl).1 (blank_low kind Two (cells_in config) x blank.0))
    | inr counted ↦
        stands_one counted.1.version (CellsOf config kept) (length-CellsOf config kept k.is_kept ∙ long) counted.1.counting counted.1.stands
  ]

  counts_one : (cells : List (List ℕ)) → length cells ≡ n → Stands (layout kind One) x cells → StandsAsCounted kind cells x
  counts_one cells count is = record {
    version = One;
    counting = λ head. no_second (subst (λ (m : ℕ). HasHeader (layout kind Two) m x) count head);
    stands = is;
  }

module _ (bus : NamedBus) (before : DiskState) (few : FewCells (cells_in_bus bus)) (good : IsConfig (config_in_bus bus)) (older : SeesTold bus before see.Older) where
  abbrev config : Config
  config = config_in_bus bus

  -- what is kept over them, in the version of the bus
  kept_here : (x : List ℕ) (kept : Kept) → SeenInBus bus x see.Older → KeptOn Attach bus.kind bus.version config x kept → Stands (layout bus.kind One) x (CellsOf config kept)
  kept_here x kept (seen_older two stands) k =
      kept_one bus.kind (cells_in_bus bus) x few stands config kept refl (subst (λ (v : Version). KeptOn Attach bus.kind v config x kept) two k)

  -- why they are no node's, in the version of the bus
  unread_why : (x : List ℕ) (f : StoreFault) → SeenInBus bus x see.Older
      → (HeaderStands x (Some (store_header bus.kind One (cells_in_bus bus))) → NoNodes bus.kind Two config x (of_store f)) → NoNodes bus.kind bus.version config x (of_store f)
  unread_why x f (seen_older two stands) why = subst (λ (v : Version). NoNodes bus.kind v config x (of_store f)) (sym two) (why stands)

  cells_why : (x : List ℕ) (f : AttachFault) → SeenInBus bus x see.Older
      → (HeaderStands x (Some (store_header bus.kind One (cells_in_bus bus))) → NoNodes bus.kind Two config x (of_cells f)) → NoNodes bus.kind bus.version config x (of_cells f)
  cells_why x f (seen_older two stands) why = subst (λ (v : Version). NoNodes bus.kind v config x (of_cells f)) (sym two) (why stands)

  not_formatted : (x : List ℕ) → SeenInBus bus x see.Older → (HasHeader (layout bus.kind One) (cells_in_bus bus) x → ⊥) → UnreadInBus bus x store.NotFormatted
  not_formatted x sees none = record {
    why = unread_why x store.NotFormatted sees (λ stands. found_foreign bus.kind (cells_in_bus bus) x few stands none);
    none = λ kept k. none (subst (λ (m : ℕ). HasHeader (layout bus.kind One) m x) (length-CellsOf config kept k.is_kept) (kept_here x kept sees k).head);
  }

  is_damaged : (x : List ℕ) (place : ℕ) → SeenInBus bus x see.Older → HasHeader (layout bus.kind One) (cells_in_bus bus) x
      → FirstDamaged (layout bus.kind One) x (cells_in_bus bus) place → UnreadInBus bus x (store.Damaged place)
  is_damaged x place sees head damaged = record {
    why = unread_why x (store.Damaged place) sees (λ stands. (
      inr (found_older bus.kind (cells_in_bus bus) x few stands head),
      record { version = One; counting = no_second bus.kind (cells_in_bus bus) x few stands; head = head; damaged = damaged },
    ));
    none = λ kept k.
        stands-whole (layout bus.kind One) x (CellsOf config kept) (cells_in_bus bus) place (kept_here x kept sees k) (length-CellsOf config kept k.is_kept) damaged;
  }

  module _ (x : List ℕ) (list : List (List ℕ)) (count : length list ≡ cells_in_bus bus) (stand : Stands (layout bus.kind One) x list) (sees : SeenInBus bus x see.Older) where
    -- what a node keeps over them is that list
    kept_list : (kept : Kept) → KeptOn Attach bus.kind bus.version config x kept → list ≡ CellsOf config kept
    kept_list kept k = stands_once (layout bus.kind One) x list (CellsOf config kept) stand (kept_here x kept sees k)

    node_store : HeaderStands x (Some (store_header bus.kind One (cells_in_bus bus))) → HasNodeStore bus.kind Two (cells_in_bus bus) x
    node_store stands =
        inr (found_older bus.kind (cells_in_bus bus) x few stands (subst (λ (m : ℕ). HasHeader (layout bus.kind One) m x) count stand.head))

    bad_slot : (slot : ℕ) → FirstBadSlot list slot → CellsNotInBus bus x (cells.BadSlot slot)
    bad_slot slot bad = record {
      why = cells_why x (cells.BadSlot slot) sees (λ stands. (
        node_store stands,
        record { cells = list; count = count; stands = counts_one bus.kind (cells_in_bus bus) x few stands list count stand; such = bad },
      ));
      none = λ kept k. no_bad_slot config kept slot k.is_kept (subst (λ (xs : List (List ℕ)). FirstBadSlot xs slot) (kept_list kept k) bad);
    }

    bad_bound : (place : ℕ) → SlotsButNoBound config.routes list place → CellsNotInBus bus x (cells.BadBound place)
    bad_bound place bad = record {
      why = cells_why x (cells.BadBound place) sees (λ stands. (
        node_store stands,
        record { cells = list; count = count; stands = counts_one bus.kind (cells_in_bus bus) x few stands list count stand; such = bad },
      ));
      none = λ kept k. no_bad_bound config kept place good k.is_kept (subst (λ (xs : List (List ℕ)). SlotsButNoBound config.routes xs place) (kept_list kept k) bad);
    }

  abbrev kept_reads : ℕ
  kept_reads = reads bus.kind (cells_in_bus bus)

  pub unread_fails : (after : DiskState) (f : StoreFault) → store_size (layout bus.kind One) (cells_in_bus bus) ≤ before.size
      → NotAttached (layout bus.kind One) kept_reads (reads_to bus.kind (cells_in_bus bus)) (cells_in_bus bus) before after f
      → FailsToKeepWithin (cells_calls bus) bus before after (keep_fault_of_store f)
  unread_fails after store.TooSmall room h = absurd (let no : ⊥ = omega (arith, room, h.0) in no)
  unread_fails after store.Memory room h = record {
    runs = subst (λ (d : DiskState). Runs [] (cells_calls bus) before d) (sym h.1) (unlooked (cells_calls bus) before).runs;
    told = ap (λ (d : DiskState). d.told) h.1;
    cause = ap (λ (d : DiskState). d.faults) h.1;
  }
  unread_fails after store.DiskFailed room h = record { runs = h.leaves.runs; told = h.leaves.told; cause = h.leaves.rose }
  unread_fails after store.NotFormatted room h = record {
    runs = runs_more kept_reads (min_within kept_reads 1) h.leaves.runs;
    told = h.leaves.told;
    cause = (h.leaves.faults, λ t tells. inr (not_formatted t.bytes (older t tells) (h.finds t tells)));
  }
  unread_fails after (store.Damaged place) room h = record {
    runs = runs_more kept_reads (min_within kept_reads (reads_to bus.kind (cells_in_bus bus) place)) h.leaves.runs;
    told = h.leaves.told;
    cause = (h.leaves.faults, λ t tells. let says = h.finds t tells in is_damaged t.bytes place (older t tells) says.0 says.1);
  }

  module _ (after : DiskState) (s : CellsState) (a : Attached (layout bus.kind One) kept_reads (cells_in_bus bus) before s) (same : after ≡ s.disk) where
    runs_here : Runs [] (cells_calls bus) before after
    runs_here = subst (λ (d : DiskState). Runs [] (cells_calls bus) before d) (sym same) a.as_before.runs

    told_here : after.told ≡ before.told
    told_here = ap (λ (d : DiskState). d.told) same ∙ a.as_before.told

    faults_here : after.faults ≡ before.faults
    faults_here = ap (λ (d : DiskState). d.faults) same ∙ a.as_before.faults

    pub cells_fail : (f : AttachFault) → AttachCause config.routes s.cells f → FailsToKeepWithin (cells_calls bus) bus before after (keep_fault_of_cells f)
    cells_fail (cells.BadSlot slot) cause = record {
      runs = runs_here;
      told = told_here;
      cause = (faults_here, λ t tells. bad_slot t.bytes s.cells a.count (a.stands t tells) (older t tells) slot cause);
    }
    cells_fail (cells.BadBound place) cause = record {
      runs = runs_here;
      told = told_here;
      cause = (faults_here, λ t tells. bad_bound t.bytes s.cells a.count (a.stands t tells) (older t tells) place cause);
    }
    cells_fail cells.Memory cause = record { runs = runs_here; told = told_here; cause = faults_here }

-- ---- a look at all of it

-- the look at the whole disk, and then the reads of its cells
module _ (bus : NamedBus) (disk mid after : DiskState) (look : AsBefore 3 disk mid) where
  pub seen_then : (seen : Seen) → SeesTold bus disk seen → SeesTold bus mid seen
  seen_then seen sees t tells = sees t (sym look.told ∙ tells)

  pub join_before : (r : Result (Unit {0}) KeepFault) → OnOk r (AsBefore (cells_calls bus) mid after) → OnOk r (AsBefore (look_calls bus) disk after)
  join_before (Ok u) more = record { runs = runs_join look.runs more.runs; told = more.told ∙ look.told; faults = more.faults ∙ look.faults }
  join_before (Err fault) more = tt

  pub join_keeps : (r : Result (Unit {0}) KeepFault) → OnOk r (KeepsTold bus mid) → OnOk r (KeepsTold bus disk)
  join_keeps (Ok u) keeps = λ t tells. keeps t (look.told ∙ tells)
  join_keeps (Err fault) keeps = tt

  pub join_older : (r : Result (Unit {0}) KeepFault) → OnOk r (KeepsOlder bus mid) → OnOk r (KeepsOlder bus disk)
  join_older (Ok u) keeps = λ t tells. keeps t (look.told ∙ tells)
  join_older (Err fault) keeps = tt

  join_cause : (fault : KeepFault) → KeepCause bus mid after fault → KeepCause bus disk after fault
  join_cause (keep.OtherStore there) cause = (cause.0 ∙ look.faults, λ t tells. cause.1 t (look.told ∙ tells))
  join_cause keep.NotFormatted cause = (cause.0 ∙ look.faults, λ t tells. cause.1 t (look.told ∙ tells))
  join_cause (keep.Damaged place) cause = (cause.0 ∙ look.faults, λ t tells. cause.1 t (look.told ∙ tells))
  join_cause (keep.BadSlot slot) cause = (cause.0 ∙ look.faults, λ t tells. cause.1 t (look.told ∙ tells))
  join_cause (keep.BadBound cell) cause = (cause.0 ∙ look.faults, λ t tells. cause.1 t (look.told ∙ tells))
  join_cause keep.DiskFailed cause = subst (λ (n : ℕ). Rose n after.faults) look.faults cause
  join_cause keep.Memory cause = cause ∙ look.faults

  pub join_fails : (r : Result (Unit {0}) KeepFault) → IfErr r (FailsToKeepWithin (cells_calls bus) bus mid after) → IfErr r (FailsToKeepWithin (look_calls bus) bus disk after)
  join_fails (Ok u) fails = tt
  join_fails (Err fault) fails = record {
    runs = runs_join look.runs fails.runs;
    told = fails.told ∙ look.told;
    cause = join_cause fault fails.cause;
  }

-- no more was read if the look came to no end
pub failed_look : (bus : NamedBus) (disk after : DiskState) → FailsLook 3 disk after look_fault.DiskFailed → FailsToKeepWithin (look_calls bus) bus disk after keep.DiskFailed
failed_look bus disk after f = record { runs = runs_more (look_calls bus) (omega arith) f.runs; told = f.told; cause = f.cause }

pub failed_memory : (bus : NamedBus) (disk after : DiskState) → FailsLook 3 disk after look_fault.Memory → FailsToKeepWithin (look_calls bus) bus disk after keep.Memory
failed_memory bus disk after f = record { runs = runs_more (look_calls bus) (omega arith) f.runs; told = f.told; cause = f.cause }

-- ---- as the code has it

module _ (bus : NamedBus) (before : DiskState) (kind : Kind) (n : ℕ) (kind_is : kind ≡ bus.kind) (n_is : n ≡ cells_in_bus bus) where
  attached_here : (s : CellsState) → Attached (layout kind One) (reads kind n) n before s → Attached (layout bus.kind One) (reads bus.kind (cells_in_bus bus)) (cells_in_bus bus) before s
  attached_here s a =
      subst (λ (k : Kind). Attached (layout k One) (reads k (cells_in_bus bus)) (cells_in_bus bus) before s) kind_is
      (subst (λ (m : ℕ). Attached (layout kind One) (reads kind m) m before s) n_is a)

  pub older_attached : (copy : Config) → copy ≡ config_in_bus bus → (s : CellsState) (node : Node) → Attached (layout kind One) (reads kind n) n before s
      → node ≡ powered copy node.kept → s.cells ≡ CellsOf copy node.kept → Sound node → HoldsOldCells bus before
  older_attached copy config_is s node a up kept sound t tells = (
    node.kept,
    subst (λ (c : Config). IsKept c node.kept) (ap (λ (m : Node). m.config) up ∙ config_is) (kept_of_sound node sound),
    subst (Stands (layout bus.kind One) t.bytes) (kept ∙ ap (λ (c : Config). CellsOf c node.kept) config_is) ((attached_here s a).stands t tells),
  )

  module _ (few : FewCells (cells_in_bus bus)) (good : IsConfig (config_in_bus bus)) (older : SeesTold bus before see.Older) where
    pub older_unread : size_in_bus bus ≤ before.size → (after : DiskState) (f : StoreFault)
        → NotAttached (layout kind One) (reads kind n) (reads_to kind n) n before after f → FailsToKeepWithin (cells_calls bus) bus before after (keep_fault_of_store f)
    older_unread room after f h =
        unread_fails bus before few good older after f (room_one bus.kind bus.version (cells_in_bus bus) before.size room)
        (subst (λ (k : Kind). NotAttached (layout k One) (reads k (cells_in_bus bus)) (reads_to k (cells_in_bus bus)) (cells_in_bus bus) before after f) kind_is
        (subst (λ (m : ℕ). NotAttached (layout kind One) (reads kind m) (reads_to kind m) m before after f) n_is h))

    pub older_cells : (copy : Config) → copy ≡ config_in_bus bus → (s : CellsState) (after : DiskState) → Attached (layout kind One) (reads kind n) n before s → after ≡ s.disk
        → (f : AttachFault) → AttachCause copy.routes s.cells f → FailsToKeepWithin (cells_calls bus) bus before after (keep_fault_of_cells f)
    older_cells copy config_is s after a same f cause =
        cells_fail bus before few good older after s (attached_here s a) same f (subst (λ (c : Config). AttachCause c.routes s.cells f) config_is cause)
