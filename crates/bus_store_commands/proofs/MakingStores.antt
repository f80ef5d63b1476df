-- A node's store that is made or found on a disk, from what looks, formats and attaching ensure
use Rattle.std.specs.Prelude.{◌≡◌, ◌↔◌, ℕ, ◌+◌, ◌≤◌, Bool, true, false, IsTrue, Option, Some, List, length, Result, Ok, Err, IfErr}
use Rattle.std.proofs.Common.{refl, sym, ap, ◌∙◌, subst, arith, inl, inr}
use Rattle.cut_disk.specs.State.{DiskState, Told}
use Rattle.std.proofs.lemmas.Bool.{false≢true}
use Rattle.cut_disk.specs.Calls.{Rose, IsQuiet, AsBefore}
use Rattle.cut_disk.proofs.CallerLemmas.{quiet_never_rose}
use Rattle.cell_store.specs.declared.kinds.Kind.{Kind}
use Rattle.cell_store.specs.declared.kinds.Version.{Version}
use Rattle.cell_store.specs.declared.kinds.Version.TheVariants.{One, Two}
use Rattle.cell_store.specs.declared.faults.StoreFault.{StoreFault}
use Rattle.cell_store.specs.declared.faults.StoreFault.TheVariants as store
use Rattle.cell_store.specs.Cells.{CellsState}
use Rattle.cell_store.specs.Reading.{ReadOnly, ReadFailed}
use Rattle.cell_store.specs.Store.{HasHeader, Stands, store_size}
use Rattle.cell_store.specs.Formats.{FreshOn, LeavesUnformed}
use Rattle.cell_store.specs.Attaching.{Attached, NotAttached, Formatted, NotFormed}
use Rattle.any_cells.specs.declared.looking.Found.{Found}
use Rattle.any_cells.specs.declared.looking.Found.TheVariants.{Blank, Standing}
use Rattle.any_cells.specs.Either.{layout}
use Rattle.any_cells.specs.Looking.{IsFound}
use Rattle.freshness_routes.specs.Config.{Config, IsConfig}
use Rattle.bus_machine.specs.Node.{Node, first_node, powered}
use Rattle.bus_machine.specs.Sound.{Sound}
use Rattle.secoc_node.specs.declared.faults.AttachFault.{AttachFault}
use Rattle.secoc_node.specs.declared.faults.AttachFault.TheVariants as cells
use Rattle.secoc_node.specs.Cells.{CellsOf, IsKept}
use Rattle.secoc_node.specs.Causes.{AttachCause}
use Rattle.secoc_node.proofs.CallerLemmas.{length-CellsOf, first_is_kept, kept_of_sound}
use Rattle.bus_world.specs.TakingUp.{cells_in, new_cells}
use Rattle.bus_world.proofs.CallerLemmas.{standing_not_blank, standing_not_older, standing_not_foreign}
use Rattle.bus_store_commands.specs.declared.making.MakeFault.{MakeFault}
use Rattle.bus_store_commands.specs.declared.making.MakeFault.TheVariants as fault
use Rattle.bus_store_commands.specs.NodeStores.{made, stood, StoreMade, StoreUnmade, FailedToMake, LeftAsItWas, IsNotTaken, fault_of_cells, fault_of_look, IsUnused, NamesOther}
use Rattle.disk_looks.specs.declared.looks.LookFault.{LookFault}
use Rattle.disk_looks.specs.declared.looks.LookFault.TheVariants as look
use Rattle.disk_looks.specs.Looks.{AllZeros, FailsLook}

-- ---- what a look finds

-- a look only reads
pub as_read : {calls : ℕ} {before after : DiskState} → ReadOnly calls before after → AsBefore calls before after
as_read read = record { runs = read.runs; told = read.told; faults = read.faults }

-- a store that stands has its header
pub standing_header : (kind : Kind) (version : Version) (n : ℕ) (x : List ℕ) → IsFound kind version n x Standing → HasHeader (layout kind version) n x
standing_header kind One n x (inl (high, is)) = absurd (standing_not_foreign is)
standing_header kind One n x (inr (none, inl (blank, is))) = absurd (standing_not_blank is)
standing_header kind One n x (inr (none, inr (neither, inl (low, is)))) = low
standing_header kind One n x (inr (none, inr (neither, inr (other, is)))) = absurd (standing_not_foreign is)
standing_header kind Two n x (inl (high, is)) = high
standing_header kind Two n x (inr (none, inl (low, is))) = absurd (standing_not_older is)
standing_header kind Two n x (inr (none, inr (neither, inl (blank, is)))) = absurd (standing_not_blank is)
standing_header kind Two n x (inr (none, inr (neither, inr (other, is)))) = absurd (standing_not_foreign is)

module _ (kind : Kind) (version : Version) (config : Config) where
  -- this is found of told bytes
  abbrev FindsTold : DiskState → Found → Type 0
  FindsTold disk what = (t : Told) → disk.told ≡ Some t → IsFound kind version (cells_in config) t.bytes what

  -- what isn't blank and doesn't stand isn't taken
  pub refused_found : (what : Found) (x : List ℕ) → IsFound kind version (cells_in config) x what → ¬ (what ≡ Blank) → ¬ (what ≡ Standing)
      → IsNotTaken kind version config x
  refused_found what x is not_blank not_standing = grind arith

  -- told bytes are all zeros
  abbrev Unused : DiskState → Type 0
  Unused disk = (t : Told) → disk.told ≡ Some t → IsUnused kind version config t.bytes

  -- ---- a new store

  pub new_length : IsConfig config → length (new_cells config) ≡ cells_in config
  new_length good = length-CellsOf config (first_node config).kept (first_is_kept config good)

  pub new_made : {calls : ℕ} (before after : DiskState) (first : List (List ℕ)) → first ≡ new_cells config → IsConfig config
      → Formatted (layout kind version) calls first before after → Unused before → StoreMade kind version config before after
  new_made before after first is good f blank = record {
    is_config = good;
    room = subst (λ (n : ℕ). store_size (layout kind version) n ≤ before.size) (ap length is ∙ new_length good) f.room;
    faults = f.faults;
    told = λ t tells. made (blank t tells) (subst (λ (c : List (List ℕ)). FreshOn (layout kind version) c t after.told) is (f.fresh t tells));
  }

  pub new_unmade : (calls : ℕ) (before after : DiskState) (first : List (List ℕ)) (f : StoreFault) → first ≡ new_cells config → IsConfig config
      → NotFormed (layout kind version) calls first before after f → Unused before
      → StoreUnmade kind version config before after (fault.Store f)
  new_unmade calls before after first f is good h blank = grind (arith, new_length, quiet_never_rose)

  -- ---- one that stands

  kept_by : (node : Node) → node ≡ powered config node.kept → Sound node → IsKept config node.kept
  kept_by node up sound = subst (λ (c : Config). IsKept c node.kept) (ap (λ (m : Node). m.config) up) (kept_of_sound node sound)

  module _ {reads : ℕ} (before after : DiskState) (s : CellsState) (a : Attached (layout kind version) reads (cells_in config) before s)
      (same : after ≡ s.disk) (standing : FindsTold before Standing) where
    left : LeftAsItWas before after
    left = (ap (λ (d : DiskState). d.told) same ∙ a.as_before.told, ap (λ (d : DiskState). d.faults) same ∙ a.as_before.faults)

    pub stood_made : IsConfig config → (node : Node) → node ≡ powered config node.kept → s.cells ≡ CellsOf config node.kept → Sound node
        → StoreMade kind version config before after
    stood_made good node up kept sound = record {
      is_config = good;
      room = a.room;
      faults = left.1;
      told = λ t tells. stood node.kept (standing t tells) (kept_by node up sound)
          (subst (Stands (layout kind version) t.bytes) kept (a.stands t tells)) (left.0 ∙ tells);
    }

    pub cells_unmade : (f : AttachFault) → AttachCause config.routes s.cells f → StoreUnmade kind version config before after (fault_of_cells f)
    cells_unmade (cells.BadSlot slot) cause =
        (left, λ t tells. (standing t tells, record { cells = s.cells; count = a.count; stands = a.stands t tells; such = cause }))
    cells_unmade (cells.BadBound place) cause =
        (left, λ t tells. (standing t tells, record { cells = s.cells; count = a.count; stands = a.stands t tells; such = cause }))
    cells_unmade cells.Memory cause = left

  pub unread_unmade : (reads : ℕ) (to : ℕ → ℕ) (before after : DiskState) (f : StoreFault)
      → NotAttached (layout kind version) reads to (cells_in config) before after f → FindsTold before Standing
      → StoreUnmade kind version config before after (fault.Store f)
  unread_unmade reads to before after store.TooSmall h standing = h
  unread_unmade reads to before after store.Memory h standing = (ap (λ (d : DiskState). d.told) h.1, ap (λ (d : DiskState). d.faults) h.1)
  unread_unmade reads to before after store.DiskFailed h standing =
      (h.leaves.rose, (λ quiet. quiet_never_rose quiet (h.leaves.runs.quiet refl quiet) h.leaves.rose), inl h.leaves.told)
  unread_unmade reads to before after store.NotFormatted h standing = (
    (h.leaves.told, h.leaves.faults),
    λ t tells. absurd (h.finds t tells (standing_header kind version (cells_in config) t.bytes (standing t tells))),
  )
  unread_unmade reads to before after (store.Damaged place) h standing =
      ((h.leaves.told, h.leaves.faults), λ t tells. (standing t tells, (h.finds t tells).1))

  -- ---- after a look

  module _ {calls : ℕ} (before mid : DiskState) (look : AsBefore calls before mid) where
    -- told bytes are found to be the same
    pub finds_after : (what : Found) → FindsTold before what → FindsTold mid what
    finds_after what finds t tells = finds t (sym look.told ∙ tells)

    pub room_after : store_size (layout kind version) (cells_in config) ≤ before.size → store_size (layout kind version) (cells_in config) ≤ mid.size
    room_after room = subst (λ (n : ℕ). store_size (layout kind version) (cells_in config) ≤ n) (sym look.runs.size) room

    pub made_after : (after : DiskState) → StoreMade kind version config mid after → StoreMade kind version config before after
    made_after after m = record {
      is_config = m.is_config;
      room = subst (λ (n : ℕ). store_size (layout kind version) (cells_in config) ≤ n) look.runs.size m.room;
      faults = m.faults ∙ look.faults;
      told = λ t tells. m.told t (look.told ∙ tells);
    }

    quiet_after : IsQuiet before → IsQuiet mid
    quiet_after quiet =
        let stays = look.runs.quiet refl quiet in
        record { quiet = stays.quiet; below = rw stays.faults quiet.below }

    failed_after : (after : DiskState) → FailedToMake kind version config mid after → FailedToMake kind version config before after
    failed_after after (rose, not, inl told) =
        (subst (λ (k : ℕ). Rose k after.faults) look.faults rose, (λ quiet. not (quiet_after quiet)), inl (told ∙ look.told))
    failed_after after (rose, not, inr (blank, unformed)) = (
      subst (λ (k : ℕ). Rose k after.faults) look.faults rose,
      (λ quiet. not (quiet_after quiet)),
      inr (
        (λ t tells. blank t (look.told ∙ tells)),
        subst (λ (o : Option Told). LeavesUnformed (layout kind version) (new_cells config) o after.told) look.told unformed,
      ),
    )

    left_after : (after : DiskState) → LeftAsItWas mid after → LeftAsItWas before after
    left_after after (told, faults) = (told ∙ look.told, faults ∙ look.faults)

    pub unmade_after : (after : DiskState) (f : MakeFault) → store_size (layout kind version) (cells_in config) ≤ before.size
        → StoreUnmade kind version config mid after f → StoreUnmade kind version config before after f
    unmade_after after f room h = grind (arith, room_after, failed_after, left_after)

    -- all bytes were read: they are zeros, or one of them isn't
    pub unused_after : (zeros : Bool) → FindsTold before Blank → ((t : Told) → before.told ≡ Some t → IsTrue zeros ↔ AllZeros t.bytes)
        → zeros ≡ true → Unused mid
    unused_after zeros blank says is t tells =
        let told = sym look.told ∙ tells in
        (blank t told, (says t told).0 is)

    pub used_not_taken : (zeros : Bool) → FindsTold before Blank → ((t : Told) → before.told ≡ Some t → IsTrue zeros ↔ AllZeros t.bytes)
        → zeros ≡ false → (t : Told) → before.told ≡ Some t → IsNotTaken kind version config t.bytes
    used_not_taken zeros blank says is t tells = inr (inr (blank t tells, λ all. absurd (false≢true (sym is ∙ (says t tells).1 all))))

    -- what isn't the node's store, and isn't blank: another that stands is named
    pub other_named : (after : DiskState) (f : MakeFault) → ((t : Told) → before.told ≡ Some t → IsNotTaken kind version config t.bytes)
        → NamesOther mid after f → StoreUnmade kind version config before after f
    other_named after f not_taken h = grind (arith, left_after, failed_after)

  pub zeros_unread : (calls : ℕ) (before mid : DiskState) (f : LookFault) → FailsLook calls before mid f → StoreUnmade kind version config before mid (fault.Store (fault_of_look f))
  zeros_unread calls before mid look.Memory h = (h.told, h.cause)
  zeros_unread calls before mid look.DiskFailed h = (h.cause, (λ quiet. quiet_never_rose quiet (h.runs.quiet refl quiet) h.cause), inl h.told)

  pub look_failed : {calls : ℕ} (before mid : DiskState) → ReadFailed calls before mid
      → StoreUnmade kind version config before mid (fault.Store store.DiskFailed)
  look_failed before mid failed =
      (failed.rose, (λ quiet. quiet_never_rose quiet (failed.runs.quiet refl quiet) failed.rose), inl failed.told)

-- ---- as the code has them

-- what a look at so many cells finds
pub look_finds : (kind : Kind) (version : Version) (config : Config) (n : ℕ) (before : DiskState) (what that : Found) → what ≡ that → n ≡ cells_in config
    → ((t : Told) → before.told ≡ Some t → IsFound kind version n t.bytes what) → FindsTold kind version config before that
look_finds kind version config n before what that is cells_are finds t tells =
    subst (λ (f : Found). IsFound kind version (cells_in config) t.bytes f) is
    (subst (λ (k : ℕ). IsFound kind version k t.bytes what) cells_are (finds t tells))

-- the same of a copy of the configuration, and of the number of cells that was attached
module _ (kind : Kind) (version : Version) (config copy : Config) (is : copy ≡ config) (n : ℕ) (cells_are : n ≡ cells_in copy)
    (before : DiskState) (standing : FindsTold kind version config before Standing) where
  of_copy : FindsTold kind version copy before Standing
  of_copy = subst (λ (c : Config). FindsTold kind version c before Standing) (sym is) standing

  pub copy_made : (reads : ℕ → ℕ) (after : DiskState) (s : CellsState) → IsConfig copy → Attached (layout kind version) (reads n) n before s
      → after ≡ s.disk → (node : Node) → node ≡ powered copy node.kept → s.cells ≡ CellsOf copy node.kept → Sound node
      → StoreMade kind version config before after
  copy_made reads after s good a same node up kept sound =
      subst (λ (c : Config). StoreMade kind version c before after) is
      (stood_made kind version copy before after s (subst (λ (k : ℕ). Attached (layout kind version) (reads k) k before s) cells_are a) same of_copy
      good node up kept sound)

  pub copy_cells : (reads : ℕ → ℕ) (after : DiskState) (s : CellsState) → Attached (layout kind version) (reads n) n before s → after ≡ s.disk
      → (f : AttachFault) → AttachCause copy.routes s.cells f → StoreUnmade kind version config before after (fault_of_cells f)
  copy_cells reads after s a same f cause =
      subst (λ (c : Config). StoreUnmade kind version c before after (fault_of_cells f)) is
      (cells_unmade kind version copy before after s (subst (λ (k : ℕ). Attached (layout kind version) (reads k) k before s) cells_are a) same of_copy f cause)

  pub copy_unread : (reads : ℕ → ℕ) (to : ℕ → ℕ → ℕ) (after : DiskState) (f : StoreFault)
      → NotAttached (layout kind version) (reads n) (to n) n before after f → StoreUnmade kind version config before after (fault.Store f)
  copy_unread reads to after f h =
      subst (λ (c : Config). StoreUnmade kind version c before after (fault.Store f)) is
      (unread_unmade kind version copy (reads (cells_in copy)) (to (cells_in copy)) before after f (subst (λ (k : ℕ). NotAttached (layout kind version) (reads k) (to k) k before after f) cells_are h) of_copy)

-- ---- all bytes of a disk

-- what is refused, for a weaker reason
pub if_err_weaker : {X Y : Type 0} (r : Result X Y) (P Q : Y → Type 0) → ((y : Y) → P y → Q y) → IfErr r P → IfErr r Q
if_err_weaker (Ok x) P Q more has = tt
if_err_weaker (Err y) P Q more has = more y has
