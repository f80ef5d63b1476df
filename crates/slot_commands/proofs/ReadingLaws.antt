-- Why a store isn't found in bytes, or isn't read
use Rattle.std.proofs.Common.{◌≡◌, ◌⊎◌, ◌∙◌, ℕ, ◌<◌, ◌≤◌, List, [], ◌∷◌, ◌++◌, length, refl, sym, ap, subst, inl, inr, arith, lit<, append-nil}
use Rattle.std.specs.Prelude.{Result, Ok, Err, OnOk, IfErr, Option, Some, None, ◌^◌, ◌-◌, slice_index_or, take, drop}
use Rattle.cut_disk.specs.State.{DiskState, Told}
use Rattle.cut_disk.specs.Images.{firm}
use Rattle.cut_disk.specs.Memory.{fresh, disk_of}
use Rattle.cut_disk.proofs.CallerLemmas.{quiet_never_rose}
use Rattle.cell_store.specs.declared.kinds.Kind.{Kind}
use Rattle.cell_store.specs.declared.kinds.Kind.TheVariants.{Twin, Log}
use Rattle.cell_store.specs.declared.faults.StoreFault.{StoreFault}
use Rattle.cell_store.specs.declared.faults.StoreFault.TheVariants as store
use Rattle.cell_store.specs.Reading.{ReadOnly, ReadFailed}
use Rattle.cell_store.specs.Attaching.{Attached, NotAttached}
use Rattle.std.proofs.lemmas.List.{length-drop, take_all}
use Rattle.cell_store.specs.Layout.{base, from_base}
use Rattle.cell_store.specs.Twin.{cell_at, twin_size}
use Rattle.cell_store.specs.Store.{HasHeader, FirstDamaged, size_from_base, store_size}
use Rattle.cell_store.specs.Cells.{CellsState}
use Rattle.freshness_routes.specs.declared.routes.Route.{Route}
use Rattle.program_edge.specs.Rows.{Row, memory_row}
use Rattle.any_cells.specs.declared.finding.CountingStore.{CountingStore}
use Rattle.any_cells.specs.Counting.{StoreThatCounts, moved_up, not_moved, only_second, no_store}
use Rattle.any_cells.specs.Finding.{NotLooked, no_header, not_read}
use Rattle.key_commands.specs.Opening.{TellsStoreFault, layout_of, few_cells_row, fault_row}
use Rattle.slot_commands.specs.StoreWords.{damaged_place_words}
use Rattle.slot_commands.specs.Cells.{slot_count}
use Rattle.slot_commands.specs.Checked.{PushesDamage, PushesFindings, PushesPlaces}
use Rattle.slot_commands.specs.StillDisks.{IsStill, HasFound}
use Rattle.slot_commands.specs.Stores.{HoldsStore, NoStoreIn, IsUnreadable, of_twin, of_log, of_damaged_log}
use Rattle.slot_commands.specs.Stores as stores
use Rattle.text_lines.specs.Written.{written}

-- ---- a disk that is only read

pub still_fresh : (x : List ℕ) (disk : DiskState) → disk ≡ disk_of (fresh x) → IsStill x disk
still_fresh x disk is =
    subst (IsStill x) (sym is) (record { size = refl; told = refl; quiet = record { quiet = refl; below = lit< tt } })

pub still_after : {n : ℕ} (x : List ℕ) (before after : DiskState) → IsStill x before → ReadOnly n before after → IsStill x after
still_after x before after still read =
    let stays = read.runs.quiet refl still.quiet in record {
      size = read.runs.size ∙ still.size;
      told = read.told ∙ still.told;
      quiet = record { quiet = stays.quiet; below = subst (λ (k : ℕ). k < 2 ^ 64 - 1) (sym stays.faults) still.quiet.below };
    }

-- no read of it fails
never_failed : {n : ℕ} (x : List ℕ) (before after : DiskState) → IsStill x before → ReadFailed n before after → ⊥
never_failed x before after still failed = quiet_never_rose still.quiet (failed.runs.quiet refl still.quiet) failed.rose

-- ---- which store counts

-- the header of the store that counts stands
header_of : (x : List ℕ) (which : Option CountingStore) (found : CountingStore) → StoreThatCounts x which → which ≡ Some found
    → HasHeader (layout_of found) found.cells x
header_of x which found (moved_up kind n one two) is = subst (λ f. HasHeader (layout_of f) f.cells x) (cc is) two.1
header_of x which found (not_moved kind n one not_two) is = subst (λ f. HasHeader (layout_of f) f.cells x) (cc is) one.1
header_of x which found (only_second kind n not_one two) is = subst (λ f. HasHeader (layout_of f) f.cells x) (cc is) two.1
header_of x which found (no_store not_one not_two) is = cc is

-- what is said of told bytes is said of these
pub told_counts : (x : List ℕ) (disk : DiskState) (which : Option CountingStore) → IsStill x disk
    → ((t : Told) → disk.told ≡ Some t → StoreThatCounts t.bytes which) → StoreThatCounts x which
told_counts x disk which still each = each (firm x) still.told

-- it isn't known which store counts
pub not_looked : (x : List ℕ) (before after : DiskState) (fault : StoreFault) (row : Row) → IsStill x before
    → NotLooked before after fault → TellsStoreFault fault row → NoStoreIn x row ⊎ (row ≡ memory_row)
not_looked x before after fault row still (no_header small same) is =
    inl (subst (NoStoreIn x) (sym is) (stores.no_header (let size = still.size in omega (arith, small, size))))
not_looked x before after fault row still (not_read failed) is = absurd (never_failed x before after still failed)

-- none counts
pub none_found : (x : List ℕ) (before : DiskState) (row : Row) → IsStill x before → 32 ≤ before.size → StoreThatCounts x None
    → row ≡ fault_row store.NotFormatted → NoStoreIn x row ⊎ (row ≡ memory_row)
none_found x before row still room none is =
    inl (subst (NoStoreIn x) (sym is) (stores.none_counts (let size = still.size in omega (arith, room, size)) none))

pub few_found : (x : List ℕ) (found : CountingStore) (row : Row) → StoreThatCounts x (Some found) → found.cells < slot_count
    → row ≡ few_cells_row → NoStoreIn x row ⊎ (row ≡ memory_row)
few_found x found row counts few is = inl (subst (NoStoreIn x) (sym is) (stores.too_few found counts few))

pub no_room_found : (x : List ℕ) (found : CountingStore) (row : Row) → StoreThatCounts x (Some found) → slot_count ≤ found.cells
    → length x < store_size (layout_of found) found.cells → row ≡ fault_row store.TooSmall → NoStoreIn x row ⊎ (row ≡ memory_row)
no_room_found x found row counts wide small is = inl (subst (NoStoreIn x) (sym is) (stores.no_room found counts wide small))

-- ---- whether it is read

pub none_read : (x : List ℕ) (row : Row) → NoStoreIn x row ⊎ (row ≡ memory_row) → IsUnreadable x row ⊎ (row ≡ memory_row)
none_read x row (inl none) = inl (stores.no_store row none)
none_read x row (inr memory) = inr memory

pub store_held : {n : ℕ} (x : List ℕ) (found : CountingStore) (before : DiskState) (s : CellsState) → HasFound x found before
    → Attached (layout_of found) n found.cells before s → HoldsStore x found s.cells
store_held x found before s has a =
    record { counts = has.counts; wide = has.wide; number = a.count; stands = a.stands (firm x) has.still.told }

module _ (x : List ℕ) (found : CountingStore) (before after : DiskState) (has : HasFound x found before) where
  -- why it isn't: a place is damaged, or memory is out
  refused : (n : ℕ) (to : ℕ → ℕ) (fault : StoreFault) → NotAttached (layout_of found) n to found.cells before after fault
      → ((place : ℕ) × (fault ≡ store.Damaged place) × FirstDamaged (layout_of found) x found.cells place) ⊎ (fault ≡ store.Memory)
  refused n to store.TooSmall (small, same) =
      absurd (let size = has.still.size in let room = has.room in omega (arith, small, size, room))
  refused n to store.Memory (enough, same) = inr refl
  refused n to store.DiskFailed unread = absurd (never_failed x before after has.still unread.leaves)
  refused n to store.NotFormatted unread = absurd (unread.finds (firm x) has.still.told (header_of x (Some found) found has.counts refl))
  refused n to (store.Damaged place) unread = inl (place, refl, (unread.finds (firm x) has.still.told).1)

  pub unreadable : (n : ℕ) (to : ℕ → ℕ) (fault : StoreFault) (row : Row)
      → NotAttached (layout_of found) n to found.cells before after fault → TellsStoreFault fault row
      → IsUnreadable x row ⊎ (row ≡ memory_row)
  unreadable n to fault row not is = elim (refused n to fault not) [
    | inl (place, fault_is, first) ↦ elim (subst (λ (f : StoreFault). TellsStoreFault f row) fault_is is) [
      | inl told ↦ inl (subst (IsUnreadable x) (sym told) (stores.damaged found place has.counts has.wide has.room first))
      | inr memory ↦ inr memory
    ]
    | inr memory ↦ inr (subst (λ (f : StoreFault). TellsStoreFault f row) memory is)
  ]

  -- the first damaged place of a log store is what a check finds
  damaged_found : (routes : Option (List Route)) (n : ℕ) (to : ℕ → ℕ) (fault : StoreFault) (place : ℕ) (old new : List ℕ) → found.kind ≡ Log
      → NotAttached (layout_of found) n to found.cells before after fault → fault ≡ store.Damaged place
      → new ≡ old ++ written (damaged_place_words place) → PushesPlaces routes x found old new
  damaged_found routes n to fault place old new log not is more =
      let words = damaged_place_words place in (
        words ∷ [],
        of_damaged_log place log ((subst (NotAttached (layout_of found) n to found.cells before after) is not).finds (firm x) has.still.told).1,
        more ∙ ap (λ (l : List ℕ). old ++ l) (sym (append-nil (written words))),
      )

  only_memory : (n : ℕ) (to : ℕ → ℕ) (fault : StoreFault) (row : Row) → NotAttached (layout_of found) n to found.cells before after fault
      → ((place : ℕ) → ¬ (fault ≡ store.Damaged place)) → TellsStoreFault fault row → row ≡ memory_row
  only_memory n to fault row not other is = elim (refused n to fault not) [
    | inl (place, fault_is, first) ↦ absurd (other place fault_is)
    | inr memory ↦ subst (λ (f : StoreFault). TellsStoreFault f row) memory is
  ]

  pub damage_pushed : (routes : Option (List Route)) (n : ℕ) (to : ℕ → ℕ) (fault : StoreFault) (old new : List ℕ) (result : Result (Unit {0}) Row)
      → found.kind ≡ Log → NotAttached (layout_of found) n to found.cells before after fault → PushesDamage fault old new result
      → OnOk result (PushesPlaces routes x found old new)
  damage_pushed routes n to fault old new (Ok done) log not (place, is, more) = damaged_found routes n to fault place old new log not is more
  damage_pushed routes n to fault old new (Err row) log not pushes = tt

  pub damage_refused : (n : ℕ) (to : ℕ → ℕ) (fault : StoreFault) (old new : List ℕ) (result : Result (Unit {0}) Row)
      → NotAttached (layout_of found) n to found.cells before after fault → PushesDamage fault old new result
      → IfErr result (λ row. row ≡ memory_row)
  damage_refused n to fault old new (Ok done) not pushes = tt
  damage_refused n to fault old new (Err row) not (inl memory) = memory
  damage_refused n to fault old new (Err row) not (inr (is, other)) = only_memory n to fault row not other is

-- ---- what a check finds of all cells

pub twin_found : (routes : Option (List Route)) (x : List ℕ) (found : CountingStore) (store : List ℕ) (old new : List ℕ) → found.kind ≡ Twin
    → store ≡ from_base found.version x
    → PushesFindings routes (cell_at store) found.cells old new → PushesPlaces routes x found old new
twin_found routes x found store old new twin is (findings, finds, more) = (
  findings,
  of_twin findings twin (subst (λ (s : List ℕ). stores.FindsFrom routes (cell_at s) 0 found.cells findings) is finds),
  more,
)

pub log_found : {n : ℕ} (routes : Option (List Route)) (x : List ℕ) (found : CountingStore) (before : DiskState) (s : CellsState) (old new : List ℕ) → found.kind ≡ Log
    → HasFound x found before → Attached (layout_of found) n found.cells before s
    → PushesFindings routes (λ place. Some (slice_index_or s.cells place [])) found.cells old new → PushesPlaces routes x found old new
log_found routes x found before s old new log has a (findings, finds, more) =
    (findings, of_log s.cells findings log (a.stands (firm x) has.still.told) a.count finds, more)

-- the part of the bytes where a twin store stands has room for it
pub twin_room : (x : List ℕ) (found : CountingStore) → found.kind ≡ Twin → store_size (layout_of found) found.cells ≤ length x
    → twin_size found.cells ≤ length (from_base found.version x)
twin_room x found twin room =
    let sized : size_from_base found.kind found.cells ≡ twin_size found.cells = ap (λ (k : Kind). size_from_base k found.cells) twin in
    omega (arith, room, sized, length-drop (base found.version) x)

-- the bytes from the base on, as the code takes them
pub rest_is : (found : CountingStore) (n : ℕ) (x : List ℕ) → n ≡ base found.version
    → take (length x - n) (drop n x) ≡ from_base found.version x
rest_is found n x is =
    take_all (length x - n) (drop n x) (omega (arith, length-drop n x)) ∙ ap (λ (k : ℕ). drop k x) is
