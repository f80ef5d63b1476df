-- Why a disk gives no engine, and what one that is open stands over
use Rattle.std.proofs.Common.{◌≡◌, ◌∙◌, ◌⊎◌, ℕ, ◌<◌, ◌≤◌, ◌+◌, List, refl, sym, ap, subst, inl, inr, false, arith}
use Rattle.std.specs.Prelude.{Option, Some, None, min}
use Rattle.std.proofs.Math.Nat.{min-le_left}
use Rattle.cut_disk.specs.State.{DiskState, Told}
use Rattle.cut_disk.specs.Calls.{Rose}
use Rattle.cut_disk.proofs.CallerLemmas.{runs_none, runs_join, runs_more}
use Rattle.cell_store.specs.declared.kinds.Kind.{Kind}
use Rattle.cell_store.specs.declared.kinds.Kind.TheVariants.{Twin, Log}
use Rattle.cell_store.specs.declared.faults.StoreFault.{StoreFault}
use Rattle.cell_store.specs.declared.faults.StoreFault.TheVariants as store
use Rattle.cell_store.specs.ReadOrder.{reads, reads_to}
use Rattle.cell_store.specs.Reading.{ReadOnly}
use Rattle.cell_store.specs.Attaching.{Attached, NotAttached}
use Rattle.cell_store.specs.Store.{FewCells, HasHeader}
use Rattle.cell_store.specs.Cells.{CellsState}
use Rattle.program_edge.specs.Rows.{Row, memory_row}
use Rattle.any_cells.specs.declared.finding.CountingStore.{CountingStore}
use Rattle.any_cells.specs.Counting.{StoreThatCounts, moved_up, not_moved, only_second, no_store}
use Rattle.any_cells.specs.Finding.{NotLooked, no_header, not_read}
use Rattle.key_commands.specs.Loader.{LoaderState, HoldsAll}
use Rattle.key_commands.specs.Opening.{HasCounting, HasNoSlot, LacksEngine, NoEngine, GivesNoEngine, OnlyRead, OpensLoader, most_to_attach, most_to_open, fault_row, few_cells_row, has_none, layout_of, TellsStoreFault}
use Rattle.key_commands.specs.Opening as opening

-- the header of the store that counts stands
header_counts : (x : List ℕ) (which : Option CountingStore) (found : CountingStore) → StoreThatCounts x which → which ≡ Some found
    → HasHeader (layout_of found) found.cells x
header_counts x which found (moved_up kind n one two) is = subst (λ f. HasHeader (layout_of f) f.cells x) (cc is) two.1
header_counts x which found (not_moved kind n one not_two) is = subst (λ f. HasHeader (layout_of f) f.cells x) (cc is) one.1
header_counts x which found (only_second kind n not_one two) is = subst (λ f. HasHeader (layout_of f) f.cells x) (cc is) two.1
header_counts x which found (no_store not_one not_two) is = cc is

-- calls that only read
only_same : {calls : ℕ} (before after : DiskState) → after ≡ before → OnlyRead calls before after
only_same {calls} before after same = subst (OnlyRead calls before) (sym same) (record { runs = runs_more calls (omega arith) (runs_none before); told = refl })

pub only_reads : {calls : ℕ} (n : ℕ) → n ≤ calls → (before after : DiskState) → ReadOnly n before after → OnlyRead calls before after
only_reads {calls} n few before after read = record { runs = runs_more calls few read.runs; told = read.told }

-- a store of at most 1,024 cells is attached in no more reads than the largest
few_reads : (kind : Kind) (n : ℕ) → FewCells n → reads kind n ≤ most_to_attach
few_reads Twin n few =
    let most = few.most in
    let top : most_to_attach ≡ 1091 = refl in
    let own : reads Twin n ≡ 1 + n = refl in
    omega (arith, most, top, own)
few_reads Log n few =
    let most = few.most in
    let top : most_to_attach ≡ 1091 = refl in
    let own : reads Log n ≡ 67 + n = refl in
    omega (arith, most, top, own)

fewer_reads : (kind : Kind) (n m : ℕ) → FewCells n → min (reads kind n) m ≤ most_to_attach
fewer_reads kind n m few = let most = few_reads kind n few in let less = min-le_left (reads kind n) m in omega (arith, most, less)

same_faults : (before after : DiskState) → after ≡ before → after.faults ≡ before.faults
same_faults before after same = ap (λ (d : DiskState). d.faults) same

only_join : {m n : ℕ} (a b c : DiskState) → OnlyRead m a b → OnlyRead n b c → OnlyRead (m + n) a c
only_join a b c first second = record { runs = runs_join first.runs second.runs; told = second.told ∙ first.told }

-- a cause is told
told_cause : {calls : ℕ} (before after : DiskState) (row comes : Row) → OnlyRead calls before after → LacksEngine before after comes → row ≡ comes
    → GivesNoEngine calls before after row
told_cause before after row comes read cause is = record { cause = inl (subst (LacksEngine before after) (sym is) cause); read = read }

-- or out of memory for its text, if the disk didn't fail
or_memory : {calls : ℕ} (before after : DiskState) (row comes : Row) → OnlyRead calls before after → LacksEngine before after comes → after.faults ≡ before.faults
    → (row ≡ comes) ⊎ (row ≡ memory_row) → GivesNoEngine calls before after row
or_memory before after row comes read cause calm (inl is) = told_cause before after row comes read cause is
or_memory before after row comes read cause calm (inr memory) = record { cause = inr (memory, calm); read = read }

-- it isn't known which store counts
pub not_looked : (before after : DiskState) (fault : StoreFault) (row : Row) → NotLooked before after fault
    → TellsStoreFault fault row → GivesNoEngine most_to_open before after row
not_looked before after fault row (no_header small same) is =
    told_cause before after row (fault_row store.TooSmall) (only_same before after same) (has_none _ (opening.no_header small) (same_faults before after same)) is
not_looked before after fault row (not_read failed) is =
    told_cause before after row (fault_row store.DiskFailed) (record { runs = runs_more most_to_open (omega arith) failed.runs; told = failed.told }) (opening.disk_failed failed.rose) is

-- no store counts
pub none_found : (before after : DiskState) (row : Row) → ReadOnly 2 before after → 32 ≤ before.size → ((t : Told) → before.told ≡ Some t → StoreThatCounts t.bytes None)
    → TellsStoreFault store.NotFormatted row → GivesNoEngine most_to_open before after row
none_found before after row read room none is =
    told_cause before after row (fault_row store.NotFormatted) (only_reads 2 (omega arith) before after read) (has_none _ (opening.none_counts room none) read.faults) is

-- the store that counts has too few cells, and no call was made
pub few_found : (disk : DiskState) (found : CountingStore) (row : Row) → HasCounting disk found → 32 ≤ disk.size → found.cells < 14 → row ≡ few_cells_row
    → GivesNoEngine most_to_attach disk disk row
few_found disk found row counts header few is = record {
  cause = inl (subst (LacksEngine disk disk) (sym is) (has_none _ (opening.too_few found header counts few) refl));
  read = only_same disk disk refl;
}

-- the store that counts isn't attached
pub not_attached : (before after : DiskState) (found : CountingStore) (fault : StoreFault) (row : Row) → HasCounting before found → 32 ≤ before.size
    → FewCells found.cells → 14 ≤ found.cells → NotAttached (layout_of found) (reads found.kind found.cells) (reads_to found.kind found.cells) found.cells before after fault
    → TellsStoreFault fault row → GivesNoEngine most_to_attach before after row
not_attached before after found store.TooSmall row counts header few wide (small, same) is =
    told_cause before after row (fault_row store.TooSmall) (only_same before after same) (has_none _ (opening.no_room found few counts wide small) (same_faults before after same))
    is
not_attached before after found store.Memory row counts header few wide (room, same) is =
    record { cause = inr (is, same_faults before after same); read = only_same before after same }
not_attached before after found store.DiskFailed row counts header few wide unread is =
    told_cause before after row (fault_row store.DiskFailed) (record { runs = runs_more most_to_attach (few_reads found.kind found.cells few) unread.leaves.runs; told = unread.leaves.told })
    (opening.disk_failed unread.leaves.rose) is
not_attached before after found store.NotFormatted row counts header few wide unread is =
    told_cause before after row (fault_row store.NotFormatted) (only_reads _ (fewer_reads found.kind found.cells _ few) before after unread.leaves)
    (has_none _ (opening.none_counts header (λ t told. absurd (unread.finds t told (header_counts t.bytes _ found (counts t told) refl)))) unread.leaves.faults)
    is
not_attached before after found (store.Damaged place) row counts header few wide unread is =
    or_memory before after row (fault_row (store.Damaged place)) (only_reads _ (fewer_reads found.kind found.cells _ few) before after unread.leaves)
    (has_none _ (opening.damaged found place counts wide unread.room (λ t told. (unread.finds t told).1)) unread.leaves.faults)
    unread.leaves.faults is

-- a cell of the store that counts is no slot's
pub bad_slot_found : (before after : DiskState) (found : CountingStore) (s : CellsState) (row : Row) → HasCounting before found → FewCells found.cells → 14 ≤ found.cells
    → Attached (layout_of found) (reads found.kind found.cells) found.cells before s → after ≡ s.disk → HasNoSlot s.cells row
    → GivesNoEngine most_to_attach before after row
bad_slot_found before after found s row counts few wide attached is none =
    let read : OnlyRead most_to_attach before after =
    subst (OnlyRead most_to_attach before) (sym is) (only_reads _ (few_reads found.kind found.cells few) before s.disk attached.as_before) in
    elim none [
      | inl bad ↦ record {
        cause = inl (subst (LacksEngine before after) (sym bad.2)
            (has_none _ (opening.bad_slot found s.cells bad.0 counts wide attached.room attached.count attached.stands bad.1)
            (same_faults s.disk after is ∙ attached.as_before.faults)));
        read = read;
      }
      | inr memory ↦ record { cause = inr (memory, same_faults s.disk after is ∙ attached.as_before.faults); read = read }
    ]

-- the engine is open over it
pub opens : (before : DiskState) (found : CountingStore) (s : CellsState) (uid : List ℕ) (loader : LoaderState) → HasCounting before found
    → FewCells found.cells → Attached (layout_of found) (reads found.kind found.cells) found.cells before s → 14 ≤ found.cells
    → loader.uid ≡ uid → loader.store ≡ s → loader.down ≡ false → HoldsAll loader → OpensLoader most_to_attach before uid loader
opens before found s uid loader counts few attached wide uid_is store_is up held =
    let a : Attached (layout_of found) (reads found.kind found.cells) found.cells before loader.store =
    subst (Attached (layout_of found) (reads found.kind found.cells) found.cells before) (sym store_is) attached in
    record {
      found = found;
      counts = counts;
      wide = omega (arith, wide, a.count);
      number = a.count;
      laid_out = a.laid_out;
      uid_is = uid_is;
      held = held;
      up = up;
      read = only_reads _ (few_reads found.kind found.cells few) before loader.store.disk a.as_before;
      calm = a.as_before.faults;
      stands = a.stands;
      settled = a.settled;
    }

-- what is said of a disk that was read already is said of the disk before
module _ (before mid : DiskState) (read : ReadOnly 2 before mid) where
  counts_before : (found : CountingStore) → HasCounting mid found → HasCounting before found
  counts_before found counts t told = counts t (read.told ∙ told)

  pub counts_then : (found : CountingStore) → HasCounting before found → HasCounting mid found
  counts_then found counts t told = counts t (sym read.told ∙ told)

  none_before : (row : Row) → NoEngine mid row → NoEngine before row
  none_before row (opening.no_header small) = opening.no_header (let e = read.runs.size in omega (arith, e, small))
  none_before row (opening.none_counts room none) = opening.none_counts (let e = read.runs.size in omega (arith, e, room)) (λ t told. none t (read.told ∙ told))
  none_before row (opening.too_few found room counts few) =
      opening.too_few found (let e = read.runs.size in omega (arith, e, room)) (counts_before found counts) few
  none_before row (opening.no_room found few counts wide small) =
      opening.no_room found few (counts_before found counts) wide (let e = read.runs.size in omega (arith, e, small))
  none_before row (opening.damaged found place counts wide room first) =
      opening.damaged found place (counts_before found counts) wide (let e = read.runs.size in omega (arith, e, room)) (λ t told. first t (read.told ∙ told))
  none_before row (opening.bad_slot found cells slot counts wide room number stands first) =
      opening.bad_slot found cells slot (counts_before found counts) wide (let e = read.runs.size in omega (arith, e, room)) number (λ t told. stands t (read.told ∙ told)) first

  lacks_before : (after : DiskState) (row : Row) → LacksEngine mid after row → LacksEngine before after row
  lacks_before after row (has_none _ none same) = has_none row (none_before row none) (same ∙ read.faults)
  lacks_before after row (opening.disk_failed rose) = opening.disk_failed (subst (λ (n : ℕ). Rose n after.faults) read.faults rose)

  pub not_opened_before : (after : DiskState) (row : Row) → GivesNoEngine most_to_attach mid after row → GivesNoEngine most_to_open before after row
  not_opened_before after row refused =
      record {
        cause = elim refused.cause [
          | inl lacks ↦ inl (lacks_before after row lacks)
          | inr memory ↦ inr (memory.0, memory.1 ∙ read.faults)
        ];
        read = only_join {m = 2} before mid after (only_reads 2 (omega arith) before mid read) refused.read;
      }

  pub opens_before : (uid : List ℕ) (loader : LoaderState) → OpensLoader most_to_attach mid uid loader → OpensLoader most_to_open before uid loader
  opens_before uid loader o = record {
    found = o.found;
    counts = counts_before o.found o.counts;
    wide = o.wide;
    number = o.number;
    laid_out = o.laid_out;
    uid_is = o.uid_is;
    held = o.held;
    up = o.up;
    read = only_join {m = 2} before mid loader.store.disk (only_reads 2 (omega arith) before mid read) o.read;
    calm = o.calm ∙ read.faults;
    stands = λ t told. o.stands t (read.told ∙ told);
    settled = λ b told. o.settled b (read.told ∙ told);
  }
