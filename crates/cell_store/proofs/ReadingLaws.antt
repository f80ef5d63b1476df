-- Laws of reading a twin store.
use Rattle.std.proofs.Common.{◌≡◌, ℕ, ◌+◌, ◌-◌, ◌<◌, ◌≤◌, min, inl, inr, false, Option, Some, None, IsSome, IsTrue, List, [], length, take, drop, get_or, set, refl, sym, ap, subst, ◌∙◌, arith}
use Rattle.std.proofs.lemmas.List.{take-take, drop-take, drop-drop, get_or-set_same, get_or-set_other}
use Rattle.std.proofs.lemmas.Bool.{false≢true, cases_Bool, cases_eq, cond-true, cond-false}
use Rattle.std.proofs.lemmas.Option.{same_Some, none-some}
use Rattle.cut_disk.specs.declared.Torn.{Torn}
use Rattle.cut_disk.specs.State.{DiskState, Told, Cut}
use Rattle.cut_disk.specs.declared.arming.Arms.{Arms}
use Rattle.cut_disk.specs.declared.arming.StopState.{StopState}
use Rattle.cut_disk.specs.declared.arming.StopState.TheVariants.{Clear, Armed, Begun}
use Rattle.cut_disk.specs.Arming.{is_clear, stop_after, after_call, after_cut}
use Rattle.cut_disk.specs.Images.{ReadsAs}
use Rattle.cut_disk.specs.Calls.{Rose, Call, Grows}
use Rattle.cut_disk.proofs.CallerLemmas.{runs_none, runs_of_call, runs_join, runs_more, rose_after, grows_then}
use Rattle.cell_store.specs.declared.faults.Reread.{Reread}
use Rattle.cell_store.specs.declared.faults.Reread.TheVariants as reread
use Rattle.cell_store.specs.declared.kinds.Version.{Version}
use Rattle.cell_store.specs.declared.kinds.Layout.{Layout}
use Rattle.cell_store.specs.declared.copies.Side.TheVariants.{First, Second}
use Rattle.cell_store.specs.declared.copies.Held.{Held}
use Rattle.cell_store.specs.Layout.{part, base, from_base, twin_layout}
use Rattle.cell_store.specs.Twin.{first_at, second_at, counts, cell_of, cell_at}
use Rattle.cell_store.specs.Copies.{copy, Keeps}
use Rattle.cell_store.specs.Held.{held_of}
use Rattle.cell_store.specs.Store.{HasHeader, IsDamaged, FirstDamaged}
use Rattle.cell_store.specs.Reading.{NoStop, ReadOnly, ReadFailed, CutStays, ToldKeeps, Leaves, Finds, CellFault, HeaderFault}
use Rattle.cell_store.specs.ReadOrder.{twin_reads, twin_reads_to}
use Rattle.cell_store.proofs.CopiesLaws.{cell_at-kept}
use Rattle.cell_store.proofs.StaysLaws.{stays_none, stays_call, stays_join, cut_stays}

-- no call makes a stop
clear-after : (s : StopState) → IsTrue (is_clear s) → IsTrue (is_clear (stop_after s))
clear-after Clear clear = clear
clear-after (Armed calls) clear = absurd (false≢true clear)
clear-after Begun clear = absurd (false≢true clear)

pub no_stop-call : (old new : Arms) → new ≡ after_call old → IsTrue (is_clear old.stop) → IsTrue (is_clear new.stop)
no_stop-call old new called none = ap (λ (a : Arms). is_clear a.stop) called ∙ clear-after old.stop none

pub no_stop-cut : (old new : Arms) → new ≡ after_cut old → IsTrue (is_clear new.stop)
no_stop-cut old new cut = ap (λ (a : Arms). is_clear a.stop) cut

-- the two halves of what is read of a cell are its copies
first-half : (at : ℕ) (x : List ℕ) → take 34 (take 68 (drop at x)) ≡ part at 34 x
first-half at x = take-take 34 68 (drop at x) (omega arith)

second-half : (at : ℕ) (x : List ℕ) → drop 34 (take 68 (drop at x)) ≡ part (at + 34) 34 x
second-half at x = drop-take 34 34 (drop at x) ∙ ap (take 34) (drop-drop 34 at x)

-- what is held of two copies is kept by the bytes that have them
pub kept-of : (x : List ℕ) (i : ℕ) (held : Held) → held_of (copy x i First) (copy x i Second) ≡ Some held → Keeps x i held
kept-of x i held e = elim (cases_Bool (counts (copy x i First) (copy x i Second))) [
  | inl this ↦ subst (λ (h : Held). Keeps x i h) (same_Some _ _ (sym (cond-true _ _ _ this) ∙ e)) (record { counting = this; bytes = refl; marked = refl; spare = refl })
  | inr not ↦ elim (cases_Bool (counts (copy x i Second) (copy x i First))) [
    | inl this ↦ subst (λ (h : Held). Keeps x i h) (same_Some _ _ (sym (cond-false _ _ _ not ∙ cond-true _ _ _ this) ∙ e)) (record { counting = this; bytes = refl; marked = refl; spare = refl })
    | inr neither ↦ absurd (none-some held (sym (cond-false _ _ _ not ∙ cond-false _ _ _ neither) ∙ e))
  ]
]

pub damaged-of : (x : List ℕ) (i : ℕ) → held_of (copy x i First) (copy x i Second) ≡ None → cell_at x i ≡ None
unfolding cell_at cell_of
damaged-of x i e = elim (cases_Bool (counts (copy x i First) (copy x i Second))) [
  | inl this ↦ absurd (none-some _ (sym e ∙ cond-true _ _ _ this))
  | inr not ↦ elim (cases_Bool (counts (copy x i Second) (copy x i First))) [
    | inl this ↦ absurd (none-some _ (sym e ∙ (cond-false _ _ _ not ∙ cond-true _ _ _ this)))
    | inr neither ↦ cond-false _ _ _ not ∙ cond-false _ _ _ neither
  ]
]

-- one read, done or failed
pub read_done : {a b : DiskState} → Call None a b → b.told ≡ a.told → b.faults ≡ a.faults → b.arms ≡ after_call a.arms → ReadOnly 1 a b
read_done {a} {b} call told faults arms = record { runs = runs_of_call call; told = told; faults = faults; stops = no_stop-call a.arms b.arms arms; stays = stays_call call told }

pub read_failed : {a b : DiskState} → Call None a b → b.told ≡ a.told → Rose a.faults b.faults → b.arms ≡ after_call a.arms → ReadFailed 1 a b
read_failed {a} {b} call told rose arms = record { runs = runs_of_call call; told = told; rose = rose; stops = no_stop-call a.arms b.arms arms; stays = stays_call call told }

-- several reads
pub reads_none : (s : DiskState) → ReadOnly 0 s s
reads_none s = record { runs = runs_none s; told = refl; faults = refl; stops = λ none. none; stays = stays_none s }

pub reads_join : {m n : ℕ} {a b c : DiskState} → ReadOnly m a b → ReadOnly n b c → ReadOnly (m + n) a c
reads_join first second = record {
  runs = runs_join first.runs second.runs;
  told = second.told ∙ first.told;
  faults = second.faults ∙ first.faults;
  stops = λ none. second.stops (first.stops none);
  stays = stays_join first.runs first.told first.stays second.runs second.stays;
}

pub reads_more : {few : ℕ} {a b : DiskState} (most : ℕ) → few ≤ most → ReadOnly few a b → ReadOnly most a b
reads_more most le reads = record { runs = runs_more most le reads.runs; told = reads.told; faults = reads.faults; stops = reads.stops; stays = reads.stays }

pub failed_more : {few : ℕ} {a b : DiskState} (most : ℕ) → few ≤ most → ReadFailed few a b → ReadFailed most a b
failed_more most le f = record { runs = runs_more most le f.runs; told = f.told; rose = f.rose; stops = f.stops; stays = f.stays }

pub failed_after : {m n : ℕ} {a b c : DiskState} → ReadOnly m a b → ReadFailed n b c → ReadFailed (m + n) a c
failed_after {m} {n} {a} {b} {c} before f = record {
  runs = runs_join before.runs f.runs;
  told = f.told ∙ before.told;
  rose = rose_after a.faults b.faults c.faults (let e = before.faults in omega arith) f.rose;
  stops = λ none. f.stops (before.stops none);
  stays = stays_join before.runs before.told before.stays f.runs f.stays;
}

-- what a read that failed leaves of what is told
pub leaves-told : (all : ℕ) (up_to : ℕ → ℕ) (a b : DiskState) (fault : Reread) → Leaves all up_to a b fault → b.told ≡ a.told
leaves-told all up_to a b reread.DiskFailed l = l.told
leaves-told all up_to a b reread.NotFormatted l = l.told
leaves-told all up_to a b (reread.Damaged i) l = l.told

-- no stop comes if a store isn't read
pub leaves-stops : (all : ℕ) (up_to : ℕ → ℕ) (a b : DiskState) (fault : Reread) → Leaves all up_to a b fault → NoStop a → NoStop b
leaves-stops all up_to a b reread.DiskFailed l = l.stops
leaves-stops all up_to a b reread.NotFormatted l = l.stops
leaves-stops all up_to a b (reread.Damaged i) l = l.stops

-- the bytes stay after a cut if a store is read, and if it isn't
pub cut-stays : {torn : Torn} {n : ℕ} {a b c : DiskState} → Call (Some (Cut torn)) a b → ReadOnly n b c → CutStays torn a c
cut-stays call reads = cut_stays call reads.runs reads.told reads.stays

pub cut-leaves : {torn : Torn} (all : ℕ) (up_to : ℕ → ℕ) (a b c : DiskState) (fault : Reread) → Call (Some (Cut torn)) a b → Leaves all up_to b c fault → CutStays torn a c
cut-leaves all up_to a b c reread.DiskFailed call l = cut_stays call l.runs l.told l.stays
cut-leaves all up_to a b c reread.NotFormatted call l = cut_stays call l.runs l.told l.stays
cut-leaves all up_to a b c (reread.Damaged i) call l = cut_stays call l.runs l.told l.stays

-- what was read at a place that counts from a base is a part of the bytes from the base on
pub read-part : (told : Option Told) (address b at n : ℕ) (bytes : List ℕ) → ReadsAs told address bytes → address ≡ b + at → length bytes ≡ n → (t : Told) → told ≡ Some t → bytes ≡ part at n (drop b t.bytes)
read-part told address b at n bytes reads where-is size t h =
    reads t h
    ∙ (let e : address + length bytes - address ≡ n = omega arith in ap (λ m. take m (drop address t.bytes)) e)
    ∙ ap (λ a. take n (drop a t.bytes)) where-is
    ∙ ap (take n) (sym (drop-drop at b t.bytes))

-- the 68 bytes that were read of cell i are its two copies
pub halves : (x bytes : List ℕ) (i : ℕ) → bytes ≡ part (first_at i) 68 x → held_of (take 34 bytes) (drop 34 bytes) ≡ held_of (copy x i First) (copy x i Second)
halves x bytes i whole =
    let one : take 34 bytes ≡ part (first_at i) 34 x = ap (take 34) whole ∙ first-half (first_at i) x in
    let place : first_at i + 34 ≡ second_at i = omega arith in
    let two : drop 34 bytes ≡ part (second_at i) 34 x = ap (drop 34) whole ∙ (second-half (first_at i) x ∙ ap (λ at. part at 34 x) place) in
    ap (λ a. held_of a (drop 34 bytes)) one ∙ ap (held_of (part (first_at i) 34 x)) two

module _ (version : Version) (told : Option Told) (i address : ℕ) (bytes : List ℕ) (reads : ReadsAs told address bytes) (place : address ≡ base version + first_at i) (size : length bytes ≡ 68) where
  pub told-keeps : (held : Held) → Some held ≡ held_of (take 34 bytes) (drop 34 bytes) → ToldKeeps version told i held
  told-keeps held is t h = kept-of (from_base version t.bytes) i held (sym (is ∙ halves (from_base version t.bytes) bytes i (read-part told address (base version) (first_at i) 68 bytes reads place size t h)))

  pub told-damaged : None ≡ held_of (take 34 bytes) (drop 34 bytes) → (t : Told) → told ≡ Some t → cell_at (from_base version t.bytes) i ≡ None
  told-damaged is t h = damaged-of (from_base version t.bytes) i (sym (is ∙ halves (from_base version t.bytes) bytes i (read-part told address (base version) (first_at i) 68 bytes reads place size t h)))

-- what was read of the 32 bytes at the base
pub told-head : (version : Version) (told : Option Told) (address : ℕ) (bytes : List ℕ) → ReadsAs told address bytes → address ≡ base version → length bytes ≡ 32 → (t : Told) → told ≡ Some t → bytes ≡ part 0 32 (from_base version t.bytes)
told-head version told address bytes reads place size t h = read-part told address (base version) 0 32 bytes reads (omega arith) size t h

-- the header isn't read
pub header-leaves : (layout : Layout) (n all : ℕ) (up_to : ℕ → ℕ) (old new : DiskState) (fault : Reread) → 1 ≤ all → HeaderFault layout n old new fault → Leaves all up_to old new fault
header-leaves layout n all up_to old new reread.DiskFailed some f = failed_more all some f
header-leaves layout n all up_to old new reread.NotFormatted some f = reads_more (min all 1) (omega arith) f.0
header-leaves layout n all up_to old new (reread.Damaged i) some f = absurd f

pub header-finds : (layout : Layout) (n : ℕ) (old new : DiskState) (fault : Reread) → HeaderFault layout n old new fault → Finds layout n old.told fault
header-finds layout n old new reread.DiskFailed f t told = tt
header-finds layout n old new reread.NotFormatted f t told = f.1 t told
header-finds layout n old new (reread.Damaged i) f t told = absurd f

-- the header and the first i of n cells are read
pub record ReadSoFar (version : Version) (n i : ℕ) (held : List Held) (start now : DiskState) : Type 0 where
  pub as_before : ReadOnly (1 + i) start now
  pub grows : Grows start now
  pub head : (t : Told) → start.told ≡ Some t → HasHeader (twin_layout version) n t.bytes
  pub each : (t : Told) → start.told ≡ Some t → (j : ℕ) (d : Held) → j < i → Keeps (from_base version t.bytes) j (get_or held j d)

module _ (version : Version) (n i : ℕ) (held : List Held) (start now new : DiskState) (so : ReadSoFar version n i held start now) where
  -- one more cell is read
  pub read-more : (h : Held) → ReadOnly 1 now new → ToldKeeps version now.told i h → i < length held → ReadSoFar version n (i + 1) (set held i h) start new
  read-more h one keeps below = record {
    as_before = reads_more (1 + (i + 1)) (omega arith) (reads_join so.as_before one);
    grows = grows_then so.grows one.runs;
    head = so.head;
    each = λ t told j d l. elim (cases_eq j i) [
      | inl e ↦ subst (λ m. Keeps (from_base version t.bytes) m (get_or (set held i h) m d)) (sym e) (subst (λ (x : Held). Keeps (from_base version t.bytes) i x) (sym (get_or-set_same held i h d below)) (keeps t (so.as_before.told ∙ told)))
      | inr ne ↦ subst (λ (x : Held). Keeps (from_base version t.bytes) j x) (sym (get_or-set_other held i j h d ne)) (so.each t told j d (omega arith))
    ];
  }

  -- a cell isn't read
  pub cell-leaves : (fault : Reread) → i < n → CellFault version i now new fault → Leaves (twin_reads n) twin_reads_to start new fault
  cell-leaves reread.DiskFailed below f = failed_more (1 + n) (omega arith) (failed_after so.as_before f)
  cell-leaves reread.NotFormatted below f = absurd f
  cell-leaves (reread.Damaged j) below f = let is = f.0 in reads_more (min (1 + n) (2 + j)) (omega arith) (reads_join so.as_before f.1)

  pub cell-finds : (fault : Reread) → i < n → CellFault version i now new fault → Finds (twin_layout version) n start.told fault
  unfolding IsDamaged
  cell-finds reread.DiskFailed below f t told = tt
  cell-finds reread.NotFormatted below f t told = absurd f
  cell-finds (reread.Damaged j) below f t told = (
    so.head t told,
    subst (λ m. FirstDamaged (twin_layout version) t.bytes n m) (sym f.0) (record {
      below = below;
      damaged = f.2 t (so.as_before.told ∙ told);
      before = λ k l. some k (so.each t told k (record { payload = []; mark = 0; side = First; spare_is_live = false }) l);
    }),
  ) where
    some : (k : ℕ) {h : Held} → Keeps (from_base version t.bytes) k h → IsSome (cell_at (from_base version t.bytes) k)
    some k {h} keeps = subst (λ (o : Option (List ℕ)). IsSome o) (sym (cell_at-kept (from_base version t.bytes) k h keeps)) refl
