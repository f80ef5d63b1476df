-- What opening a store leaves, by what was found at the place of its header
use Rattle.std.proofs.Common.{◌≡◌, ℕ, ◌+◌, ◌<◌, ◌≤◌, List, [], length, refl, sym, ap, subst, ◌∙◌, inl, inr, arith}
use Rattle.std.specs.Prelude.{Some, min}
use Rattle.std.proofs.lemmas.Option.{same_Some}
use Rattle.std.proofs.lemmas.List.{length-append}
use Rattle.std.proofs.Math.Nat.{min-le_left}
use Rattle.cut_disk.specs.State.{DiskState, Told}
use Rattle.cut_disk.specs.Images.{Image, firm, splice}
use Rattle.cut_disk.proofs.CallerLemmas.{image_of_firm, runs_none, runs_more, runs_join, grows_then}
use Rattle.cut_disk.specs.Calls.{Rose, Runs}
use Rattle.cell_store.specs.declared.kinds.Kind.{Kind}
use Rattle.cell_store.specs.declared.kinds.Kind.TheVariants.{Twin, Log}
use Rattle.cell_store.specs.declared.kinds.Version.{Version}
use Rattle.cell_store.specs.declared.kinds.Probe.{Probe}
use Rattle.cell_store.specs.declared.kinds.Probe.TheVariants as probe
use Rattle.cell_store.specs.declared.kinds.Layout.{Layout}
use Rattle.cell_store.specs.declared.faults.StoreFault.{StoreFault}
use Rattle.cell_store.specs.declared.faults.StoreFault.TheVariants as store
use Rattle.cell_store.specs.Layout.{layout, SameOutside, base, header}
use Rattle.cell_store.specs.ReadOrder.{reads, reads_to}
use Rattle.cell_store.specs.Store.{Stands, Fresh, fresh_store, fresh_cells, size_from_base, store_size}
use Rattle.cell_store.specs.Cells.{CellsState}
use Rattle.cell_store.specs.Attaching.{Attached, NotAttached, Probed, NotProbed, NotFormed}
use Rattle.cell_store.specs.Formats.{Formats, FreshOn, Unformed, LeavesUnformed}
use Rattle.cell_store.specs.Reading.{ReadOnly}
use Rattle.cell_store.proofs.CallerLemmas.{SameOutside-refl, SameOutside-splice, length-header, stands_once, stands-whole, Sized, length-fresh_cells, length-fresh_log}
use Rattle.any_cells.proofs.LookingLaws.{blank-probe, probe-blank}
use Rattle.any_cells.specs.Either.{format_calls}
use Rattle.any_cells.specs.Looking.{IsBlank}
use Rattle.any_cells.specs.Opening.{open_calls, StoreOpened, NoStoreCause, NoStoreOpened}

-- ---- lengths

fresh-length : (kind : Kind) (version : Version) (cells : List (List ℕ)) → Sized cells
    → length (fresh_store (layout kind version) cells) ≡ size_from_base kind (length cells)
fresh-length Twin version cells sized =
    omega (arith, length-append (header (layout Twin version) (length cells)) (fresh_cells Twin cells), length-header (layout Twin version) (length cells), length-fresh_cells cells sized)
fresh-length Log version cells sized =
    omega (arith, length-append (header (layout Log version) (length cells)) (fresh_cells Log cells), length-header (layout Log version) (length cells), length-fresh_log cells sized)

-- a store's header has room if the store has
header-room : (kind : Kind) (version : Version) (n size : ℕ) → store_size (layout kind version) n ≤ size → size < base version + 32 → ⊥
header-room Twin version n size room small = absurd (let no : ⊥ = omega (arith, room, small) in no)
header-room Log version n size room small = absurd (let no : ⊥ = omega (arith, room, small) in no)

-- ---- what a format that fails may leave is also what was there before, and a fresh store

pub unformed-same : (laid : Layout) (cells : List (List ℕ)) (b : List ℕ) → Unformed laid cells b b
unformed-same laid cells b = record {
  besides = SameOutside-refl (base laid.version) (size_from_base laid.kind (length cells)) b;
  within = inl (SameOutside-refl (base laid.version) 32 b);
}

unformed-fresh : (kind : Kind) (version : Version) (cells : List (List ℕ)) (b y : List ℕ) → Sized cells
    → store_size (layout kind version) (length cells) ≤ length b → Fresh (layout kind version) cells b y → Unformed (layout kind version) cells b y
unfolding Fresh
unformed-fresh kind version cells b y sized room fresh =
    let wide = fresh-length kind version cells sized in
    let spliced : SameOutside (base version) (length (fresh_store (layout kind version) cells)) b (splice (base version) (fresh_store (layout kind version) cells) b) =
    SameOutside-splice (base version) (fresh_store (layout kind version) cells) b (omega (arith, wide, room)) in
    record {
      besides = subst (λ (z : List ℕ). SameOutside (base version) (size_from_base kind (length cells)) b z) (sym fresh)
          (subst (λ m. SameOutside (base version) m b (splice (base version) (fresh_store (layout kind version) cells) b)) wide spliced);
      within = inr (inr (record { whole = y; fresh = fresh; same = SameOutside-refl (base version) 32 y }));
    }

-- every image of told bytes without a loose one is these bytes
pub only-image : (P : List ℕ → Type 0) (b : List ℕ) (t : Told) (x : List ℕ) → t ≡ firm b → P b → Image t x → P x
only-image P b t x is holds image = subst P (sym (image_of_firm (subst (λ (s : Told). Image s x) is image))) holds

-- ---- what attaching read

-- a store wasn't attached: its bytes are as before
record OnlyRead (kind : Kind) (n : ℕ) (before after : DiskState) : Type 0 where
  pub runs : Runs [] (reads kind n) before after
  pub told : after.told ≡ before.told

same-disk : (kind : Kind) (n : ℕ) (before after : DiskState) → after ≡ before → OnlyRead kind n before after
same-disk kind n before after same = subst (OnlyRead kind n before) (sym same) (record { runs = runs_more (reads kind n) (omega arith) (runs_none before); told = refl })

few-reads : (kind : Kind) (n most : ℕ) (before after : DiskState) → ReadOnly (min (reads kind n) most) before after → OnlyRead kind n before after
few-reads kind n most before after read = record { runs = runs_more (reads kind n) (min-le_left (reads kind n) most) read.runs; told = read.told }

only-read : (kind : Kind) (version : Version) (n : ℕ) (before after : DiskState) (fault : StoreFault)
    → NotAttached (layout kind version) (reads kind n) (reads_to kind n) n before after fault → OnlyRead kind n before after
only-read kind version n before after store.TooSmall why = same-disk kind n before after why.1
only-read kind version n before after store.Memory why = same-disk kind n before after why.1
only-read kind version n before after store.DiskFailed why = record { runs = why.leaves.runs; told = why.leaves.told }
only-read kind version n before after store.NotFormatted why = few-reads kind n 1 before after why.leaves
only-read kind version n before after (store.Damaged i) why = few-reads kind n (reads_to kind n i) before after why.leaves

module _ (kind : Kind) (version : Version) (cells : List (List ℕ)) (before : DiskState) where
  abbrev n : ℕ
  n = length cells

  abbrev laid : Layout
  laid = layout kind version

  -- ---- a store is open

  pub opened-made : (mid formed : DiskState) (s : CellsState) → Probed version before mid probe.Blank → Runs [] (format_calls kind n) mid formed
      → formed.faults ≡ mid.faults → Formats laid cells mid.told formed.told → Attached laid (reads kind n) n formed s
      → StoreOpened kind version cells before s
  opened-made mid formed s probed runs faults formats attached = record {
    laid_out = attached.laid_out;
    whole = attached.whole;
    count = attached.count;
    room = omega (arith, attached.room, runs.size, probed.as_before.runs.size);
    runs = runs_join probed.as_before.runs (runs_join runs attached.as_before.runs);
    grows = grows_then probed.grows (runs_join runs attached.as_before.runs);
    faults = attached.as_before.faults ∙ faults ∙ probed.as_before.faults;
    made = λ t told blank.
        let fresh = formats t (probed.as_before.told ∙ told) in
        let mine : Stands laid fresh.bytes s.cells = attached.stands (firm fresh.bytes) fresh.told in (
          stands_once laid fresh.bytes s.cells cells mine fresh.stands,
          subst (λ (l : Layout). FreshOn l cells t s.disk.told) (sym attached.laid_out)
              (subst (FreshOn laid cells t) (sym attached.as_before.told) fresh),
          attached.settled fresh.bytes fresh.told,
        );
    found = λ t told not. absurd (not (probe-blank version _ probe.Blank (probed.probes t told) refl));
  }

  pub opened-found : (mid : DiskState) (s : CellsState) (found : Probe) → Probed version before mid found → (found ≡ probe.Blank → ⊥)
      → Attached laid (reads kind n) n mid s → StoreOpened kind version cells before s
  opened-found mid s found probed other attached = record {
    laid_out = attached.laid_out;
    whole = attached.whole;
    count = attached.count;
    room = omega (arith, attached.room, probed.as_before.runs.size);
    runs = runs_more (open_calls kind n) (omega arith) (runs_join probed.as_before.runs attached.as_before.runs);
    grows = grows_then probed.grows attached.as_before.runs;
    faults = attached.as_before.faults ∙ probed.as_before.faults;
    made = λ t told blank. absurd (other (blank-probe version _ found (probed.probes t told) blank));
    found = λ t told not.
        let now = probed.as_before.told ∙ told in (
          attached.as_before.told ∙ now,
          subst (λ (l : Layout). Stands l t.bytes s.cells) (sym attached.laid_out) (attached.stands t now),
          λ is_firm. attached.settled t.bytes (now ∙ ap Some is_firm),
        );
  }

  -- ---- none is

  abbrev NoneOpened : DiskState → StoreFault → Type 0
  NoneOpened after fault = NoStoreOpened laid cells before after fault

  -- the bytes are as before
  left-alone : (after : DiskState) → after.told ≡ before.told → LeavesUnformed laid cells before.told after.told
  left-alone after same b is t told x image =
      only-image (Unformed laid cells b) b t x (same_Some t (firm b) (sym told ∙ same ∙ is)) (unformed-same laid cells b) image

  pub small : (after : DiskState) → after ≡ before → before.size < store_size laid n → NoneOpened after store.TooSmall
  small after same less = record {
    room = λ other. absurd (other refl);
    runs = subst (Runs [] (open_calls kind n) before) (sym same) (runs_more (open_calls kind n) (omega arith) (runs_none before));
    cause = (less, same);
    kept = λ t told not. ap (λ (s : DiskState). s.told) same;
    unformed = left-alone after (ap (λ (s : DiskState). s.told) same);
  }

  pub not-probed : (after : DiskState) (fault : StoreFault) → store_size laid n ≤ before.size → NotProbed version before after fault → NoneOpened after fault
  not-probed after store.TooSmall room why = absurd (header-room kind version n before.size room why.0)
  not-probed after store.NotFormatted room why = absurd why
  not-probed after (store.Damaged i) room why = absurd why
  not-probed after store.Memory room why = absurd why
  not-probed after store.DiskFailed room why = record {
    room = λ _. room;
    runs = runs_more (open_calls kind n) (omega arith) why.1.runs;
    cause = why.1.rose;
    kept = λ t told not. why.1.told;
    unformed = left-alone after why.1.told;
  }

  -- ---- over a disk whose header is blank

  module _ (mid : DiskState) (probed : Probed version before mid probe.Blank) (room : store_size laid n ≤ before.size) where
    is-blank : (t : Told) → before.told ≡ Some t → IsBlank version t.bytes
    is-blank t told = probe-blank version _ probe.Blank (probed.probes t told) refl

    pub not-formed : (after : DiskState) (fault : StoreFault) → NotFormed laid (format_calls kind n) cells mid after fault → NoneOpened after fault
    not-formed after store.TooSmall why = absurd (let no : ⊥ = omega (arith, why.0, room, probed.as_before.runs.size) in no)
    not-formed after store.NotFormatted why = absurd why
    not-formed after (store.Damaged i) why = absurd why
    not-formed after store.Memory why = absurd why
    not-formed after store.DiskFailed why = record {
      room = λ _. room;
      runs = runs_more (open_calls kind n) (omega arith) (runs_join probed.as_before.runs why.runs);
      cause = subst (λ m. Rose m after.faults) probed.as_before.faults why.rose;
      kept = λ t told not. absurd (not (is-blank t told));
      unformed = λ b is. why.unformed b (probed.as_before.told ∙ is);
    }

    module _ (formed : DiskState) (sized : Sized cells) (runs : Runs [] (format_calls kind n) mid formed) (faults : formed.faults ≡ mid.faults)
        (formats : Formats laid cells mid.told formed.told) where
      fresh-of : (t : Told) → before.told ≡ Some t → FreshOn laid cells t formed.told
      fresh-of t told = formats t (probed.as_before.told ∙ told)

      count : (after : DiskState) → after.faults ≡ formed.faults → after.faults ≡ before.faults
      count after same = same ∙ faults ∙ probed.as_before.faults

      cause-made : (after : DiskState) (fault : StoreFault) → NotAttached laid (reads kind n) (reads_to kind n) n formed after fault → NoStoreCause laid cells before after fault
      cause-made after store.TooSmall why = absurd (let no : ⊥ = omega (arith, why.0, room, runs.size, probed.as_before.runs.size) in no)
      cause-made after store.Memory why = (
        count after (ap (λ (s : DiskState). s.faults) why.1),
        λ t told blank. subst (FreshOn laid cells t) (sym (ap (λ (s : DiskState). s.told) why.1)) (fresh-of t told),
      )
      cause-made after store.DiskFailed why = subst (λ m. Rose m after.faults) (faults ∙ probed.as_before.faults) why.leaves.rose
      cause-made after store.NotFormatted why = (
        count after why.leaves.faults,
        λ t told. let f = fresh-of t told in absurd (why.finds (firm f.bytes) f.told f.stands.head),
      )
      cause-made after (store.Damaged i) why = (
        count after why.leaves.faults,
        λ t told. let f = fresh-of t told in absurd (stands-whole laid f.bytes cells n i f.stands refl (why.finds (firm f.bytes) f.told).1),
      )

      pub made-not-attached : (after : DiskState) (fault : StoreFault) → NotAttached laid (reads kind n) (reads_to kind n) n formed after fault
          → ((t : Told) → before.told ≡ Some t → length t.bytes ≡ before.size) → NoneOpened after fault
      made-not-attached after fault why bytes =
          let read = only-read kind version n formed after fault why in
          record {
            room = λ _. room;
            runs = runs_join probed.as_before.runs (runs_join runs read.runs);
            cause = cause-made after fault why;
            kept = λ t told not. absurd (not (is-blank t told));
            unformed = λ b is t told x image.
                let f = fresh-of (firm b) is in
                only-image (Unformed laid cells b) f.bytes t x (same_Some t (firm f.bytes) (sym told ∙ read.told ∙ f.told))
                (unformed-fresh kind version cells b f.bytes sized (omega (arith, room, bytes (firm b) is)) f.fresh) image;
          }

  -- ---- over any other

  module _ (mid : DiskState) (found : Probe) (probed : Probed version before mid found) (room : store_size laid n ≤ before.size) (other : found ≡ probe.Blank → ⊥) where
    not-blank-there : (t : Told) → before.told ≡ Some t → IsBlank version t.bytes → ⊥
    not-blank-there t told blank = other (blank-probe version _ found (probed.probes t told) blank)

    cause-found : (after : DiskState) (fault : StoreFault) → NotAttached laid (reads kind n) (reads_to kind n) n mid after fault → NoStoreCause laid cells before after fault
    cause-found after store.TooSmall why = absurd (let no : ⊥ = omega (arith, why.0, room, probed.as_before.runs.size) in no)
    cause-found after store.Memory why = (ap (λ (s : DiskState). s.faults) why.1 ∙ probed.as_before.faults, λ t told blank. absurd (not-blank-there t told blank))
    cause-found after store.DiskFailed why = subst (λ m. Rose m after.faults) probed.as_before.faults why.leaves.rose
    cause-found after store.NotFormatted why =
        (why.leaves.faults ∙ probed.as_before.faults, λ t told. (not-blank-there t told, why.finds t (probed.as_before.told ∙ told)))
    cause-found after (store.Damaged i) why = (why.leaves.faults ∙ probed.as_before.faults, λ t told. why.finds t (probed.as_before.told ∙ told))

    pub found-not-attached : (after : DiskState) (fault : StoreFault) → NotAttached laid (reads kind n) (reads_to kind n) n mid after fault → NoneOpened after fault
    found-not-attached after fault why =
        let read = only-read kind version n mid after fault why in
        record {
          room = λ _. room;
          runs = runs_more (open_calls kind n) (omega arith) (runs_join probed.as_before.runs read.runs);
          cause = cause-found after fault why;
          kept = λ t told not. read.told ∙ probed.as_before.told;
          unformed = left-alone after (read.told ∙ probed.as_before.told);
        }
