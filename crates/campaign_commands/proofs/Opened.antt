-- What is open on a disk, or why nothing is
use Rattle.std.proofs.Common.{◌≡◌, ◌≢◌, ℕ, ◌<◌, ◌≤◌, false, true≢false, List, [], length, replicate, refl, sym, ap, subst, ◌∙◌, inl, inr}
use Rattle.std.specs.Prelude.{◌⊎◌, Option, None, Some, is_some}
use Rattle.std.specs.Str.{bytes_eq}
use Rattle.std.proofs.lemmas.Bool.{cases_Bool}
use Rattle.std.proofs.lemmas.List.{length-map, length-replicate}
use Rattle.std.proofs.lemmas.Option.{none-some}
use Rattle.std.proofs.lemmas.Slice.Eq.{bytes_eq-Decides}
use Rattle.cut_disk.specs.State.{DiskState, Told}
use Rattle.cut_disk.specs.Images.{firm}
use Rattle.cut_disk.specs.Calls.{Rose, Runs, AsBefore}
use Rattle.cut_disk.proofs.CallerLemmas.{quiet_never_rose}
use Rattle.cell_store.specs.declared.kinds.Kind.TheVariants.{Twin}
use Rattle.cell_store.specs.declared.kinds.Version.TheVariants.{One}
use Rattle.cell_store.specs.declared.kinds.Layout.{Layout}
use Rattle.cell_store.specs.declared.faults.StoreFault.{StoreFault}
use Rattle.cell_store.specs.declared.faults.StoreFault.TheVariants as store
use Rattle.cell_store.specs.Layout.{part, from_base}
use Rattle.cell_store.specs.Store.{HasHeader, Stands, FirstDamaged, store_size}
use Rattle.cell_store.specs.Cells.{CellsState, Settled}
use Rattle.cell_store.proofs.CallerLemmas.{header-not_blank, stands_once, stands-whole}
use Rattle.any_cells.specs.Opening.{open_calls, StoreOpened, NoStoreOpened}
use Rattle.store_keeping.proofs.CallerLemmas.{tells_kept}
use Rattle.store_keeping.specs.DiskTurns.{OpenedDisk}
use Rattle.key_campaign.specs.declared.entries.LedgerEntry.{LedgerEntry}
use Rattle.key_campaign.specs.Entries.{place_count, no_entries, AreLedgerEntries}
use Rattle.key_campaign.specs.Campaign.{powered_ledger, SoundLedger}
use Rattle.key_campaign.specs.Cell.{place_cell, ledger_cells, HoldEntries, FirstBadEntry}
use Rattle.key_campaign.specs.State.{LedgerState, keeping_of, FitsLedger}
use Rattle.key_campaign.proofs.CallerLemmas.{one_ledger, none_bad, no_entries-held}
use Rattle.campaign_commands.specs.declared.opening.NoLedgerCause.{NoLedgerCause}
use Rattle.campaign_commands.specs.declared.opening.NoLedgerCause.TheVariants.{Store, BadEntry}
use Rattle.campaign_commands.specs.Opening.{ledger_layout, ledger_size, calls_to_open, HasNoHeader, StandsForEntries, StartsFrom, TellsFirm, LedgerOpened, IsNoLedger, FindsBadEntry, LacksLedger, StandsForNone, LeavesRead, LeavesNone, HasEntries}
use Rattle.campaign_commands.specs.Rows.{no_ledger_text}
use Rattle.campaign_commands.specs.Campaigns.{NoLedgerBecause, TellsNoLedger, ServesLedger}

-- ---- a header of zeros

pub blank_or_not : (x : List ℕ) → HasNoHeader x ⊎ (HasNoHeader x → ⊥)
blank_or_not x =
    let decides = bytes_eq-Decides (part 0 32 (from_base One x)) (replicate 32 0) in
    elim (cases_Bool (bytes_eq (part 0 32 (from_base One x)) (replicate 32 0))) [
      | inl equal ↦ inl (decides.0 equal)
      | inr other ↦ inr (λ is. true≢false (sym (decides.1 is) ∙ other))
    ]

headed : (x : List ℕ) (n : ℕ) → HasHeader ledger_layout n x → HasNoHeader x → ⊥
headed x n head blank = header-not_blank ledger_layout n (sym head ∙ blank)

-- ---- what is told before and after

told_after : (before after : DiskState) → is_some after.told ≡ is_some before.told → ((t : Told) → before.told ≡ Some t → after.told ≡ before.told)
    → after.told ≡ before.told
told_after before after some each = by_case before.told after.told some each
  where
    none_too : (o : Option Told) → is_some o ≡ false → o ≡ None
    none_too None is = refl
    none_too (Some t) is = cc

    by_case : (old new : Option Told) → is_some new ≡ is_some old → ((t : Told) → old ≡ Some t → new ≡ old) → new ≡ old
    by_case None new same kept = none_too new same
    by_case (Some t) new same kept = kept t refl

-- ---- a ledger without entries

size_of_none : length (ledger_cells no_entries) ≡ place_count
unfolding no_entries
size_of_none = length-map no_entries place_cell ∙ length-replicate {A = Option LedgerEntry} place_count None

module _ (before : DiskState) (s : CellsState) (opened : StoreOpened Twin One (ledger_cells no_entries) before s) where
  pub count : length s.cells ≡ place_count
  count = opened.count ∙ size_of_none

  few_calls : Runs [] calls_to_open before s.disk
  few_calls = subst (λ (n : ℕ). Runs [] (open_calls Twin n) before s.disk) size_of_none opened.runs

  pub room_for : ledger_size ≤ before.size
  room_for = subst (λ (n : ℕ). store_size ledger_layout n ≤ before.size) size_of_none opened.room

  starts_from : (entries : List (Option LedgerEntry)) → HoldEntries s.cells entries → StartsFrom before entries
  starts_from entries hold t told = (
    λ blank.
        let made = (opened.made t told blank).0 in
        one_ledger (ledger_cells no_entries) entries no_entries (subst (λ (c : List (List ℕ)). HoldEntries c entries) made hold) no_entries-held,
    λ not.
        let found = (opened.found t told not).1 in
        subst (λ (c : List (List ℕ)). Stands ledger_layout t.bytes c) hold.cells_are
        (subst (λ (l : Layout). Stands l t.bytes s.cells) opened.laid_out found),
  )

  settles : TellsFirm before → Settled s
  settles tells = elim (blank_or_not tells.bytes) [
    | inl blank ↦ (opened.made (firm tells.bytes) tells.told blank).2
    | inr not ↦ (opened.found (firm tells.bytes) tells.told not).2 refl
  ]

  pub opens_ledger : (l : LedgerState) → l.campaign ≡ powered_ledger l.campaign.entries → SoundLedger l.campaign → HoldEntries s.cells l.campaign.entries
      → l.store ≡ s → (Settled s → FitsLedger l) → LedgerOpened before l
  opens_ledger l up sound hold same fits = record {
    up = up;
    sound = sound;
    room = room_for;
    laid_out = ap (λ (c : CellsState). c.layout) same ∙ opened.laid_out;
    opened = subst (λ (c : CellsState). OpenedDisk calls_to_open before c.disk) (sym same)
        (record { runs = few_calls; grows = opened.grows; faults = opened.faults });
    starts = starts_from l.campaign.entries hold;
    tells = λ tells.
        let settled = settles tells in
        tells_kept (keeping_of l.campaign) l.store (fits settled) (firm settled.bytes) (ap (λ (c : CellsState). c.disk.told) same ∙ settled.told);
  }

  -- ---- cells that are no ledger's

  module _ (bad : ℕ) (first : FirstBadEntry s.cells bad) where
    bad_not_blank : (t : Told) → before.told ≡ Some t → HasNoHeader t.bytes → ⊥
    bad_not_blank t told blank =
        none_bad (ledger_cells no_entries) no_entries no_entries-held bad
        (subst (λ (c : List (List ℕ)). FirstBadEntry c bad) (opened.made t told blank).0 first)

    pub finds_bad : FindsBadEntry before s.disk bad
    finds_bad = record {
      room = room_for;
      reads = record {
        runs = few_calls;
        told = told_after before s.disk few_calls.tells (λ t told. (opened.found t told (bad_not_blank t told)).0 ∙ sym told);
        faults = opened.faults;
      };
      bytes = λ t told. (
        bad_not_blank t told,
        (s.cells, count, subst (λ (l : Layout). Stands l t.bytes s.cells) opened.laid_out (opened.found t told (bad_not_blank t told)).1, first),
      );
    }

-- ---- what an opening that failed leaves of the disk

module _ (before after : DiskState) where
  module _ (fault : StoreFault) (none : NoStoreOpened ledger_layout (ledger_cells no_entries) before after fault) where
    calls : Runs [] calls_to_open before after
    calls = subst (λ (n : ℕ). Runs [] (open_calls Twin n) before after) size_of_none none.runs

    pub room_of_none : fault ≢ store.TooSmall → ledger_size ≤ before.size
    room_of_none other = subst (λ (n : ℕ). store_size ledger_layout n ≤ before.size) size_of_none (none.room other)

    only_read : after.faults ≡ before.faults → ((t : Told) → before.told ≡ Some t → HasNoHeader t.bytes → ⊥) → AsBefore calls_to_open before after
    only_read same not = record {
      runs = calls;
      told = told_after before after calls.tells (λ t told. none.kept t told (not t told));
      faults = same;
    }

  pub small_of_none : NoStoreOpened ledger_layout (ledger_cells no_entries) before after store.TooSmall → before.size < ledger_size
  small_of_none none = subst (λ (n : ℕ). before.size < store_size ledger_layout n) size_of_none none.cause.0

  -- if memory is out a blank disk has a ledger without entries
  pub unopened_leaves : NoStoreOpened ledger_layout (ledger_cells no_entries) before after store.Memory → LeavesNone before after
  unopened_leaves none = record {
    runs = calls store.Memory none;
    left = by_told before.told refl;
    kept = none.kept;
  }
    where
      stays : after.told ≡ before.told → AsBefore calls_to_open before after ⊎ (StandsForNone after ⊎ Rose before.faults after.faults)
      stays same = inl (record { runs = calls store.Memory none; told = same; faults = none.cause.0 })

      by_told : (told : Option Told) → told ≡ before.told → AsBefore calls_to_open before after ⊎ (StandsForNone after ⊎ Rose before.faults after.faults)
      by_told None is = stays (told_after before after (calls store.Memory none).tells (λ t told. absurd (none-some t (is ∙ told))))
      by_told (Some t) is = elim (blank_or_not t.bytes) [
        | inl blank ↦
            let fresh = none.cause.1 t (sym is) blank in
            inr (inl (record { now = firm fresh.bytes; told = fresh.told; stands = fresh.stands }))
        | inr not ↦ stays (none.kept t (sym is) not)
      ]

  -- ---- a row of 10

  no_text : {A : Type 0} (text : List ℕ) → None ≡ Some text → A
  no_text text is = absurd (none-some text is)

  header_here : (t : Told) → HasHeader ledger_layout (length (ledger_cells no_entries)) t.bytes → HasHeader ledger_layout place_count t.bytes
  header_here t head = subst (λ (n : ℕ). HasHeader ledger_layout n t.bytes) size_of_none head

  pub lacks_leaves : (cause : NoLedgerCause) (text : List ℕ) → no_ledger_text cause ≡ Some text → LacksLedger before after cause → LeavesRead before after
  lacks_leaves (Store store.TooSmall) text is lacks = no_text text is
  lacks_leaves (Store store.Memory) text is lacks = no_text text is
  lacks_leaves (Store store.DiskFailed) text is lacks = record { left = inr lacks.cause; kept = lacks.kept }
  lacks_leaves (Store store.NotFormatted) text is lacks = record {
    left = inl (only_read store.NotFormatted lacks lacks.cause.0 (λ t told. (lacks.cause.1 t told).0));
    kept = lacks.kept;
  }
  lacks_leaves (Store (store.Damaged i)) text is lacks = record {
    left = inl (only_read (store.Damaged i) lacks lacks.cause.0 (λ t told. headed t.bytes place_count (header_here t (lacks.cause.1 t told).0)));
    kept = lacks.kept;
  }
  lacks_leaves (BadEntry bad) text is lacks = record { left = inl lacks.reads; kept = λ t told not. lacks.reads.told }

  lacks_runs : (cause : NoLedgerCause) → LacksLedger before after cause → Runs [] calls_to_open before after
  lacks_runs (Store fault) lacks = calls fault lacks
  lacks_runs (BadEntry bad) lacks = lacks.reads.runs

  more_left : AsBefore calls_to_open before after ⊎ Rose before.faults after.faults → AsBefore calls_to_open before after ⊎ (StandsForNone after ⊎ Rose before.faults after.faults)
  more_left (inl same) = inl same
  more_left (inr rose) = inr (inr rose)

  pub lacks_none : (cause : NoLedgerCause) (text : List ℕ) → no_ledger_text cause ≡ Some text → LacksLedger before after cause → LeavesNone before after
  lacks_none cause text is lacks =
      let leaves = lacks_leaves cause text is lacks in
      record { runs = lacks_runs cause lacks; left = more_left leaves.left; kept = leaves.kept }

  pub lacks_because : (cause : NoLedgerCause) (text : List ℕ) → no_ledger_text cause ≡ Some text → LacksLedger before after cause → NoLedgerBecause cause before after
  lacks_because (Store store.TooSmall) text is lacks = no_text text is
  lacks_because (Store store.Memory) text is lacks = no_text text is
  lacks_because (Store store.DiskFailed) text is lacks =
      (λ quiet. quiet_never_rose quiet ((calls store.DiskFailed lacks).quiet refl quiet) lacks.cause, lacks.cause)
  lacks_because (Store store.NotFormatted) text is lacks = (
    lacks.cause.0,
    λ t told. ((lacks.cause.1 t told).0, λ head. (lacks.cause.1 t told).1 (subst (λ (n : ℕ). HasHeader ledger_layout n t.bytes) (sym size_of_none) head)),
  )
  lacks_because (Store (store.Damaged i)) text is lacks = (
    lacks.cause.0,
    λ t told. (header_here t (lacks.cause.1 t told).0, subst (λ (n : ℕ). FirstDamaged ledger_layout t.bytes n i) size_of_none (lacks.cause.1 t told).1),
  )
  lacks_because (BadEntry bad) text is lacks = (lacks.reads.faults, λ t told. (lacks.bytes t told).1)

  -- ---- a disk that has a ledger, and one that has none

  -- cells of the ledger that the bytes stand for
  cells_size : (entries : List (Option LedgerEntry)) → length entries ≡ place_count → length (ledger_cells entries) ≡ place_count
  cells_size entries size_is = length-map entries place_cell ∙ size_is

  stands_headed : (x : List ℕ) (entries : List (Option LedgerEntry)) → length entries ≡ place_count → StandsForEntries x entries → HasHeader ledger_layout place_count x
  stands_headed x entries size_is stands = subst (λ (n : ℕ). HasHeader ledger_layout n x) (cells_size entries size_is) stands.head

  -- bytes of a ledger are no ledger's for no cause
  pub ledger_or_none : (x : List ℕ) (cause : NoLedgerCause) (entries : List (Option LedgerEntry)) → length entries ≡ place_count → AreLedgerEntries entries
      → ((HasNoHeader x → ⊥) → StandsForEntries x entries) → IsNoLedger x cause → ⊥
  ledger_or_none x (Store store.NotFormatted) entries size_is are stands none = none.1 (stands_headed x entries size_is (stands none.0))
  ledger_or_none x (Store (store.Damaged i)) entries size_is are stands none =
      let here = stands (headed x place_count none.0) in
      stands-whole ledger_layout x (ledger_cells entries) place_count i here (cells_size entries size_is) none.1
  ledger_or_none x (BadEntry bad) entries size_is are stands none =
      let mine = none.2 in
      let here = stands (headed x (length none.0) mine.head) in
      none_bad (ledger_cells entries) entries (record { entries_are = are; cells_are = refl }) bad
      (subst (λ (c : List (List ℕ)). FirstBadEntry c bad) (stands_once ledger_layout x none.0 (ledger_cells entries) mine here) none.3)
  ledger_or_none x (Store store.TooSmall) entries size_is are stands none = none
  ledger_or_none x (Store store.Memory) entries size_is are stands none = none
  ledger_or_none x (Store store.DiskFailed) entries size_is are stands none = none

  pub opened_or_none : (l : LedgerState) (cause : NoLedgerCause) → LedgerOpened before l → TellsNoLedger cause before after → ⊥
  opened_or_none l cause opened none =
      let starts = opened.starts none.now none.told in
      ledger_or_none none.now.bytes cause l.campaign.entries opened.sound.count opened.sound.entries_are starts.1 none.none

  -- a blank disk and one with a ledger lack none
  has_or_lacks : (x : List ℕ) (cause : NoLedgerCause) → HasNoHeader x ⊎ HasEntries x → (HasNoHeader x → ⊥) → IsNoLedger x cause → ⊥
  has_or_lacks x cause (inl blank) not none = not blank
  has_or_lacks x cause (inr has) not none = ledger_or_none x cause has.entries has.count has.are (λ _. has.stands) none

  pub serves_or_lacks : (cause : NoLedgerCause) (text : List ℕ) → no_ledger_text cause ≡ Some text → ServesLedger before after → LacksLedger before after cause → ⊥
  serves_or_lacks (Store store.TooSmall) text is serves lacks = no_text text is
  serves_or_lacks (Store store.Memory) text is serves lacks = no_text text is
  serves_or_lacks (Store store.DiskFailed) text is serves lacks = elim serves.1 [
    | inl quiet ↦ (lacks_because (Store store.DiskFailed) text is lacks).0 quiet
    | inr calm ↦ calm lacks.cause
  ]
  serves_or_lacks (Store store.NotFormatted) text is serves lacks =
      has_or_lacks serves.0.now.bytes (Store store.NotFormatted) serves.0.is (lacks.cause.1 serves.0.now serves.0.told).0
      ((lacks_because (Store store.NotFormatted) text is lacks).1 serves.0.now serves.0.told)
  serves_or_lacks (Store (store.Damaged i)) text is serves lacks =
      let none = (lacks_because (Store (store.Damaged i)) text is lacks).1 serves.0.now serves.0.told in
      has_or_lacks serves.0.now.bytes (Store (store.Damaged i)) serves.0.is (headed serves.0.now.bytes place_count none.0) none
  serves_or_lacks (BadEntry bad) text is serves lacks =
      has_or_lacks serves.0.now.bytes (BadEntry bad) serves.0.is (lacks.bytes serves.0.now serves.0.told).0 (lacks.bytes serves.0.now serves.0.told).1

  -- if there is a text, there is room
  pub lacks_room : (cause : NoLedgerCause) (text : List ℕ) → no_ledger_text cause ≡ Some text → LacksLedger before after cause → ledger_size ≤ before.size
  lacks_room (Store store.TooSmall) text is lacks = no_text text is
  lacks_room (Store store.Memory) text is lacks = no_text text is
  lacks_room (Store store.DiskFailed) text is lacks = room_of_none store.DiskFailed lacks (λ e. cc)
  lacks_room (Store store.NotFormatted) text is lacks = room_of_none store.NotFormatted lacks (λ e. cc)
  lacks_room (Store (store.Damaged i)) text is lacks = room_of_none (store.Damaged i) lacks (λ e. cc)
  lacks_room (BadEntry bad) text is lacks = lacks.room
