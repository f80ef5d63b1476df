-- What a power cut leaves of a ledger and its store
use Rattle.std.proofs.Common.{◌≡◌, ℕ, ◌<◌, false, true≢false, List, [], length, get_or, refl, sym, ap, subst, ◌∙◌, arith, inl, inr}
use Rattle.std.specs.Prelude.{Option, None, Some, option_map, is_some, Err}
use Rattle.std.proofs.lemmas.List.{length-map, get_or-map, get_or-take, length-take-le, length-set}
use Rattle.std.proofs.lemmas.Option.{same_Some, none-some}
use Rattle.cut_disk.specs.declared.Torn.{Torn}
use Rattle.cut_disk.specs.Images.{CutsTo}
use Rattle.cell_store.specs.declared.faults.Reread.{Reread}
use Rattle.cell_store.specs.declared.faults.Reread.TheVariants as reread
use Rattle.key_campaign.specs.declared.commands.LedgerCommand.TheVariants as command
use Rattle.key_campaign.specs.declared.faults.LedgerCut.TheVariants as cut
use Rattle.key_campaign.specs.Lines.{ledger_cut_line}
use Rattle.cell_store.specs.Cells.{CellsState, StandsNow, EachImageStands}
use Rattle.store_keeping.specs.Keeping.{MayKeep, FitsStore, TellsKept}
use Rattle.store_keeping.proofs.CallerLemmas.{found_kept, each_stands, fits_refused, fits_up}
use Rattle.key_campaign.specs.declared.entries.LedgerEntry.{LedgerEntry}
use Rattle.key_campaign.specs.declared.entries.PendingEntry.{PendingEntry}
use Rattle.key_campaign.specs.Entries.{place_count, place_for, entry_at, with_change}
use Rattle.key_campaign.specs.Campaign.{Campaign, powered_ledger, stays_off}
use Rattle.key_campaign.specs.Steps.{PowersLedger, LedgerStep}
use Rattle.key_campaign.proofs.EntryPlaces.{at_place}
use Rattle.key_campaign.proofs.Changes.{AreLedgerEntries-change}
use Rattle.key_campaign.proofs.SoundSteps.{pending_advances, sound_off}
use Rattle.key_campaign.specs.Cell.{place_cell, HoldsPlace, ledger_cells, HoldEntries, FirstBadEntry}
use Rattle.key_campaign.specs.State.{keeping_of, IsLedger}
use Rattle.key_campaign.proofs.CellLaws.{one_place, place_at, one_ledger}

-- ---- cells of a ledger have no bad one

module _ (cells : List (List ℕ)) (entries : List (Option LedgerEntry)) (hold : HoldEntries cells entries) where
  size : length cells ≡ length entries
  size = ap length hold.cells_are ∙ length-map entries place_cell

  holds_at : (k : ℕ) → k < length cells → HoldsPlace (get_or cells k []) (get_or entries k None)
  holds_at k inside = record {
    is_place = place_at entries hold.entries_are k (get_or entries k None) refl;
    cell_is = ap (λ (l : List (List ℕ)). get_or l k []) hold.cells_are ∙ get_or-map place_cell entries k None [] (omega (arith, inside, size));
  }

  found_at : (k : ℕ) (place : Option LedgerEntry) → k < length cells → HoldsPlace (get_or cells k []) place → entry_at entries k ≡ place
  found_at k place inside holds = one_place (get_or cells k []) (get_or entries k None) place (holds_at k inside) holds

  pub none_bad : (bad : ℕ) → FirstBadEntry cells bad → ⊥
  none_bad bad first = elim first.is_bad [
    | inl none ↦ none (get_or entries bad None) (holds_at bad first.below)
    | inr repeats ↦
        let e : LedgerEntry = repeats.0 in
        let front : List (Option LedgerEntry) = first.front in
        let j : ℕ = place_for e.uid e.id front in
        let f = at_place e.uid e.id front repeats.2 in
        let long : length front ≡ bad =
        sym (length-map front place_cell) ∙ sym (ap length first.before.cells_are) ∙ length-take-le bad cells (omega (arith, first.below)) in
        let below : j < bad = omega (arith, long, repeats.2) in
        let cell_j : get_or cells j [] ≡ place_cell (Some f.entry) =
        sym (get_or-take bad cells j [] below) ∙ ap (λ (l : List (List ℕ)). get_or l j []) first.before.cells_are
        ∙ get_or-map place_cell front j None [] repeats.2 ∙ ap place_cell f.is in
        let here : entry_at entries j ≡ Some f.entry =
        found_at j (Some f.entry) (omega (arith, below, first.below)) (record { is_place = first.before.entries_are.are j f.entry f.is; cell_is = cell_j }) in
        let there : entry_at entries bad ≡ Some e = found_at bad (Some e) first.below repeats.1 in
        let at_j : place_for f.entry.uid f.entry.id entries ≡ j = hold.entries_are.once j f.entry here in
        let at_bad : place_for e.uid e.id entries ≡ bad = hold.entries_are.once bad e there in
        let same : place_for f.entry.uid f.entry.id entries ≡ place_for e.uid e.id entries =
        ap (λ u. place_for u f.entry.id entries) f.uid_is ∙ ap (λ i. place_for e.uid i entries) f.id_is in
        absurd (omega (arith, at_j, at_bad, same, below))
  ]

-- ---- after the cut

some_mapped : {A B : Type 0} (f : A → B) (o : Option A) (y : B) → option_map f o ≡ Some y → (x : A) × (o ≡ Some x) × (y ≡ f x)
some_mapped f None y e = absurd (none-some y e)
some_mapped f (Some x) y e = (x, refl, sym (same_Some (f x) y e))

module _ (c : Campaign) (store : CellsState) (is : IsLedger c store) where
  -- the cells that may be kept are those of entries
  pub kept_entries : (cells : List (List ℕ)) → MayKeep (keeping_of c) cells
      → (entries : List (Option LedgerEntry)) × HoldEntries cells entries × PowersLedger c (powered_ledger entries) × (length entries ≡ length c.entries)
  kept_entries cells (inl same) = (c.entries, record { entries_are = is.sound.entries_are; cells_are = same }, inl refl, refl)
  kept_entries cells (inr pending) =
      let p = some_mapped (λ (change : PendingEntry). ledger_cells (with_change change c.entries)) c.pending cells pending in
      let change : PendingEntry = p.0 in (
        with_change change c.entries,
        record { entries_are = AreLedgerEntries-change c.entries change (pending_advances c change is.sound p.1) is.sound.entries_are; cells_are = p.2 },
        inr (change, p.1, refl),
        length-set c.entries change.place (Some change.entry),
      )

  -- over a disk that fits, each image stands for a list of as many cells
  pub each_image : TellsKept (keeping_of c) store → EachImageStands store
  each_image = each_stands (keeping_of c) store (λ cells may.
      let k = kept_entries cells may in
      ap length k.1.cells_are ∙ length-map k.0 place_cell ∙ k.3 ∙ is.sound.count ∙ sym is.count)

  -- the ledger is down, with what it knew
  pub ledger_off : (left : CellsState) → length left.cells ≡ length store.cells → IsLedger (stays_off c) left
  ledger_off left count = record {
    sound = sound_off c is.sound;
    count = count ∙ is.count;
    holds = λ e. absurd (true≢false (sym e));
  }

  module _ (left : CellsState) (cuts : CutsTo store.disk.told left.disk.told) (now : StandsNow left) (layout : left.layout ≡ store.layout) where
    pub powers_kept : (entries : List (Option LedgerEntry)) → HoldEntries left.cells entries → TellsKept (keeping_of c) store → PowersLedger c (powered_ledger entries)
    powers_kept entries hold fitting =
        let k = kept_entries left.cells (found_kept (keeping_of c) store left fitting cuts now layout) in
        subst (λ (l : List (Option LedgerEntry)). PowersLedger c (powered_ledger l)) (one_ledger left.cells k.0 entries k.1 hold) k.2

    pub never_bad : (bad : ℕ) → FirstBadEntry left.cells bad → TellsKept (keeping_of c) store → ⊥
    never_bad bad first fitting =
        let k = kept_entries left.cells (found_kept (keeping_of c) store left fitting cuts now layout) in
        none_bad left.cells k.0 k.1 bad first

-- a ledger that powers up over cells that it has read
pub ledger_powered : (entries : List (Option LedgerEntry)) (left : CellsState) → HoldEntries left.cells entries → length entries ≡ place_count → left.broken ≡ false
    → IsLedger (powered_ledger entries) left
ledger_powered entries left hold count whole = record {
  sound = record { count = count; entries_are = hold.entries_are; settled = λ up. refl; advances = tt };
  count = ap length hold.cells_are ∙ length-map entries place_cell ∙ count;
  holds = λ up. record { whole = whole; cells = hold.cells_are };
}

-- if the store isn't read, only the disk can have failed
pub step_unread : (c : Campaign) (torn : Torn) (fault : Reread) → fault ≡ reread.DiskFailed → LedgerStep c (command.Cut torn) (ledger_cut_line (Err (cut.Store fault))) (stays_off c)
step_unread c torn fault is = subst (λ f. LedgerStep c (command.Cut torn) (ledger_cut_line (Err (cut.Store f))) (stays_off c)) (sym is) refl

-- what fits a ledger that stays off, and one that powers up
pub fits_off : (c : Campaign) (store left : CellsState) → CutsTo store.disk.told left.disk.told → is_some left.disk.told ≡ is_some store.disk.told → left.layout ≡ store.layout
    → FitsStore (keeping_of c) store → FitsStore (keeping_of (stays_off c)) left
fits_off c store left cuts tells layout fits = fits_refused (keeping_of c) store left fits cuts tells layout

pub fits_on : (entries : List (Option LedgerEntry)) (store left : CellsState) → CutsTo store.disk.told left.disk.told → is_some left.disk.told ≡ is_some store.disk.told
    → StandsNow left → HoldEntries left.cells entries → FitsStore (keeping_of (powered_ledger entries)) left
fits_on entries store left cuts tells now hold = fits_up (keeping_of (powered_ledger entries)) store left cuts tells now hold.cells_are
