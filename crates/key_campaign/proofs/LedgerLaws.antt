-- What puts leave of a ledger and its store
use Rattle.std.proofs.Common.{◌≡◌, ℕ, ◌<◌, true, true≢false, List, length, set, sym, ap, subst, ◌∙◌, arith}
use Rattle.std.specs.Prelude.{None, Some, option_map}
use Rattle.std.proofs.lemmas.List.{map-set, length-set}
use Rattle.cell_store.specs.declared.kinds.Layout.{Layout}
use Rattle.cell_store.specs.Cells.{CellsState, Puts, FailsPut}
use Rattle.store_keeping.specs.Keeping.{Fits, FitsStore}
use Rattle.store_keeping.proofs.CallerLemmas.{fits_put, fits_failed_put}
use Rattle.key_campaign.specs.declared.entries.PendingEntry.{PendingEntry}
use Rattle.key_campaign.specs.Entries.{with_change, Advances}
use Rattle.key_campaign.specs.Campaign.{Campaign, changed_ledger, failed_change}
use Rattle.key_campaign.proofs.SoundSteps.{sound_made, sound_failed}
use Rattle.key_campaign.specs.Cell.{place_cell, ledger_cells}
use Rattle.key_campaign.specs.State.{keeping_of, IsLedger}

module _ (c : Campaign) (store : CellsState) (is : IsLedger c store) (up : c.up ≡ true) (change : PendingEntry) (advances : Advances c.entries change) (new : CellsState) where
  abbrev cell : List ℕ
  cell = place_cell (Some change.entry)

  cells_changed : ledger_cells (with_change change c.entries) ≡ set (ledger_cells c.entries) change.place cell
  cells_changed = map-set place_cell c.entries change.place (Some change.entry)

  none_pending : (keeping_of c).pending ≡ None
  none_pending = ap (option_map (λ (p : PendingEntry). ledger_cells (with_change p c.entries))) (is.sound.settled up)

  -- the place has a cell
  pub has_cell : change.place < length store.cells
  has_cell = omega (arith, advances.takes.0, is.count, is.sound.count)

  -- ---- the put was done

  cells_now : Puts change.place cell store new → new.cells ≡ ledger_cells (with_change change c.entries)
  cells_now puts = puts.cells ∙ ap (λ (l : List (List ℕ)). set l change.place cell) (is.holds up).cells ∙ sym cells_changed

  pub ledger_put : Puts change.place cell store new → IsLedger (changed_ledger change c) new
  ledger_put puts = record {
    sound = sound_made c is.sound change up advances;
    count = ap length puts.cells ∙ length-set store.cells change.place cell ∙ is.count;
    holds = λ _. record { whole = puts.whole; cells = cells_now puts };
  }

  pub fits_ledger_put : Puts change.place cell store new → FitsStore (keeping_of c) store → FitsStore (keeping_of (changed_ledger change c)) new
  fits_ledger_put puts fits =
      fits_put (keeping_of c) store new change.place cell fits up none_pending (is.holds up) (keeping_of (changed_ledger change c)) puts (cells_now puts)

  -- ---- it failed

  pub ledger_failed : FailsPut change.place cell store new → IsLedger (failed_change change c) new
  ledger_failed fails = record {
    sound = sound_failed c is.sound change advances;
    count = ap length fails.kept ∙ is.count;
    holds = λ e. absurd (true≢false (sym e));
  }

  pub fits_ledger_failed : FailsPut change.place cell store new → FitsStore (keeping_of c) store → FitsStore (keeping_of (failed_change change c)) new
  fits_ledger_failed fails fits =
      fits_failed_put (keeping_of c) store new change.place cell fits up none_pending (is.holds up) (ledger_cells (with_change change c.entries)) fails cells_changed

-- if the bytes are as before, what fitted fits
pub fits_told : (c : Campaign) (store new : CellsState) → new.layout ≡ store.layout → new.disk.told ≡ store.disk.told → FitsStore (keeping_of c) store → FitsStore (keeping_of c) new
fits_told c store new layout same fits = λ told is.
    subst (λ (l : Layout). Fits l (keeping_of c) told) (sym layout) (fits told (sym same ∙ is))
