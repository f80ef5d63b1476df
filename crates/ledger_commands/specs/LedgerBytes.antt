-- The ledger that bytes stand for, or why they are none; a blank file is none
use Rattle.std.specs.Prelude.{◌≡◌, ℕ, ◌<◌, ◌≤◌, ◌++◌, Option, List, length, codes}
use Rattle.std.specs.Fmt.{decimal}
use Rattle.cell_store.specs.declared.faults.StoreFault.TheVariants as store
use Rattle.cell_store.specs.Store.{HasHeader, Stands, FirstDamaged}
use Rattle.any_cells.specs.FaultTexts.{store_fault_text}
use Rattle.text_lines.specs.Texts.{line}
use Rattle.program_edge.specs.Rows.{Row, row_of}
use Rattle.key_campaign.specs.declared.entries.LedgerEntry.{LedgerEntry}
use Rattle.key_campaign.specs.Entries.{place_count, AreLedgerEntries}
use Rattle.key_campaign.specs.Cell.{FirstBadEntry}
use Rattle.campaign_commands.specs.Opening.{ledger_layout, ledger_size, StandsForEntries}

-- the row of 9 that names a cause
abbrev pub cause_row : List ℕ → Row
cause_row cause = row_of 9 (line (codes "store: " ++ cause))

abbrev pub bad_entry_row : ℕ → Row
bad_entry_row bad = cause_row (codes "BadEntry " ++ decimal bad)

-- the bytes stand for these places
pub record HoldsLedger (x : List ℕ) (places : List (Option LedgerEntry)) : Type 0 where
  pub count : length places ≡ place_count
  pub are : AreLedgerEntries places
  pub stands : StandsForEntries x places

-- why they stand for none, and the row that says so: the first cause that applies
pub data NoLedgerIn (x : List ℕ) : Row → Type 0 where
  too_small : length x < ledger_size → NoLedgerIn x (cause_row (store_fault_text store.TooSmall))
  no_header : ledger_size ≤ length x → (HasHeader ledger_layout place_count x → ⊥)
      → NoLedgerIn x (cause_row (store_fault_text store.NotFormatted))
  damaged : (cell : ℕ) → HasHeader ledger_layout place_count x → FirstDamaged ledger_layout x place_count cell
      → NoLedgerIn x (cause_row (store_fault_text (store.Damaged cell)))
  bad_entry : (cells : List (List ℕ)) (bad : ℕ) → length cells ≡ place_count → Stands ledger_layout x cells
      → FirstBadEntry cells bad → NoLedgerIn x (bad_entry_row bad)
