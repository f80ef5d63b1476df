-- A ledger without entries
use Rattle.std.proofs.Common.{◌≡◌, ℕ, suc, zero, List, ◌∷◌, map, replicate, refl, sym, ap, ◌∙◌}
use Rattle.std.specs.Prelude.{Option, None}
use Rattle.std.proofs.lemmas.Option.{none-some}
use Rattle.key_campaign.specs.declared.entries.LedgerEntry.{LedgerEntry}
use Rattle.key_campaign.specs.Entries.{place_count, entry_at, no_entries}
use Rattle.key_campaign.specs.Cell.{place_cell, ledger_cells, HoldEntries}

abbrev nothings : ℕ → List (Option LedgerEntry)
nothings n = replicate n None

none_there : (n place : ℕ) → entry_at (nothings n) place ≡ None
none_there zero place = refl
none_there (suc n) zero = refl
none_there (suc n) (suc place) = none_there n place

pub no_entries-none : (place : ℕ) → entry_at no_entries place ≡ None
unfolding no_entries
no_entries-none place = none_there place_count place

pub no_entries-held : HoldEntries (ledger_cells no_entries) no_entries
no_entries-held = record {
  entries_are = record {
    are = λ place e at. absurd (none-some e (sym (no_entries-none place) ∙ at));
    once = λ place e at. absurd (none-some e (sym (no_entries-none place) ∙ at));
  };
  cells_are = refl;
}

-- each empty place has a cell of zeros
all_zeros : (n : ℕ) → map place_cell (nothings n) ≡ replicate n (replicate 32 0)
unfolding place_cell
all_zeros zero = refl
all_zeros (suc n) = ap (λ (cells : List (List ℕ)). replicate 32 0 ∷ cells) (all_zeros n)

pub no_entries-zeros : ledger_cells no_entries ≡ replicate 256 (replicate 32 0)
unfolding no_entries place_count
no_entries-zeros = all_zeros 256
