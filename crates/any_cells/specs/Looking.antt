-- What a look finds on a disk, before a store of this kind, version and number of cells is attached or made there
use Rattle.std.specs.Prelude.{◌≡◌, ◌⊎◌, ℕ, List, replicate}
use Rattle.cell_store.specs.declared.kinds.Kind.{Kind}
use Rattle.cell_store.specs.declared.kinds.Version.{Version}
use Rattle.cell_store.specs.declared.kinds.Version.TheVariants.{One, Two}
use Rattle.cell_store.specs.Layout.{layout, part, from_base}
use Rattle.cell_store.specs.Store.{HasHeader}
use Rattle.any_cells.specs.declared.looking.Found.{Found}
use Rattle.any_cells.specs.declared.looking.Found.TheVariants.{Blank, Standing, Older, Foreign}

-- the 32 bytes at the base of this version are zero
abbrev pub IsBlank : Version → List ℕ → Type 0
IsBlank version x = part 0 32 (from_base version x) ≡ replicate 32 0

-- a row of a table; the first row that applies says what is found: if this holds it is this, else the rest says it
abbrev pub FoundWhere : Type 0 → Found → (Found → Type 0) → Found → Type 0
FoundWhere applies this rest found = (applies × (found ≡ this)) ⊎ ((applies → ⊥) × rest found)

-- what the bytes x are found to be
abbrev pub IsFound : Kind → Version → ℕ → List ℕ → Found → Type 0
IsFound kind One n x =
    FoundWhere (HasHeader (layout kind Two) n x) Foreign
    (FoundWhere (IsBlank One x) Blank
    (FoundWhere (HasHeader (layout kind One) n x) Standing
    (λ found. found ≡ Foreign)))
IsFound kind Two n x =
    FoundWhere (HasHeader (layout kind Two) n x) Standing
    (FoundWhere (HasHeader (layout kind One) n x) Older
    (FoundWhere (IsBlank One x × IsBlank Two x) Blank
    (λ found. found ≡ Foreign)))
