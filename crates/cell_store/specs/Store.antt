-- What the bytes of a disk stand for as a store, and what a put and a format make of them. A store's places count
-- from its base.
use Rattle.std.specs.Prelude.{◌≡◌, ℕ, ◌+◌, ◌<◌, ◌≤◌, ◌≢◌, Option, Some, None, IsSome, List, [], ◌++◌, length, set}
use Rattle.std.specs.Prelude.{get_or, replicate, if◌then◌else◌}
use Rattle.std.specs.List.{flat_map}
use Rattle.cut_disk.specs.Images.{splice}
use Rattle.cell_store.specs.declared.kinds.Kind.{Kind}
use Rattle.cell_store.specs.declared.kinds.Kind.TheVariants.{Twin, Log}
use Rattle.cell_store.specs.declared.kinds.Version.{Version}
use Rattle.cell_store.specs.declared.kinds.Layout.{Layout}
use Rattle.cell_store.specs.declared.kinds.Probe.{Probe}
use Rattle.cell_store.specs.declared.kinds.Probe.TheVariants.{Blank, Foreign, Store}
use Rattle.cell_store.specs.Layout.{SameOutside, part, base, from_base, header, log_layout}
use Rattle.cell_store.specs.declared.copies.Side.{Side}
use Rattle.cell_store.specs.Copies.{other}
use Rattle.cell_store.specs.Log.{log_size, bank_at, bank_head, BankCounts, place_at, listed, Places, LogHolds}
use Rattle.cell_store.specs.Log.{LogDamaged, live_record, live_bank, fresh_banks}
use Rattle.cell_store.specs.Twin.{twin_size, first_at, second_at, mark, next, counts, cell_at, live_copy, fresh_cell}

-- a store has 1 to 1024 cells
pub record FewCells (n : ℕ) : Type 0 where
  pub some : 1 ≤ n
  pub most : n ≤ 1024

-- the size in bytes of a store of this kind and n cells, from its base on
abbrev pub size_from_base : Kind → ℕ → ℕ
size_from_base Twin n = twin_size n
size_from_base Log n = log_size n

-- the size of a disk that just has room for it
abbrev pub store_size : Layout → ℕ → ℕ
store_size layout n = base layout.version + size_from_base layout.kind n

-- the 32 bytes from the base on are the header of a store of this layout and number of cells
abbrev pub HasHeader : Layout → ℕ → List ℕ → Type 0
HasHeader layout n x = part 0 32 (from_base layout.version x) ≡ header layout n

-- the bytes of a store of this kind hold these cells: a copy that counts has each cell, or the bank that counts and
-- its places have all
unfoldable pub HoldsCells : Kind → List ℕ → List (List ℕ) → Type 0
HoldsCells Twin store cells = (i : ℕ) → i < length cells → cell_at store i ≡ Some (get_or cells i [])
HoldsCells Log store cells = LogHolds store cells

-- the bytes x stand for these cells as a store of this layout
pub record Stands (layout : Layout) (x : List ℕ) (cells : List (List ℕ)) : Type 0 where
  pub few : FewCells (length cells)
  pub room : store_size layout (length cells) ≤ length x
  pub head : HasHeader layout (length cells) x
  pub holds : HoldsCells layout.kind (from_base layout.version x) cells

-- of n cells of the twin store this one is damaged, and none before it
pub record TwinDamaged (store : List ℕ) (n i : ℕ) : Type 0 where
  pub below : i < n
  pub damaged : cell_at store i ≡ None
  pub before : (j : ℕ) → j < i → IsSome (cell_at store j)

-- what is damaged first in the bytes of a store of this kind and n cells
unfoldable pub IsDamaged : Kind → List ℕ → ℕ → ℕ → Type 0
IsDamaged Twin store n i = TwinDamaged store n i
IsDamaged Log store n i = LogDamaged store n i

abbrev pub FirstDamaged : Layout → List ℕ → ℕ → ℕ → Type 0
FirstDamaged layout x n i = IsDamaged layout.kind (from_base layout.version x) n i

-- what stands after the header of a fresh store
unfoldable pub fresh_cells : Kind → List (List ℕ) → List ℕ
fresh_cells Twin cells = flat_map fresh_cell cells
fresh_cells Log cells = fresh_banks cells

-- the bytes of a fresh store
abbrev pub fresh_store : Layout → List (List ℕ) → List ℕ
fresh_store layout cells = header layout (length cells) ++ fresh_cells layout.kind cells

-- y is x with the store's range replaced by a fresh store of these cells
unfoldable pub Fresh : Layout → List (List ℕ) → List ℕ → List ℕ → Type 0
Fresh layout cells x y = y ≡ splice (base layout.version) (fresh_store layout cells) x

-- x and y are the same except for the range of a store of n cells
abbrev pub SameBesides : Layout → ℕ → List ℕ → List ℕ → Type 0
SameBesides layout n x y = SameOutside (base layout.version) (size_from_base layout.kind n) x y

-- x, except that the copy of cell i that doesn't count holds the next mark and c; none if the cell is damaged
unfoldable pub twin_put : Version → List ℕ → ℕ → List ℕ → Option (List ℕ)
twin_put version x i c =
    let first = part (first_at i) 34 (from_base version x) in
    let second = part (second_at i) 34 (from_base version x) in
    if counts first second then Some (splice (base version + second_at i) (live_copy (next (mark first)) c) x) else
    if counts second first then Some (splice (base version + first_at i) (live_copy (next (mark second)) c) x) else None

-- y comes from x, which is a log store, by a finished put of c at cell i: the first free place of the bank that counts
-- holds the record, or, if there is none, the other bank holds all cells
pub record LogPut (version : Version) (x : List ℕ) (i : ℕ) (c y : List ℕ) : Type 0 where
  pub count : ℕ
  pub few : FewCells count
  pub head : HasHeader (log_layout version) count x
  pub side : Side
  pub counting : BankCounts count side (from_base version x)
  pub used : ℕ
  pub places : Places count side (from_base version x) used
  pub appended : used < 64 → y ≡ splice (base version + place_at count side used) (live_record i c) x
  pub refilled : 64 ≤ used
      → y ≡ splice (base version + bank_at count (other side))
      (live_bank (next (mark (bank_head count side (from_base version x))))
      (set (listed count side (from_base version x) used) i c)) x

-- the same, by the kind of the store
unfoldable pub PutsAs : Kind → Version → List ℕ → ℕ → List ℕ → List ℕ → Type 0
PutsAs Twin version x i c y = twin_put version x i c ≡ Some y
PutsAs Log version x i c y = LogPut version x i c y

-- y comes from x by a finished put of c at cell i
abbrev pub Put : Layout → List ℕ → ℕ → List ℕ → List ℕ → Type 0
Put layout x i c y = PutsAs layout.kind layout.version x i c y

-- what the 32 bytes at the base of a store of this version are
abbrev pub Probes : Version → List ℕ → Probe → Type 0
Probes version head Blank = head ≡ replicate 32 0
Probes version head Foreign =
    (head ≢ replicate 32 0)
    × ((kind : Kind) (n : ℕ) → FewCells n → head ≢ header (record { kind = kind; version = version }) n)
Probes version head (Store kind n) = FewCells n × (head ≡ header (record { kind = kind; version = version }) n)

-- a store that was found has 1 to 1024 cells
abbrev pub FindsFew : Probe → Type 0
FindsFew Blank = Unit {0}
FindsFew Foreign = Unit {0}
FindsFew (Store kind n) = FewCells n
