-- All cells of a twin store, as bytes keep them and as memory holds them.
use Rattle.std.specs.Prelude.{◌≡◌, ℕ, ◌<◌, ◌≤◌, List, length, get_or, map}
use Rattle.cell_store.specs.declared.kinds.Version.{Version}
use Rattle.cell_store.specs.declared.copies.Held.{Held}
use Rattle.cell_store.specs.Layout.{part, header, twin_layout}
use Rattle.cell_store.specs.Twin.{twin_size}
use Rattle.cell_store.specs.Copies.{Keeps}

-- the bytes of a twin store have the header of these cells, and keep each of them
pub record KeepsAll (version : Version) (store : List ℕ) (held : List Held) : Type 0 where
  pub room : twin_size (length held) ≤ length store
  pub head : part 0 32 store ≡ header (twin_layout version) (length held)
  pub each : (i : ℕ) (d : Held) → i < length held → Keeps store i (get_or held i d)

abbrev pub cells_of : List Held → List (List ℕ)
cells_of held = map (λ (h : Held). h.payload) held
