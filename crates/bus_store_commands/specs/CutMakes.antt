-- What a power cut may leave of a disk of zeros on which a node's store is made
use Rattle.std.specs.Prelude.{◌⊎◌, ℕ, List, replicate}
use Rattle.cell_store.specs.declared.kinds.Kind.{Kind}
use Rattle.cell_store.specs.declared.kinds.Version.{Version}
use Rattle.cell_store.specs.Layout.{SameOutside, base}
use Rattle.cell_store.specs.Store.{Fresh, FirstDamaged}
use Rattle.cell_store.specs.Formats.{FreshButHeader}
use Rattle.any_cells.specs.declared.looking.Found.TheVariants as found
use Rattle.any_cells.specs.Either.{layout}
use Rattle.any_cells.specs.Looking.{IsBlank, IsFound}
use Rattle.freshness_routes.specs.Config.{Config}
use Rattle.bus_world.specs.TakingUp.{cells_in, new_cells}

-- over zeros, the bytes of a fresh store of a new node's cells, which a look finds standing
pub record NewStore (kind : Kind) (version : Version) (config : Config) (size : ℕ) (x : List ℕ) : Type 0 where
  pub stands : IsFound kind version (cells_in config) x found.Standing
  pub fresh : Fresh (layout kind version) (new_cells config) (replicate size 0) x

-- All bytes but those of the header are zeros, or a new node's cells over zeros. The header isn't zero. Another is
-- found there, or the right one does stand and no cell does.
pub record TornHeader (kind : Kind) (version : Version) (config : Config) (size : ℕ) (x : List ℕ) : Type 0 where
  pub begun : ¬ IsBlank version x
  pub besides : SameOutside (base version) 32 (replicate size 0) x
      ⊎ FreshButHeader (layout kind version) (new_cells config) (replicate size 0) x
  pub refused : IsFound kind version (cells_in config) x found.Foreign
      ⊎ (IsFound kind version (cells_in config) x found.Standing
      × FirstDamaged (layout kind version) x (cells_in config) 0)

-- the store of a new node stands; or none does, and the disk is blank; or none does, and the header is torn
pub data CutMake (kind : Kind) (version : Version) (config : Config) (size : ℕ) (x : List ℕ) : Type 0 where
  whole : NewStore kind version config size x → CutMake kind version config size x
  blank : IsFound kind version (cells_in config) x found.Blank → CutMake kind version config size x
  torn : TornHeader kind version config size x → CutMake kind version config size x
