-- The room that a node's store takes, for who makes its disk
use Rattle.std.specs.Prelude.{ℕ, ◌+◌, ◌≤◌}
use Rattle.std.proofs.Common.{arith}
use Rattle.cell_store.specs.declared.kinds.Kind.{Kind}
use Rattle.cell_store.specs.declared.kinds.Kind.TheVariants.{Twin, Log}
use Rattle.cell_store.specs.declared.kinds.Version.{Version}
use Rattle.cell_store.specs.declared.kinds.Version.TheVariants.{One, Two}
use Rattle.cell_store.specs.Store.{store_size}
use Rattle.any_cells.specs.Either.{layout}
use Rattle.bus_config.specs.Buses.{most_routes}

-- the greatest store of a node has 54,564 bytes
pub size_of_any : (kind : Kind) (version : Version) (routes : ℕ) → routes ≤ most_routes version
    → store_size (layout kind version) (14 + routes) ≤ 54564
size_of_any Twin One routes most = omega (arith, most)
size_of_any Twin Two routes most = omega (arith, most)
size_of_any Log One routes most = omega (arith, most)
size_of_any Log Two routes most = omega (arith, most)
