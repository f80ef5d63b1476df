-- The line that names the store whose header stands, where another is wanted
use Rattle.std.specs.Prelude.{ℕ, List, ◌++◌, codes}
use Rattle.std.specs.Fmt.{decimal}
use Rattle.cell_store.specs.declared.kinds.Kind.{Kind}
use Rattle.cell_store.specs.declared.kinds.Kind.TheVariants.{Twin, Log}
use Rattle.cell_store.specs.declared.kinds.Version.{Version}
use Rattle.cell_store.specs.declared.kinds.Version.TheVariants.{One, Two}
use Rattle.store_growing.specs.declared.headers.StoreHeader.{StoreHeader}

-- `KIND VERSION`
abbrev pub layout_text : Kind → Version → List ℕ
layout_text Twin One = codes "twin 1"
layout_text Twin Two = codes "twin 2"
layout_text Log One = codes "log 1"
layout_text Log Two = codes "log 2"

-- `store: KIND VERSION CELLS`
abbrev pub standing_text : StoreHeader → List ℕ
standing_text there =
    codes "store: " ++ (layout_text there.layout.kind there.layout.version ++ (codes " " ++ (decimal there.cells ++ codes "\n")))
