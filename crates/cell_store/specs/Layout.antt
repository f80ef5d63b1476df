-- Where a store has its bytes: the first of them, its header, and places in a list of bytes.
use Rattle.std.specs.Prelude.{◌≡◌, ℕ, ◌+◌, ◌<◌, ◌≤◌, List, ◌∷◌, ◌++◌, length, take, drop, get_or, replicate, codes}
use Rattle.basics.specs.Numbers.{bytes_of}
use Rattle.cell_store.specs.declared.kinds.Kind.{Kind}
use Rattle.cell_store.specs.declared.kinds.Kind.TheVariants.{Twin, Log}
use Rattle.cell_store.specs.declared.kinds.Version.{Version}
use Rattle.cell_store.specs.declared.kinds.Version.TheVariants.{One, Two}
use Rattle.cell_store.specs.declared.kinds.Layout.{Layout}

-- n of the bytes of x, from a place on
abbrev pub part : ℕ → ℕ → List ℕ → List ℕ
part at n x = take n (drop at x)

-- x and y have one length, and are the same except for the n bytes from a place on
pub record SameOutside (at n : ℕ) (x y : List ℕ) : Type 0 where
  pub lengths : length y ≡ length x
  pub below : (k : ℕ) → k < at → get_or y k 0 ≡ get_or x k 0
  pub above : (k : ℕ) → at + n ≤ k → get_or y k 0 ≡ get_or x k 0

-- the address of the first byte of a store of this version
abbrev pub base : Version → ℕ
base One = 0
base Two = 32768

-- the bytes of x that a store of this version has: those from its base on
abbrev pub from_base : Version → List ℕ → List ℕ
from_base version x = drop (base version) x

-- the kind and the version, as a header has them
abbrev pub kind_byte : Kind → ℕ
kind_byte Twin = 1
kind_byte Log = 2

abbrev pub version_byte : Version → ℕ
version_byte One = 1
version_byte Two = 2

-- "SECOCST1", the kind, the version, the number of cells in two bytes (below 2 ^ 16), and zeros
unfoldable pub header : Layout → ℕ → List ℕ
header layout n =
    codes "SECOCST1" ++ (kind_byte layout.kind ∷ version_byte layout.version ∷ (bytes_of 2 n ++ replicate 20 0))

-- the layout of this kind and version
abbrev pub layout : Kind → Version → Layout
layout kind version = record { kind = kind; version = version }

-- the layouts of the two kinds
abbrev pub twin_layout : Version → Layout
twin_layout version = record { kind = Twin; version = version }

abbrev pub log_layout : Version → Layout
log_layout version = record { kind = Log; version = version }
