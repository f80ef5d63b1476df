-- The twin store: after the header each cell has two copies of 34 bytes, and one of them counts. A copy is a gate, a
-- mark from 0 to 2, and 32 bytes of payload. It is live if its gate is a7. All places count from the first byte of the
-- list.
use Rattle.std.specs.Prelude.{ℕ, ◌+◌, ◌*◌, ◌%◌, Bool, not, ◌&&◌, ◌||◌, ◌==◌, nat_lt, if◌then◌else◌, Option, Some, None}
use Rattle.std.specs.Prelude.{List, ◌∷◌, ◌++◌, drop, get_or}
use Rattle.cell_store.specs.Layout.{part}

-- the size in bytes of a store of n cells, from its base on
abbrev pub twin_size : ℕ → ℕ
twin_size n = 32 + 68 * n

abbrev pub first_at : ℕ → ℕ
first_at i = 32 + 68 * i

abbrev pub second_at : ℕ → ℕ
second_at i = 66 + 68 * i

unfoldable pub is_live : List ℕ → Bool
is_live copy = get_or copy 0 0 == 0xa7

abbrev pub mark : List ℕ → ℕ
mark copy = get_or copy 1 0

abbrev pub payload : List ℕ → List ℕ
payload copy = drop 2 copy

-- the mark that comes after a mark
abbrev pub next : ℕ → ℕ
next m = (m + 1) % 3

-- this copy counts beside that one: it is live, and that one is closed or its mark is the one before
unfoldable pub counts : List ℕ → List ℕ → Bool
counts this that =
    is_live this && nat_lt (mark this) 3
    && (not (is_live that) || (nat_lt (mark that) 3 && (mark this == next (mark that))))

-- what two copies hold; none if they are damaged
unfoldable pub cell_of : List ℕ → List ℕ → Option (List ℕ)
cell_of first second =
    if counts first second then Some (payload first) else if counts second first then Some (payload second) else None

-- what the bytes x hold as cell i
unfoldable pub cell_at : List ℕ → ℕ → Option (List ℕ)
cell_at x i = cell_of (part (first_at i) 34 x) (part (second_at i) 34 x)

-- a live copy
abbrev pub live_copy : ℕ → List ℕ → List ℕ
live_copy m cell = 0xa7 ∷ m ∷ cell

-- the 68 bytes of a fresh cell: the first copy counts
abbrev pub fresh_cell : List ℕ → List ℕ
fresh_cell cell = live_copy 0 cell ++ live_copy 2 cell
