-- Blocks of 16 bytes.
use Rattle.std.specs.Prelude.{ℕ, List, map, replicate, slice_index, bit_xor}
use Rattle.std.specs.List.{range_with_len}
use Rattle.basics.specs.Bytes.{IsBytes}

-- the block with the bytes f 0 to f 15
abbrev pub block_of : (ℕ → ℕ) → List ℕ
block_of f = map f (range_with_len 0 16)

-- 16 bytes
abbrev pub IsBlock : List ℕ → Type 0
IsBlock s = IsBytes 16 s

-- the block of zero bytes
abbrev pub zero_block : List ℕ
zero_block = replicate 16 0

-- the exclusive or of two blocks, byte by byte
unfoldable pub xor_blocks : List ℕ → List ℕ → List ℕ
xor_blocks a b = block_of (λ i. bit_xor (slice_index a i) (slice_index b i))
