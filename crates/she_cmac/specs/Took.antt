-- What a `Mac` has after the bytes that it was given.
use Rattle.std.specs.Prelude.{◌≡◌, ℕ, ◌-◌, List, ◌++◌, length, replicate}
use Rattle.she_cmac.specs.Cmac.{front_blocks, last_piece, chained}
use Rattle.she_cmac.specs.declared.pieces.Mac.{Mac}
use Rattle.she_cmac.specs.declared.pieces.MacParts.{MacParts}

-- under this key it chained these blocks, and keeps this piece, followed by zeros
pub record Holds (key : List ℕ) (blocks : List (List ℕ)) (piece : List ℕ) (mac : Mac) : Type 0 where
  pub key_is : mac.schedule.now ≡ key
  pub chain_is : mac.chain ≡ chained key blocks
  pub block_is : mac.block ≡ piece ++ replicate (16 - length piece) 0
  pub filled_is : mac.filled ≡ length piece

-- under this key it took this message: the blocks before the last one are chained, and the last one is kept
abbrev pub Took : List ℕ → List ℕ → Mac → Type 0
Took key message mac = Holds key (front_blocks message) (last_piece message) mac

-- the same of what a `Mac` keeps beside its key
pub record TookParts (key message : List ℕ) (parts : MacParts) : Type 0 where
  pub chain_is : parts.chain ≡ chained key (front_blocks message)
  pub block_is : parts.block ≡ last_piece message ++ replicate (16 - length (last_piece message)) 0
  pub filled_is : parts.filled ≡ length (last_piece message)
