use Rattle.std.proofs.Common.{refl}
use Rattle.she_cmac.specs.Cmac.{before_last, block_at, front_blocks, last_piece, chained}
use Rattle.she_cmac.proofs.pieces.Mac.new.Goals as goal

pub returns : goal.returns
unfolding before_last block_at front_blocks last_piece chained
returns c = record { key_is = refl; chain_is = c.zero.ensures.value; block_is = refl; filled_is = refl }
