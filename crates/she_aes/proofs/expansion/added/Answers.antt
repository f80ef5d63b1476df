use Rattle.std.proofs.Common.{ap, ◌∙◌, replicate}
use Rattle.std.specs.Int.Bits.{bit_xor}
use Rattle.std.specs.Simd.Lanes.{zip2}
use Rattle.she_aes.proofs.PairLanes.{added_pairs}
use Rattle.she_aes.proofs.expansion.added.Goals as goal

pub returns : goal.returns
returns c = λ k key is. ap (λ s. zip2 bit_xor s (replicate 16 0x8e)) is ∙ added_pairs k key
