use Rattle.std.proofs.Common.{◌≡◌, take, All}
use Rattle.basics.specs.Blocks.{IsBlock}
use Rattle.she_kdf.specs.Derivation.{miyaguchi_preneel}
use Rattle.she_kdf.proofs.compress.Given as goal

-- the output over the blocks so far
abbrev pub invariant-loop-block : goal.invariant-loop-block
invariant-loop-block g l =
    (l.out ≡ miyaguchi_preneel (take l.block-index l.blocks)) × IsBlock l.out × All IsBlock (take l.block-index l.blocks)
