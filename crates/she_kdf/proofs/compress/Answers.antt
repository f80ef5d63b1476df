use Rattle.std.proofs.Common.{arith, ◌<◌, length}
use Rattle.std.proofs.lemmas.List.Elements.{All-more}
use Rattle.basics.specs.Blocks.{IsBlock}
use Rattle.she_kdf.proofs.Outputs.{output_more}
use Rattle.she_kdf.proofs.compress.Goals as goal

pub loop-block-preserved : goal.loop-block-preserved
loop-block-preserved g c =
    let blocks = c.args.blocks.now in
    let i = c.loop-block.block-index in
    let within : i < length blocks = omega arith in (
      output_more blocks i c.block-item.result c.loop-block.out c.step-out.result within c.loop-block.invariant.0 c.step-out.ensures.value,
      c.step-out.ensures.is_block,
      All-more IsBlock blocks i c.block-item.result within c.loop-block.invariant.2 c.step-out.ensures.of_block,
    )
