use Rattle.std.proofs.Common.{length, ap, ◌∙◌}
use Rattle.basics.specs.Numbers.{number_of}
use Rattle.basics.proofs.CallerLemmas.{from_be_bytes-128}
use Rattle.memory_update.proofs.blocks.word_of.Goals as goal

pub returns : goal.returns
returns c =
    let has_16 = ap length c.bytes.ensures.value ∙ c.bytes.ensures.is_block.size in
    c.from_be_bytes.ensures ∙ from_be_bytes-128 c.bytes.result.now has_16 ∙ ap number_of c.bytes.ensures.value
