use Rattle.std.proofs.Common.{◌≡◌, ◌+◌, ◌*◌, ◌^◌, ap, ◌∙◌, arith}
use Rattle.std.specs.Int.{w128}
use Rattle.basics.specs.Numbers.{bytes_of}
use Rattle.basics.proofs.CallerLemmas.{to_be_bytes-is}
use Rattle.memory_update.proofs.blocks.counter_block.Goals as goal

pub returns-clause-value : goal.returns-clause-value
returns-clause-value c =
    let word = c.place-word.result in
    let value : word ≡ c.args.counter * 2 ^ 100 + 2 ^ 99 = omega arith in
    c.of.ensures.value ∙ c.to_be_bytes.ensures ∙ to_be_bytes-is w128 word ∙ ap (bytes_of 16) value
