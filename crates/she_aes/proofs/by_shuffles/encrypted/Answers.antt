use Rattle.std.proofs.Common.{◌∙◌}
use Rattle.she_aes.proofs.RoundSteps.{all_rounds}
use Rattle.she_aes.proofs.by_shuffles.encrypted.Goals as goal

pub returns-clause-value : goal.returns-clause-value
returns-clause-value c =
    λ are. let first = rw c.bytes.ensures.value at c.begin-s0.ensures in
    c.of.ensures.value ∙ all_rounds c.args.key.now c.args.block.now c.args.added.now are c.bytes.ensures.is_block first c.round-s1.ensures c.round-s2.ensures c.round-s3.ensures c.round-s4.ensures c.round-s5.ensures c.round-s6.ensures c.round-s7.ensures c.round-s8.ensures c.round-s9.ensures c.last_round.ensures
