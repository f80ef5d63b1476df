use Rattle.std.proofs.Common.{◌≡◌, ◌∙◌, arith}
use Rattle.she_aes.specs.Cipher.{add_round_key}
use Rattle.she_aes.proofs.KeyColumns.{first_state, round_more, round_last}
use Rattle.she_aes.proofs.by_tables.encrypted.Goals as goal

pub loop-done-init : goal.loop-done-init
unfolding add_round_key
loop-done-init c =
    λ are. (rw c.bytes.ensures.value at c.xor-state.ensures) ∙ first_state c.args.key.now c.args.block.now c.args.plain.now are

pub loop-done-preserved : goal.loop-done-preserved
loop-done-preserved c =
    λ are. round_more c.args.key.now c.args.block.now c.args.plain.now are c.loop-done.state c.round-state.result c.loop-done.done c.loop-done-test.true c.round-state.ensures (c.loop-done.invariant are)

pub returns-clause-value : goal.returns-clause-value
returns-clause-value c =
    let nine : c.loop-done.done ≡ 9 = omega arith in
    λ are. c.of.ensures.value ∙ round_last c.args.key.now c.args.block.now c.args.plain.now are c.loop-done.state c.last_round.result c.last_round.ensures (rw nine at c.loop-done.invariant are)
