use Rattle.std.proofs.Common.{ap, ◌∙◌}
use Rattle.she_aes.specs.Cipher.{xor_blocks, add_round_key}
use Rattle.she_aes.proofs.by_tables.last_round.Goals as goal

pub returns : goal.returns
unfolding add_round_key
returns c = c.xor.ensures ∙ ap (λ s. xor_blocks s c.args.key.now) c.substituted_rows.ensures
