use Rattle.std.proofs.Common.{ap, ◌∙◌}
use Rattle.she_aes.specs.RoundKeys.{keys_for}
use Rattle.she_aes.proofs.choice.keys_of.Goals as goal

pub returns-in-Shuffles : goal.returns-in-Shuffles
unfolding keys_for
returns-in-Shuffles c = λ block. c.added_keys.ensures ∙ ap (λ f. keys_for f c.args.key.now) c.in-Shuffles.ensures

pub returns-in-Words : goal.returns-in-Words
unfolding keys_for
returns-in-Words c = λ block. c.keys_by_words.ensures block ∙ ap (λ f. keys_for f c.args.key.now) c.in-Words.ensures

pub returns-in-Tables : goal.returns-in-Tables
unfolding keys_for
returns-in-Tables c = λ block. c.keys_by_tables.ensures block ∙ ap (λ f. keys_for f c.args.key.now) c.in-Tables.ensures
