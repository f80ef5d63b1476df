use Rattle.std.proofs.Common.{ap, ◌∙◌}
use Rattle.she_aes.proofs.ColumnWords.{mixed_word, mixed_is}
use Rattle.she_aes.proofs.columns.mixed_column.Goals as goal

pub returns : goal.returns
returns g = λ a b c d la lb lc ld is. ap mixed_word is ∙ mixed_is a b c d la lb lc ld
