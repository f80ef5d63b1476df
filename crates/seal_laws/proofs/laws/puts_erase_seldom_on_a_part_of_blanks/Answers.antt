use Rattle.seal_laws.proofs.Bounds.{puts_erase}
use Rattle.seal_laws.proofs.laws.puts_erase_seldom_on_a_part_of_blanks.Goals as goal

pub returns : goal.returns
returns c = λ s events cells a b x run. puts_erase s events cells a b x run
