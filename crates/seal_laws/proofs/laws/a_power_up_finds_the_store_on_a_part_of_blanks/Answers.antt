use Rattle.seal_laws.proofs.Living.{start_finds}
use Rattle.seal_laws.proofs.laws.a_power_up_finds_the_store_on_a_part_of_blanks.Goals as goal

pub returns : goal.returns
returns c = λ s events cells found a b end after x run finds. start_finds s events cells a b x run end found after finds
