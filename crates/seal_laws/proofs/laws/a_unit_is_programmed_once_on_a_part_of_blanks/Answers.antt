use Rattle.std.proofs.Common.{arith}
use Rattle.seal_laws.proofs.Living.{start_may, put_may, moves_may, first_may}
use Rattle.seal_laws.proofs.laws.a_unit_is_programmed_once_on_a_part_of_blanks.Goals as goal

pub returns-clause-start : goal.returns-clause-start
returns-clause-start c = λ s events cells now a b found after x run finds. start_may s events cells a b x run found now after finds

pub returns-clause-put : goal.returns-clause-put
returns-clause-put c = λ s events cells now a b point cell payload x run is fits. put_may s events cells a b x run point now cell payload is fits

pub returns-clause-moves : goal.returns-clause-moves
returns-clause-moves c = λ s events cells now made a b point x run is fits count. moves_may s events cells a b x run point now made is fits count

pub returns-clause-first : goal.returns-clause-first
returns-clause-first c = λ s cells before fits blank erased. first_may s cells before blank (erased 0 (let two = fits.two in omega (arith, two)))
