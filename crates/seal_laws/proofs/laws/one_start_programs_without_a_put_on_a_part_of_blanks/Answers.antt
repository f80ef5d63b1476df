use Rattle.seal_laws.proofs.Resets.{resets_program_few}
use Rattle.seal_laws.proofs.laws.one_start_programs_without_a_put_on_a_part_of_blanks.Goals as goal

pub returns : goal.returns
returns c = λ s events resets cells a b m x before only run. resets_program_few s events resets cells a b m x before only run
