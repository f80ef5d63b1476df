use Rattle.seal_parts.proofs.PartCuts.{first_program}
use Rattle.seal_parts.proofs.laws.the_first_program_is_of_a_guard_or_of_what_was_told_blank.Goals as goal

pub returns : goal.returns
returns c = first_program
