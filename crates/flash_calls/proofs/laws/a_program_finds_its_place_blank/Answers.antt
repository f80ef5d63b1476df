use Rattle.flash_calls.proofs.LifeLaws.{call_blank, make_blank}
use Rattle.flash_calls.proofs.laws.a_program_finds_its_place_blank.Goals as goal

pub returns-clause-lives : goal.returns-clause-lives
returns-clause-lives c = call_blank

pub returns-clause-made : goal.returns-clause-made
returns-clause-made c = make_blank
