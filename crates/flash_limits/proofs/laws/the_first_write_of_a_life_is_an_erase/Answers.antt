use Rattle.flash_limits.proofs.Firsts.{programs_nothing}
use Rattle.flash_limits.proofs.laws.the_first_write_of_a_life_is_an_erase.Goals as goal

pub returns : goal.returns
returns c = λ d start f lives view value bank place line rest once run reads is.
    programs_nothing d start f view value bank place line rest once (record { lives = lives; run = run }) reads is
