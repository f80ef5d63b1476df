use Rattle.flash_laws.proofs.Reached.{place_blank}
use Rattle.flash_laws.proofs.laws.a_place_is_programmed_once.Goals as goal

pub returns : goal.returns
returns c = λ l deeds cells a b formatted lives. place_blank l deeds cells a b formatted lives
