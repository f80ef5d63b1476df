use Rattle.flash_laws.proofs.Reached.{power_up}
use Rattle.flash_laws.proofs.laws.a_power_up_finds_the_store.Goals as goal

pub returns : goal.returns
returns c = λ l deeds cells a b read after formatted lives is looks. power_up l deeds cells a b read after formatted lives is looks
