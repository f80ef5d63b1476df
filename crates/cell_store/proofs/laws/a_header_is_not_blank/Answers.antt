use Rattle.cell_store.proofs.StoreLaws.{header-not_blank}
use Rattle.cell_store.proofs.laws.a_header_is_not_blank.Goals as goal

pub returns : goal.returns
returns c = λ layout n. header-not_blank layout n
