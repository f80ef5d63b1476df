use Rattle.cell_store.proofs.StoreLaws.{header-kind, header-version, header-number}
use Rattle.cell_store.proofs.laws.a_header_tells_its_store.Goals as goal

pub returns : goal.returns
returns c = λ layout that n m small fits e. (header-kind layout that n m e, header-version layout that n m e, header-number layout that n m small fits e)
