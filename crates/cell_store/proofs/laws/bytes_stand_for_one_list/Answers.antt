use Rattle.cell_store.proofs.StoreLaws.{stands_once}
use Rattle.cell_store.proofs.laws.bytes_stand_for_one_list.Goals as goal

pub returns : goal.returns
returns c = λ layout x cells others. stands_once layout x cells others
