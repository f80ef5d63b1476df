use Rattle.cell_store.proofs.FreshStands.{fresh_stands}
use Rattle.cell_store.proofs.laws.a_fresh_store_stands.Goals as goal

pub returns : goal.returns
returns c = λ layout cells x y few sized room fresh. fresh_stands layout cells x y few room sized fresh
