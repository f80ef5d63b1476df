use Rattle.seal_logs.proofs.OneEnd.{end_is_one, cells_one}
use Rattle.seal_logs.proofs.laws.a_start_has_one_end.Goals as goal

pub returns-clause-end : goal.returns-clause-end
returns-clause-end c = λ s r one other cells now a b. end_is_one s r one other cells now a b

pub returns-clause-cells : goal.returns-clause-cells
returns-clause-cells c = λ s r found cells now a b. cells_one s r found found cells now a b
