use Rattle.std.proofs.Common.{arith}
use Rattle.store_plan.proofs.GrowingLaws.{said-beside, count-same, count-cells, count-done, count-head}
use Rattle.store_plan.proofs.laws.a_cut_within_a_number_leaves_the_cells.Goals as goal

pub returns-clause-told : goal.returns-clause-told
returns-clause-told c = λ plan x y n said ends p cut.
    said-beside x y n (count-same n x (let r = ends.room in omega arith) plan p y cut) said.head said.counts ends

pub returns-clause-cells : goal.returns-clause-cells
returns-clause-cells c = λ plan x y n j room p cut. count-cells n x room plan p y j cut

pub returns-clause-done : goal.returns-clause-done
returns-clause-done c = λ plan x n room head p. (count-done n x room plan p, count-head n x room plan p head)
