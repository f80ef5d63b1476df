use Rattle.rathonsi_c.proofs.TogetherLaws.{cut_cell, cut_other, cut_whole}
use Rattle.rathonsi_c.proofs.together_laws.each_cell_is_whole_or_absent.Goals as goal

pub returns-clause-cell : goal.returns-clause-cell
returns-clause-cell c = λ n plans x y cells new p cut k lt. cut_cell n plans x cells new p y cut k lt

pub returns-clause-others : goal.returns-clause-others
returns-clause-others c = λ n plans x y cells new p cut i none. cut_other n plans x cells new p y cut i none

pub returns-clause-checked : goal.returns-clause-checked
returns-clause-checked c = λ n plans x y cells new p cut whole. cut_whole n plans x y cells new p cut whole
