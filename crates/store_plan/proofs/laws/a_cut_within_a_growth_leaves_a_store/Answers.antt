use Rattle.store_plan.proofs.GrowingLaws.{growth-cut, growth-others, growth-done, growth-head, growth-cell}
use Rattle.std.proofs.Common.{arith}
use Rattle.store_plan.proofs.laws.a_cut_within_a_growth_leaves_a_store.Goals as goal

pub returns-clause-either : goal.returns-clause-either
returns-clause-either c = λ plan x y n bytes sized few said head may p cut.
    growth-cut n bytes sized x (let r = may.after.room in omega arith) plan p head may.free few said.counts may.after y cut

pub returns-clause-others : goal.returns-clause-others
returns-clause-others c = λ plan x y n j bytes sized room p cut ne. growth-others n bytes sized x room plan p y j cut ne

pub returns-clause-done : goal.returns-clause-done
returns-clause-done c = λ plan x n bytes sized room head free p.
    (growth-done n bytes sized x room plan p, growth-head n bytes sized x room plan p head free, growth-cell n bytes sized x room plan p head free)
