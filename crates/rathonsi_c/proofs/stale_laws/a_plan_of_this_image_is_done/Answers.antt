use Rattle.std.proofs.Common.{◌⊎◌, ℕ, inl, inr, List, length}
use Rattle.store_plan.specs.declared.planning.Plan.{Plan}
use Rattle.store_plan.specs.Plans.{IsEmptyPlan, PlanFits}
use Rattle.rathonsi_c.proofs.StalePlans.{bound-not-stale, key-not-stale, growth-not-stale, number-not-stale, done-ok, empty-fits}
use Rattle.rathonsi_c.proofs.stale_laws.a_plan_of_this_image_is_done.Goals as goal

fits : (image : List ℕ) (plan : Plan) → IsEmptyPlan plan ⊎ PlanFits (length image) plan → PlanFits (length image) plan
fits image plan either = elim either [ inl none ↦ empty-fits (length image) plan none | inr within ↦ within ]

pub returns-clause-bound : goal.returns-clause-bound
returns-clause-bound c = λ route image freshness old plan status h f a. done-ok image plan status (fits image plan f) (bound-not-stale route image freshness old plan h) a

pub returns-clause-key : goal.returns-clause-key
returns-clause-key c = λ uid booted request image old plan status h f a. done-ok image plan status (fits image plan f) (key-not-stale uid booted request image old plan h) a

pub returns-clause-growth : goal.returns-clause-growth
returns-clause-growth c = λ route bound image old plan status h f a. done-ok image plan status (fits image plan f) (growth-not-stale route bound image old plan h) a

pub returns-clause-number : goal.returns-clause-number
returns-clause-number c = λ image old plan status h f a. done-ok image plan status (fits image plan f) (number-not-stale image old plan h) a
