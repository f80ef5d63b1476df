-- No payload: the plan is none of a put.
use Rattle.std.proofs.Common.{◌+◌, ◌<◌, ℕ, Option, List, sym, subst}
use Rattle.std.specs.Prelude.{MatchOption}
use Rattle.flash_plan.specs.declared.plans.WaitingPut.{WaitingPut}
use Rattle.flash_images.specs.Images.{WritesPut, FillsCopy}
use Rattle.flash_images.proofs.PutLaws.{writes_put}
use Rattle.flash_images.proofs.puts.planned.Goals as goal

pub returns-in_err-payload-clause-is : goal.returns-in_err-payload-clause-is
returns-in_err-payload-clause-is c =
    subst (λ (r : Option WaitingPut). MatchOption r ((i : ℕ) (d : List ℕ) → i < 65536 → WritesPut c.args.plan.now i d → ⊥)
    (λ waiting. WritesPut c.args.plan.now waiting.cell waiting.payload))
    (sym c.from_residual-in_err-payload.ensures)
    (λ i d below w. c.in_err-payload.ensures d
    (subst (λ k. FillsCopy c.args.plan.now.second (k + 1) d) (sym w.opens.place) w.fills))

pub returns-in_err-payload-clause-planned : goal.returns-in_err-payload-clause-planned
returns-in_err-payload-clause-planned c x i d p below =
    let w = writes_put c.args.plan.now x d i p in
    absurd (c.in_err-payload.ensures d (subst (λ k. FillsCopy c.args.plan.now.second (k + 1) d) (sym w.opens.place) w.fills))
