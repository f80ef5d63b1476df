use Rattle.std.proofs.Common.{◌≢◌, inr, sym, ap, subst, ◌∙◌, rules}
use Rattle.freshness_routes.specs.declared.routes.Direction.{Direction}
use Rattle.rathonsi_c.specs.declared.TheConstants.{BAD_VALUE}
use Rattle.rathonsi_c.specs.declared.secoc.RathonsiVerdict.{RathonsiVerdict}
use Rattle.rathonsi_c.specs.Causes.{IfCause}
use Rattle.rathonsi_c.specs.Routes.{status_alone, no_verdict}
use Rattle.rathonsi_c.specs.Steps.{BoundAnswers}
use Rattle.rathonsi_c.specs.Syncing.{TakeMacAnswers, JudgesSyncBy, input_of_answer, way_of}
use Rattle.rathonsi_c.proofs.BoundLaws.{told_bound}
use Rattle.rathonsi_c.proofs.sync.rathonsi_sync_take_mac.Goals as goal

pub returns-in-Err-clause-answer : goal.returns-in-Err-clause-answer
returns-in-Err-clause-answer c =
    let r = c.args.route.now in
    let image = c.args.image.now in
    let q = c.args.question.now in
    let answer = c.args.answer.now in
    let status = c.in-Err.status in
    let refused = subst (λ (d : Direction). BoundAnswers status_alone r d image (λ _. ⊥) status) c.way.ensures c.in-Err.ensures.refused in
    subst (λ (v : RathonsiVerdict). TakeMacAnswers c.args.route.now c.args.image.now c.args.question.now c.args.answer.now c.args.input.now c.args.mac.now v) (sym (c.refusal-in-Err.ensures.value ∙ ap no_verdict (search rules))) (inr (
      (λ one. one c.if-question.false),
      told_bound no_verdict r (way_of r) image (λ _. ⊥) (IfCause (c.args.input.now ≢ input_of_answer r q answer) (no_verdict BAD_VALUE) (JudgesSyncBy r image answer c.args.mac.now)) status (λ says. absurd says) refused,
    ))
