use Rattle.std.proofs.Common.{◌≢◌, inr, sym, ap, subst, ◌∙◌, rules}
use Rattle.freshness_routes.specs.declared.routes.Direction.TheVariants.{Receives}
use Rattle.rathonsi_c.specs.declared.TheConstants.{BAD_VALUE}
use Rattle.rathonsi_c.specs.declared.secoc.RathonsiVerdict.{RathonsiVerdict}
use Rattle.rathonsi_c.specs.Causes.{IfCause}
use Rattle.rathonsi_c.specs.Routes.{no_verdict}
use Rattle.rathonsi_c.specs.Syncing.{input_of_answer}
use Rattle.rathonsi_c.specs.Rejoining.{RejoinMacAnswers, JudgesRejoinBy}
use Rattle.rathonsi_c.proofs.BoundLaws.{told_bound}
use Rattle.rathonsi_c.proofs.RejoinLaws.{rejoined_by}
use Rattle.rathonsi_c.proofs.rejoin.rathonsi_sync_rejoin_mac.Goals as goal

pub returns-in-Err-clause-answer : goal.returns-in-Err-clause-answer
returns-in-Err-clause-answer c =
    let r = c.args.route.now in
    let image = c.args.image.now in
    let q = c.args.question.now in
    let answer = c.args.answer.now in
    subst (λ (v : RathonsiVerdict). RejoinMacAnswers c.args.route.now c.args.image.now c.args.question.now c.args.answer.now c.args.input.now c.args.mac.now v) (sym (c.refusal-in-Err.ensures.value ∙ ap no_verdict (search rules))) (inr (
      (λ one. one c.if-question.false),
      told_bound no_verdict r Receives image (λ _. ⊥) (IfCause (c.args.input.now ≢ input_of_answer r q answer) (no_verdict BAD_VALUE) (JudgesRejoinBy r image answer c.args.mac.now)) c.in-Err.status (λ says. absurd says) c.in-Err.ensures.refused,
    ))

pub returns-then-verdict-eq-OK-clause-rejoined : goal.returns-then-verdict-eq-OK-clause-rejoined
returns-then-verdict-eq-OK-clause-rejoined c = λ ok.
    rejoined_by c.args.route.now c.args.image.now c.in-Ok.bound c.counter_with.result c.rejoin_on-verdict.result _ c.in-Ok.ensures.in_use.ranges c.in-Ok.ensures.in_use.opened c.in-Ok.ensures.kept c.rejoin_on-verdict.ensures ok c.move_counter.ensures
