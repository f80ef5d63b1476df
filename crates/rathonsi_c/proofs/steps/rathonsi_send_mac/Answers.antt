use Rattle.std.proofs.Common.{ℤ, ◌≡◌, ◌≢◌, ◌+◌, ◌^◌, inl, inr, refl, sym, subst, ◌∙◌, FitsSigned, w32, arith, rules}
use Rattle.std.proofs.lemmas.Bool.{true≢false}
use Rattle.std.proofs.lemmas.Int.{to_z-of_z}
use Rattle.freshness_routes.specs.declared.routes.Direction.TheVariants.{Sends}
use Rattle.rathonsi_c.specs.declared.TheConstants.{OK, BAD_VALUE, RESERVE, EXHAUSTED}
use Rattle.rathonsi_c.specs.Causes.{IfCause, IsDone}
use Rattle.rathonsi_c.specs.Routes.{BoundBelow, CounterAnswers, status_alone}
use Rattle.rathonsi_c.specs.Steps.{OtherInput, InputOf, SendMacAnswers}
use Rattle.rathonsi_c.proofs.BoundLaws.{told_bound, refused_counter, next_rest}
use Rattle.rathonsi_c.proofs.steps.rathonsi_send_mac.Goals as goal

pub returns-in-Err-clause-answer : goal.returns-in-Err-clause-answer
returns-in-Err-clause-answer c =
    let r = c.args.route.now in
    let image = c.args.image.now in
    let status = c.in-Err.status in
    let fits : FitsSigned w32 status = search rules in
    let rest : ℤ → Type 0 = IfCause (OtherInput r c.args.payload.now c.args.input.now) BAD_VALUE IsDone in
    subst (λ s. SendMacAnswers c.args.route.now c.args.image.now c.args.payload.now c.args.input.now c.args.pdu.now s) (sym (to_z-of_z w32 status fits)) (inr (
      search rules,
      inr (c.if-route-eq1.false, told_bound status_alone r Sends image (λ (answer : ℤ). (answer ≢ OK) × CounterAnswers r image answer) (IfCause (r.counter + 1 ≡ 2 ^ 64) EXHAUSTED (IfCause (BoundBelow r image Sends (r.counter + 1)) RESERVE rest)) status (refused_counter r image rest status) c.in-Err.ensures.refused),
    ))

pub returns-then-not-is_input-clause-answer : goal.returns-then-not-is_input-clause-answer
returns-then-not-is_input-clause-answer c =
    let r = c.args.route.now in
    let covered = c.in-Ok.ensures.covered in
    let next = c.in-Ok.ensures.next in
    inr (
      search rules,
      inr (
        c.if-route-eq1.false,
        next_rest r c.args.image.now covered.bound (IfCause (OtherInput r c.args.payload.now c.args.input.now) BAD_VALUE IsDone) _ c.in-Ok.ensures.in_use covered.kept (let k = covered.covers in omega arith) (inl (
          (λ is. true≢false (sym (c.is_input.ensures.1 (subst (λ v. InputOf c.args.route.now.data_id c.args.payload.now v c.args.input.now) (sym next) is)) ∙ c.if-not-is_input.true)),
          refl,
        )),
      ),
    )

pub returns-clause-answer : goal.returns-clause-answer
returns-clause-answer c =
    let r = c.args.route.now in
    let covered = c.in-Ok.ensures.covered in
    let next = c.in-Ok.ensures.next in
    inr (
      search rules,
      inr (
        c.if-route-eq1.false,
        next_rest r c.args.image.now covered.bound (IfCause (OtherInput r c.args.payload.now c.args.input.now) BAD_VALUE IsDone) _ c.in-Ok.ensures.in_use covered.kept (let k = covered.covers in omega arith) (inr (
          (λ other. other (subst (λ v. InputOf c.args.route.now.data_id c.args.payload.now v c.args.input.now) next (c.is_input.ensures.0 c.if-not-is_input.false))),
          refl,
        )),
      ),
    )
