use Rattle.std.proofs.Common.{◌≡◌, ◌-◌, suc, refl, ap, subst, ◌∙◌, arith}
use Rattle.unit_keys.specs.Wrapped.{wrap_step, wrap_steps}
use Rattle.unit_keys.proofs.wrapping.+before_steps.Goals as goal

pub returns-then-steps-eq0 : goal.returns-then-steps-eq0
unfolding wrap_steps
returns-then-steps-eq0 t c = rw c.if-steps-eq0.true refl

pub returns : goal.returns
unfolding wrap_steps
returns t c =
    let key = c.args.key.now in
    let n = c.args.steps - 1 in
    let more = c.if-steps-eq0.false in
    let e : c.args.steps ≡ suc n = omega (arith, more) in
    let here : wrap_step key (suc n) c.step_back.result ≡ c.args.register =
    subst (λ s. wrap_step key s c.step_back.result ≡ c.args.register) e c.step_back.ensures in
    rw e (ap (wrap_step key (suc n)) c.before_steps.ensures ∙ here)
