use Rattle.std.proofs.Common.{◌≡◌, ◌<◌, ◌^◌, ◌+◌, suc, rules, refl, sym, ap, ◌∙◌, arith}
use Rattle.unit_keys.specs.Wrapped.{wrap_step, wrap_steps, register_bytes, wrapped}
use Rattle.unit_keys.proofs.Steps.{first_is}
use Rattle.unit_keys.proofs.wrapping.wrap.Goals as goal

pub loop-t-init : goal.loop-t-init
unfolding wrap_steps
loop-t-init c = refl

pub loop-t-preserved : goal.loop-t-preserved
unfolding wrap_steps
loop-t-preserved c =
    let t = c.loop-t.t in
    let e : t + 1 ≡ suc t = omega arith in
    rw e (c.step-register.ensures ∙ ap (λ n. wrap_step c.expand-schedule.result n c.loop-t.register) e ∙ ap (wrap_step c.expand-schedule.result (suc t)) c.loop-t.invariant)

pub returns : goal.returns
unfolding wrapped
returns c = record {
  value =
      let last = c.loop-t-test.false in
      let end : c.loop-t.t ≡ 12 = search rules in
      let h = c.halves_of-first.result in
      let low : h.1 < 2 ^ 64 = search rules in
      c.text_of.ensures
      ∙ ap (λ w. register_bytes w) (c.loop-t.invariant ∙ ap (λ n. wrap_steps c.expand-schedule.result n (record { check = 0xa6a6a6a6a6a6a6a6; first = h.0; second = h.1 })) end)
      ∙ ap (λ k. register_bytes (wrap_steps k 12 (record { check = 0xa6a6a6a6a6a6a6a6; first = h.0; second = h.1 }))) c.expand-schedule.ensures.value
      ∙ ap (λ w. register_bytes (wrap_steps c.args.key.now 12 w)) (sym (first_is c.args.plain.now h.0 h.1 c.halves_of-first.ensures.number low));
}
