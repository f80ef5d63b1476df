use Rattle.std.proofs.Common.{◌≡◌, rules, sym, subst, ap, ◌∙◌}
use Rattle.basics.specs.Blocks.{IsBlock}
use Rattle.unit_keys.specs.declared.wrapping.Register.{Register}
use Rattle.unit_keys.specs.Wrapped.{wrap_steps, first_register, register_bytes, wrapped}
use Rattle.unit_keys.proofs.Steps.{InHalves, first_of, only_before}
use Rattle.unit_keys.proofs.wrapping.unwrap.Goals as goal

pub returns-then-before-clause-none : goal.returns-then-before-clause-none
returns-then-before-clause-none c = λ plain b e.
    let key = c.args.key.now in
    let r = c.register_of.result in
    let before = c.before_steps-before.result in
    let k : IsBlock key = subst IsBlock c.expand.ensures.value c.expand.ensures.is_block in
    let x : InHalves r = record { check = search rules; first = search rules; second = search rules } in
    let y : InHalves before = record { check = search rules; first = search rules; second = search rules } in
    let steps : wrap_steps key 12 before ≡ r = subst (λ s. wrap_steps s 12 before ≡ r) c.expand.ensures.value c.before_steps-before.ensures in
    let same : first_register plain ≡ before = only_before key plain r before k b x y steps (e ∙ sym c.register_of.ensures) in
    c.if-before.true (ap (λ (w : Register). w.check) (sym same))

pub returns-clause-some : goal.returns-clause-some
unfolding wrapped
returns-clause-some c =
    let key = c.args.key.now in
    let before = c.before_steps-before.result in
    let y : InHalves before = record { check = search rules; first = search rules; second = search rules } in
    let steps : wrap_steps key 12 before ≡ c.register_of.result = subst (λ s. wrap_steps s 12 before ≡ c.register_of.result) c.expand.ensures.value c.before_steps-before.ensures in
    let same : first_register c.block_of_halves.result ≡ before = ap (λ l. first_register l) c.block_of_halves.ensures.value ∙ first_of before y c.if-before.false in
    ap (λ w. register_bytes (wrap_steps key 12 w)) same ∙ ap (λ w. register_bytes w) steps ∙ c.register_of.ensures
