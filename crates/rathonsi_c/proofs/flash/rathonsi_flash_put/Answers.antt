use Rattle.std.proofs.Common.{inl, inr, length, refl, sym, subst, ◌∙◌, arith, rules, FitsSigned, w32}
use Rattle.std.proofs.lemmas.Bool.{true≢false}
use Rattle.std.proofs.lemmas.Int.{to_z-of_z}
use Rattle.rathonsi_c.specs.Flash.{FlashPutAnswers}
use Rattle.rathonsi_c.proofs.FlashLaws.{refusal_isnt_ok, put_refused}
use Rattle.rathonsi_c.proofs.flash.rathonsi_flash_put.Goals as goal

pub returns-in_default-clause-answer : goal.returns-in_default-clause-answer
returns-in_default-clause-answer c =
    let call = c.is_call.ensures.0 c.if-not-is_call.false in
    inr (
      (λ none. none call),
      inl (
        (λ takes. elim takes [
          | inl empty ↦ true≢false (sym (c.is_empty.ensures.1 empty) ∙ c.if-is_empty.false)
          | inr (i, (d, (below, writes))) ↦ c.in_default.ensures.is i d (let f = call.plan.few in omega (arith, below, f)) writes
        ]),
        refl,
      ),
    )

pub returns-in-Err-clause-answer : goal.returns-in-Err-clause-answer
returns-in-Err-clause-answer c =
    let fits : FitsSigned w32 c.flash_status.result = search rules in
    subst (λ s. FlashPutAnswers (length c.args.cells.now) c.args.plan.now c.args.flash.now s)
    (sym (to_z-of_z w32 c.flash_status.result fits ∙ c.flash_status.ensures))
    (put_refused (length c.args.cells.now) c.in-Some.waiting.cell c.in-Some.waiting.payload c.args.plan.now c.args.flash.now c.in-Err.refusal
    (c.is_call.ensures.0 c.if-not-is_call.false) c.in-Some.ensures.is c.in-Err.ensures.answer)

pub returns-in-Err-clause-puts : goal.returns-in-Err-clause-puts
returns-in-Err-clause-puts c is =
    let fits : FitsSigned w32 c.flash_status.result = search rules in
    absurd (refusal_isnt_ok c.in-Err.refusal (sym c.flash_status.ensures ∙ (sym (to_z-of_z w32 c.flash_status.result fits) ∙ is)))
