-- A read has failed only if the number is none of its own.
use Rattle.std.proofs.Common.{subst, sym}
use Rattle.flash_plan.specs.declared.operations.Operation.{Operation}
use Rattle.flash_calls.specs.Operations.{Comes}
use Rattle.flash_calls.proofs.operations.outcome_of.Goals as goal

pub returns-in-Read-clause-comes : goal.returns-in-Read-clause-comes
returns-in-Read-clause-comes c =
    subst (λ (o : Operation). Comes o c.args.outcome c.answer_of.result) (sym c.in-Read.is) (
      c.answer_of.ensures.fails,
      (c.answer_of.ensures.blank, (λ most. c.answer_of.ensures.well c.in-Read.field-0 c.in-Read.field-1 most)),
    )

pub returns-in-Read-clause-no_head : goal.returns-in-Read-clause-no_head
returns-in-Read-clause-no_head c bank is none =
    c.answer_of.ensures.no_head (λ told zero t. none told (record { bank = bank; is = is; done = zero; tells = t }))
