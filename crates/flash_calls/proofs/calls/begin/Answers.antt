-- A new plan.
use Rattle.std.proofs.Common.{arith}
use Rattle.flash_calls.proofs.CallLaws.{has_begun}
use Rattle.flash_calls.proofs.calls.begin.Goals as goal

pub returns-clause-answer : goal.returns-clause-answer
returns-clause-answer c =
    has_begun c.args.unit c.args.banks c.args.bank_size c.in-Some.places c.args.cells c.numbers_of.result c.start.result
    c.in-Some.ensures.0 (omega arith) c.in-Some.ensures.1
    c.numbers_of.ensures.plan c.numbers_of.ensures.unit c.numbers_of.ensures.bank_size c.numbers_of.ensures.cells c.numbers_of.ensures.untold
    c.start.ensures.banks c.start.ensures.places c.start.ensures.plan
    c.start.ensures.left c.start.ensures.none c.start.ensures.first c.start.ensures.nothing c.start.ensures.stands
