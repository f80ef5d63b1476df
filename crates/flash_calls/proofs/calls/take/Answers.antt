-- A new plan.
use Rattle.std.proofs.Common.{arith}
use Rattle.flash_calls.proofs.CallLaws.{has_format_begun}
use Rattle.flash_calls.proofs.calls.take.Goals as goal

pub returns-clause-answer : goal.returns-clause-answer
returns-clause-answer c =
    has_format_begun c.args.unit c.args.banks c.args.bank_size c.in-Some.places c.args.cells c.numbers_of.result c.format.result
    c.in-Some.ensures.0 (omega arith) c.in-Some.ensures.1
    c.numbers_of.ensures.plan c.numbers_of.ensures.unit c.numbers_of.ensures.bank_size c.numbers_of.ensures.cells c.numbers_of.ensures.untold
    c.format.ensures.banks c.format.ensures.places c.format.ensures.plan c.format.ensures.formats c.format.ensures.first
