-- The bytes that were read are a line.
use Rattle.flash_calls.proofs.ReadLaws.{gives_line, entry_is_no_head}
use Rattle.flash_calls.proofs.operations.answer_of.Goals as goal

pub returns-in-Some-clause-does : goal.returns-in-Some-clause-does
returns-in-Some-clause-does c bank place f g gave =
    gives_line bank place c.args.outcome c.args.bytes.now c.in-Some.line f g c.in-0.is c.in-Some.ensures.looks gave

pub returns-in-Some-clause-no_head : goal.returns-in-Some-clause-no_head
returns-in-Some-clause-no_head c none =
    entry_is_no_head c.args.bytes.now c.in-Some.line c.in-Some.ensures.reads (λ told t. none told c.in-0.is t)
