-- The first place of a bank was read.
use Rattle.flash_calls.proofs.ReadLaws.{head_told}
use Rattle.flash_calls.proofs.operations.told_by.Goals as goal

pub returns-else-outcome-ne0 : goal.returns-else-outcome-ne0
returns-else-outcome-ne0 c =
    head_told c.args.operation.now c.in-Read.field-0 c.in-Read.place c.args.outcome c.args.bytes.now c.told_sizes.result c.in-Read.is
    c.if-place-ne0.false c.if-outcome-ne0.false c.told_sizes.ensures
