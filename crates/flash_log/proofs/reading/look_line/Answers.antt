use Rattle.flash_log.proofs.BankLaws.{looks_line}
use Rattle.flash_log.proofs.reading.look_line.Goals as goal

pub returns-in-Ok-Whole-clause-looks : goal.returns-in-Ok-Whole-clause-looks
returns-in-Ok-Whole-clause-looks g c = looks_line c.args.bank c.args.place c.in-Ok-Whole.field-0 c.in-Ok-Whole.line _ _ c.in-Ok-Whole.ensures.looks c.in-Ok-Whole.field-0-is
