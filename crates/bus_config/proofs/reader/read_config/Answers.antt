use Rattle.std.proofs.Common.{sym, subst}
use Rattle.std.proofs.lemmas.Bool.{iff_false}
use Rattle.toml.specs.View.{table_view}
use Rattle.bus_config.specs.Answers.{AnswersAs}
use Rattle.bus_config.proofs.Documents.{bus_of_document, bus_of_other}
use Rattle.bus_config.proofs.reader.read_config.Goals as goal

pub returns-in-Ok : goal.returns-in-Ok
returns-in-Ok c =
    subst (λ meaning. AnswersAs meaning c.read_bus.result) (sym (bus_of_document c.args.text.now (table_view c.in-Ok.table) c.in-Ok.ensures.ok)) c.read_bus.ensures

pub returns-in-Err-2 : goal.returns-in-Err-2
returns-in-Err-2 c =
    bus_of_other c.args.text.now (c.in-Err.ensures.refused (iff_false c.is_memory.ensures c.if-is_memory.false))
