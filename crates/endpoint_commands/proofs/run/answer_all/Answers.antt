use Rattle.std.proofs.Common.{ℕ, List, [], sym, subst}
use Rattle.std.specs.Prelude.{Option}
use Rattle.bus_port.specs.Sink.{SinkState}
use Rattle.program_edge.specs.Inputs.{Reading}
use Rattle.can_logs.specs.LogRuns.{WatchEnding}
use Rattle.endpoint_commands.specs.declared.rules.FrameRule.{FrameRule}
use Rattle.endpoint_commands.specs.Logs.{EndsLines}
use Rattle.endpoint_commands.specs.Promises.{AnswersAll}
use Rattle.endpoint_commands.proofs.Doing.{nothing_printed, answers_unbooted}
use Rattle.endpoint_commands.proofs.run.answer_all.Goals as goal

pub returns-in-None : goal.returns-in-None
returns-in-None g c =
    let sink : SinkState = g.K.Sink.state c.args.sink.now in
    let log : Reading = record { before = g.T.Source.state c.args.log.now; after = g.T.Source.state c.answer_log.new.log } in
    let e : WatchEnding = record {
      output = record { before = sink; after = g.K.Sink.state c.answer_log.new.sink };
      errors = record { before = g.E.Sink.state c.args.errors.now; after = g.E.Sink.state c.answer_log.new.errors };
      status = c.answer_log.result;
    } in
    let ended = c.answer_log.ensures.ends [] sink (nothing_printed sink) in
    subst (λ (image : Option (List ℕ)). AnswersAll image c.args.endpoint.now.rules c.args.endpoint.now.node log e c.answer_log.new.endpoint.node) (sym c.in-None.is)
    (answers_unbooted c.args.endpoint.now.rules c.args.endpoint.now.node c.answer_log.new.endpoint.node log e ended.0
    (subst (λ (rules : List FrameRule). EndsLines rules c.args.endpoint.now.node [] log e c.answer_log.new.endpoint.node ended.0) c.answer_log.ensures.rules ended.1))
