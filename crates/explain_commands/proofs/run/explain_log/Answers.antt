use Rattle.std.proofs.Common.{rules, subst, sym}
use Rattle.std.specs.Prelude.{Ok}
use Rattle.program_edge.specs.Inputs.{Reading}
use Rattle.explain_commands.specs.ExplainRows.{EndsExplained, FailsOfExplained}
use Rattle.explain_commands.proofs.ExplainPorts.{Ends-taken, Ends-failed, Ends-too_long}
use Rattle.explain_commands.proofs.run.explain_log.Goals as goal

pub returns-in-Ok : goal.returns-in-Ok
returns-in-Ok g c =
    let log : Reading = record { before = g.T.Source.state c.args.log.now; after = g.T.Source.state c.stream_lines.new.log } in
    let start = g.K.Sink.state c.args.sink.now in
    subst (λ k. EndsExplained c.args.explainer.now.mapping log (record { before = start; after = k }) (Ok c.in-Ok.status)) (search rules)
    (Ends-taken c.args.explainer.now start c.requires log _ c.in-Ok.status c.in-Ok.ensures.streamed)

pub returns-in-Err-ReadFault : goal.returns-in-Err-ReadFault
returns-in-Err-ReadFault g c =
    let log : Reading = record { before = g.T.Source.state c.args.log.now; after = g.T.Source.state c.stream_lines.new.log } in
    let start = g.K.Sink.state c.args.sink.now in
    subst (λ k. FailsOfExplained c.args.explainer.now.mapping log (record { before = start; after = k }) c.fixed.result) (search rules)
    (subst (FailsOfExplained c.args.explainer.now.mapping log _) (sym c.fixed.ensures) (Ends-failed c.args.explainer.now start c.requires log _ c.in-Err-ReadFault.field-0 c.in-Err-ReadFault.field-0-is c.in-Err-ReadFault.ensures.streamed))

pub returns-in-Err-TooLong : goal.returns-in-Err-TooLong
returns-in-Err-TooLong g c =
    let log : Reading = record { before = g.T.Source.state c.args.log.now; after = g.T.Source.state c.stream_lines.new.log } in
    let start = g.K.Sink.state c.args.sink.now in
    subst (λ k. FailsOfExplained c.args.explainer.now.mapping log (record { before = start; after = k }) c.fixed-in-Err-TooLong.result) (search rules)
    (subst (FailsOfExplained c.args.explainer.now.mapping log _) (sym c.fixed-in-Err-TooLong.ensures) (Ends-too_long c.args.explainer.now start c.requires log _ c.in-Err-TooLong.field-0 c.in-Err-TooLong.field-0-is c.in-Err-TooLong.ensures.streamed))
