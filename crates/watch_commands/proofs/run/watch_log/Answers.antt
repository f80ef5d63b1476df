use Rattle.std.proofs.Common.{rules, subst, sym}
use Rattle.std.specs.Prelude.{Ok}
use Rattle.program_edge.specs.Inputs.{Reading}
use Rattle.watch_commands.specs.WatchRows.{EndsLog, FailsOfLog}
use Rattle.watch_commands.proofs.Ports.{Ends-taken, Ends-failed, Ends-too_long}
use Rattle.watch_commands.proofs.run.watch_log.Goals as goal

pub returns-in-Ok : goal.returns-in-Ok
returns-in-Ok g c =
    let log : Reading = record { before = g.T.Source.state c.args.log.now; after = g.T.Source.state c.stream_lines.new.log } in
    let start = g.K.Sink.state c.args.sink.now in
    subst (λ k. EndsLog c.args.watch.now.mapping log (record { before = start; after = k }) (Ok c.in-Ok.status)) (search rules)
    (Ends-taken c.args.watch.now start c.requires log _ c.in-Ok.status c.in-Ok.ensures.streamed)

pub returns-in-Err-ReadFault : goal.returns-in-Err-ReadFault
returns-in-Err-ReadFault g c =
    let log : Reading = record { before = g.T.Source.state c.args.log.now; after = g.T.Source.state c.stream_lines.new.log } in
    let start = g.K.Sink.state c.args.sink.now in
    subst (λ k. FailsOfLog c.args.watch.now.mapping log (record { before = start; after = k }) c.fixed.result) (search rules)
    (subst (FailsOfLog c.args.watch.now.mapping log _) (sym c.fixed.ensures) (Ends-failed c.args.watch.now start c.requires log _ c.in-Err-ReadFault.field-0 c.in-Err-ReadFault.field-0-is c.in-Err-ReadFault.ensures.streamed))

pub returns-in-Err-TooLong : goal.returns-in-Err-TooLong
returns-in-Err-TooLong g c =
    let log : Reading = record { before = g.T.Source.state c.args.log.now; after = g.T.Source.state c.stream_lines.new.log } in
    let start = g.K.Sink.state c.args.sink.now in
    subst (λ k. FailsOfLog c.args.watch.now.mapping log (record { before = start; after = k }) c.fixed-in-Err-TooLong.result) (search rules)
    (subst (FailsOfLog c.args.watch.now.mapping log _) (sym c.fixed-in-Err-TooLong.ensures) (Ends-too_long c.args.watch.now start c.requires log _ c.in-Err-TooLong.field-0 c.in-Err-TooLong.field-0-is c.in-Err-TooLong.ensures.streamed))
