use Rattle.std.proofs.Common.{◌≡◌, ℕ, List, [], rules, subst}
use Rattle.bus_port.specs.Sink.{SinkState}
use Rattle.program_edge.specs.Inputs.{Reading}
use Rattle.program_edge.specs.Told.{EndingTold}
use Rattle.program_edge.specs.Rows.{Row}
use Rattle.endpoint_commands.specs.declared.rules.FrameRule.{FrameRule}
use Rattle.endpoint_commands.specs.States.{EndpointAtSink}
use Rattle.endpoint_commands.proofs.Doing.{nothing_printed}
use Rattle.endpoint_commands.proofs.Ports.{Over-taken, Over-failed, Over-too_long, Ends-rules, Fails-rules, ends_now}
use Rattle.endpoint_commands.proofs.run.answer_log.Goals as goal

pub returns-in-Ok-clause-ends : goal.returns-in-Ok-clause-ends
returns-in-Ok-clause-ends g c = λ opening start prints.
    let log : Reading = record { before = g.T.Source.state c.args.log.now; after = g.T.Source.state c.stream_lines.new.log } in
    let told : SinkState = g.E.Sink.state c.args.errors.now in
    let begun : EndpointAtSink = record { endpoint = c.args.endpoint.now; sink = g.K.Sink.state c.args.sink.now } in
    ends_now log start (record { before = told; after = told }) opening c.args.endpoint.now.node c.in-Ok.status _ _ _ _ _ _ (search rules) (search rules) (search rules)
    (Over-taken begun start opening c.requires prints log _ told c.in-Ok.status c.in-Ok.ensures.streamed)

pub returns-in-Ok-clause-rules : goal.returns-in-Ok-clause-rules
returns-in-Ok-clause-rules g c =
    let log : Reading = record { before = g.T.Source.state c.args.log.now; after = g.T.Source.state c.stream_lines.new.log } in
    let sink : SinkState = g.K.Sink.state c.args.sink.now in
    let begun : EndpointAtSink = record { endpoint = c.args.endpoint.now; sink = sink } in
    subst (λ (rs : List FrameRule). rs ≡ c.args.endpoint.now.rules) (search rules)
    (Ends-rules begun sink [] c.requires (nothing_printed sink) log _ sink c.in-Ok.status c.in-Ok.ensures.streamed)

pub returns-in-Err-ReadFault-clause-ends : goal.returns-in-Err-ReadFault-clause-ends
returns-in-Err-ReadFault-clause-ends g c = λ opening start prints.
    let log : Reading = record { before = g.T.Source.state c.args.log.now; after = g.T.Source.state c.stream_lines.new.log } in
    let told : SinkState = g.E.Sink.state c.args.errors.now in
    let next : SinkState = g.E.Sink.state c.tell_refusal-in-Err-ReadFault.new.sink in
    let status : ℕ = c.tell_refusal-in-Err-ReadFault.result in
    let begun : EndpointAtSink = record { endpoint = c.args.endpoint.now; sink = g.K.Sink.state c.args.sink.now } in
    ends_now log start (record { before = told; after = next }) opening c.args.endpoint.now.node status _ _ _ _ _ _ (search rules) (search rules) (search rules)
    (Over-failed begun start opening c.requires prints log _ told c.in-Err-ReadFault.field-0 c.in-Err-ReadFault.field-0-is c.in-Err-ReadFault.ensures.streamed next status
    (subst (λ (row : Row). EndingTold told next row.text row.status status) c.from.ensures c.tell_refusal-in-Err-ReadFault.ensures))

pub returns-in-Err-ReadFault-clause-rules : goal.returns-in-Err-ReadFault-clause-rules
returns-in-Err-ReadFault-clause-rules g c =
    let log : Reading = record { before = g.T.Source.state c.args.log.now; after = g.T.Source.state c.stream_lines.new.log } in
    let sink : SinkState = g.K.Sink.state c.args.sink.now in
    let begun : EndpointAtSink = record { endpoint = c.args.endpoint.now; sink = sink } in
    subst (λ (rs : List FrameRule). rs ≡ c.args.endpoint.now.rules) (search rules)
    (Fails-rules begun sink [] c.requires (nothing_printed sink) log _ sink c.in-Err-ReadFault.field-0 c.in-Err-ReadFault.ensures.streamed)

pub returns-in-Err-TooLong-clause-ends : goal.returns-in-Err-TooLong-clause-ends
returns-in-Err-TooLong-clause-ends g c = λ opening start prints.
    let log : Reading = record { before = g.T.Source.state c.args.log.now; after = g.T.Source.state c.stream_lines.new.log } in
    let told : SinkState = g.E.Sink.state c.args.errors.now in
    let next : SinkState = g.E.Sink.state c.tell_refusal-in-Err-TooLong-2.new.sink in
    let status : ℕ = c.tell_refusal-in-Err-TooLong-2.result in
    let begun : EndpointAtSink = record { endpoint = c.args.endpoint.now; sink = g.K.Sink.state c.args.sink.now } in
    ends_now log start (record { before = told; after = next }) opening c.args.endpoint.now.node status _ _ _ _ _ _ (search rules) (search rules) (search rules)
    (Over-too_long begun start opening c.requires prints log _ told c.in-Err-TooLong.field-0 c.in-Err-TooLong.field-0-is c.in-Err-TooLong.ensures.streamed next status
    (subst (λ (row : Row). EndingTold told next row.text row.status status) c.from-in-Err-TooLong.ensures c.tell_refusal-in-Err-TooLong-2.ensures))

pub returns-in-Err-TooLong-clause-rules : goal.returns-in-Err-TooLong-clause-rules
returns-in-Err-TooLong-clause-rules g c =
    let log : Reading = record { before = g.T.Source.state c.args.log.now; after = g.T.Source.state c.stream_lines.new.log } in
    let sink : SinkState = g.K.Sink.state c.args.sink.now in
    let begun : EndpointAtSink = record { endpoint = c.args.endpoint.now; sink = sink } in
    subst (λ (rs : List FrameRule). rs ≡ c.args.endpoint.now.rules) (search rules)
    (Fails-rules begun sink [] c.requires (nothing_printed sink) log _ sink c.in-Err-TooLong.field-0 c.in-Err-TooLong.ensures.streamed)
