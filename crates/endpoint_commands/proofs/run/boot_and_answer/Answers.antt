use Rattle.std.proofs.Common.{ℕ, List, ◌∙◌, subst, refl}
use Rattle.bus_machine.specs.declared.events.Event.TheVariants as event
use Rattle.endpoint_commands.specs.Alone.{TurnsAlone}
use Rattle.bus_port.specs.Sink.{SinkState}
use Rattle.program_edge.specs.Inputs.{Reading}
use Rattle.can_logs.specs.LogRuns.{WatchEnding}
use Rattle.bus_script.specs.LineTexts.{told_words}
use Rattle.endpoint_commands.specs.declared.rules.FrameRule.{FrameRule}
use Rattle.endpoint_commands.specs.Lines.{comment_text}
use Rattle.endpoint_commands.specs.Logs.{EndsLines}
use Rattle.endpoint_commands.specs.Promises.{not_opened}
use Rattle.endpoint_commands.proofs.Doing.{answers_booted, answers_unopened}
use Rattle.endpoint_commands.proofs.run.boot_and_answer.Goals as goal

pub answer_log-requires : goal.answer_log-requires
answer_log-requires g c = c.in-Ok.ensures.fresh c.requires.before

pub returns-in-Ok : goal.returns-in-Ok
returns-in-Ok g c =
    let sink : SinkState = g.K.Sink.state c.args.sink.now in
    let log : Reading = record { before = g.T.Source.state c.args.log.now; after = g.T.Source.state c.answer_log.new.log } in
    let e : WatchEnding = record {
      output = record { before = sink; after = g.K.Sink.state c.answer_log.new.sink };
      errors = record { before = g.E.Sink.state c.args.errors.now; after = g.E.Sink.state c.answer_log.new.errors };
      status = c.answer_log.result;
    } in
    let told = c.in-Ok.ensures.told in
    let ended = c.answer_log.ensures.ends (comment_text (told_words told)) sink c.in-Ok.ensures.puts in
    answers_booted c.args.image.now c.args.endpoint.now.rules c.args.endpoint.now.node c.boot.new.self.node c.answer_log.new.endpoint.node told log e ended.0
    (subst (λ (image : List ℕ). TurnsAlone c.args.endpoint.now.node (event.Boot 0 image) told c.boot.new.self.node) c.bytes.ensures.value c.in-Ok.ensures.turn)
    (subst (λ (rules : List FrameRule). EndsLines rules c.boot.new.self.node (comment_text (told_words told)) log e c.answer_log.new.endpoint.node ended.0)
    (c.answer_log.ensures.rules ∙ c.in-Ok.ensures.rules) ended.1)

pub returns-in-Err : goal.returns-in-Err
returns-in-Err g c =
    let sink : SinkState = g.K.Sink.state c.args.sink.now in
    let log : Reading = record { before = g.T.Source.state c.args.log.now; after = g.T.Source.state c.args.log.now } in
    let errors : SinkState = g.E.Sink.state c.args.errors.now in
    let e : WatchEnding = record {
      output = record { before = sink; after = g.K.Sink.state c.boot.new.sink };
      errors = record { before = errors; after = errors };
      status = 6;
    } in
    answers_unopened c.args.image.now c.args.endpoint.now.rules c.args.endpoint.now.node c.boot.new.self.node c.in-Err.ensures.told log e
    (subst (λ (image : List ℕ). TurnsAlone c.args.endpoint.now.node (event.Boot 0 image) c.in-Err.ensures.told c.boot.new.self.node) c.bytes.ensures.value c.in-Err.ensures.turn)
    (not_opened refl c.in-Err.ensures.puts.0 c.in-Err.ensures.puts.1 refl refl refl)
