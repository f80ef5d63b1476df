use Rattle.std.proofs.Common.{inr, map}
use Rattle.std.specs.Prelude.{string_bytes}
use Rattle.can_logs.specs.LogRuns.{LogInputs, Writing, WatchEnding}
use Rattle.watch_commands.proofs.WatchPhases.{Ends-untold}
use Rattle.watch_commands.proofs.WatchPromises.{Watches-ends}
use Rattle.watch_commands.proofs.run.run_watch.Goals as goal

pub returns-in-Ok : goal.returns-in-Ok
returns-in-Ok g c =
    let i : LogInputs = record {
      words = map string_bytes c.args.words.now;
      map = record { before = g.S.Source.state c.args.map.now; after = g.S.Source.state c.run_untold.new.map };
      log = record { before = g.T.Source.state c.args.log.now; after = g.T.Source.state c.run_untold.new.log };
    } in
    let output : Writing = record { before = g.K.Sink.state c.args.sink.now; after = g.K.Sink.state c.run_untold.new.sink } in
    Watches-ends i _ (Ends-untold i output (g.E.Sink.state c.args.errors.now) c.in-Ok.status c.in-Ok.ensures)

pub returns-in-Err : goal.returns-in-Err
returns-in-Err g c =
    let i : LogInputs = record {
      words = map string_bytes c.args.words.now;
      map = record { before = g.S.Source.state c.args.map.now; after = g.S.Source.state c.run_untold.new.map };
      log = record { before = g.T.Source.state c.args.log.now; after = g.T.Source.state c.run_untold.new.log };
    } in
    let e : WatchEnding = record {
      output = record { before = g.K.Sink.state c.args.sink.now; after = g.K.Sink.state c.run_untold.new.sink };
      errors = record { before = g.E.Sink.state c.args.errors.now; after = g.E.Sink.state c.tell_refusal.new.sink };
      status = c.tell_refusal.result;
    } in
    Watches-ends i e (inr (inr (record { row = c.in-Err.refusal; comes = c.in-Err.ensures; told = c.tell_refusal.ensures })))
