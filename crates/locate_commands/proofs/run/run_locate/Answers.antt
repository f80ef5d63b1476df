use Rattle.std.proofs.Common.{inr, refl, map}
use Rattle.std.specs.Prelude.{string_bytes}
use Rattle.can_logs.specs.LogRuns.{LogInputs, WatchEnding}
use Rattle.locate_commands.proofs.LocatePhases.{Ends-does}
use Rattle.locate_commands.proofs.LocatePromises.{Locates-ends}
use Rattle.locate_commands.proofs.run.run_locate.Goals as goal

pub returns-in-Ok : goal.returns-in-Ok
returns-in-Ok g c = Locates-ends _ _ (Ends-does _ c.in-Ok.locating _ c.in-Ok.ensures c.do_locate.ensures)

pub returns-in-Err : goal.returns-in-Err
returns-in-Err g c =
    let i : LogInputs = record {
      words = map string_bytes c.args.words.now;
      map = record { before = g.S.Source.state c.args.map.now; after = g.S.Source.state c.prepare.new.map };
      log = record { before = g.T.Source.state c.args.log.now; after = g.T.Source.state c.prepare.new.log };
    } in
    let e : WatchEnding = record {
      output = record { before = g.K.Sink.state c.args.sink.now; after = g.K.Sink.state c.args.sink.now };
      errors = record { before = g.E.Sink.state c.args.errors.now; after = g.E.Sink.state c.tell_refusal.new.sink };
      status = c.tell_refusal.result;
    } in
    Locates-ends i e (inr (record { row = c.in-Err.refusal; comes = c.in-Err.ensures; told = c.tell_refusal.ensures }, refl))
