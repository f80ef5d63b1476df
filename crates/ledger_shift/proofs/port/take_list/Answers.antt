use Rattle.std.proofs.Common.{refl}
use Rattle.ledger_shift.specs.declared.line.ShiftLine.TheVariants as ask
use Rattle.ledger_shift.proofs.Served.{ends_of, noted_shown, served_if}
use Rattle.ledger_shift.proofs.port.take_list.Goals as goal

pub returns-clause-serves : goal.returns-clause-serves
returns-clause-serves g c noted = record {
  origin = refl;
  survives = c.serve_list-served.ensures.survives;
  ends = ends_of g.S.Store
      (record { conn = c.args.conn.now; origin = c.args.origin.now; noted = noted; sink = g.K.Sink.state c.args.sink.now })
      (record { conn = c.serve_list-served.new.conn; origin = c.args.origin.now; noted = noted; sink = g.K.Sink.state c.tell_served.new.sink })
      c.args.number (ask.List c.args.kind c.args.uid.now c.args.id) c.serve_list-served.result c.tell_served.result
      c.serve_list-served.ensures.answers c.serve_list-served.ensures.failed c.serve_list-served.ensures.undone (noted_shown noted c.serve_list-served.result c.serve_list-served.ensures.calm) c.tell_served.ensures;
}

pub returns-clause-ready : goal.returns-clause-ready
returns-clause-ready g c clean =
    served_if _ (g.K.Sink.state c.args.sink.now) (g.K.Sink.state c.tell_served.new.sink) c.args.number c.serve_list-served.result c.tell_served.result c.tell_served.ensures (c.serve_list-served.ensures.ready clean)
