use Rattle.std.proofs.Common.{refl}
use Rattle.ledger_shift.specs.declared.line.ShiftLine.TheVariants as ask
use Rattle.ledger_shift.proofs.Served.{ends_of, served_if}
use Rattle.ledger_shift.proofs.port.take_remark.Goals as goal

pub returns-clause-serves : goal.returns-clause-serves
returns-clause-serves g c = record {
  origin = refl;
  survives = c.serve_remark-served.ensures.survives;
  ends = ends_of g.S.Store
      (record { conn = c.args.conn.now; origin = c.args.origin.now; noted = c.args.noted.now; sink = g.K.Sink.state c.args.sink.now })
      (record { conn = c.serve_remark-served.new.conn; origin = c.args.origin.now; noted = c.note_served.new.noted; sink = g.K.Sink.state c.tell_served.new.sink })
      c.args.number (ask.Remark c.args.asked.now) c.serve_remark-served.result c.tell_served.result
      c.serve_remark-served.ensures.answers c.serve_remark-served.ensures.failed c.serve_remark-served.ensures.undone c.note_served.ensures c.tell_served.ensures;
}

pub returns-clause-ready : goal.returns-clause-ready
returns-clause-ready g c clean =
    served_if _ (g.K.Sink.state c.args.sink.now) (g.K.Sink.state c.tell_served.new.sink) c.args.number c.serve_remark-served.result c.tell_served.result c.tell_served.ensures (c.serve_remark-served.ensures.ready clean)
