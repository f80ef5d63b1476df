use Rattle.std.proofs.Common.{inl, inr, refl, subst}
use Rattle.program_edge.specs.Rows.{Row}
use Rattle.program_edge.specs.Told.{EndingTold}
use Rattle.ledger_shift.proofs.file_run.serve_opened.Goals as goal

pub returns-in-Ok : goal.returns-in-Ok
returns-in-Ok g c = inr (record {
  ready = c.find_table.new.conn;
  table = c.in-Ok.ensures.table;
  made = c.in-Ok.ensures.none;
  found = c.find_table.ensures.same;
  last = c.run_shift-status.new.conn;
  errors = g.E.Sink.state c.run_shift-status.new.errors;
  status = c.run_shift-status.result;
  shift = c.run_shift-status.ensures;
  closes = c.close_shift.ensures;
})

pub returns-in-Err : goal.returns-in-Err
returns-in-Err g c = inl (
  c.in-Err.fault,
  c.find_table.new.conn,
  c.in-Err.ensures.refused,
  record {
    unread = refl;
    unanswered = refl;
    told = subst (λ (r : Row). EndingTold (g.E.Sink.state c.args.errors.now) (g.E.Sink.state c.tell_refusal-in-Err.new.sink) r.text r.status c.tell_refusal-in-Err.result)
        c.fault_refusal.ensures c.tell_refusal-in-Err.ensures;
  },
)
