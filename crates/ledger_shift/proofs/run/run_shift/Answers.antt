use Rattle.std.proofs.Common.{rules}
use Rattle.ledger_shift.proofs.Served.{shift_of}
use Rattle.ledger_shift.proofs.run.run_shift.Goals as goal

pub returns : goal.returns
returns g c =
    shift_of g.S.Store _ c.nobody-origin.result c.stream_lines-ended.result c.stream_lines-ended.new.taker.conn.now c.stream_lines-ended.new.taker.origin.now c.stream_lines-ended.new.taker.noted (g.K.Sink.state c.stream_lines-ended.new.taker.sink.now)
    c.end_row.result c.nobody-origin.ensures (search rules) (search rules) c.stream_lines-ended.ensures.streamed c.end_row.ensures c.tell_refusal-2.ensures
