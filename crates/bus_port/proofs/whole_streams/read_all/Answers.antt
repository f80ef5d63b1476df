use Rattle.std.proofs.Common.{arith, length, ◌≤◌}
use Rattle.std.proofs.lemmas.Result.{err_from_is_err_and}
use Rattle.bus_port.proofs.Streams.{ReadsPart-more}
use Rattle.bus_port.proofs.whole_streams.read_all.Goals as goal

pub returns-in_err-add_piece-clause-refused : goal.returns-in_err-add_piece-clause-refused
returns-in_err-add_piece-clause-refused g c =
    let p = err_from_is_err_and c.from_residual.result c.from_residual.ensures.1 in
    let within : length c.loop-bytes.bytes.items ≤ c.args.limit = omega (arith, c.loop-bytes.bytes.ok.0, c.loop-bytes.invariant.within) in
    rw (p.1, p.2) (ReadsPart-more _ c.args.limit _ within c.loop-bytes.invariant.no_fault c.loop-bytes.invariant.so_far c.in_err-add_piece.ensures)
