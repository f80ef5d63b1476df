use Rattle.std.proofs.Common.{◌∙◌}
use Rattle.std.proofs.lemmas.Result.{err_from_is_err_and}
use Rattle.bus_port.proofs.Streams.{AppendedPart-failed, Appended-front}
use Rattle.bus_port.proofs.whole_streams.write_all.Goals as goal

pub returns-in_err-done-clause-part : goal.returns-in_err-done-clause-part
returns-in_err-done-clause-part g c =
    let p = err_from_is_err_and c.from_residual.result c.from_residual.ensures.1 in
    rw p.1
    (AppendedPart-failed _ c.loop-done.done c.loop-done-test.true c.loop-done.invariant.so_far c.in_err-done.ensures.failed)

pub loop-done-preserved : goal.loop-done-preserved
loop-done-preserved g c =
    let piece = c.in_ok-done.ensures.piece in
    record {
      in_range = piece.fits;
      no_fault = piece.no_fault ∙ c.loop-done.invariant.no_fault;
      so_far = Appended-front c.args.bytes.now c.loop-done.done _ c.loop-done.invariant.so_far piece;
    }
