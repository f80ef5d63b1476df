use Rattle.std.proofs.lemmas.Result.{err_from_is_err_and}
use Rattle.key_commands.specs.Loads.{no_requests_read}
use Rattle.key_commands.proofs.SourceLaws.{ReadsRequestSource-read}
use Rattle.key_commands.proofs.loads.requests_in.Goals as goal

pub returns-in_err-input-clause-read : goal.returns-in_err-input-clause-read
returns-in_err-input-clause-read g c =
    let p = err_from_is_err_and c.from_residual.result c.from_residual.ensures.1 in
    rw (p.1, p.2) (no_requests_read c.in_err-input.field-0.0 c.in_err-input.ensures.refused)

pub returns-clause-read : goal.returns-clause-read
returns-clause-read g c =
    let requests = c.requests_of.ensures in
    ReadsRequestSource-read _ c.in_ok-input.input.items c.requests_of.result c.in_ok-input.ensures.ok
    (rw (← c.as_slice.ensures.value) requests.ok) (rw (← c.as_slice.ensures.value) requests.err)
