use Rattle.std.proofs.Common.{refl}
use Rattle.key_commands.specs.Loads.{EndsLoad, in_row, without_requests}
use Rattle.key_commands.proofs.SourceLaws.{ends_over}
use Rattle.key_commands.proofs.LoadPromises.{runs_load}
use Rattle.key_commands.proofs.loads.load_over.Goals as goal

pub returns-in-Ok : goal.returns-in-Ok
returns-in-Ok g c =
    let ends = ends_over _ c.in-Ok.requests.items _ c.in-Ok.ensures.read (rw c.as_slice.ensures.value at c.load_first.ensures) in
    record { promises = runs_load _ _ ends; ends = ends }

pub returns-in-Err : goal.returns-in-Err
returns-in-Err g c =
    let ends : EndsLoad _ _ = in_row (record { row = c.in-Err.refusal; comes = without_requests _ c.in-Err.ensures.read refl; told = c.tell_refusal.ensures }) in
    record { promises = runs_load _ _ ends; ends = ends }
