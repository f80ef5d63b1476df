use Rattle.bus_store_commands.proofs.CheckPhases.{told_row}
use Rattle.bus_store_commands.proofs.CheckPromises.{checks_row}
use Rattle.bus_store_commands.proofs.checking.run_bus_check.Goals as goal

pub returns-in-Ok : goal.returns-in-Ok
returns-in-Ok g c = told_row _ _ c.in-Ok.status _ _ c.as_slice.ensures.value c.in-Ok.ensures c.tell.ensures

pub returns-in-Err : goal.returns-in-Err
returns-in-Err g c = checks_row _ _ (record { row = c.in-Err.refusal; comes = c.in-Err.ensures; told = c.tell_refusal.ensures })
