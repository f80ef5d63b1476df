use Rattle.bus_store_commands.proofs.growing.grow_over.Goals as goal

pub returns-in-Ok : goal.returns-in-Ok
returns-in-Ok g c = record { row = record { status = 0; text = c.as_slice.result.now }; comes = rw c.as_slice.ensures.value c.in-Ok.ensures.done; told = c.tell.ensures }

pub returns-in-Err : goal.returns-in-Err
returns-in-Err g c = record { row = c.in-Err.refusal; comes = c.in-Err.ensures.refused; told = c.tell_refusal.ensures }
