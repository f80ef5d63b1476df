use Rattle.key_commands.specs.Loads.{loads_into, not_open}
use Rattle.key_commands.proofs.loads.load_on.Goals as goal

pub returns-in-Ok : goal.returns-in-Ok
returns-in-Ok g c = loads_into (record {
  opened = c.in-Ok.loader;
  left = c.load_requests-status.new.loader;
  opens = c.in-Ok.ensures.opened;
  ends = c.load_requests-status.ensures;
  handed_back = c.release.ensures.disk;
})

pub returns-in-Err : goal.returns-in-Err
returns-in-Err g c =
    not_open (record { row = c.in-Err.unopened.refusal; comes = c.in-Err.ensures.refused; told = c.tell_refusal-status.ensures })
