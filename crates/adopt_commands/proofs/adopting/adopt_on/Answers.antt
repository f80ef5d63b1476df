use Rattle.adopt_commands.specs.AdoptRows.{not_opened}
use Rattle.adopt_commands.proofs.adopting.adopt_on.Goals as goal

pub returns-in-Ok : goal.returns-in-Ok
returns-in-Ok g c = c.adopt_in.ensures (g.D.Disk.state c.args.disk) c.args.may c.in-Ok.ensures.opened c.in-Ok.ensures.stood

pub returns-in-Err : goal.returns-in-Err
returns-in-Err g c = not_opened (record {
  row = c.ledger_refusal-refusal.result;
  comes = (c.in-Err.none.cause, c.in-Err.ensures.refused, c.ledger_refusal-refusal.ensures);
  told = c.tell_refusal.ensures;
})
