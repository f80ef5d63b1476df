use Rattle.campaign_commands.specs.Steps.{not_opened}
use Rattle.campaign_commands.proofs.Ending.{comes_of_disk}
use Rattle.campaign_commands.proofs.campaign.on_disk.Goals as goal

pub returns-in-Ok : goal.returns-in-Ok
returns-in-Ok g c = c.over_ledger.ensures _ c.in-Ok.ensures.opened

pub returns-in-Err : goal.returns-in-Err
returns-in-Err g c = not_opened (record {
  row = c.no_ledger_refusal-refusal.result;
  comes = comes_of_disk _ _ c.in-Err.none.cause c.no_ledger_refusal-refusal.result c.in-Err.ensures.refused c.no_ledger_refusal-refusal.ensures;
  told = c.tell_refusal.ensures;
})
