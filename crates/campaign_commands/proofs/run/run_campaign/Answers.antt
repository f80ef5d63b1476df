use Rattle.std.proofs.Common.{refl}
use Rattle.campaign_commands.specs.Rows.{in_row}
use Rattle.campaign_commands.proofs.Ending.{script_comes, campaign_ends, campaign_further, campaign_as_many}
use Rattle.campaign_commands.proofs.Promises.{RunsCampaign-ends}
use Rattle.campaign_commands.proofs.run.run_campaign.Goals as goal

pub returns-in-Ok-clause-campaigned : goal.returns-in-Ok-clause-campaigned
returns-in-Ok-clause-campaigned g c = campaign_ends _ _ _ _ c.in-Ok.commands.items c.in-Ok.ensures.0 (rw (← c.as_slice.ensures.value) c.campaign.ensures)

pub returns-in-Ok-clause-promises : goal.returns-in-Ok-clause-promises
returns-in-Ok-clause-promises g c =
    RunsCampaign-ends _ _ _ _ (campaign_further _ _ _ c.as_slice.result.now c.campaign.ensures) (campaign_as_many _ _ _ c.as_slice.result.now c.campaign.ensures)
    (campaign_ends _ _ _ _ c.in-Ok.commands.items c.in-Ok.ensures.0 (rw (← c.as_slice.ensures.value) c.campaign.ensures))

pub returns-in-Err-clause-campaigned : goal.returns-in-Err-clause-campaigned
returns-in-Err-clause-campaigned g c =
    in_row (record { row = c.in-Err.refusal; comes = script_comes _ _ _ c.in-Err.refusal refl c.in-Err.ensures; told = c.tell_refusal.ensures })

pub returns-in-Err-clause-promises : goal.returns-in-Err-clause-promises
returns-in-Err-clause-promises g c =
    RunsCampaign-ends _ _ _ _ refl refl
    (in_row (record { row = c.in-Err.refusal; comes = script_comes _ _ _ c.in-Err.refusal refl c.in-Err.ensures; told = c.tell_refusal.ensures }))
