-- What is promised of the disks themselves holds of what is known of them
use Rattle.std.specs.Prelude.{◌≡◌}
use Rattle.program_edge.specs.Rows.{Row}
use Rattle.program_edge.specs.Endings.{Ending}
use Rattle.program_edge.proofs.CallerLemmas.{EndsInRow-more}
use Rattle.campaign_commands.specs.Rows.{CampaignInputs, CampaignDisks, ComesBefore, no_form, no_commands, bad_line, too_few, too_small, no_ledger, no_memory_to_open, EndsCampaign, in_row, campaigned}
use Rattle.campaign_commands.specs.Campaigns.{RunsCampaign}
use Rattle.campaign_commands.specs.Examples.{Campaigns}
use Rattle.campaign_commands.proofs.Promises.{RunsCampaign-ends}

module _ (same : Type 0) (i : CampaignInputs) (d : CampaignDisks) (e : Ending) (known : same → d.after ≡ d.before) where
  row_known : (row : Row) → ComesBefore same i d row → ComesBefore (d.after ≡ d.before) i d row
  row_known row (no_form not unread as_before) = no_form not unread (known as_before)
  row_known row (no_commands fault none as_before) = no_commands fault none (known as_before)
  row_known row (bad_line fault bad as_before) = bad_line fault bad (known as_before)
  row_known row (too_few commands has as_before empty) = too_few commands has (known as_before) empty
  row_known row (too_small commands has as_before small) = too_small commands has (known as_before) small
  row_known row (no_ledger commands cause text has is lacks) = no_ledger commands cause text has is lacks
  row_known row (no_memory_to_open commands has leaves) = no_memory_to_open commands has leaves

  ends_known : EndsCampaign same i d e → EndsCampaign (d.after ≡ d.before) i d e
  ends_known (in_row ends) = in_row (EndsInRow-more row_known ends)
  ends_known (campaigned commands result has over) = campaigned commands result has over

  pub campaigns_known : RunsCampaign same i d e → EndsCampaign same i d e → Campaigns i d e
  campaigns_known runs ends = (RunsCampaign-ends (d.after ≡ d.before) i d e runs.further runs.as_many (ends_known ends), ends_known ends)
