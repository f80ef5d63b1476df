use Rattle.campaign_commands.proofs.OneRun.{campaigned}
use Rattle.campaign_commands.proofs.laws.campaigns_are_runs.Goals as goal

pub returns : goal.returns
returns c = λ before after commands sink_before sink_after result ran firm.
    campaigned (record {
      rise = c.issued_counters_rise.ensures;
      build = c.issued_requests_build_their_updates.ensures;
      allow = c.issued_requests_are_allowed.ensures;
      confirm = c.entries_are_confirmed_by_a_reply.ensures;
      keep = c.no_entry_goes_away.ensures;
      skip = c.few_counters_are_skipped.ensures;
    }) before after commands sink_before sink_after result ran firm
