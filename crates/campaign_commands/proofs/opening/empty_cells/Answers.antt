use Rattle.std.proofs.Common.{sym}
use Rattle.key_campaign.proofs.CallerLemmas.{no_entries-zeros}
use Rattle.campaign_commands.proofs.opening.empty_cells.Goals as goal

pub returns : goal.returns
returns c = sym no_entries-zeros
