use Rattle.campaign_commands.specs.CommandForms.{campaign_of}
use Rattle.campaign_commands.proofs.CommandValues.{are_from_gives, few_from_gives}
use Rattle.campaign_commands.proofs.reader.read_campaign.Goals as goal

pub returns-clause-are_commands : goal.returns-clause-are_commands
unfolding campaign_of
returns-clause-are_commands c = are_from_gives c.args.text.now c.read_lines.result c.read_lines.ensures

pub returns-clause-few : goal.returns-clause-few
unfolding campaign_of
returns-clause-few c = few_from_gives c.args.text.now c.read_lines.result c.read_lines.ensures
