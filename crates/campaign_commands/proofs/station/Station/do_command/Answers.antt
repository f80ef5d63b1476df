use Rattle.std.proofs.Common.{sym, subst}
use Rattle.key_campaign.specs.declared.commands.LedgerCommand.{LedgerCommand}
use Rattle.key_campaign.specs.declared.lines.LedgerLine.TheVariants.{Shown}
use Rattle.campaign_commands.specs.Turns.{LedgerTurn}
use Rattle.campaign_commands.proofs.Turning.{turn_of_show}
use Rattle.campaign_commands.proofs.station.Station.do_command.Goals as goal

pub returns-in-Show : goal.returns-in-Show
returns-in-Show g c =
    subst (λ (cmd : LedgerCommand). LedgerTurn c.args.self.now.ledger cmd (Shown c.show.result) c.args.self.now.ledger) (sym c.in-Show.is)
    (turn_of_show c.in-Show.uid c.in-Show.id c.args.self.now.ledger c.show.result c.show.ensures)
