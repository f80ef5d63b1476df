use Rattle.campaign_commands.proofs.Turning.{turn_of_cut}
use Rattle.campaign_commands.proofs.station.Station.cut.Goals as goal

pub returns : goal.returns
returns g c =
    rw c.cut_line.ensures
    (turn_of_cut c.args.torn c.args.self.now.ledger c.power_cut.new.self c.power_cut.result c.power_cut.ensures.step
    c.power_cut.ensures.up c.power_cut.ensures.refused c.power_cut.ensures.disk c.power_cut.ensures.layout
    c.power_cut.ensures.fits c.power_cut.ensures.sound)
