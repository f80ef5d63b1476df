use Rattle.bus_world.proofs.Turning.{up_turn, down_turn}
use Rattle.bus_world.proofs.turns.cut.Goals as goal

pub returns-in-Ok : goal.returns-in-Ok
returns-in-Ok g c =
    up_turn c.args.node.now c.power_cut.new.self c.args.torn c.in-Ok.ensures.step c.in-Ok.ensures.up
    c.power_cut.ensures.disk c.power_cut.ensures.layout c.power_cut.ensures.fits c.power_cut.ensures.sound

pub returns-in-Err : goal.returns-in-Err
returns-in-Err g c =
    rw c.cut_refusal.ensures
    (down_turn c.args.node.now c.power_cut.new.self c.args.torn c.in-Err.fault c.in-Err.ensures.step c.in-Err.ensures.refused
    c.power_cut.ensures.disk c.power_cut.ensures.layout c.power_cut.ensures.fits c.power_cut.ensures.sound)
