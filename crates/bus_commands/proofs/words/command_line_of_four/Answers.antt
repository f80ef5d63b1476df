use Rattle.bus_commands.proofs.AskedWords.{nothing_asked}
use Rattle.bus_commands.proofs.words.command_line_of_four.Goals as goal

pub returns-in-None : goal.returns-in-None
returns-in-None c =
    nothing_asked _ _ _ _ _ c.nothing.ensures.command c.nothing.ensures.config c.nothing.ensures.script c.nothing.ensures.disk c.in-None.ensures.none

pub returns-in-Some : goal.returns-in-Some
returns-in-Some c = c.with_world.ensures c.args.name.now c.in-Some.ensures.found
