use Rattle.bus_commands.proofs.AskedWords.{nothing_asked, two_asked}
use Rattle.bus_commands.proofs.words.command_line_of_two.Goals as goal

pub returns-in-None : goal.returns-in-None
returns-in-None c =
    nothing_asked _ _ _ _ _ c.nothing.ensures.command c.nothing.ensures.config c.nothing.ensures.script c.nothing.ensures.disk c.in-None.ensures.none

pub returns-in-Some : goal.returns-in-Some
returns-in-Some c = two_asked c.args.name.now c.args.file.now c.in-Some.command c.in-Some.ensures.found
