use Rattle.std.specs.Prelude.{◌∷◌, []}
use Rattle.bus_commands.specs.Words.{AsksSomething}
use Rattle.bus_commands.proofs.AskedWords.{nothing_asked, three_asked, beside_named}
use Rattle.bus_commands.proofs.words.command_line_of_three.Goals as goal

pub returns-in-None : goal.returns-in-None
returns-in-None c =
    nothing_asked _ _ _ _ _ c.nothing.ensures.command c.nothing.ensures.config c.nothing.ensures.script c.nothing.ensures.disk c.in-None.ensures.none

pub returns-in-Some : goal.returns-in-Some
returns-in-Some c =
    three_asked c.args.name.now c.args.bus.now c.args.file.now c.in-Some.command _ c.in-Some.ensures.found
    (beside_named (λ w. w.now) c.beside.result c.args.bus.now c.args.file.now (AsksSomething (c.args.name.now ∷ c.args.bus.now ∷ c.args.file.now ∷ []))
    (c.in-Some.command, c.in-Some.ensures.found) c.beside.ensures.some c.beside.ensures.none)
