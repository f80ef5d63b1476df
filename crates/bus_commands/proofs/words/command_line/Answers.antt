use Rattle.std.proofs.Common.{arith, rules}
use Rattle.bus_commands.proofs.WordTexts.{four_texts, one_asks_nothing, many_ask_nothing}
use Rattle.bus_commands.proofs.AskedWords.{nothing_asked}
use Rattle.bus_commands.proofs.words.command_line.Goals.{in_default-via-then-words-lt2, in_default-via-else-words-lt2+else-words-lt3+else-words-lt4+else-words-lt5}
use Rattle.bus_commands.proofs.words.command_line.Goals as goal

pub returns-in-len4 : goal.returns-in-len4
returns-in-len4 c =
    rw (
      four_texts c.args.words.now c.name-item-then-words-lt5.result c.bus-item-then-words-lt5.result c.third-item.result
          c.fourth-item.result (omega arith) c.name-item-then-words-lt5.is c.bus-item-then-words-lt5.is c.third-item.is
          c.fourth-item.is,
      ← c.as_str-in-len4.ensures.value,
      ← c.as_str-in-len4-2.ensures.value,
      ← c.as_str-in-len4-3.ensures.value,
      ← c.as_str-in-len4-4.ensures.value,
    )
    c.command_line_of_four.ensures

pub returns-in_default : goal.returns-in_default
returns-in_default c =
    nothing_asked _ _ _ _ _ c.nothing.ensures.command c.nothing.ensures.config c.nothing.ensures.script
    c.nothing.ensures.disk
    (elim c.in_default.branch [
      | in_default-via-then-words-lt2 w ↦ one_asks_nothing c.args.words.now (search rules) (search rules)
      | in_default-via-else-words-lt2+else-words-lt3+else-words-lt4+else-words-lt5 w ↦
          many_ask_nothing c.args.words.now (search rules)
    ])
