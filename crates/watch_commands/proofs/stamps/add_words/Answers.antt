use Rattle.std.specs.Prelude.{codes}
use Rattle.watch_commands.proofs.Parts.{four_parts}
use Rattle.watch_commands.proofs.stamps.add_words.Goals as goal

pub returns-clause-words : goal.returns-clause-words
returns-clause-words c =
    four_parts c.args.text.now.items c.args.time.now (codes " ") c.args.channel.now (codes " ")
    _ _ _ _ c.add_bytes.ensures.bytes c.add_bytes-2.ensures.bytes c.add_bytes-3.ensures.bytes c.add_bytes-4.ensures.bytes
