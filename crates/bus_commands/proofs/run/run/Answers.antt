use Rattle.std.proofs.Common.{map}
use Rattle.std.specs.Prelude.{string_bytes}
use Rattle.bus_commands.proofs.run.run.Goals as goal

pub returns-clause-promises : goal.returns-clause-promises
returns-clause-promises g c = (c.run_asked.ensures (map string_bytes c.args.words.now) c.command_line.ensures.asks).0

pub returns-clause-headline : goal.returns-clause-headline
returns-clause-headline g c = (c.run_asked.ensures (map string_bytes c.args.words.now) c.command_line.ensures.asks).1
