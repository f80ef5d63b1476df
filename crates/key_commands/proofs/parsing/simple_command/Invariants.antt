-- the command so far has the arguments of the names so far
use Rattle.std.proofs.Common.{◌≡◌, map, take}
use Rattle.clap.specs.Words.{app_of}
use Rattle.key_commands.specs.Parsing.{simple_command}
use Rattle.key_commands.proofs.parsing.simple_command.Given as goal

abbrev pub invariant-loop-value : goal.invariant-loop-value
invariant-loop-value l =
    app_of l.command ≡ simple_command l.name (map (λ value. value.now) (take l.value-index l.values))
