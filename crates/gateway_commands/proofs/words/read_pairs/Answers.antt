use Rattle.std.proofs.Common.{arith}
use Rattle.std.specs.Prelude.{string_bytes}
use Rattle.gateway_commands.proofs.Wording.{read_asks, read_none}
use Rattle.gateway_commands.proofs.words.read_pairs.Goals as goal

pub returns-then-not-read_given : goal.returns-then-not-read_given
returns-then-not-read_given c =
    read_none string_bytes c.args.words.now c.read_given.new.room (omega (arith, c.if-words-lt3.false)) c.if-not-read_given.ensures

pub returns : goal.returns
returns c =
    read_asks string_bytes c.args.words.now c.read_given.new.room (omega (arith, c.if-words-lt3.false)) (omega (arith, c.if-words-gt34.false))
    c.read_given.array_long c.if-not-read_given.ensures
