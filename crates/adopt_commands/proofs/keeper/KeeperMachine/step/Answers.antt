use Rattle.std.proofs.Common.{suc, arith}
use Rattle.adopt_commands.proofs.keeper.KeeperMachine.step.Goals as goal

pub take_over-requires : goal.take_over-requires
take_over-requires g c = c.requires.1 0 c.args.command.now (omega arith)

pub returns-clause-ready : goal.returns-clause-ready
returns-clause-ready g c = λ rest ready k d inside. ready (suc k) d (omega (arith, inside))
