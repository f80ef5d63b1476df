use Rattle.key_commands.proofs.Phases.{asked_memory}
use Rattle.key_commands.proofs.work.boot.Goals as goal

pub returns-in-Err : goal.returns-in-Err
returns-in-Err c = asked_memory _ c.no_memory.result c.no_memory.ensures
