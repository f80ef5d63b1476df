use Rattle.std.proofs.Common.{rules, refl}
use Rattle.memory_update.specs.Messages.{Confirms}
use Rattle.key_commands.proofs.Phases.{asked_denied, asked_memory}
use Rattle.key_commands.proofs.work.confirm.Goals as goal

pub returns-then-not-is_confirmed : goal.returns-then-not-is_confirmed
returns-then-not-is_confirmed c =
    let no : ¬ Confirms c.args.reply.now c.args.update.now c.args.update.now.uid = search rules in
    asked_denied _ _ c.fixed.result c.fixed.ensures (no, refl)

pub returns-in-Err : goal.returns-in-Err
returns-in-Err c = asked_memory _ c.no_memory.result c.no_memory.ensures
