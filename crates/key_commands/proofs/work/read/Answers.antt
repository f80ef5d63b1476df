use Rattle.std.proofs.Common.{rules, refl, inl, inr}
use Rattle.key_commands.proofs.Phases.{asked_denied, asked_memory}
use Rattle.key_commands.proofs.work.read.Goals as goal

pub returns-in-Err : goal.returns-in-Err
returns-in-Err c = asked_memory _ c.no_memory.result c.no_memory.ensures

pub returns-in-Err-BadId : goal.returns-in-Err-BadId
returns-in-Err-BadId c = asked_denied _ _ c.fixed.result c.fixed.ensures (inl (search rules, refl))

pub returns-in-Err-BadMac : goal.returns-in-Err-BadMac
returns-in-Err-BadMac c = asked_denied _ _ c.fixed-in-Err-BadMac.result c.fixed-in-Err-BadMac.ensures (inr (search rules, search rules, refl))
