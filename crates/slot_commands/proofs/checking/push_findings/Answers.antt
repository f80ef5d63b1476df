use Rattle.slot_commands.proofs.Finds.{found_all}
use Rattle.slot_commands.proofs.checking.push_findings.Goals as goal

pub returns-in-Ok-clause-found : goal.returns-in-Ok-clause-found
returns-in-Ok-clause-found c = found_all _ c.args.bytes.now c.args.found _ _ _ c.in_ok-push_place_findings.ensures.found c.in-Ok.ensures
