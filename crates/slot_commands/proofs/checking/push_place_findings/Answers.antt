use Rattle.slot_commands.proofs.ReadingLaws.{twin_found, rest_is}
use Rattle.slot_commands.proofs.checking.push_place_findings.Goals as goal

pub returns-in-Ok-clause-found : goal.returns-in-Ok-clause-found
returns-in-Ok-clause-found c =
    twin_found _ c.args.bytes.now c.args.found _ _ _ c.in-Twin.is (rest_is c.args.found _ c.args.bytes.now c.base-base.ensures) c.in-Ok.ensures
