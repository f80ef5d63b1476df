use Rattle.slot_commands.proofs.ReadingLaws.{log_found, damage_pushed, damage_refused}
use Rattle.slot_commands.proofs.checking.push_log_findings.Goals as goal

pub returns-in-Ok-push_bad_cells-clause-found : goal.returns-in-Ok-push_bad_cells-clause-found
returns-in-Ok-push_bad_cells-clause-found c = log_found _ _ c.args.found _ _ _ _ c.requires.log c.requires.found c.in-Ok.ensures.attached c.in-Ok-push_bad_cells.ensures

pub returns-clause-found : goal.returns-clause-found
returns-clause-found c =
    damage_pushed _ c.args.found _ _ c.requires.found _ _ _ c.in-Err.refused.fault _ _ c.push_damaged.result c.requires.log c.in-Err.ensures.refused c.push_damaged.ensures

pub returns-clause-refused : goal.returns-clause-refused
returns-clause-refused c =
    damage_refused _ c.args.found _ _ c.requires.found _ _ c.in-Err.refused.fault _ _ c.push_damaged.result c.in-Err.ensures.refused c.push_damaged.ensures
