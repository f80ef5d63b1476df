use Rattle.std.proofs.lemmas.Result.{on_ok_weaker}
use Rattle.slot_commands.proofs.CellLaws.{finds_not_its, finds_its}
use Rattle.slot_commands.proofs.over_routes.push_if_not_its.Goals as goal

pub returns-in-Some : goal.returns-in-Some
returns-in-Some c = finds_its _ c.args.route.now _ _ _ _ c.requires.from c.requires.route c.in-Some.ensures

pub returns-in-None : goal.returns-in-None
returns-in-None c =
    on_ok_weaker c.push_not_its_bound.result
    (λ d. finds_not_its _ c.args.route.now _ _ _ _ c.requires.from c.requires.route c.in-None.ensures d) c.push_not_its_bound.ensures
