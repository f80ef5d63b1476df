use Rattle.std.proofs.lemmas.Result.{on_ok_weaker}
use Rattle.slot_commands.proofs.CellLaws.{finds_bad_slot, finds_bad_bound, finds_none}
use Rattle.slot_commands.proofs.checking.push_by_itself.Goals as goal

pub returns-in-BadSlot : goal.returns-in-BadSlot
returns-in-BadSlot c =
    on_ok_weaker c.push_bad.result (λ d. finds_bad_slot c.args.place c.args.cell.now _ _ c.in-BadSlot.ensures d) c.push_bad.ensures

pub returns-in-BadBound : goal.returns-in-BadBound
returns-in-BadBound c =
    on_ok_weaker c.push_bad-in-BadBound.result (λ d. finds_bad_bound c.args.place c.args.cell.now _ _ c.in-BadBound.ensures d) c.push_bad-in-BadBound.ensures

pub returns-in_default : goal.returns-in_default
returns-in_default c = finds_none _ _ _ c.meaning_of.result c.meaning_of.ensures c.in_default.not-BadSlot c.in_default.not-BadBound
