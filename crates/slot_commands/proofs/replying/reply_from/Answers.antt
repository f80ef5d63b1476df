use Rattle.std.proofs.Common.{◌∙◌}
use Rattle.std.proofs.lemmas.Result.{err_from_is_err_and}
use Rattle.slot_commands.proofs.ReplyLaws.{pair_is, pair_refused, read_refused, has_cell, cell_replied, cell_refused}
use Rattle.slot_commands.proofs.replying.reply_from.Goals as goal

pub returns-then-not-may_authorise-clause-refused : goal.returns-then-not-may_authorise-clause-refused
returns-then-not-may_authorise-clause-refused c = pair_refused _ c.args.asked.now _ _ c.may_authorise.ensures c.if-not-may_authorise.true c.fixed.ensures

pub returns-in_err-store-clause-refused : goal.returns-in_err-store-clause-refused
returns-in_err-store-clause-refused c =
    let p = err_from_is_err_and c.from_residual.result c.from_residual.ensures.1 in
    rw (p.1, p.2)
    (read_refused _ c.args.asked.now _ (pair_is _ _ _ c.may_authorise.ensures c.if-not-may_authorise.false) c.in_err-store.ensures.refused)

pub returns-clause-replied : goal.returns-clause-replied
returns-clause-replied c =
    let pair = pair_is _ _ _ c.may_authorise.ensures c.if-not-may_authorise.false in
    let has = has_cell _ _ _ c.args.asked.now.id _ _ c.in_ok-store.ensures.read (c.from.ensures ∙ c.number.ensures.value) c.get.ensures in
    cell_replied _ c.args.asked.now _ c.reply_of_cell.result pair has c.reply_of_cell.ensures.replied

pub returns-clause-refused : goal.returns-clause-refused
returns-clause-refused c =
    let pair = pair_is _ _ _ c.may_authorise.ensures c.if-not-may_authorise.false in
    let has = has_cell _ _ _ c.args.asked.now.id _ _ c.in_ok-store.ensures.read (c.from.ensures ∙ c.number.ensures.value) c.get.ensures in
    cell_refused _ c.args.asked.now _ c.reply_of_cell.result pair has c.reply_of_cell.ensures.refused
