use Rattle.slot_commands.proofs.ReplyLaws.{empty_refused, filled_replied}
use Rattle.slot_commands.proofs.replying.reply_of_slot.Goals as goal

pub returns-in-Empty-clause-refused : goal.returns-in-Empty-clause-refused
returns-in-Empty-clause-refused c = empty_refused _ _ _ c.in-Empty.is c.fixed.ensures

pub returns-in-Filled-clause-replied : goal.returns-in-Filled-clause-replied
returns-in-Filled-clause-replied c =
    filled_replied c.args.asked.now _ _ _ _ c.confirm_for.result c.reply_text.result c.in-Filled.is c.confirm_for.ensures c.reply_text.ensures.text
