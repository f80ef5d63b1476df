use Rattle.slot_commands.proofs.ReplyLaws.{slot_replied, slot_refused, bad_refused}
use Rattle.slot_commands.proofs.replying.reply_of_cell.Goals as goal

pub returns-in-Some-clause-replied : goal.returns-in-Some-clause-replied
returns-in-Some-clause-replied c = slot_replied _ _ c.in-Some.slot c.reply_of_slot.result c.in-Some.ensures c.reply_of_slot.ensures.replied

pub returns-in-Some-clause-refused : goal.returns-in-Some-clause-refused
returns-in-Some-clause-refused c = slot_refused _ _ c.in-Some.slot c.reply_of_slot.result c.in-Some.ensures c.reply_of_slot.ensures.refused

pub returns-in-None-clause-refused : goal.returns-in-None-clause-refused
returns-in-None-clause-refused c = bad_refused _ _ _ c.in-None.ensures c.bad_slot.ensures
