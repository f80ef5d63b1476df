use Rattle.key_campaign.proofs.Replies.{ConfirmedByReply-run}
use Rattle.key_campaign.proofs.machine_laws.entries_are_confirmed_by_a_reply.Goals as goal

pub returns : goal.returns
returns c = λ start ms last begins run. ConfirmedByReply-run start ms last begins.sound begins.calm run
