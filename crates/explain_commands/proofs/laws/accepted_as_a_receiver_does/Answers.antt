use Rattle.explain_commands.proofs.Accepting.{accepted_verdict}
use Rattle.explain_commands.proofs.laws.accepted_as_a_receiver_does.Goals as goal

pub returns : goal.returns
returns c = accepted_verdict
