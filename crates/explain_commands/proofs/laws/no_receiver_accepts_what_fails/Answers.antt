use Rattle.explain_commands.proofs.Accepting.{verdict_rejected}
use Rattle.explain_commands.proofs.laws.no_receiver_accepts_what_fails.Goals as goal

pub returns : goal.returns
returns c = λ r bytes is_window some few enough. verdict_rejected r bytes some few enough is_window
