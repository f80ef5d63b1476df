use Rattle.watch_commands.proofs.OneWatch.{same_findings}
use Rattle.watch_commands.proofs.laws.one_watch_holds.Goals as goal

pub returns : goal.returns
returns c = λ mapping lines findings findings'. same_findings mapping lines findings findings'
