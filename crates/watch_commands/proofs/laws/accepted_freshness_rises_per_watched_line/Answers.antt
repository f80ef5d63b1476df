use Rattle.watch_commands.proofs.WatchRising.{all_rise}
use Rattle.watch_commands.proofs.laws.accepted_freshness_rises_per_watched_line.Goals as goal

pub returns : goal.returns
returns c = λ mapping lines findings. all_rise mapping lines findings
