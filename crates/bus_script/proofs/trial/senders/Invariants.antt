use Rattle.std.proofs.Common.{◌≡◌, ◌++◌, drop}
use Rattle.bus_script.specs.Trials.{senders}
use Rattle.bus_script.proofs.trial.senders.Given as goal

abbrev pub invariant-loop-place : goal.invariant-loop-place
invariant-loop-place l = l.senders.items ++ senders l.place (drop l.place l.nodes) ≡ senders 0 l.nodes
