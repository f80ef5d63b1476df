use Rattle.std.proofs.Common.{◌≡◌, ◌+◌, take, drop}
use Rattle.run_driver.proofs.DrivenLoop.{DoneSoFar}
use Rattle.run_driver.proofs.machine.drive.Given as goal

abbrev pub invariant-loop-command : goal.invariant-loop-command
invariant-loop-command g l = record {
  number : l.number ≡ l.command-index;
  machine_ready : g.M.Machine.ready l.machine (drop l.command-index l.commands);
  consumer_ready : g.T.Consumer.ready l.consumer (l.number + 1);
  machine_borrows : g.M.Machine.borrows l.machine ≡ g.M.Machine.borrows l.fn.machine;
  consumer_borrows : g.T.Consumer.borrows l.consumer ≡ g.T.Consumer.borrows l.fn.consumer;
  done : DoneSoFar g.M.Machine.steps g.T.Consumer.takes (g.M.Machine.state l.fn.machine) (g.M.Machine.state l.machine) (g.T.Consumer.state l.fn.consumer) (g.T.Consumer.state l.consumer) (take l.command-index l.commands);
}
