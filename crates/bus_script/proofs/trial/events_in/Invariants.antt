use Rattle.std.proofs.Common.{◌≡◌}
use Rattle.bus_script.specs.Trials.{keys_of_bus}
use Rattle.bus_script.proofs.TrialLists.{events_and_left}
use Rattle.bus_script.proofs.trial.events_in.Given as goal

-- the events so far, before those that are left, are the whole
abbrev pub invariant-loop-done : goal.invariant-loop-done
invariant-loop-done l = events_and_left l.bus.nodes l.count l.done l.events.items l.draws ≡ events_and_left l.bus.nodes l.count 0 (keys_of_bus l.bus.nodes) l.fn.seed
