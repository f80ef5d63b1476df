-- The events of a trial are a script.
use Rattle.std.proofs.Common.{ℕ, ◌≤◌, length, arith}
use Rattle.text_lines.specs.Readings.{most_lines}
use Rattle.bus_config.specs.Buses.{NamedBus, IsNamedBus}
use Rattle.bus_script.specs.Trials.{trial_events}
use Rattle.bus_script.specs.TrialLaws.{TrialsAreScripts}
use Rattle.bus_script.proofs.EventsRead.{events_read}
use Rattle.bus_script.proofs.TrialValues.{trial_events-value, length-trial_events}

pub trial_few : (bus : NamedBus) (count seed : ℕ) → IsNamedBus bus → count ≤ 60000 → length (trial_events bus.nodes count seed) ≤ most_lines
trial_few bus count seed is few =
    let most = is.most in
    omega (arith, length-trial_events bus.nodes count seed)

pub trials_are_scripts : TrialsAreScripts
trials_are_scripts bus count seed is few =
    let are = trial_events-value bus count seed is few in
    let short = trial_few bus count seed is few in
    record {
      are_events = are;
      few = short;
      read = events_read bus is (trial_events bus.nodes count seed) are short;
    }
