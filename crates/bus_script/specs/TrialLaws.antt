-- What holds of every trial.
use Rattle.std.specs.Prelude.{◌≡◌, ℕ, ◌%◌, ◌≤◌, List, length, flat_map, All, Ok}
use Rattle.cut_disk.specs.declared.Torn.TheVariants.{Keep}
use Rattle.text_lines.specs.Readings.{most_lines}
use Rattle.bus_config.specs.declared.node_lines.NodeLine.{NodeLine}
use Rattle.bus_config.specs.Buses.{NamedBus, IsNamedBus}
use Rattle.bus_machine.specs.declared.events.Event.{Event}
use Rattle.bus_machine.specs.declared.events.Event.TheVariants.{Cut}
use Rattle.bus_script.specs.declared.trial.Theme.TheVariants.{Disk}
use Rattle.bus_script.specs.EventForms.{events_of}
use Rattle.bus_script.specs.Canon.{canon}
use Rattle.bus_script.specs.ScriptEvents.{IsScriptEvent}
use Rattle.bus_script.specs.Draws.{after_draws, draw}
use Rattle.bus_script.specs.Trials.{theme_of, disk_drawn, trial_events}

-- what the seed 0 gives first, for a bus of two nodes
pub record WorkedEvent : Type 0 where
  pub theme : theme_of (draw 0 0 % 16) ≡ Disk
  pub event : (disk_drawn 2 (after_draws 0 1)).event ≡ Cut 1 Keep

-- events that a script can have, no more than it can have, and it gives them if it has their canonical lines
pub record AreScript (nodes : List NodeLine) (events : List Event) : Type 0 where
  pub are_events : All (IsScriptEvent nodes) events
  pub few : length events ≤ most_lines
  pub read : events_of nodes (flat_map (canon nodes) events) ≡ Ok events

abbrev pub TrialsAreScripts : Type 0
TrialsAreScripts = (bus : NamedBus) (count seed : ℕ) → IsNamedBus bus → count ≤ 60000
    → AreScript bus.nodes (trial_events bus.nodes count seed)
