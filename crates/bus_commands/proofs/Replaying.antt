-- A world that is started, given the events of a script, and finished
use Rattle.std.specs.Prelude.{ℕ, ◌≤◌, List, length, get_or, All}
use Rattle.std.proofs.Common.{sym, subst, arith}
use Rattle.bus_machine.specs.declared.events.Event.{Event}
use Rattle.bus_config.specs.declared.node_lines.NodeLine.{NodeLine}
use Rattle.bus_config.specs.Buses.{NamedBus}
use Rattle.bus_script.specs.ScriptEvents.{IsScriptEvent}
use Rattle.cut_disk.specs.State.{DiskState}
use Rattle.bus_world.specs.Worlds.{BusState, IsEventOf, IsReady}
use Rattle.bus_world.specs.Starts.{Started}
use Rattle.bus_world.specs.declared.start.Start.{Start}
use Rattle.bus_programs.proofs.CallerLemmas.{can_be_done}

-- an event of a script over the nodes of a bus is one of them
pub event_of_nodes : (nodes : List NodeLine) (e : Event) → IsScriptEvent nodes e → IsEventOf (length nodes) e
event_of_nodes nodes e is = record { of_bus = is.node; fields = can_be_done e is.fields }

-- a world that was started may be given the events of a script
pub ready_for : (how : Start) (bus : NamedBus) (events : List Event) (most : ℕ) (before : List DiskState) (world : BusState) → Started how bus most before world → length events ≤ most
    → All (IsScriptEvent bus.nodes) events → IsReady world events
ready_for how bus events most before world started few are = record {
  of_bus = λ k d inside. subst (λ n. IsEventOf n (get_or events k d)) (sym started.nodes.count) (event_of_nodes bus.nodes (get_or events k d) (are k d inside));
  room = omega (arith, started.no_event, started.most_is, few);
}
