-- What holds of a gateway's disks, and of a gateway over a disk that tells its bytes: this is said of one run of its
-- machine
use Rattle.std.specs.Prelude.{◌≡◌, ℕ, Some, List, length, take, drop, get_or, Result}
use Rattle.bus_port.specs.Sink.{SinkState}
use Rattle.cut_disk.specs.State.{DiskState, Told, Entry}
use Rattle.cut_disk.specs.Calls.{Later}
use Rattle.cell_store.specs.Layout.{layout}
use Rattle.machine_runs.specs.Run.{Moment, commands_in, seen_as}
use Rattle.run_driver.specs.declared.printing.Unwritten.{Unwritten}
use Rattle.run_driver.specs.Printed.{Written}
use Rattle.store_keeping.specs.DiskTurns.{TracedSince, FailuresTold}
use Rattle.freshness_routes.specs.declared.routes.Direction.TheVariants.{Sends, Receives}
use Rattle.bus_machine.specs.declared.events.Event.{Event}
use Rattle.bus_machine.specs.Node.{Node}
use Rattle.bus_machine.specs.Past.{mark_of}
use Rattle.bus_config.specs.Buses.{NamedBus}
use Rattle.secoc_node.specs.Fits.{FitsNode}
use Rattle.secoc_gateway.specs.declared.gateway_lines.GatewayLine.{GatewayLine}
use Rattle.secoc_gateway.specs.Gateway.{GatewayMoments, GatewayRun}
use Rattle.secoc_gateway.specs.State.{GatewayState}
use Rattle.secoc_gateway.specs.Claims.{AllForwardRight, FreshnessRises}
use Rattle.secoc_gateway.specs.Turns.{most_gateway_calls, tells_gateway_failure}
use Rattle.gateway_commands.specs.Texts.{gateway_text}
use Rattle.gateway_commands.specs.Inputs.{gate_node}
use Rattle.gateway_commands.specs.Runs.{RanGateway}

-- ---- over disks of any kind

-- what was done to a gateway over its store, as moments of the gateway's machine
abbrev pub gateway_seen : List (Moment Event GatewayLine GatewayState) → GatewayMoments
gateway_seen moments = seen_as (λ (e : Event). e) (λ (g : GatewayState). g.node) moments

-- the lines that tell that the disk failed are at most the rise of its count, or that stands at its last value. A disk
-- that was quiet at the call gives none before the first event that stops it or lets it fail, and stays as quiet if
-- none does
abbrev pub FailuresAreCounted : List DiskState → List DiskState → GatewayMoments → Type 0
FailuresAreCounted before after moments =
    (d : DiskState)
    → FailuresTold mark_of (λ event line. tells_gateway_failure line) moments (get_or before 0 d) (get_or after 0 d)

-- the first disk, whether it tells its bytes or not: its count isn't below, what it told of its past it still tells,
-- and lines tell its failures. The others are as before, and none is lost
pub record GatewayDisksStay (before after : List DiskState) (moments : GatewayMoments) : Type 0 where
  pub later : (d : DiskState) → Later (get_or before 0 d) (get_or after 0 d)
  pub failures : FailuresAreCounted before after moments
  pub count : length after ≡ length before
  pub rest : drop 1 after ≡ drop 1 before

-- ---- over a disk that tells its bytes

-- the first disk tells its bytes
abbrev pub TellsFirst : List DiskState → Type 0
TellsFirst disks = (d : DiskState) → (told : Told) × ((get_or disks 0 d).told ≡ Some told)

-- the disk handed back fits the last node, and the others are as before. If it tells its past, what was added is
-- traced: without a mark until the first event, then each event's. A PDU injected under a pair's first Data ID has at
-- most 12 entries. A cut has 68 and the number of cells, and another event 6
pub record DiskFollows (bus : NamedBus) (pairs : List (ℕ × ℕ)) (before after : List DiskState)
    (moments : GatewayMoments)
    (last : Node) : Type 0 where
  pub fit : (d : DiskState)
      → (told : Told) × ((get_or after 0 d).told ≡ Some told) × FitsNode (layout bus.kind bus.version) last told
  pub count : length after ≡ length before
  pub rest : drop 1 after ≡ drop 1 before
  pub traced : (d : DiskState) (all : List Entry) → (get_or after 0 d).past ≡ Some all
      → TracedSince mark_of (most_gateway_calls pairs) (FitsNode (layout bus.kind bus.version)) (gate_node bus) moments
      (get_or before 0 d) all

pub record OneGatewayRun (bus : NamedBus) (pairs : List (ℕ × ℕ)) (before after : List DiskState) (events : List Event)
    (sink_before sink_after : SinkState) (result : Result (Unit {0}) Unwritten) : Type 0 where
  pub moments : GatewayMoments
  pub last : Node
  -- the lines are those of a run of the machine over the first events, from the first node of the bus
  pub is_a_run : GatewayRun pairs (gate_node bus) moments last
  pub first : commands_in moments ≡ take (length moments) events
  pub written : Written gateway_text sink_before sink_after events result moments
  -- what was forwarded is what this very event brought, each under the key of its Data ID's route just then
  pub forwards_what_arrived : AllForwardRight pairs (gate_node bus) moments
  -- the freshness of what arrives under one Data ID rises, and that of what departs, across cuts
  pub arrivals_rise : FreshnessRises Receives moments
  pub departures_rise : FreshnessRises Sends moments
  pub disks : DiskFollows bus pairs before after moments last
  pub failures : FailuresAreCounted before after moments

-- what was done of a gateway over a disk that tells its bytes has all of this
abbrev pub GatewaysAreRuns : Type 0
GatewaysAreRuns = (bus : NamedBus) (pairs : List (ℕ × ℕ)) (before after : List DiskState) (events : List Event)
    (sink_before sink_after : SinkState) (result : Result (Unit {0}) Unwritten)
    → RanGateway bus pairs before after events sink_before sink_after result → TellsFirst before
    → OneGatewayRun bus pairs before after events sink_before sink_after result
