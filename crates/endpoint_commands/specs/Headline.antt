-- What holds of an endpoint over a disk that tells its bytes, none of them loose: all of it is said of one run of the
-- machine of its bus
use Rattle.std.specs.Prelude.{◌≡◌, ◌⊎◌, ℕ, ◌<◌, Option, None, Some, List, [], ◌∷◌, ◌++◌, length, map, drop, get_or}
use Rattle.std.specs.List.{flat_map}
use Rattle.std.specs.Option.{option_to_list}
use Rattle.basics.specs.FaultCount.{Rose}
use Rattle.machine_runs.specs.Run.{Run, commands_in, lines_in}
use Rattle.cut_disk.specs.State.{DiskState}
use Rattle.cut_disk.specs.Calls.{IsQuiet}
use Rattle.store_keeping.specs.DiskTurns.{FailuresTold}
use Rattle.freshness_routes.specs.declared.routes.Direction.TheVariants.{Receives}
use Rattle.bus_machine.specs.declared.events.Event.{Event}
use Rattle.bus_machine.specs.declared.events.Event.TheVariants.{Boot}
use Rattle.bus_machine.specs.declared.lines.Line.{Line}
use Rattle.bus_machine.specs.declared.lines.Line.TheVariants.{Accepted}
use Rattle.bus_machine.specs.Node.{place_of}
use Rattle.bus_machine.specs.Bus.{World, SentLine, Instant, Moments, Step, state_after, node_at}
use Rattle.bus_machine.specs.Freshness.{Rising, Single, AllCovered}
use Rattle.bus_machine.specs.Authentic.{Authentic}
use Rattle.bus_machine.specs.KeysKept.{KeysKept}
use Rattle.bus_machine.specs.Honest.{IsInTime, IsHeard}
use Rattle.bus_config.specs.Buses.{NamedBus, IsNamedBus}
use Rattle.bus_script.specs.EventForms.{node_line_at}
use Rattle.secoc_node.specs.State.{NodeState}
use Rattle.bus_world.specs.declared.start.Start.TheVariants.{Attach}
use Rattle.bus_world.specs.Turns.{Brings}
use Rattle.bus_world.specs.Starts.{HasRoom, Opened, StartsOver}
use Rattle.bus_world.specs.NodeDisks.{mark_at, fails_at, DisksFollow}
use Rattle.bus_world.specs.WorldRuns.{IsFirstOf, OneListOfLines}
use Rattle.bus_world.specs.WorldTurns.{TellFirm}
use Rattle.kept_starts.specs.LookedAt.{LookedAt}
use Rattle.endpoint_commands.specs.declared.rules.FrameRule.{FrameRule}
use Rattle.endpoint_commands.specs.Alone.{TurnsAlone}
use Rattle.endpoint_commands.specs.Asking.{asked_of_line, event_asked}
use Rattle.endpoint_commands.specs.Running.{LineMoment, TakesLine}

-- ---- what was done, over a disk of any kind

-- before the log: a boot with the image, if there is one, and what it told
abbrev pub BootsWith : Option (List ℕ) → NodeState → List Line → NodeState → Type 0
BootsWith None start told booted = (told ≡ []) × (booted ≡ start)
BootsWith (Some image) start told booted =
    (line : Line) × (told ≡ line ∷ []) × TurnsAlone start (Boot 0 image) line booted

-- the first disk was looked at, and the node was opened over it, where it stands; it booted, and took these lines; the
-- disk is back in its place
pub record RanEndpoint (bus : NamedBus) (rules : List FrameRule) (image : Option (List ℕ))
    (before after : List DiskState) (told : List Line) (lines : List LineMoment) : Type 0 where
  pub is_bus : IsNamedBus bus
  pub one : length bus.nodes ≡ 1
  pub room : HasRoom bus before
  pub seen : List DiskState
  pub look : LookedAt bus before seen
  pub start : NodeState
  pub booted : NodeState
  pub now : NodeState
  pub opened : (d : DiskState)
      → Opened Attach bus.kind bus.version (node_line_at bus.nodes 0).config (get_or seen 0 d) start
  pub boots : BootsWith image start told booted
  pub run : Run (TakesLine rules) booted lines now
  pub disks : after ≡ now.store.disk ∷ drop 1 before

-- ---- the machine

abbrev pub boot_events : Option (List ℕ) → List Event
boot_events None = []
boot_events (Some image) = Boot 0 image ∷ []

-- the events that lines ask for, in their order
abbrev pub events_asked : List FrameRule → List (List ℕ) → List Event
events_asked rules lines = flat_map (λ bytes. option_to_list (event_asked rules (asked_of_line rules bytes))) lines

-- what was told of them
abbrev pub told_in_lines : List LineMoment → List Line
told_in_lines lines = flat_map (λ m. option_to_list m.line) lines

-- a line, except for the number of the event that sent what was accepted, which an endpoint doesn't print
abbrev pub without_source : Line → Line
without_source (Accepted id v payload source) = Accepted id v payload None
without_source line = line

-- a PDU that comes to the node in time, under the right key, is accepted as it was sent, or the disk failed
abbrev pub EachBroughtIsHeard : World → Moments → Type 0
EachBroughtIsHeard first moments =
    (front rest : Moments) (m : Instant) (s : SentLine) → moments ≡ front ++ m ∷ rest
    → Brings (state_after first front) m.command s
    → IsInTime (node_at (state_after first front) 0) s (place_of (node_at (state_after first front) 0) s.id Receives)
    → IsHeard s m.line

-- the disk of each node serves: its count of faults didn't rise, or it is quiet, so that none of its calls fails
abbrev pub DisksServe : NamedBus → List DiskState → List DiskState → Type 0
DisksServe bus before after = (i : ℕ) (d : DiskState) → i < length bus.nodes
    → (¬ Rose (get_or before i d).faults (get_or after i d).faults) ⊎ IsQuiet (get_or before i d)

-- ---- all of one run

pub record OneEndpointRun (bus : NamedBus) (rules : List FrameRule) (image : Option (List ℕ))
    (before after : List DiskState) (told : List Line) (lines : List LineMoment) : Type 0 where
  pub first : World
  pub moments : Moments
  pub last : World
  -- The node goes on where its disk stands: it is sound, up and at the bounds that it keeps.
  pub goes_on : StartsOver bus before first
  pub begins : IsFirstOf bus first
  -- Each moment is a step of the machine. Their events are the boot, if there is an image, and what the lines ask for;
  -- what the machine tells of them is what was printed.
  pub is_a_run : Run Step first moments last
  pub of_events : commands_in moments ≡ boot_events image ++ events_asked rules (commands_in lines)
  pub of_lines : map without_source (lines_in moments) ≡ map without_source (told ++ told_in_lines lines)
  -- Of one Data ID, accepted freshness strictly rises, and so does sent freshness: none is sent twice.
  pub rising : Rising moments
  pub single : Single moments
  -- What is accepted carries the CMAC of its payload and freshness under the key of the receiver's slot.
  pub authentic : Authentic first moments
  -- An acknowledged update of a key is undone by a later update alone, and no slot's counter falls.
  pub keys_kept : KeysKept first moments
  -- The freshness of these moments is at most its route's kept bound, and at most its counter, at last.
  pub covered : AllCovered moments last
  -- The disk tells bytes that stand for what the node keeps at last, whatever a cut leaves of them.
  pub disks : DisksFollow first bus before after moments last
  -- Lines that tell a failed disk are at most the rise of its count, unless it is full; a quiet disk gives none.
  pub failures : (i : ℕ) (disk : DiskState) → i < length bus.nodes
      → FailuresTold (mark_at i) (fails_at i) moments (get_or before i disk) (get_or after i disk)
  pub heard : EachBroughtIsHeard first moments
  -- If no count of the disk rose, the first world, the image and the lines of the log alone determine what the machine
  -- tells.
  pub one_list : DisksServe bus before after
      → OneListOfLines first (boot_events image ++ events_asked rules (commands_in lines)) (lines_in moments)

-- what was done of an endpoint over disks that tell their bytes, none of them loose, has all of this
abbrev pub EndpointsAreRuns : Type 0
EndpointsAreRuns = (bus : NamedBus) (rules : List FrameRule) (image : Option (List ℕ)) (before after : List DiskState)
    (told : List Line) (lines : List LineMoment) → RanEndpoint bus rules image before after told lines
    → TellFirm bus before → OneEndpointRun bus rules image before after told lines
