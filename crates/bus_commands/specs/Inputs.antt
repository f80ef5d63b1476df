-- What goes into a command, and what of it is read
use Rattle.std.specs.Prelude.{◌≡◌, ℕ, List, Ok}
use Rattle.program_edge.specs.declared.input.InputFault.{InputFault}
use Rattle.program_edge.specs.Inputs.{Reading, IsUnread, ReadsWhole, Lacks}
use Rattle.bus_config.specs.Buses.{NamedBus}
use Rattle.bus_machine.specs.declared.events.Event.{Event}
use Rattle.bus_script.specs.EventForms.{events_of}
use Rattle.bus_script.specs.Trials.{trial_events}
use Rattle.bus_programs.specs.BusFiles.{ReadsBus, OffersBus}
use Rattle.bus_programs.specs.Inputs.{BusInputs}
use Rattle.bus_commands.specs.declared.trial_words.TrialWords.{TrialWords}
use Rattle.bus_commands.specs.declared.words.Command.{Command}
use Rattle.bus_commands.specs.declared.words.Command.TheVariants.{Lines, World}
use Rattle.bus_commands.specs.declared.words.LineCommand.TheVariants as lines
use Rattle.bus_commands.specs.declared.words.WorldCommand.{WorldCommand}
use Rattle.bus_commands.specs.declared.words.WorldCommand.TheVariants.{Replay, Trial}
use Rattle.bus_world.specs.declared.start.Start.{Start}
use Rattle.bus_world.specs.declared.start.Start.TheVariants.{Format}
use Rattle.bus_commands.specs.Words.{Asks}
use Rattle.bus_commands.specs.Tasks.{Task, frame, judge, check, replay}

-- ---- the bus file

-- the command reads a bus file
abbrev pub NeedsBus : Command → Type 0
NeedsBus (Lines lines.Frame) = ⊥
NeedsBus (Lines lines.Judge) = ⊥
NeedsBus (Lines lines.Check) = Unit {0}
NeedsBus (World command) = Unit {0}

-- the arguments ask for a command that reads one
abbrev pub AsksOverBus : List (List ℕ) → Type 0
AsksOverBus words = (command : Command) × Asks words command × NeedsBus command

-- the arguments ask for a command that reads one, and there is none, for this cause; of the lines nothing was read
abbrev pub NoConfig : BusInputs → InputFault → Type 0
NoConfig i fault = AsksOverBus i.words × Lacks i.config fault × IsUnread i.script

-- ---- the lines

-- the arguments ask for what is done with the lines, whose bus is that of the bus file, which was read whole; if they
-- need none, it is unread
abbrev pub SetsTask : BusInputs → Task → Type 0
SetsTask i frame = Asks i.words (Lines lines.Frame) × IsUnread i.config
SetsTask i judge = Asks i.words (Lines lines.Judge) × IsUnread i.config
SetsTask i (check bus) = Asks i.words (Lines lines.Check) × ReadsBus i.config bus
SetsTask i (replay start bus) = Asks i.words (World (Replay start)) × ReadsBus i.config bus

-- the same, of what the source of the bus file tells
abbrev pub OffersTask : BusInputs → Task → Type 0
OffersTask i frame = Asks i.words (Lines lines.Frame)
OffersTask i judge = Asks i.words (Lines lines.Judge)
OffersTask i (check bus) = Asks i.words (Lines lines.Check) × OffersBus i.config bus
OffersTask i (replay start bus) = Asks i.words (World (Replay start)) × OffersBus i.config bus

-- what is done with the lines was set, and these were read whole; this holds of both
abbrev pub OverLines : BusInputs → (Task → List ℕ → Type 0) → Type 0
OverLines i P = (task : Task) × SetsTask i task × ((input : List ℕ) × ReadsWhole i.script input × P task input)

-- what is done with the lines was set, and there are none, for this cause
abbrev pub NoScript : BusInputs → InputFault → Type 0
NoScript i fault = (task : Task) × SetsTask i task × Lacks i.script fault

-- ---- runs of a bus

-- a replay has the events of its script, which was read whole; a trial those that its seed gives, and of the lines
-- nothing was read
abbrev pub HasEvents : WorldCommand → NamedBus → Reading → List Event → Type 0
HasEvents (Replay start) bus script events =
    (text : List ℕ) × ReadsWhole script text × (events_of bus.nodes text ≡ Ok events)
HasEvents (Trial trial) bus script events = IsUnread script × (events ≡ trial_events bus.nodes trial.count trial.seed)

-- the arguments ask for a run over disks; its bus is that of the bus file, which was read whole, and these are its
-- events
pub record SetsWorld (i : BusInputs) (command : WorldCommand) (bus : NamedBus) (events : List Event) : Type 0 where
  pub asks : Asks i.words (World command)
  pub of_bus : ReadsBus i.config bus
  pub has : HasEvents command bus i.script events

-- the arguments ask for a run over disks
abbrev pub AsksWorld : List (List ℕ) → Type 0
AsksWorld words = (command : WorldCommand) × Asks words (World command)

-- how the run of a command starts: a trial formats its disks
abbrev pub start_of : WorldCommand → Start
start_of (Replay start) = start
start_of (Trial trial) = Format

-- a replay is asked for, with this start, over this bus, and its script has these events
abbrev pub OverReplay : BusInputs → (Start → NamedBus → List Event → Type 0) → Type 0
OverReplay i P =
    (start : Start) × (bus : NamedBus) × (events : List Event) × SetsWorld i (Replay start) bus events
    × P start bus events

-- the same of the replay with this start
abbrev pub OverReplayOf : Start → BusInputs → (NamedBus → List Event → Type 0) → Type 0
OverReplayOf start i P = (bus : NamedBus) × (events : List Event) × SetsWorld i (Replay start) bus events × P bus events

-- a trial is asked for, over this bus, and these are the events that its seed gives
abbrev pub OverTrial : BusInputs → (NamedBus → List Event → Type 0) → Type 0
OverTrial i P =
    (trial : TrialWords) × (bus : NamedBus) × (events : List Event) × SetsWorld i (Trial trial) bus events
    × P bus events

-- a replay or a trial, with its start
abbrev pub OverWorld : BusInputs → (Start → NamedBus → List Event → Type 0) → Type 0
OverWorld i P =
    (command : WorldCommand) × (bus : NamedBus) × (events : List Event) × SetsWorld i command bus events
    × P (start_of command) bus events

-- the arguments ask for a trial over the bus that the source of the bus file tells
abbrev pub OffersTrial : BusInputs → NamedBus → Type 0
OffersTrial i bus = (trial : TrialWords) × Asks i.words (World (Trial trial)) × OffersBus i.config bus
