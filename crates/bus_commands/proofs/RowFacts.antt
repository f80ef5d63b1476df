-- What each row of the table says of the sources and of the arguments
use Rattle.std.specs.Prelude.{◌≡◌, ◌⊎◌, ℕ, List, None, Some, Result, Err}
use Rattle.std.specs.Result.{result_err}
use Rattle.std.proofs.Common.{arith, refl, sym, ap, subst, inl, inr}
use Rattle.text_lines.specs.Readings.{Fault}
use Rattle.program_edge.specs.Rows.{Row}
use Rattle.program_edge.specs.Inputs.{Reading, Offers}
use Rattle.program_edge.proofs.CallerLemmas.{Offers-whole}
use Rattle.bus_config.specs.declared.fault.ConfigFault.{ConfigFault}
use Rattle.bus_config.specs.BusFile.{bus_of}
use Rattle.bus_config.specs.Buses.{NamedBus}
use Rattle.bus_machine.specs.declared.events.Event.{Event}
use Rattle.bus_world.specs.Starts.{HasRoom}
use Rattle.bus_world.specs.declared.start.Start.{Start}
use Rattle.bus_world.specs.declared.start.Start.TheVariants.{Format}
use Rattle.bus_programs.proofs.CallerLemmas.{ReadsCalmly, calm_unread, calm_whole, RowTells, told_first, told_second, bus_or_fault, offered_no_fault, memory_status, same_bus}
use Rattle.bus_commands.specs.declared.words.Command.TheVariants.{World}
use Rattle.bus_commands.specs.declared.words.WorldCommand.{WorldCommand}
use Rattle.bus_commands.specs.declared.words.WorldCommand.TheVariants.{Replay, Trial}
use Rattle.bus_commands.specs.Words.{AsksNothing}
use Rattle.bus_commands.specs.Tasks.{Task, check, replay}
use Rattle.bus_commands.specs.Texts.{IsOutput, fault_of}
use Rattle.bus_programs.specs.BusFiles.{OffersBus}
use Rattle.bus_programs.specs.Inputs.{BusInputs}
use Rattle.bus_commands.specs.Inputs.{AsksOverBus, SetsTask, OffersTask, OverLines, HasEvents, SetsWorld, start_of, OffersTrial}
use Rattle.bus_world.specs.StartAnswers.{DiskStates, ComesOfStart}
use Rattle.bus_commands.specs.StartRows.{CommandDisks}
use Rattle.bus_commands.specs.Rows.{ComesOfInputs, no_form, no_config, config_refused, no_script, script_refused, done, ComesInRun, without_disks, not_started, tried, tried_without_memory}
use Rattle.bus_commands.proofs.Asking.{apart, needs_bus, command_for, set_asks, offered_asks, no_trial, same_task, replay_task}

-- ---- the sources

calm_set : (i : BusInputs) (task : Task) → SetsTask i task → ReadsCalmly i.config
calm_set i task set = grind (arith, calm_unread, calm_whole)

calm_events : (c : WorldCommand) (bus : NamedBus) (script : Reading) (events : List Event) → HasEvents c bus script events → ReadsCalmly script
calm_events (Replay start) bus script events has = calm_whole script has.0 has.1
calm_events (Trial trial) bus script events has = calm_unread script has.0

pub calm_world : (i : BusInputs) (c : WorldCommand) (bus : NamedBus) (events : List Event) → SetsWorld i c bus events → ReadsCalmly i.config × ReadsCalmly i.script
calm_world i c bus events set = (calm_whole i.config set.of_bus.0 set.of_bus.1, calm_events c bus i.script events set.has)

inputs_tell : (i : BusInputs) (row : Row) → ComesOfInputs i row → RowTells row i.config i.script
inputs_tell i row comes = grind (arith, calm_unread, told_first, calm_whole, told_second, calm_set)

module _ {V : Type 0} where
  pub row_tells : (i : BusInputs) (d : CommandDisks V) (row : Row) → ComesInRun i d row → RowTells row i.config i.script
  row_tells i d row (without_disks _ comes as_before) = inputs_tell i row comes
  row_tells i d row (not_started _ (c, bus, events, set, comes) nine) = inr (inr (calm_world i c bus events set))
  row_tells i d row (tried summary (trial, bus, events, set, ran)) = inr (inr (calm_world i (Trial trial) bus events set))
  row_tells i d row (tried_without_memory summary (trial, bus, events, set, ran)) = inr (inr (calm_world i (Trial trial) bus events set))

-- ---- the words

inputs_ask : (i : BusInputs) (row : Row) → ComesOfInputs i row → AsksNothing i.words → row.status ≡ 2
inputs_ask i row comes nothing = grind (arith, set_asks)

module _ {V : Type 0} where
  -- malformed arguments have their row
  pub row_asks : (i : BusInputs) (d : CommandDisks V) (row : Row) → ComesInRun i d row → AsksNothing i.words → row.status ≡ 2
  row_asks i d row comes nothing = grind (arith, inputs_ask)

-- ---- a bus file that is offered

set_has_bus : (i : BusInputs) (task : Task) (file : List ℕ) (fault : ConfigFault) → SetsTask i task → AsksOverBus i.words → Offers i.config file → bus_of file ≡ Err fault → ⊥
set_has_bus i task file fault set over offers err = grind (arith, needs_bus, bus_or_fault)

inputs_refuse : (i : BusInputs) (row : Row) (file : List ℕ) (fault : ConfigFault) → ComesOfInputs i row → AsksOverBus i.words → Offers i.config file → bus_of file ≡ Err fault
    → (row.status ≡ 3) ⊎ (row.status ≡ 7)
inputs_refuse i row file fault comes over offers err = grind (arith, memory_status, set_has_bus)

module _ {V : Type 0} where
  -- its first fault is printed, or out of memory
  pub row_refuses : (i : BusInputs) (d : CommandDisks V) (row : Row) (file : List ℕ) (fault : ConfigFault) → ComesInRun i d row → AsksOverBus i.words → Offers i.config file
      → bus_of file ≡ Err fault → (row.status ≡ 3) ⊎ (row.status ≡ 7)
  row_refuses i d row file fault comes over offers err = grind (arith, inputs_refuse, bus_or_fault)

-- ---- a task that is offered

offered_bus : (i : BusInputs) (task : Task) → OffersTask i task → AsksOverBus i.words → (bus : NamedBus) × OffersBus i.config bus
offered_bus i (check bus) offers over = (bus, offers.1)
offered_bus i (replay start bus) offers over = (bus, offers.1)
offered_bus i task offers over = absurd (grind (arith, needs_bus))

-- what was read holds of what was offered
of_offered : (i : BusInputs) (P : Task → List ℕ → Type 0) (task : Task) (input : List ℕ) → OffersTask i task → Offers i.script input → OverLines i P → P task input
of_offered i P task input offers lines (set_task, set, (read, whole, holds)) =
    subst (λ (t : Task). P t input) (same_task i set_task task set offers)
    (subst (λ (text : List ℕ). P set_task text) (Offers-whole i.script input read lines whole) holds)

-- the rows that come then: out of memory, the first fault of the lines, what is printed of them, or those of a bus that
-- doesn't start
abbrev pub OfTask : DiskStates → Row → Task → List ℕ → Type 0
OfTask d row task input =
    (row.status ≡ 7)
    ⊎ (((fault : Fault) × (row.status ≡ 4) × (fault_of task input ≡ Some fault))
    ⊎ (((text : List ℕ) × (row.status ≡ 0) × IsOutput task input text)
    ⊎ ((start : Start) × (bus : NamedBus) × (task ≡ replay start bus) × (fault_of task input ≡ None) × ComesOfStart start bus d row)))

inputs_offered : (i : BusInputs) (d : DiskStates) (row : Row) (task : Task) (input : List ℕ) → ComesOfInputs i row → OffersTask i task → Offers i.script input → OfTask d row task input
inputs_offered i d row task input (no_form none config script) offers lines = absurd (none (command_for task) (offered_asks i task offers))
inputs_offered i d row task input (no_config fault (asks, lacks, unread)) offers lines =
    let of_bus = offered_bus i task offers asks in
    inl (memory_status i.config of_bus.1.0 fault of_bus.1.1 lacks)
inputs_offered i d row task input (config_refused fault text asks is told unread) offers lines =
    let of_bus = offered_bus i task offers asks in
    absurd (offered_no_fault i.config of_bus.0 fault of_bus.1 is)
inputs_offered i d row task input (no_script fault (set_task, set, lacks)) offers lines = inl (memory_status i.script input fault lines lacks)
inputs_offered i d row task input (script_refused fault over) offers lines =
    inr (inl (fault, refl, of_offered i (λ task input. fault_of task input ≡ Some fault) task input offers lines over))
inputs_offered i d row task input (done text over) offers lines =
    inr (inr (inl (text, refl, of_offered i (λ task input. IsOutput task input text) task input offers lines over)))

-- a replay that was set is the task that is offered, and its script has no fault
pub replay_offered : (i : BusInputs) (start : Start) (bus : NamedBus) (events : List Event) (task : Task) (input : List ℕ) → SetsWorld i (Replay start) bus events → OffersTask i task → Offers i.script input
    → (task ≡ replay start bus) × (fault_of task input ≡ None)
replay_offered i start bus events task input set offers lines =
    let one : replay start bus ≡ task = same_task i (replay start bus) task (replay_task i start bus events set) offers in
    let read : set.has.0 ≡ input = Offers-whole i.script input set.has.0 lines set.has.1 in
    let none : fault_of (replay start bus) set.has.0 ≡ None = ap (λ (r : Result (List Event) Fault). result_err r) set.has.2 in
    (sym one, subst (λ (t : Task). fault_of t input ≡ None) one (subst (λ (l : List ℕ). fault_of (replay start bus) l ≡ None) read none))

start_offered : (i : BusInputs) (d : DiskStates) (row : Row) (task : Task) (input : List ℕ) (c : WorldCommand) (bus : NamedBus) (events : List Event) → SetsWorld i c bus events
    → ComesOfStart (start_of c) bus d row → OffersTask i task → Offers i.script input → OfTask d row task input
start_offered i d row task input (Replay start) bus events set comes offers lines =
    let one = replay_offered i start bus events task input set offers lines in
    inr (inr (inr (start, bus, one.0, one.1, comes)))
start_offered i d row task input (Trial trial) bus events set comes offers lines = no_trial i.words task trial (offered_asks i task offers) set.asks

module _ {V : Type 0} where
  pub row_offered : (i : BusInputs) (d : CommandDisks V) (row : Row) (task : Task) (input : List ℕ) → ComesInRun i d row → OffersTask i task → Offers i.script input → OfTask d.states row task input
  row_offered i d row task input (without_disks _ comes as_before) offers lines = inputs_offered i d.states row task input comes offers lines
  row_offered i d row task input (not_started _ (c, bus, events, set, comes) nine) offers lines = start_offered i d.states row task input c bus events set comes.1 offers lines
  row_offered i d row task input (tried summary (trial, bus, events, set, ran)) offers lines = no_trial i.words task trial (offered_asks i task offers) set.asks
  row_offered i d row task input (tried_without_memory summary (trial, bus, events, set, ran)) offers lines =
      no_trial i.words task trial (offered_asks i task offers) set.asks

-- ---- a trial that is offered

-- the rows that come then: out of memory, those of a bus that doesn't start, or the summary
abbrev pub OfTrial : DiskStates → Row → NamedBus → Type 0
OfTrial d row bus = (row.status ≡ 7) ⊎ (ComesOfStart Format bus d row ⊎ ((row.status ≡ 0) × HasRoom bus d.before))

inputs_tried : (i : BusInputs) (d : DiskStates) (row : Row) (bus : NamedBus) → ComesOfInputs i row → OffersTrial i bus → OfTrial d row bus
inputs_tried i d row bus comes offers = grind (arith, memory_status, offered_no_fault, no_trial, set_asks)

-- a trial formats its disks, and words that ask for one ask for no replay
start_tried : (i : BusInputs) (d : DiskStates) (row : Row) (c : WorldCommand) (over bus : NamedBus) (events : List Event) → SetsWorld i c over events → ComesOfStart (start_of c) over d row
    → OffersTrial i bus → OfTrial d row bus
start_tried i d row (Replay start) over bus events set comes (trial, asks, of_bus) = apart i.words (World (Replay start)) (World (Trial trial)) set.asks asks (λ e. cc)
start_tried i d row (Trial drawn) over bus events set comes offers =
    inr (inl (subst (λ (b : NamedBus). ComesOfStart Format b d row) (same_bus i.config over bus set.of_bus offers.2) comes))

module _ {V : Type 0} where
  pub row_tried : (i : BusInputs) (d : CommandDisks V) (row : Row) (bus : NamedBus) → ComesInRun i d row → OffersTrial i bus → OfTrial d.states row bus
  row_tried i d row bus comes offers = grind (arith, inputs_tried, start_tried, same_bus)
