-- What a command promises that ends in a row of the table, or did the first events of a replay
use Rattle.std.specs.Prelude.{◌≡◌, ◌≢◌, ◌⊎◌, ℕ, ◌<◌, List, [], length, get_or, None, Some, Option, Result, Ok, Err, codes}
use Rattle.std.proofs.Common.{refl, sym, subst, arith, inl, inr}
use Rattle.program_edge.specs.declared.input.InputFault.TheVariants as input
use Rattle.text_lines.specs.Readings.{Fault}
use Rattle.text_lines.specs.Texts.{fault_text_of}
use Rattle.program_edge.specs.Rows.{Row, memory_row}
use Rattle.program_edge.specs.Inputs.{IsUnread, CountsFault, CountsTooMuch, Offers}
use Rattle.program_edge.specs.Endings.{Ending, EndsInRow, PrintsWhole, SinkFailed, CountsWriteFault}
use Rattle.program_edge.proofs.CallerLemmas.{EndsInRow-at, EndsInRow-front, EndsInRow-rose, EndsInRow-only, EndsInRow-may, EndsInRow-done}
use Rattle.run_driver.specs.declared.printing.Unwritten.{Unwritten}
use Rattle.run_driver.specs.declared.printing.Unwritten.TheVariants as unwritten
use Rattle.bus_config.specs.declared.fault.ConfigFault.{ConfigFault}
use Rattle.bus_config.specs.FaultTexts.{config_fault_text}
use Rattle.cell_store.specs.declared.kinds.Kind.TheVariants.{Twin}
use Rattle.cell_store.specs.declared.kinds.Version.TheVariants.{One}
use Rattle.bus_config.specs.Buses.{NamedBus, IsNamedBus}
use Rattle.bus_world.specs.declared.start.Start.{Start}
use Rattle.bus_world.specs.declared.start.Start.TheVariants.{Format, Attach}
use Rattle.bus_world.specs.Starts.{HasRoom, FindsRoom, Started}
use Rattle.bus_world.specs.declared.start.StartFault.{StartFault}
use Rattle.bus_programs.proofs.CallerLemmas.{told_fault, told_too_much, bus_or_fault}
use Rattle.bus_commands.specs.declared.words.Command.TheVariants.{World}
use Rattle.bus_commands.specs.declared.words.WorldCommand.TheVariants.{Replay, Trial}
use Rattle.bus_commands.specs.Words.{AsksNothing}
use Rattle.bus_commands.specs.Tasks.{Task, check, replay}
use Rattle.bus_commands.specs.Texts.{usage, IsOutput, fault_of}
use Rattle.bus_programs.specs.BusFiles.{IsConfigFault}
use Rattle.bus_programs.specs.Inputs.{BusInputs}
use Rattle.bus_commands.specs.Inputs.{AsksOverBus, AsksWorld, NoConfig, NoScript, OverLines, OverWorld, OffersTask, OffersTrial, start_of}
use Rattle.run_driver.specs.Statuses.{unwritten_status}
use Rattle.bus_world.specs.StartRows.{start_row, StoreCause, LeavesEach}
use Rattle.bus_world.specs.StartAnswers.{ComesOfStart, store_refused, BusHasDisks}
use Rattle.bus_commands.specs.StartRows.{CommandDisks, HoldsNoNode}
use Rattle.bus_commands.specs.Rows.{ReplaysScript, ComesOfInputs, config_refused, ComesInRun, without_disks, not_started, tried, tried_without_memory, RowOrReplay, in_row, replayed}
use Rattle.bus_commands.specs.Table.{by_replay, TaskHasDisks, RunsCommand}
use Rattle.bus_commands.proofs.Asking.{apart}
use Rattle.bus_commands.proofs.Unread.{row_config_unread, row_lines_unread, AskedIsDone, answers_done}
use Rattle.bus_commands.proofs.Statuses.{ends_in_table, replayed_in_table, row_leaves}
use Rattle.bus_commands.proofs.RowFacts.{row_tells, row_asks, row_refuses, OfTask, row_offered, replay_offered, OfTrial, row_tried, calm_world}
use Rattle.bus_world.proofs.CallerLemmas.{start_without_room, start_complete, no_node, no_disk, no_line}
use Rattle.bus_commands.proofs.Refusing.{start_in_room}
use Rattle.bus_commands.proofs.Failing.{ends_failed}
use Rattle.bus_world.specs.Worlds.{BusState}
use Rattle.cut_disk.specs.State.{DiskState}

None_not_Some : (o : Option Fault) (fault : Fault) → o ≡ None → o ≡ Some fault → ⊥
None_not_Some o fault none some = cc

-- an input that something is printed of has no fault
prints_no_fault : (task : Task) (input text : List ℕ) → IsOutput task input text → fault_of task input ≡ None
prints_no_fault task input text prints = grind arith

abbrev no_bus : NamedBus
no_bus = record { nodes = []; kind = Twin; version = One }

-- the bus of a task that has one
abbrev bus_in_task : Task → NamedBus
bus_in_task (check bus) = bus
bus_in_task (replay start bus) = bus
bus_in_task task = no_bus

-- the start of a task that has one
abbrev start_in_task : Task → Start
start_in_task (replay start bus) = start
start_in_task task = Format

-- ---- if it ended in a row

abbrev LowStatus : ℕ → Type 0
LowStatus n = (n ≡ 2) ⊎ ((n ≡ 3) ⊎ ((n ≡ 4) ⊎ ((n ≡ 5) ⊎ ((n ≡ 8) ⊎ (n ≡ 9)))))

not_low : (n : ℕ) → LowStatus n → (n ≡ 0) ⊎ ((n ≡ 6) ⊎ (n ≡ 7)) → ⊥
not_low n low high = omega (arith, low, high)

-- the status of a bus that doesn't start
start_status : {V : Type 0} (i : BusInputs) (d : CommandDisks V) (e : Ending) (start : Start) (bus : NamedBus) (row : Row) → ComesOfStart start bus d.states row → (row.status ≡ 0) ⊎ ((row.status ≡ 6) ⊎ ((row.status ≡ 7) ⊎ ((row.status ≡ 9) ⊎ (row.status ≡ 10))))
start_status i d e start bus row comes = grind arith

row_disks : {V : Type 0} (i : BusInputs) (d : CommandDisks V) (e : Ending) (row : Row) → ComesInRun i d row → ¬ AsksWorld i.words → d.new ≡ d.old
row_disks i d e row comes lacks = grind arith

row_unused : {V : Type 0} (i : BusInputs) (d : CommandDisks V) (e : Ending) (row : Row) → ComesInRun i d row → LowStatus row.status → d.new ≡ d.old
row_unused i d e row comes low = grind (arith, start_status, not_low)

unused : {V : Type 0} (i : BusInputs) (d : CommandDisks V) (e : Ending) → EndsInRow (ComesInRun i d) e → LowStatus e.status → d.new ≡ d.old
unused i d e ends low = grind (arith, row_unused, not_low)

-- the rows of each status

inputs_0 : {V : Type 0} (i : BusInputs) (d : CommandDisks V) (e : Ending) (row : Row) → ComesOfInputs i row → row.status ≡ 0 → PrintsWhole e row.text
    → AskedIsDone i d.states e
inputs_0 i d e row comes is well = grind (arith, answers_done)

inputs_2 : {V : Type 0} (i : BusInputs) (d : CommandDisks V) (e : Ending) (row : Row) → ComesOfInputs i row → row.status ≡ 2 → PrintsWhole e row.text
    → AsksNothing i.words × IsUnread i.config × IsUnread i.script × PrintsWhole e usage
inputs_2 i d e row comes is well = grind arith

inputs_3 : {V : Type 0} (i : BusInputs) (d : CommandDisks V) (e : Ending) (row : Row) → ComesOfInputs i row → row.status ≡ 3 → PrintsWhole e row.text
    → AsksOverBus i.words × IsUnread i.script × ((fault : ConfigFault) × IsConfigFault i.config fault × (text : List ℕ) × (config_fault_text fault ≡ Some text) × PrintsWhole e text)
inputs_3 i d e row (config_refused fault text asks of told unread) is well = (asks, unread, (fault, of, text, told, well))
inputs_3 i d e row comes is well = absurd (grind arith)

inputs_4 : {V : Type 0} (i : BusInputs) (d : CommandDisks V) (e : Ending) (row : Row) → ComesOfInputs i row → row.status ≡ 4 → PrintsWhole e row.text
    → OverLines i (λ task input. (fault : Fault) × (fault_of task input ≡ Some fault) × PrintsWhole e (fault_text_of fault))
inputs_4 i d e row comes is well = grind arith

inputs_5 : {V : Type 0} (i : BusInputs) (d : CommandDisks V) (e : Ending) (row : Row) → ComesOfInputs i row → row.status ≡ 5 → PrintsWhole e row.text
    → (NoConfig i input.ReadFault ⊎ NoScript i input.ReadFault) × PrintsWhole e (codes "read fault\n")
inputs_5 i d e row comes is well = grind arith

inputs_8 : {V : Type 0} (i : BusInputs) (d : CommandDisks V) (e : Ending) (row : Row) → ComesOfInputs i row → row.status ≡ 8 → PrintsWhole e row.text
    → (NoConfig i input.TooLong ⊎ NoScript i input.TooLong) × PrintsWhole e (codes "input too long\n")
inputs_8 i d e row comes is well = grind arith

inputs_7 : {V : Type 0} (i : BusInputs) (d : CommandDisks V) (e : Ending) (row : Row) → ComesOfInputs i row → row.status ≡ 7 → PrintsWhole e row.text → ComesOfInputs i memory_row × PrintsWhole e []
inputs_7 i d e row comes is well = grind arith

inputs_not : {V : Type 0} (i : BusInputs) (d : CommandDisks V) (e : Ending) (row : Row) → ComesOfInputs i row → (row.status < 9) × (row.status ≢ 6)
inputs_not i d e row comes = grind arith

row_2 : {V : Type 0} (i : BusInputs) (d : CommandDisks V) (e : Ending) (row : Row) → ComesInRun i d row → row.status ≡ 2 → PrintsWhole e row.text
    → AsksNothing i.words × IsUnread i.config × IsUnread i.script × PrintsWhole e usage
row_2 i d e row comes is well = grind (arith, inputs_2, start_status)

row_3 : {V : Type 0} (i : BusInputs) (d : CommandDisks V) (e : Ending) (row : Row) → ComesInRun i d row → row.status ≡ 3 → PrintsWhole e row.text
    → AsksOverBus i.words × IsUnread i.script × ((fault : ConfigFault) × IsConfigFault i.config fault × (text : List ℕ) × (config_fault_text fault ≡ Some text) × PrintsWhole e text)
row_3 i d e row (without_disks _ comes same) is well = inputs_3 i d e row comes is well
row_3 i d e row (not_started _ (c, bus, events, set, comes) nine) is well = absurd (let no : ⊥ = omega (arith, start_status i d e (start_of c) bus row comes.1, is) in no)
row_3 i d e row (tried summary ran) is well = absurd (let no : ⊥ = omega (arith, is) in no)
row_3 i d e row (tried_without_memory summary ran) is well = absurd (let no : ⊥ = omega (arith, is) in no)

row_4 : {V : Type 0} (i : BusInputs) (d : CommandDisks V) (e : Ending) (row : Row) → ComesInRun i d row → row.status ≡ 4 → PrintsWhole e row.text
    → OverLines i (λ task input. (fault : Fault) × (fault_of task input ≡ Some fault) × PrintsWhole e (fault_text_of fault))
row_4 i d e row comes is well = grind (arith, inputs_4, start_status)

row_5 : {V : Type 0} (i : BusInputs) (d : CommandDisks V) (e : Ending) (row : Row) → ComesInRun i d row → row.status ≡ 5 → PrintsWhole e row.text
    → (NoConfig i input.ReadFault ⊎ NoScript i input.ReadFault) × PrintsWhole e (codes "read fault\n")
row_5 i d e row (without_disks _ comes same) is well = inputs_5 i d e row comes is well
row_5 i d e row (not_started _ (c, bus, events, set, comes) nine) is well = absurd (let no : ⊥ = omega (arith, start_status i d e (start_of c) bus row comes.1, is) in no)
row_5 i d e row (tried summary ran) is well = absurd (let no : ⊥ = omega (arith, is) in no)
row_5 i d e row (tried_without_memory summary ran) is well = absurd (let no : ⊥ = omega (arith, is) in no)

row_8 : {V : Type 0} (i : BusInputs) (d : CommandDisks V) (e : Ending) (row : Row) → ComesInRun i d row → row.status ≡ 8 → PrintsWhole e row.text
    → (NoConfig i input.TooLong ⊎ NoScript i input.TooLong) × PrintsWhole e (codes "input too long\n")
row_8 i d e row (without_disks _ comes same) is well = inputs_8 i d e row comes is well
row_8 i d e row (not_started _ (c, bus, events, set, comes) nine) is well = absurd (let no : ⊥ = omega (arith, start_status i d e (start_of c) bus row comes.1, is) in no)
row_8 i d e row (tried summary ran) is well = absurd (let no : ⊥ = omega (arith, is) in no)
row_8 i d e row (tried_without_memory summary ran) is well = absurd (let no : ⊥ = omega (arith, is) in no)

-- a bus that doesn't start

start_not_0 : {V : Type 0} (i : BusInputs) (d : CommandDisks V) (e : Ending) (start : Start) (bus : NamedBus) (row : Row) → ComesOfStart start bus d.states row → row.status ≡ 0 → ⊥
start_not_0 i d e start bus row comes is = grind arith

start_not_6 : {V : Type 0} (i : BusInputs) (d : CommandDisks V) (e : Ending) (start : Start) (bus : NamedBus) (row : Row) → ComesOfStart start bus d.states row → row.status ≢ 6
start_not_6 i d e start bus row comes is = grind arith

start_9 : {V : Type 0} (i : BusInputs) (d : CommandDisks V) (e : Ending) (start : Start) (bus : NamedBus) (row : Row) → ComesOfStart start bus d.states row → row.status ≡ 9 → PrintsWhole e row.text
    → (d.states.after ≡ d.states.before) × ((fault : StartFault) × FindsRoom bus d.states.before fault × PrintsWhole e (start_row fault).text)
start_9 i d e start bus row comes is well = grind arith

start_10 : {V : Type 0} (i : BusInputs) (d : CommandDisks V) (e : Ending) (start : Start) (bus : NamedBus) (row : Row) → ComesOfStart start bus d.states row → row.status ≡ 10 → PrintsWhole e row.text
    → HasRoom bus d.states.before × LeavesEach start bus d.states.before d.states.after
    × ((fault : StartFault) × StoreCause start bus d.states.before d.states.after fault × PrintsWhole e (start_row fault).text)
start_10 i d e start bus row (store_refused fault room cause left) is well = (room, left, (fault, cause, well))
start_10 i d e start bus row comes is well = absurd (omega arith)

start_7 : {V : Type 0} (i : BusInputs) (d : CommandDisks V) (e : Ending) (start : Start) (bus : NamedBus) (row : Row) → ComesOfStart start bus d.states row → row.status ≡ 7 → PrintsWhole e row.text → ComesOfStart start bus d.states memory_row × PrintsWhole e []
start_7 i d e start bus row comes is well = grind arith

row_0 : {V : Type 0} (i : BusInputs) (d : CommandDisks V) (e : Ending) (row : Row) → ComesInRun i d row → row.status ≡ 0 → PrintsWhole e row.text
    → AskedIsDone i d.states e
row_0 i d e row (without_disks _ comes same) is well = inputs_0 i d e row comes is well
row_0 i d e row (not_started _ (c, bus, events, set, comes) nine) is well = absurd (start_not_0 i d e (start_of c) bus row comes.1 is)
row_0 i d e row (tried summary (trial, bus, events, set, ran)) is well = (World (Trial trial), set.asks, (summary, (trial, bus, events, set, ran), well))
row_0 i d e row (tried_without_memory summary ran) is well = absurd (let no : ⊥ = omega (arith, is) in no)

row_7 : {V : Type 0} (i : BusInputs) (d : CommandDisks V) (e : Ending) (row : Row) → ComesInRun i d row → row.status ≡ 7 → PrintsWhole e row.text → ComesInRun i d memory_row × PrintsWhole e []
row_7 i d e row comes is well = grind (arith, inputs_7, start_7)

row_9 : {V : Type 0} (i : BusInputs) (d : CommandDisks V) (e : Ending) (row : Row) → ComesInRun i d row → row.status ≡ 9 → PrintsWhole e row.text
    → OverWorld i (λ start bus events. IsNamedBus bus × (d.states.after ≡ d.states.before) × ((fault : StartFault) × FindsRoom bus d.states.before fault × PrintsWhole e (start_row fault).text))
row_9 i d e row comes is well = grind (arith, inputs_not, start_9)

row_10 : {V : Type 0} (i : BusInputs) (d : CommandDisks V) (e : Ending) (row : Row) → ComesInRun i d row → row.status ≡ 10 → PrintsWhole e row.text
    → OverWorld i (λ start bus events. HasRoom bus d.states.before × LeavesEach start bus d.states.before d.states.after
    × ((fault : StartFault) × StoreCause start bus d.states.before d.states.after fault × PrintsWhole e (start_row fault).text))
row_10 i d e row comes is well = grind (arith, inputs_not, start_10)

row_not_6 : {V : Type 0} (i : BusInputs) (d : CommandDisks V) (e : Ending) (row : Row) → ComesInRun i d row → row.status ≢ 6
row_not_6 i d e row comes = grind (arith, inputs_not, start_not_6)

-- what makes a row come

refused_of : {V : Type 0} (i : BusInputs) (d : CommandDisks V) (e : Ending) (row : Row) (task : Task) (input : List ℕ) (fault : Fault) → fault_of task input ≡ Some fault → OfTask d.states row task input → (row.status ≡ 4) ⊎ (row.status ≡ 7)
refused_of i d e row task input fault is comes = grind (arith, None_not_Some, prints_no_fault)

complete_of : {V : Type 0} (i : BusInputs) (d : CommandDisks V) (e : Ending) (row : Row) (task : Task) (input : List ℕ) → fault_of task input ≡ None → TaskHasDisks task d.states → OfTask d.states row task input → (row.status ≡ 0) ⊎ (row.status ≡ 7)
complete_of i d e row task input none able comes = grind (arith, None_not_Some, start_complete)

without_room_of : {V : Type 0} (i : BusInputs) (d : CommandDisks V) (e : Ending) (row : Row) (start : Start) (bus : NamedBus) (input : List ℕ) → fault_of (replay start bus) input ≡ None → ¬ HasRoom bus d.states.before → OfTask d.states row (replay start bus) input
    → (row.status ≡ 9) ⊎ (row.status ≡ 7)
without_room_of i d e row start bus input none lacks comes = grind (arith, None_not_Some, start_without_room)

-- with room, a bus of whose disks one is no node's doesn't start
in_room_of : {V : Type 0} (i : BusInputs) (d : CommandDisks V) (e : Ending) (row : Row) (start : Start) (bus : NamedBus) (input : List ℕ) → fault_of (replay start bus) input ≡ None
    → HasRoom bus d.states.before → OfTask d.states row (replay start bus) input → (row.status ≡ 10) ⊎ (row.status ≡ 7)
in_room_of i d e row start bus input none room comes = grind (arith, None_not_Some, start_in_room)

trial_complete_of : {V : Type 0} (i : BusInputs) (d : CommandDisks V) (e : Ending) (row : Row) (bus : NamedBus) → BusHasDisks Format bus d.states → OfTrial d.states row bus → (row.status ≡ 0) ⊎ (row.status ≡ 7)
trial_complete_of i d e row bus able comes = grind (arith, start_complete)

trial_without_room_of : {V : Type 0} (i : BusInputs) (d : CommandDisks V) (e : Ending) (row : Row) (bus : NamedBus) → ¬ HasRoom bus d.states.before → OfTrial d.states row bus → (row.status ≡ 9) ⊎ (row.status ≡ 7)
trial_without_room_of i d e row bus lacks comes = grind (arith, start_without_room)

-- ---- if it did the first events of a replay

done_status : {V : Type 0} (i : BusInputs) (d : CommandDisks V) (e : Ending) → (result : Result (Unit {0}) Unwritten) → e.status ≡ unwritten_status result → (e.status ≡ 0) ⊎ ((e.status ≡ 6) ⊎ (e.status ≡ 7))
done_status i d e result is = grind arith

status_of : {V : Type 0} (i : BusInputs) (d : CommandDisks V) (e : Ending) → (result : Result (Unit {0}) Unwritten) → ReplaysScript i d.states e result → (e.status ≡ 0) ⊎ ((e.status ≡ 6) ⊎ (e.status ≡ 7))
status_of i d e result over = done_status i d e result over.4.status_is

done_0 : {V : Type 0} (i : BusInputs) (d : CommandDisks V) (e : Ending) → (result : Result (Unit {0}) Unwritten) → ReplaysScript i d.states e result → e.status ≡ 0 → ReplaysScript i d.states e (Ok tt)
done_0 i d e (Ok tt) over is = over
done_0 i d e result over is = absurd (grind arith)

done_6 : {V : Type 0} (i : BusInputs) (d : CommandDisks V) (e : Ending) → (result : Result (Unit {0}) Unwritten) → ReplaysScript i d.states e result → e.status ≡ 6 → SinkFailed e × ReplaysScript i d.states e (Err unwritten.SinkFailed)
done_6 i d e result over is = grind arith

done_7 : {V : Type 0} (i : BusInputs) (d : CommandDisks V) (e : Ending) → (result : Result (Unit {0}) Unwritten) → ReplaysScript i d.states e result → e.status ≡ 7 → ReplaysScript i d.states e (Err unwritten.Memory)
done_7 i d e result over is = grind arith

done_writes : {V : Type 0} (i : BusInputs) (d : CommandDisks V) (e : Ending) → (result : Result (Unit {0}) Unwritten) → ReplaysScript i d.states e result → CountsWriteFault e → e.status ≡ 6
done_writes i d e result over rose = grind arith

done_well : {V : Type 0} (i : BusInputs) (d : CommandDisks V) (e : Ending) → (result : Result (Unit {0}) Unwritten) → ReplaysScript i d.states e result → ¬ SinkFailed e → (e.status ≡ 0) ⊎ (e.status ≡ 7)
done_well i d e result over well = grind arith

-- no count of a source rose in it
replay_calm : {V : Type 0} (i : BusInputs) (d : CommandDisks V) (e : Ending) → (result : Result (Unit {0}) Unwritten) → ReplaysScript i d.states e result → CountsFault i.config ⊎ CountsFault i.script → ⊥
replay_calm i d e result over (inl rose) = let calm = calm_world i (Replay over.0) over.1 over.2 over.3 in omega (arith, calm.0.0, rose)
replay_calm i d e result over (inr rose) = let calm = calm_world i (Replay over.0) over.1 over.2 over.3 in omega (arith, calm.1.0, rose)

replay_within : {V : Type 0} (i : BusInputs) (d : CommandDisks V) (e : Ending) → (result : Result (Unit {0}) Unwritten) → ReplaysScript i d.states e result → CountsTooMuch i.config ⊎ CountsTooMuch i.script → ⊥
replay_within i d e result over (inl more) = let calm = calm_world i (Replay over.0) over.1 over.2 over.3 in omega (arith, calm.0.1 more.0, more.1)
replay_within i d e result over (inr more) = let calm = calm_world i (Replay over.0) over.1 over.2 over.3 in omega (arith, calm.1.1 more.0, more.1)

replay_refused : {V : Type 0} (i : BusInputs) (d : CommandDisks V) (e : Ending) {A : Type 0} (result : Result (Unit {0}) Unwritten) → ReplaysScript i d.states e result → (task : Task) (input : List ℕ) (fault : Fault) → OffersTask i task → Offers i.script input
    → fault_of task input ≡ Some fault → A
replay_refused i d e result over task input fault offers lines is =
    absurd (None_not_Some (fault_of task input) fault (replay_offered i over.0 over.1 over.2 task input over.3 offers lines).1 is)

-- what was started is the replay that is offered
replay_started : {V : Type 0} (i : BusInputs) (d : CommandDisks V) (e : Ending) → (result : Result (Unit {0}) Unwritten) → ReplaysScript i d.states e result
    → (start : Start) (bus : NamedBus) (input : List ℕ) → OffersTask i (replay start bus) → Offers i.script input
    → (most : ℕ) × (world : BusState) × Started start bus most d.states.before world
replay_started i d e result over start bus input offers lines =
    let one = replay_offered i over.0 over.1 over.2 (replay start bus) input over.3 offers lines in (
      length over.2,
      over.4.ran.start,
      subst (λ (t : Task). Started (start_in_task t) (bus_in_task t) (length over.2) d.states.before over.4.ran.start) (sym one.0) over.4.ran.started,
    )

replay_room : {V : Type 0} (i : BusInputs) (d : CommandDisks V) (e : Ending) → (result : Result (Unit {0}) Unwritten) → ReplaysScript i d.states e result → (start : Start) (bus : NamedBus) (input : List ℕ) → OffersTask i (replay start bus) → Offers i.script input → HasRoom bus d.states.before
replay_room i d e result over start bus input offers lines = (replay_started i d e result over start bus input offers lines).2.room

-- no node goes on over a disk that holds none
holds_none : (bus : NamedBus) (most : ℕ) (before : List DiskState) (world : BusState) → Started Attach bus most before world → HoldsNoNode bus before → ⊥
holds_none bus most before world started holds =
    let told = holds.none no_line no_disk in
    let opened = started.nodes.opened holds.place no_line no_disk (no_node bus no_disk) holds.inside in
    told.2 ((get_or world.nodes holds.place (no_node bus no_disk)).node.kept, opened.kept told.0 told.1)

replay_taken : {V : Type 0} {A : Type 0} (i : BusInputs) (d : CommandDisks V) (e : Ending) → (result : Result (Unit {0}) Unwritten) → ReplaysScript i d.states e result → (bus : NamedBus) (input : List ℕ) → OffersTask i (replay Attach bus) → Offers i.script input
    → HoldsNoNode bus d.states.before → A
replay_taken i d e result over bus input offers lines holds =
    let started = replay_started i d e result over Attach bus input offers lines in
    absurd (holds_none bus started.0 d.states.before started.1 started.2 holds)

replay_no_trial : {V : Type 0} (i : BusInputs) (d : CommandDisks V) (e : Ending) {A : Type 0} (result : Result (Unit {0}) Unwritten) → ReplaysScript i d.states e result → (bus : NamedBus) → OffersTrial i bus → A
replay_no_trial i d e result over bus (trial, asks, of_bus) = apart i.words (World (Replay over.0)) (World (Trial trial)) over.3.asks asks (λ x. cc)

-- ---- put together

of_row : {V : Type 0} (i : BusInputs) (d : CommandDisks V) (e : Ending) → (d.new ≡ d.old → d.states.after ≡ d.states.before) → EndsInRow (ComesInRun i d) e → RunsCommand i d e
of_row i d e same ends = record {
  tells = record {
    ends = in_row ends;
    statuses = ends_in_table i d e ends;
    config_unread = row_config_unread i d ends.row ends.comes;
    lines_unread = λ trial. row_lines_unread i d ends.row trial ends.comes;
    done = EndsInRow-at ends 0 refl (row_0 i d e);
  };
  inputs = record {
    usage_told = EndsInRow-at ends 2 refl (row_2 i d e);
    usage_only = λ nothing. EndsInRow-only ends 2 (λ row comes. row_asks i d row comes nothing);
    config_refused = EndsInRow-at ends 3 refl (row_3 i d e);
    config_refused_only = λ file fault over offers err. EndsInRow-may ends 3 (λ row comes. row_refuses i d row file fault comes over offers err);
    refused = EndsInRow-at ends 4 refl (row_4 i d e);
    refused_only = λ task input fault offers lines is.
        EndsInRow-may ends 4 (λ row comes. refused_of i d e row task input fault is (row_offered i d row task input comes offers lines));
  };
  ports = record {
    read_fault = EndsInRow-at ends 5 refl (row_5 i d e);
    read_fault_only = λ rose. EndsInRow-only ends 5 (λ row comes. told_fault row i.config i.script (row_tells i d row comes) rose);
    write_fault = λ six. let at = EndsInRow-front ends (row_not_6 i d e) six in (at.0, inl at.1);
    write_fault_only = EndsInRow-rose ends;
    no_memory = λ seven. inl (EndsInRow-at ends 7 refl (row_7 i d e) seven);
    too_long = EndsInRow-at ends 8 refl (row_8 i d e);
    too_long_only = λ more. EndsInRow-only ends 8 (λ row comes. told_too_much row i.config i.script (row_tells i d row comes) more);
  };
  disks = record {
    disks = row_disks i d e ends.row ends.comes;
    disks_unused = unused i d e ends;
    leaves = row_leaves i d e ends.row ends.comes ends.told;
    failed_disk_told = λ place rose. ends_failed i d e same place rose ends;
  };
  valid = record {
    disks_refused = EndsInRow-at ends 9 refl (row_9 i d e);
    disks_refused_only = λ start bus input offers lines none lacks.
        EndsInRow-may ends 9 (λ row comes. without_room_of i d e row start bus input none lacks (row_offered i d row (replay start bus) input comes offers lines));
    trial_disks_refused_only = λ bus offers lacks. EndsInRow-may ends 9 (λ row comes. trial_without_room_of i d e row bus lacks (row_tried i d row bus comes offers));
    store_refused = EndsInRow-at ends 10 refl (row_10 i d e);
    store_refused_only = λ bus input offers lines none room holds.
        EndsInRow-may ends 10 (λ row comes. in_room_of i d e row Attach bus input none room (row_offered i d row (replay Attach bus) input comes offers lines));
    complete = λ task input offers lines none able well.
        EndsInRow-done ends well 0 (λ row comes. complete_of i d e row task input none able (row_offered i d row task input comes offers lines));
    trial_complete = λ bus offers able well. EndsInRow-done ends well 0 (λ row comes. trial_complete_of i d e row bus able (row_tried i d row bus comes offers));
  };
}

of_replay : {V : Type 0} (i : BusInputs) (d : CommandDisks V) (e : Ending) → (result : Result (Unit {0}) Unwritten) → ReplaysScript i d.states e result → RunsCommand i d e
of_replay i d e result over = record {
  tells = record {
    ends = replayed result over;
    statuses = replayed_in_table e.status (status_of i d e result over);
    config_unread = λ lacks. absurd (lacks (World (Replay over.0), over.3.asks, tt));
    lines_unread = λ trial asks. apart i.words (World (Replay over.0)) (World (Trial trial)) over.3.asks asks (λ x. cc);
    done = λ is. (World (Replay over.0), over.3.asks, done_0 i d e result over is);
  };
  inputs = record {
    usage_told = λ is. absurd (let no : ⊥ = omega (arith, status_of i d e result over, is) in no);
    usage_only = λ nothing. absurd (nothing (World (Replay over.0)) over.3.asks);
    config_refused = λ is. absurd (let no : ⊥ = omega (arith, status_of i d e result over, is) in no);
    config_refused_only = λ file fault asks offers err. absurd (bus_or_fault i.config over.1 file fault over.3.of_bus offers err);
    refused = λ is. absurd (let no : ⊥ = omega (arith, status_of i d e result over, is) in no);
    refused_only = λ task input fault offers lines is. replay_refused i d e result over task input fault offers lines is;
  };
  ports = record {
    read_fault = λ is. absurd (let no : ⊥ = omega (arith, status_of i d e result over, is) in no);
    read_fault_only = λ rose. absurd (replay_calm i d e result over rose);
    write_fault = λ six. let at = done_6 i d e result over six in (at.0, inr at.1);
    write_fault_only = done_writes i d e result over;
    no_memory = λ seven. inr (done_7 i d e result over seven);
    too_long = λ is. absurd (let no : ⊥ = omega (arith, status_of i d e result over, is) in no);
    too_long_only = λ more. absurd (replay_within i d e result over more);
  };
  disks = record {
    disks = λ lacks. absurd (lacks (Replay over.0, over.3.asks));
    disks_unused = λ low. absurd (not_low e.status low (status_of i d e result over));
    leaves = by_replay result over;
    failed_disk_told = λ place rose. inr (inl (result, over));
  };
  valid = record {
    disks_refused = λ is. absurd (let no : ⊥ = omega (arith, status_of i d e result over, is) in no);
    disks_refused_only = λ start bus input offers lines none lacks. absurd (lacks (replay_room i d e result over start bus input offers lines));
    trial_disks_refused_only = λ bus offers lacks. replay_no_trial i d e result over bus offers;
    store_refused = λ is. absurd (let no : ⊥ = omega (arith, status_of i d e result over, is) in no);
    store_refused_only = λ bus input offers lines none room holds. replay_taken i d e result over bus input offers lines holds;
    complete = λ task input offers lines none able well. done_well i d e result over well;
    trial_complete = λ bus offers able well. replay_no_trial i d e result over bus offers;
  };
}

-- how a command ends gives all that it promises
pub RunsCommand-ends : {V : Type 0} (i : BusInputs) (d : CommandDisks V) (e : Ending) → (d.new ≡ d.old → d.states.after ≡ d.states.before) → RowOrReplay i d e → RunsCommand i d e
RunsCommand-ends i d e same (in_row ends) = of_row i d e same ends
RunsCommand-ends i d e same (replayed result over) = of_replay i d e result over
