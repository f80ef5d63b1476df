-- What every replay and every trial is, from all that a command promises
use Rattle.std.specs.Prelude.{◌≡◌, ◌⊎◌, ℕ, List, [], Result, Ok, Err}
use Rattle.std.proofs.Common.{subst, inl, inr}
use Rattle.program_edge.specs.Rows.{Row, memory_row}
use Rattle.program_edge.specs.Endings.{Ending, PrintsWhole, PrintsFront}
use Rattle.run_driver.specs.declared.printing.Unwritten.{Unwritten}
use Rattle.run_driver.specs.declared.printing.Unwritten.TheVariants as unwritten
use Rattle.bus_world.specs.declared.start.Start.{Start}
use Rattle.bus_world.specs.declared.start.Start.TheVariants.{Format, Attach}
use Rattle.bus_machine.specs.declared.events.Event.{Event}
use Rattle.bus_machine.specs.Bus.{World, First}
use Rattle.bus_config.specs.Buses.{NamedBus, configs_of}
use Rattle.bus_commands.specs.declared.summary.Summary.{Summary}
use Rattle.bus_commands.specs.declared.trial_words.TrialWords.{TrialWords}
use Rattle.bus_commands.specs.declared.words.Command.TheVariants as command
use Rattle.bus_commands.specs.declared.words.WorldCommand.TheVariants.{Replay, Trial}
use Rattle.bus_commands.specs.Words.{Asks}
use Rattle.bus_programs.specs.Inputs.{BusInputs}
use Rattle.bus_commands.specs.Inputs.{SetsWorld, start_of}
use Rattle.bus_commands.specs.Headline.{TellFor, ReplayedOver}
use Rattle.bus_commands.specs.Summaries.{summary_text}
use Rattle.bus_world.specs.StartAnswers.{DiskStates}
use Rattle.bus_commands.specs.StartRows.{CommandDisks}
use Rattle.bus_commands.specs.Rows.{ReplaysScript, TriesEvents, ComesInRun, without_disks, not_started, tried, tried_without_memory, RowOrReplay}
use Rattle.bus_commands.specs.Commands.{ReplayIsRun, WrittenRun, TrialIsRun, LeavesUnstarted, RunsMachine, RunsBus}
use Rattle.bus_commands.specs.Table.{RunsCommand}
use Rattle.bus_commands.proofs.Headlines.{written_run, summed_run}
use Rattle.bus_commands.proofs.Promises.{RunsCommand-ends}
use Rattle.bus_commands.proofs.Asking.{apart, asks_one, same_start}
use Rattle.bus_commands.proofs.Unread.{AskedIsDone, done_of}
use Rattle.bus_world.proofs.CallerLemmas.{Comes-leaves}

-- ---- one run

from_first : (bus : NamedBus) (d : DiskStates) (events : List Event) (e : Ending) (result : Result (Unit {0}) Unwritten) → ReplayedOver Format bus d.before d.after events e.before e.after result
    → WrittenRun (First (configs_of bus)) bus d events e result
from_first bus d events e result over =
    let begins : over.first ≡ First (configs_of bus) = over.begins in
    subst (λ (w : World). WrittenRun w bus d events e result) begins (written_run over.first bus d events e result over.replayed)

-- what a replay with this start did
one_replay : (start : Start) (i : BusInputs) (d : DiskStates) (e : Ending) (result : Result (Unit {0}) Unwritten) (bus : NamedBus) (events : List Event) → SetsWorld i (Replay start) bus events
    → (TellFor start bus d.before → ReplayedOver start bus d.before d.after events e.before e.after result) → ReplayIsRun start i d e result
one_replay Format i d e result bus events set ran = (bus, events, set, λ tell. from_first bus d events e result (ran tell))
one_replay Attach i d e result bus events set ran =
    (bus, events, set, λ tell. let over = ran tell in (over.first, over.begins, written_run over.first bus d events e result over.replayed))

-- what a replay did, of the one that is asked for
replay_is_run : (i : BusInputs) (d : DiskStates) (e : Ending) (start : Start) (result : Result (Unit {0}) Unwritten) → Asks i.words (command.World (Replay start)) → ReplaysScript i d e result → ReplayIsRun start i d e result
replay_is_run i d e start result asks (how, bus, events, set, ran) =
    subst (λ (s : Start). ReplayIsRun s i d e result) (same_start how start (asks_one i.words (command.World (Replay how)) (command.World (Replay start)) set.asks asks))
    (one_replay how i d e result bus events set ran.one_run)

trial_is_run : (i : BusInputs) (d : DiskStates) (summary : Summary) → TriesEvents i d summary → TrialIsRun i d summary
trial_is_run i d summary (trial, bus, events, set, ran) = (trial, bus, events, set, λ tell. summed_run bus d events summary (ran.one_run tell))

-- ---- a replay

-- words that ask for a replay ask for no trial
asks_no_trial : {A : Type 0} (words : List (List ℕ)) (start : Start) (trial : TrialWords) → Asks words (command.World (Replay start)) → Asks words (command.World (Trial trial)) → A
asks_no_trial words start trial asks tries = apart words (command.World (Trial trial)) (command.World (Replay start)) tries asks (λ x. cc)

replay_done : {V : Type 0} (i : BusInputs) (d : CommandDisks V) (e : Ending) (start : Start) → Asks i.words (command.World (Replay start)) → AskedIsDone i d.states e
    → ReplayIsRun start i d.states e (Ok tt)
replay_done i d e start asks does = replay_is_run i d.states e start (Ok tt) asks (done_of i d.states e (command.World (Replay start)) asks does)

-- if a row comes of a replay, the disks are as before or as an unfinished start leaves them
replay_row : {V : Type 0} (i : BusInputs) (d : CommandDisks V) (row : Row) (start : Start) → Asks i.words (command.World (Replay start)) → ComesInRun i d row → LeavesUnstarted i d
replay_row i d row start asks (without_disks _ comes same) = inl same
replay_row i d row start asks (not_started _ (c, bus, events, set, comes) nine) = inr (c, bus, events, set, Comes-leaves (start_of c) bus d.states row comes.1)
replay_row i d row start asks (tried summary (trial, bus, events, set, ran)) = asks_no_trial i.words start trial asks set.asks
replay_row i d row start asks (tried_without_memory summary (trial, bus, events, set, ran)) = asks_no_trial i.words start trial asks set.asks

replay_6 : {V : Type 0} (i : BusInputs) (d : CommandDisks V) (e : Ending) (start : Start) → Asks i.words (command.World (Replay start))
    → PrintsFront (ComesInRun i d) e ⊎ ReplaysScript i d.states e (Err unwritten.SinkFailed)
    → (LeavesUnstarted i d × PrintsFront (ComesInRun i d) e) ⊎ ReplayIsRun start i d.states e (Err unwritten.SinkFailed)
replay_6 i d e start asks (inl (row, comes, part)) = inl (replay_row i d row start asks comes, (row, comes, part))
replay_6 i d e start asks (inr over) = inr (replay_is_run i d.states e start (Err unwritten.SinkFailed) asks over)

replay_7 : {V : Type 0} (i : BusInputs) (d : CommandDisks V) (e : Ending) (start : Start) → Asks i.words (command.World (Replay start))
    → (ComesInRun i d memory_row × PrintsWhole e []) ⊎ ReplaysScript i d.states e (Err unwritten.Memory)
    → (LeavesUnstarted i d × PrintsWhole e []) ⊎ ReplayIsRun start i d.states e (Err unwritten.Memory)
replay_7 i d e start asks (inl (comes, well)) = inl (replay_row i d memory_row start asks comes, well)
replay_7 i d e start asks (inr over) = inr (replay_is_run i d.states e start (Err unwritten.Memory) asks over)

-- ---- a trial

-- words that ask for a trial ask for no replay
no_replay : {V : Type 0} {A : Type 0} (i : BusInputs) (d : CommandDisks V) (e : Ending) (trial : TrialWords) (result : Result (Unit {0}) Unwritten) → Asks i.words (command.World (Trial trial))
    → ReplaysScript i d.states e result → A
no_replay i d e trial result asks (start, bus, events, set, ran) = asks_no_trial i.words start trial set.asks asks

trial_done : {V : Type 0} (i : BusInputs) (d : CommandDisks V) (e : Ending) (trial : TrialWords) → Asks i.words (command.World (Trial trial)) → AskedIsDone i d.states e
    → (summary : Summary) × TrialIsRun i d.states summary × PrintsWhole e (summary_text summary)
trial_done i d e trial asks does =
    let (summary, over, well) = done_of i d.states e (command.World (Trial trial)) asks does in
    (summary, trial_is_run i d.states summary over, well)

-- if a row comes of a trial, the disks are so, or all events were done
trial_row : {V : Type 0} (i : BusInputs) (d : CommandDisks V) (row : Row) → ComesInRun i d row → LeavesUnstarted i d ⊎ ((summary : Summary) × TrialIsRun i d.states summary)
trial_row i d row (without_disks _ comes same) = inl (inl same)
trial_row i d row (not_started _ (c, bus, events, set, comes) nine) = inl (inr (c, bus, events, set, Comes-leaves (start_of c) bus d.states row comes.1))
trial_row i d row (tried summary over) = inr (summary, trial_is_run i d.states summary over)
trial_row i d row (tried_without_memory summary over) = inr (summary, trial_is_run i d.states summary over)

trial_6 : {V : Type 0} (i : BusInputs) (d : CommandDisks V) (e : Ending) (trial : TrialWords) → Asks i.words (command.World (Trial trial))
    → PrintsFront (ComesInRun i d) e ⊎ ReplaysScript i d.states e (Err unwritten.SinkFailed) → LeavesUnstarted i d ⊎ ((summary : Summary) × TrialIsRun i d.states summary)
trial_6 i d e trial asks (inl (row, comes, part)) = trial_row i d row comes
trial_6 i d e trial asks (inr over) = no_replay i d e trial (Err unwritten.SinkFailed) asks over

trial_7 : {V : Type 0} (i : BusInputs) (d : CommandDisks V) (e : Ending) (trial : TrialWords) → Asks i.words (command.World (Trial trial))
    → (ComesInRun i d memory_row × PrintsWhole e []) ⊎ ReplaysScript i d.states e (Err unwritten.Memory) → LeavesUnstarted i d ⊎ ((summary : Summary) × TrialIsRun i d.states summary)
trial_7 i d e trial asks (inl (comes, well)) = trial_row i d memory_row comes
trial_7 i d e trial asks (inr over) = no_replay i d e trial (Err unwritten.Memory) asks over

trial_untold : {V : Type 0} (i : BusInputs) (d : CommandDisks V) (e : Ending) → RunsCommand i d e → (trial : TrialWords) → Asks i.words (command.World (Trial trial)) → (e.status ≡ 6) ⊎ (e.status ≡ 7)
    → LeavesUnstarted i d ⊎ ((summary : Summary) × TrialIsRun i d.states summary)
trial_untold i d e runs trial asks (inl six) = trial_6 i d e trial asks (runs.ports.write_fault six).1
trial_untold i d e runs trial asks (inr seven) = trial_7 i d e trial asks (runs.ports.no_memory seven)

-- ---- put together

pub RunsMachine-command : {V : Type 0} (i : BusInputs) (d : CommandDisks V) (e : Ending) → RunsCommand i d e → RunsMachine i d e
RunsMachine-command i d e runs = record {
  replayed = λ asks is. replay_done i d e Format asks (runs.tells.done is);
  attached_run = λ asks is. replay_done i d e Attach asks (runs.tells.done is);
  early_ends = λ start asks is. replay_6 i d e start asks (runs.ports.write_fault is).1;
  early_ends_unwritten = λ start asks is. replay_7 i d e start asks (runs.ports.no_memory is);
  tried = λ trial asks is. trial_done i d e trial asks (runs.tells.done is);
  tried_untold = trial_untold i d e runs;
}

-- and the table of answers with it
pub runs_bus : {V : Type 0} (i : BusInputs) (d : CommandDisks V) (e : Ending) → (d.new ≡ d.old → d.states.after ≡ d.states.before) → RowOrReplay i d e → RunsBus i d e
runs_bus i d e same ends =
    let command : RunsCommand i d e = RunsCommand-ends i d e same ends in
    (command, RunsMachine-command i d e command)
