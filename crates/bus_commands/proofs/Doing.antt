-- The two phases, put together
use Rattle.std.specs.Prelude.{◌≡◌, ℕ, List, Ok}
use Rattle.std.proofs.Common.{sym, subst}
use Rattle.std.specs.List.{flat_map}
use Rattle.program_edge.specs.declared.input.InputFault.TheVariants as input
use Rattle.program_edge.specs.Rows.{Row}
use Rattle.program_edge.specs.Endings.{Ending, EndsInRow}
use Rattle.program_edge.proofs.CallerLemmas.{EndsInRow-more, Lacks-whole}
use Rattle.bus_config.specs.Buses.{NamedBus, IsNamedBus}
use Rattle.bus_machine.specs.declared.events.Event.{Event}
use Rattle.bus_script.specs.Canon.{canon}
use Rattle.bus_world.specs.declared.start.Start.{Start}
use Rattle.bus_commands.specs.declared.trial_words.TrialWords.{TrialWords}
use Rattle.bus_commands.specs.declared.job.Job.TheVariants.{Lines, World}
use Rattle.bus_commands.specs.declared.job.LineJob.{LineJob}
use Rattle.bus_commands.specs.declared.job.LineJob.TheVariants.{Frames, Judgements, Events}
use Rattle.bus_commands.specs.declared.job.WorldJob.{WorldJob}
use Rattle.bus_commands.specs.declared.words.WorldCommand.{WorldCommand}
use Rattle.bus_commands.specs.declared.words.WorldCommand.TheVariants.{Replay, Trial}
use Rattle.bus_commands.specs.Tasks.{Task, frame, judge, check, replay}
use Rattle.bus_commands.specs.Texts.{IsOutput}
use Rattle.bus_programs.specs.Inputs.{BusInputs}
use Rattle.bus_commands.specs.Inputs.{OverLines, SetsWorld}
use Rattle.bus_world.specs.StartAnswers.{DiskStates}
use Rattle.bus_commands.specs.StartRows.{CommandDisks}
use Rattle.bus_commands.specs.Rows.{ComesOfInputs, no_script, done, ComesInRun, without_disks, not_started, tried, tried_without_memory, RowOrReplay, in_row, replayed}
use Rattle.bus_commands.specs.Steps.{IsJobOf, Prepares, TellsLines, AnswersLines, told, no_text, AnswersTrial, refused_trial, summed, no_summary, AnswersReplay, refused_replay, first_done, AnswersWorld}

-- ---- lines

-- what the job of a task prints is what the task prints
IsOutput-job : (task : Task) (read : List ℕ) (job : LineJob) (text : List ℕ) → IsJobOf task read job → TellsLines job text → IsOutput task read text
IsOutput-job frame read (Frames lines) text is tells = (lines.items, is, tells)
IsOutput-job frame read (Judgements lines) text is tells = absurd is
IsOutput-job frame read (Events bus events) text is tells = absurd is
IsOutput-job judge read (Frames lines) text is tells = absurd is
IsOutput-job judge read (Judgements lines) text is tells = (lines.items, is, tells)
IsOutput-job judge read (Events bus events) text is tells = absurd is
IsOutput-job (check bus) read (Frames lines) text is tells = absurd is
IsOutput-job (check bus) read (Judgements lines) text is tells = absurd is
IsOutput-job (check bus) read (Events over events) text is tells =
    (events.items, is.1, subst (λ (b : NamedBus). text ≡ flat_map (canon b.nodes) events.items) is.0 tells)
IsOutput-job (replay start bus) read (Frames lines) text is tells = absurd is
IsOutput-job (replay start bus) read (Judgements lines) text is tells = absurd is
IsOutput-job (replay start bus) read (Events over events) text is tells = absurd is

-- what was prepared, and then told
Comes-lines : (i : BusInputs) (job : LineJob) → OverLines i (λ task input. IsJobOf task input job) → (row : Row) → AnswersLines job row → ComesOfInputs i row
Comes-lines i job (task, set, (read, whole, is)) row (told text tells) = done text (task, set, (read, whole, IsOutput-job task read job text is tells))
Comes-lines i job (task, set, (read, whole, is)) row no_text = no_script input.Memory (task, set, Lacks-whole i.script read whole)

module _ {V : Type 0} where
  pub ends_lines : (i : BusInputs) (d : CommandDisks V) (e : Ending) (job : LineJob) → d.new ≡ d.old → Prepares i (Ok (Lines job)) → EndsInRow (AnswersLines job) e → RowOrReplay i d e
  ends_lines i d e job as_before prepared ends =
      in_row (EndsInRow-more (λ row comes. without_disks row (Comes-lines i job prepared.1 row comes) as_before) ends)

  -- a refusal
  pub ends_refused : (i : BusInputs) (d : CommandDisks V) (e : Ending) (row : Row) → d.new ≡ d.old → ComesOfInputs i row → EndsInRow (λ other. other ≡ row) e → RowOrReplay i d e
  ends_refused i d e row as_before comes ends =
      in_row (EndsInRow-more (λ other is. without_disks other (subst (ComesOfInputs i) (sym is) comes) as_before) ends)

  -- ---- a bus

  Comes-trial : (i : BusInputs) (d : CommandDisks V) (bus : NamedBus) (events : List Event) (trial : TrialWords) → IsNamedBus bus → SetsWorld i (Trial trial) bus events
      → (row : Row) → AnswersTrial (d.new ≡ d.old) bus events d.states row → ComesInRun i d row
  Comes-trial i d bus events trial is set row (refused_trial _ comes) = not_started row (Trial trial, bus, events, set, (is, comes.0)) comes.1
  Comes-trial i d bus events trial is set row (summed summary ran) = tried summary (trial, bus, events, set, ran)
  Comes-trial i d bus events trial is set row (no_summary summary ran) = tried_without_memory summary (trial, bus, events, set, ran)

  ends_asked : (i : BusInputs) (d : CommandDisks V) (e : Ending) (c : WorldCommand) (bus : NamedBus) (events : List Event) → IsNamedBus bus → SetsWorld i c bus events
      → AnswersWorld (d.new ≡ d.old) c bus events d.states e → RowOrReplay i d e
  ends_asked i d e (Replay start) bus events is set (refused_replay ends) =
      in_row (EndsInRow-more (λ row comes. not_started row (Replay start, bus, events, set, (is, comes.0)) comes.1) ends)
  ends_asked i d e (Replay start) bus events is set (first_done result ran) = replayed result (start, bus, events, set, ran)
  ends_asked i d e (Trial trial) bus events is set ends = in_row (EndsInRow-more (Comes-trial i d bus events trial is set) ends)

  pub ends_world : (i : BusInputs) (d : CommandDisks V) (e : Ending) (job : WorldJob) → Prepares i (Ok (World job)) → AnswersWorld (d.new ≡ d.old) job.command job.bus job.events.items d.states e
      → RowOrReplay i d e
  ends_world i d e job prepared does = ends_asked i d e job.command job.bus job.events.items prepared.0.0 prepared.1 does

-- if a replay is asked for
pub does_replay : (same : Type 0) (job : WorldJob) (start : Start) (d : DiskStates) (e : Ending) → job.command ≡ Replay start → AnswersReplay same start job.bus job.events.items d e
    → AnswersWorld same job.command job.bus job.events.items d e
does_replay same job start d e is does = subst (λ (c : WorldCommand). AnswersWorld same c job.bus job.events.items d e) (sym is) does
