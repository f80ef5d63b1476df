-- What the steps of the work say to one another.
use Rattle.std.specs.Prelude.{◌≡◌, ℕ, ◌≤◌, List, [], ◌∷◌, ◌++◌, map, All, Result, Ok, Err, Vec}
use Rattle.std.specs.List.{flat_map}
use Rattle.std.specs.declared.alloc.Global.{Global}
use Rattle.cut_disk.specs.State.{DiskState}
use Rattle.file_disk.specs.NamedDisks.{IsOpenedBy}
use Rattle.secured_pdu.specs.Frame.{IsPayload}
use Rattle.secoc_words.specs.declared.frames.FrameLine.{FrameLine}
use Rattle.secoc_words.specs.declared.judges.JudgeLine.{JudgeLine}
use Rattle.secoc_words.specs.Frames.{frames_of, judges_of}
use Rattle.text_lines.specs.Readings.{Fault}
use Rattle.program_edge.specs.Rows.{Row, row_of, memory_row}
use Rattle.program_edge.specs.Inputs.{Reading, IsUnread}
use Rattle.program_edge.specs.Endings.{Ending, EndsInRow}
use Rattle.text_lines.specs.LineRows.{NoLines}
use Rattle.run_driver.specs.declared.printing.Unwritten.{Unwritten}
use Rattle.bus_config.specs.Buses.{NamedBus, IsNamedBus}
use Rattle.bus_machine.specs.declared.events.Event.{Event}
use Rattle.bus_script.specs.EventForms.{events_of}
use Rattle.bus_script.specs.Trials.{trial_events}
use Rattle.bus_script.specs.ScriptEvents.{IsScriptEvent}
use Rattle.bus_script.specs.Canon.{canon}
use Rattle.bus_programs.specs.Scripts.{LacksLines, ReadsLinesAs, AreEvents, FindsScript}
use Rattle.bus_commands.specs.declared.trial_words.TrialWords.{TrialWords}
use Rattle.bus_commands.specs.declared.words.Command.TheVariants as command
use Rattle.bus_commands.specs.declared.words.LineCommand.{LineCommand}
use Rattle.bus_commands.specs.declared.words.WorldCommand.{WorldCommand}
use Rattle.bus_commands.specs.declared.words.WorldCommand.TheVariants.{Replay, Trial}
use Rattle.bus_commands.specs.declared.job.Job.{Job}
use Rattle.bus_commands.specs.declared.job.Job.TheVariants.{Lines, World}
use Rattle.bus_commands.specs.declared.job.LineJob.{LineJob}
use Rattle.bus_commands.specs.declared.job.LineJob.TheVariants.{Frames, Judgements, Events}
use Rattle.bus_commands.specs.declared.job.WorldJob.{WorldJob}
use Rattle.bus_commands.specs.declared.summary.Summary.{Summary}
use Rattle.bus_commands.specs.Tasks.{Task, frame, judge, check}
use Rattle.bus_commands.specs.Texts.{TellsEach, TellsFrame, TellsJudgement}
use Rattle.bus_commands.specs.Words.{Asks}
use Rattle.bus_programs.specs.Inputs.{BusInputs}
use Rattle.bus_commands.specs.Inputs.{OverLines, SetsWorld}
use Rattle.bus_commands.specs.Summaries.{summary_text}
use Rattle.bus_world.specs.StartAnswers.{DiskStates, ComesUnstarted}
use Rattle.bus_world.specs.declared.start.Start.{Start}
use Rattle.bus_world.specs.declared.start.Start.TheVariants.{Format}
use Rattle.bus_commands.specs.Rows.{ComesOfInputs, DoneTrial, DoneReplay}

-- the line's payload has 1 to 60 bytes
abbrev pub HasPayload : FrameLine → Type 0
HasPayload l = IsPayload l.payload

-- nothing more is asked of a line of `judge`
abbrev pub IsAny : JudgeLine → Type 0
IsAny l = Unit {0}

-- a text was added at the end that has this
abbrev pub Adds : List ℕ → List ℕ → (List ℕ → Type 0) → Type 0
Adds old new P = (text : List ℕ) × P text × (new ≡ old ++ text)

-- the lines are those that the input has, each of them whole, or they are refused
abbrev pub ReadsLines : {A : Type 0} → (A → Type 0) → Result (List A) Fault → Result (Vec A Global) Row → Type 0
ReadsLines P meaning (Ok lines) = (meaning ≡ Ok lines.items) × All P lines.items
ReadsLines P meaning (Err row) = NoLines meaning row

-- ---- the sources

-- the lines of a source that was read whole, each of them whole, or why there are none
abbrev pub FindsLines : {A : Type 0} → (List ℕ → Result (List A) Fault) → (A → Type 0) → Reading
    → Result (Vec A Global) Row → Type 0
FindsLines meaning P script (Ok lines) = ReadsLinesAs meaning script lines.items × All P lines.items
FindsLines meaning P script (Err row) = LacksLines meaning script row

-- the events that the seed of a trial gives, or out of memory
abbrev pub DrawsEvents : NamedBus → TrialWords → Result (Vec Event Global) Row → Type 0
DrawsEvents bus trial (Ok events) =
    (events.items ≡ trial_events bus.nodes trial.count trial.seed) × AreEvents bus events.items
DrawsEvents bus trial (Err row) = row ≡ memory_row

-- ---- the first phase

-- each line of the job is whole
abbrev pub IsWholeLines : LineJob → Type 0
IsWholeLines (Frames lines) = All HasPayload lines.items
IsWholeLines (Judgements lines) = All IsAny lines.items
IsWholeLines (Events bus events) = All (IsScriptEvent bus.nodes) events.items

abbrev pub IsWholeWorld : WorldJob → Type 0
IsWholeWorld job = IsNamedBus job.bus × AreEvents job.bus job.events.items

-- the job is what is to be printed of these lines
abbrev pub IsJobOf : Task → List ℕ → LineJob → Type 0
IsJobOf frame input (Frames lines) = frames_of input ≡ Ok lines.items
IsJobOf judge input (Judgements lines) = judges_of input ≡ Ok lines.items
IsJobOf (check bus) input (Events over events) = (over ≡ bus) × (events_of bus.nodes input ≡ Ok events.items)
IsJobOf task input job = ⊥

-- how the first phase ends: in a job over inputs that were read whole, or in a row that comes
abbrev pub Prepares : BusInputs → Result Job Row → Type 0
Prepares i (Ok (Lines job)) = IsWholeLines job × OverLines i (λ task input. IsJobOf task input job)
Prepares i (Ok (World job)) = IsWholeWorld job × SetsWorld i job.command job.bus job.events.items
Prepares i (Err row) = ComesOfInputs i row

-- how it ends for a command of lines, whatever the arguments are that ask for it
abbrev pub PreparesLines : LineCommand → Reading → Reading → Result LineJob Row → Type 0
PreparesLines asked config script (Ok job) = (words : List (List ℕ)) → Asks words (command.Lines asked)
    → Prepares (record { words = words; config = config; script = script }) (Ok (Lines job))
PreparesLines asked config script (Err row) = (words : List (List ℕ)) → Asks words (command.Lines asked)
    → Prepares (record { words = words; config = config; script = script }) (Err row)

-- and for one that runs a bus
abbrev pub PreparesWorld : WorldCommand → Reading → Reading → Result WorldJob Row → Type 0
PreparesWorld asked config script (Ok job) = (words : List (List ℕ)) → Asks words (command.World asked)
    → Prepares (record { words = words; config = config; script = script }) (Ok (World job))
PreparesWorld asked config script (Err row) = (words : List (List ℕ)) → Asks words (command.World asked)
    → Prepares (record { words = words; config = config; script = script }) (Err row)

-- the number of events of a trial is one that its arguments may have
abbrev pub HasFewEvents : WorldCommand → Type 0
HasFewEvents (Replay start) = Unit {0}
HasFewEvents (Trial trial) = (1 ≤ trial.count) × (trial.count ≤ 60000)

-- the events of a run of this bus, or why there are none; for a trial nothing is read
abbrev pub FindsEvents : WorldCommand → NamedBus → Reading → Result (Vec Event Global) Row → Type 0
FindsEvents (Replay start) bus script result = FindsScript events_of bus script result
FindsEvents (Trial trial) bus script result = IsUnread script × DrawsEvents bus trial result

-- ---- the second phase

-- the text is what the job prints
abbrev pub TellsLines : LineJob → List ℕ → Type 0
TellsLines (Frames lines) text = TellsEach TellsFrame lines.items text
TellsLines (Judgements lines) text = TellsEach TellsJudgement lines.items text
TellsLines (Events bus events) text = text ≡ flat_map (canon bus.nodes) events.items

-- what the second phase over lines ends in: the whole text is printed, or there was no memory for it
pub data AnswersLines (job : LineJob) : Row → Type 0 where
  told : (text : List ℕ) → TellsLines job text → AnswersLines job (row_of 0 text)
  no_text : AnswersLines job memory_row

-- what a trial ends in: it isn't started, or all its events are done, and its seven lines are printed, or there was no
-- memory for them; `same` is that every disk is as before
pub data AnswersTrial (same : Type 0) (bus : NamedBus) (events : List Event) (d : DiskStates) : Row → Type 0 where
  refused_trial : (row : Row) → ComesUnstarted same Format bus d row → AnswersTrial same bus events d row
  summed : (summary : Summary) → DoneTrial bus events d summary
      → AnswersTrial same bus events d (row_of 0 (summary_text summary))
  no_summary : (summary : Summary) → DoneTrial bus events d summary → AnswersTrial same bus events d memory_row

-- the row of the text of a summary, or out of memory for it
pub data TellsSummary (summary : Summary) : Row → Type 0 where
  seven_lines : TellsSummary summary (row_of 0 (summary_text summary))
  no_lines_told : TellsSummary summary memory_row

-- how a replay ends: it isn't started, or it did its first events
pub data AnswersReplay (same : Type 0) (start : Start) (bus : NamedBus) (events : List Event) (d : DiskStates)
    (e : Ending) : Type 0 where
  refused_replay : EndsInRow (ComesUnstarted same start bus d) e → AnswersReplay same start bus events d e
  first_done : (result : Result (Unit {0}) Unwritten) → DoneReplay start bus events d e result
      → AnswersReplay same start bus events d e

-- how the run of a bus ends, by what is asked of it
abbrev pub AnswersWorld : Type 0 → WorldCommand → NamedBus → List Event → DiskStates → Ending → Type 0
AnswersWorld same (Replay start) bus events d e = AnswersReplay same start bus events d e
AnswersWorld same (Trial trial) bus events d e = EndsInRow (AnswersTrial same bus events d) e

-- The second phase of `node` over the disk that a word names: it was opened, once, and the bus ran over it. Or there
-- was no memory for it: none was opened, and nothing was written.
pub data DoesNamed {D : Type 0} (state : D → DiskState) (opens : List ℕ → DiskState → Type 0)
    (before after : List (List ℕ)) (word : List ℕ) (job : WorldJob) (left : Vec D Global) (e : Ending) : Type 0 where
  over_disk : (disks : Vec D Global) → IsOpenedBy opens word (map state disks.items) → after ≡ before ++ word ∷ []
      → AnswersWorld (left ≡ disks) job.command job.bus job.events.items
      (record { before = map state disks.items; after = map state left.items }) e
      → DoesNamed state opens before after word job left e
  no_disk : after ≡ before → left.items ≡ [] → e.status ≡ 7 → e.after ≡ e.before
      → DoesNamed state opens before after word job left e
