-- The first phase, put together
use Rattle.std.proofs.Common.{◌≡◌, ◌∙◌, ℕ, List, refl, ap, sym, subst}
use Rattle.std.specs.Prelude.{Result, Ok, Err, Vec}
use Rattle.std.specs.Result.{result_err}
use Rattle.std.specs.declared.alloc.Global.{Global}
use Rattle.program_edge.specs.declared.input.InputFault.TheVariants as input
use Rattle.text_lines.specs.Readings.{Fault}
use Rattle.program_edge.specs.Rows.{Row}
use Rattle.program_edge.specs.Inputs.{Reading, IsUnread, ReadsWhole}
use Rattle.program_edge.proofs.CallerLemmas.{Lacks-whole}
use Rattle.bus_config.specs.Buses.{NamedBus, IsNamedBus}
use Rattle.secoc_words.specs.declared.frames.FrameLine.{FrameLine}
use Rattle.secoc_words.specs.declared.judges.JudgeLine.{JudgeLine}
use Rattle.secoc_words.specs.Frames.{frames_of, judges_of}
use Rattle.bus_machine.specs.declared.events.Event.{Event}
use Rattle.bus_script.specs.EventForms.{events_of}
use Rattle.bus_commands.specs.declared.words.Command.TheVariants as command
use Rattle.bus_commands.specs.declared.words.LineCommand.{LineCommand}
use Rattle.bus_commands.specs.declared.words.LineCommand.TheVariants as lines
use Rattle.bus_commands.specs.declared.words.WorldCommand.{WorldCommand}
use Rattle.bus_commands.specs.declared.words.WorldCommand.TheVariants.{Replay, Trial}
use Rattle.bus_commands.specs.declared.job.LineJob.TheVariants.{Frames, Judgements, Events}
use Rattle.bus_commands.specs.Words.{Asks}
use Rattle.bus_commands.specs.Tasks.{Task, frame, judge, check, replay}
use Rattle.bus_commands.specs.Texts.{fault_of}
use Rattle.bus_programs.proofs.CallerLemmas.{LacksLines-read}
use Rattle.bus_programs.specs.BusFiles.{ReadsBus}
use Rattle.bus_programs.specs.Inputs.{BusInputs}
use Rattle.bus_commands.specs.Inputs.{AsksOverBus, SetsTask}
use Rattle.bus_commands.specs.Rows.{ComesOfInputs, no_config, config_refused, no_script, script_refused}
use Rattle.bus_programs.specs.BusFiles.{LacksBus, no_file, file_refused}
use Rattle.bus_programs.specs.Scripts.{LacksLines, no_lines, lines_refused, FindsScript}
use Rattle.bus_commands.specs.Steps.{ReadsLines, FindsLines, FindsEvents, HasPayload, IsAny, PreparesLines, PreparesWorld}

-- ---- the bus file

-- there is no bus
pub Comes-no_bus : (i : BusInputs) (row : Row) → AsksOverBus i.words → LacksBus i.config row → IsUnread i.script → ComesOfInputs i row
Comes-no_bus i row asks (no_file fault lacks) unread = no_config fault (asks, lacks, unread)
Comes-no_bus i row asks (file_refused fault text is told) unread = config_refused fault text asks is told unread

-- ---- the lines

-- lines that were read whole
pub FindsLines-read : {A : Type 0} (meaning : List ℕ → Result (List A) Fault) (P : A → Type 0) (script : Reading) (text : List ℕ) (result : Result (Vec A Global) Row)
    → ReadsWhole script text → ReadsLines P (meaning text) result → FindsLines meaning P script result
FindsLines-read meaning P script text (Ok lines) whole is = ((text, whole, is.0), is.1)
FindsLines-read meaning P script text (Err row) whole is = LacksLines-read meaning script text row whole is

-- what was set has no lines
pub Comes-no_lines : {A : Type 0} (i : BusInputs) (task : Task) (meaning : List ℕ → Result (List A) Fault) (row : Row) → SetsTask i task
    → ((text : List ℕ) → fault_of task text ≡ result_err (meaning text)) → LacksLines meaning i.script row → ComesOfInputs i row
Comes-no_lines i task meaning row set is (no_lines fault lacks) = no_script fault (task, set, lacks)
Comes-no_lines i task meaning row set is (lines_refused fault text whole err) =
    script_refused fault (task, set, (text, whole, is text ∙ ap (λ r. result_err r) err))

-- ---- the jobs

abbrev given : List (List ℕ) → Reading → Reading → BusInputs
given words config script = record { words = words; config = config; script = script }

asks_as : (words : List (List ℕ)) (asked is : LineCommand) → asked ≡ is → Asks words (command.Lines asked) → Asks words (command.Lines is)
asks_as words asked is same asks = subst (λ (c : LineCommand). Asks words (command.Lines c)) same asks

pub frames_err : (asked : LineCommand) (config script : Reading) (row : Row) → asked ≡ lines.Frame → IsUnread config → LacksLines frames_of script row
    → PreparesLines asked config script (Err row)
frames_err asked config script row is unread lacks = λ words asks.
    Comes-no_lines (given words config script) frame frames_of row (asks_as words asked lines.Frame is asks, unread) (λ text. refl) lacks

pub judgements_err : (asked : LineCommand) (config script : Reading) (row : Row) → asked ≡ lines.Judge → IsUnread config → LacksLines judges_of script row
    → PreparesLines asked config script (Err row)
judgements_err asked config script row is unread lacks = λ words asks.
    Comes-no_lines (given words config script) judge judges_of row (asks_as words asked lines.Judge is asks, unread) (λ text. refl) lacks

pub check_no_bus : (asked : LineCommand) (config script : Reading) (row : Row) → asked ≡ lines.Check → IsUnread script → LacksBus config row
    → PreparesLines asked config script (Err row)
check_no_bus asked config script row is unread lacks = λ words asks.
    Comes-no_bus (given words config script) row (command.Lines lines.Check, asks_as words asked lines.Check is asks, tt) lacks unread

pub check_no_events : (asked : LineCommand) (config script : Reading) (bus : NamedBus) (row : Row) → asked ≡ lines.Check → ReadsBus config bus
    → LacksLines (events_of bus.nodes) script row → PreparesLines asked config script (Err row)
check_no_events asked config script bus row is reads lacks = λ words asks.
    Comes-no_lines (given words config script) (check bus) (events_of bus.nodes) row (asks_as words asked lines.Check is asks, reads) (λ text. refl) lacks

pub frames_ok : (asked : LineCommand) (config script : Reading) (found : Vec FrameLine Global) → asked ≡ lines.Frame → IsUnread config
    → FindsLines frames_of HasPayload script (Ok found) → PreparesLines asked config script (Ok (Frames found))
frames_ok asked config script found is unread finds = λ words asks.
    (finds.1, (frame, (asks_as words asked lines.Frame is asks, unread), finds.0))

pub judgements_ok : (asked : LineCommand) (config script : Reading) (found : Vec JudgeLine Global) → asked ≡ lines.Judge → IsUnread config
    → FindsLines judges_of IsAny script (Ok found) → PreparesLines asked config script (Ok (Judgements found))
judgements_ok asked config script found is unread finds = λ words asks.
    (finds.1, (judge, (asks_as words asked lines.Judge is asks, unread), finds.0))

pub check_ok : (asked : LineCommand) (config script : Reading) (bus : NamedBus) (found : Vec Event Global) → asked ≡ lines.Check → ReadsBus config bus
    → FindsScript events_of bus script (Ok found) → PreparesLines asked config script (Ok (Events bus found))
check_ok asked config script bus found is reads finds = λ words asks.
    (finds.1.0, (check bus, (asks_as words asked lines.Check is asks, reads), (finds.0.0, finds.0.1, (refl, finds.0.2))))

pub world_no_bus : (asked : WorldCommand) (config script : Reading) (row : Row) → IsUnread script → LacksBus config row
    → PreparesWorld asked config script (Err row)
world_no_bus asked config script row unread lacks = λ words asks.
    Comes-no_bus (given words config script) row (command.World asked, asks, tt) lacks unread

pub world_no_events : (asked : WorldCommand) (config script : Reading) (bus : NamedBus) (row : Row) → ReadsBus config bus
    → FindsEvents asked bus script (Err row) → PreparesWorld asked config script (Err row)
world_no_events (Replay start) config script bus row reads lacks = λ words asks.
    Comes-no_lines (given words config script) (replay start bus) (events_of bus.nodes) row (asks, reads) (λ text. refl) lacks
world_no_events (Trial trial) config script bus row reads lacks = λ words asks.
    subst (ComesOfInputs (given words config script)) (sym lacks.1)
    (no_config input.Memory ((command.World (Trial trial), asks, tt), Lacks-whole config reads.0 reads.1, lacks.0))

pub world_ok : (asked : WorldCommand) (config script : Reading) (bus : NamedBus) (found : Vec Event Global) → IsNamedBus bus → ReadsBus config bus
    → FindsEvents asked bus script (Ok found) → PreparesWorld asked config script (Ok (record { command = asked; bus = bus; events = found }))
world_ok (Replay start) config script bus found named reads finds = λ words asks.
    ((named, finds.1), record { asks = asks; of_bus = reads; has = finds.0 })
world_ok (Trial trial) config script bus found named reads finds = λ words asks.
    ((named, finds.1.1), record { asks = asks; of_bus = reads; has = (finds.0, finds.1.0) })
