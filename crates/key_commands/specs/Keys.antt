-- What a key command promises
use Rattle.std.specs.Prelude.{◌≡◌, ◌⊎◌, ◌≤◌, true, ℕ, List, [], ◌∷◌, length, Ok, Err, codes}
use Rattle.std.specs.List.{list_all}
use Rattle.program_edge.specs.declared.input.InputFault.TheVariants.{ReadFault, TooLong}
use Rattle.memory_update.specs.declared.messages.Request.{Request}
use Rattle.secoc_words.specs.Frames.{loads_of}
use Rattle.text_lines.specs.Readings.{Fault}
use Rattle.text_lines.specs.Texts.{fault_text_of}
use Rattle.program_edge.specs.Inputs.{Lacks, CountsFault, CountsTooMuch, Offers}
use Rattle.program_edge.specs.Endings.{Ending, EndsIn, MayEndIn, PrintsWhole, PrintsFront}
use Rattle.program_edge.specs.Endings.{SinkFailed, CountsWriteFault}
use Rattle.key_commands.specs.Loads.{IsRequestFault}
use Rattle.key_commands.specs.Promises.{AnswersNone, EndsAtOne, HasNoEngine, LeavesImages, LeavesOthers, LoadsAll}
use Rattle.key_commands.specs.Promises.{OffersEngine, OffersRequests, RefusesStore, StopsAtOne}
use Rattle.key_commands.specs.declared.subcommands.Subcommand.{Subcommand}
use Rattle.key_commands.specs.declared.subcommands.Subcommand.TheVariants as subcommand
use Rattle.key_commands.specs.declared.tasks.Task.{Task}
use Rattle.key_commands.specs.declared.tasks.Task.TheVariants.{Load}
use Rattle.key_commands.specs.declared.tasks.BadValue.{BadValue}
use Rattle.key_commands.specs.Subcommands.{name_of, values_of}
use Rattle.key_commands.specs.Parsing.{is_plain}
use Rattle.key_commands.specs.Tasks.{task_of, load_task}
use Rattle.key_commands.specs.Texts.{key_usage, value_text, Denies, PrintsDone}
use Rattle.key_commands.specs.Rows.{KeyInputs, IsAsBefore, NamesSome, IsRefused, AsksFor, AsksLoad, AsksNoLoad}
use Rattle.key_commands.specs.Rows.{IsNoLoad, OverLoad, KeyComes, EndsKey, EndsAsked, load_inputs}

-- a subcommand's name and as many values as it has, each without `-` at its beginning
abbrev pub IsPlainCall : List (List ℕ) → Subcommand → List (List ℕ) → Type 0
IsPlainCall words s values =
    (words ≡ name_of s ∷ values) × (length values ≡ length (values_of s)) × (list_all is_plain values ≡ true)

-- what a run promises that has these inputs and ends so, in the order of the table of answers
pub record Keys {S D : Type 0} (i : KeyInputs S D) (e : Ending) : Type 0 where
  -- The program prints a row of the table and ends with its status, or at 6 a prefix of one; or it loads requests and
  -- answers in lines.
  pub ends : EndsKey i e
  -- Of plain values it is a row of what they ask for, or a load: they are taken as they are.
  pub plain : (s : Subcommand) (values : List (List ℕ)) → IsPlainCall i.words s values
      → EndsAsked i (task_of s values) e
  -- 0: exactly the request that is built was printed, the update that is carried, that the reply confirms, or the MAC.
  pub done : AsksNoLoad i.words → e.status ≡ 0 → (task : Task) × AsksFor i.words (Ok task)
      × ((text : List ℕ) × PrintsDone task text × PrintsWhole e text)
  -- 1: exactly if ID or AuthID is no slot's, M3 is wrong, or the reply doesn't confirm, with the line that says so.
  pub denied : e.status ≡ 1 → (task : Task) × AsksFor i.words (Ok task)
      × ((text : List ℕ) × Denies task text × PrintsWhole e text)
  pub denied_only : (task : Task) (text : List ℕ) → AsksFor i.words (Ok task) → Denies task text → MayEndIn 1 e
  -- 2: exactly if the arguments name no subcommand, or clap refuses them for another cause than memory; the usage line.
  pub usage : e.status ≡ 2 → IsRefused i.words × PrintsWhole e key_usage
  pub usage_only : IsRefused i.words → MayEndIn 2 e
  -- 3: exactly if a value isn't of its form; the first is named.
  pub wrong_value : e.status ≡ 3 → (bad : BadValue) × AsksFor i.words (Err bad) × PrintsWhole e (value_text bad.number)
  pub wrong_value_only : (bad : BadValue) → AsksFor i.words (Err bad) → MayEndIn 3 e
  -- 0 of a load: all requests of the whole input are answered, none failed, and exactly the answers were printed.
  pub loaded : (uid : List ℕ) → AsksLoad i.words uid → e.status ≡ 0 → LoadsAll (load_inputs i uid) e
  -- 4: only of a load. The input was read whole, and its first fault is printed.
  pub refused : e.status ≡ 4 → OverLoad i (λ l. (fault : Fault) × IsRequestFault l.request fault
      × PrintsWhole e (fault_text_of fault))
  pub refused_only : (uid text : List ℕ) (fault : Fault) → AsksLoad i.words uid → Offers i.reading text
      → loads_of text ≡ Err fault → MayEndIn 4 e
  -- 5: only of a load, exactly if the count of faults rose of the source of requests.
  pub read_fault : e.status ≡ 5 → OverLoad i (λ l. Lacks l.request ReadFault × PrintsWhole e (codes "read fault\n"))
  pub read_fault_only : CountsFault i.reading → EndsIn 5 e
  -- 8: only of a load, exactly if one byte more than an input may have came from the source of requests.
  pub too_long : e.status ≡ 8 → OverLoad i (λ l. Lacks l.request TooLong × PrintsWhole e (codes "input too long\n"))
  pub too_long_only : CountsTooMuch i.reading → EndsIn 8 e
  -- 9: only of a load. There is no disk, or the first gives no engine; the first cause that applies is printed.
  pub store_refused : e.status ≡ 9 → OverLoad i (λ l. RefusesStore l e)
  pub store_refused_only : (uid : List ℕ) (requests : List Request) → AsksLoad i.words uid
      → OffersRequests (load_inputs i uid) requests → HasNoEngine (load_inputs i uid) → MayEndIn 9 e
  -- 10: only of a load. The disk's count rose in the load of a request that is taken; the answers before it and its own
  -- were printed.
  pub load_failed : e.status ≡ 10 → OverLoad i (λ l. StopsAtOne l e)
  -- At 0 and 10 of a load each image of the first disk stands for the cells after the lines. At 10 it has the last
  -- change or not. The bytes before and after the store are as they were.
  pub images : (uid : List ℕ) → AsksLoad i.words uid → (e.status ≡ 0) ⊎ (e.status ≡ 10)
      → LeavesImages (load_inputs i uid) e
  -- 6 and 7 of a load: no request was answered, at 7 with the disk's count as before; or those up to one were, whose
  -- line wasn't written whole.
  pub load_early_ends : (uid : List ℕ) → AsksLoad i.words uid → (e.status ≡ 6) ⊎ (e.status ≡ 7)
      → AnswersNone (load_inputs i uid) e ⊎ EndsAtOne (load_inputs i uid) e
  -- 4, 5 and what is above 7 come of a load alone.
  pub load_alone : (e.status ≡ 4) ⊎ (e.status ≡ 5) ⊎ (8 ≤ e.status) → (uid : List ℕ) × AsksLoad i.words uid
  -- 6: exactly if the sink's count of faults rose. A prefix was written of a row that comes; or of a load the answers
  -- before one, and a prefix of this.
  pub write_fault : e.status ≡ 6 → SinkFailed e × (PrintsFront (KeyComes i) e ⊎ OverLoad i (λ l. EndsAtOne l e))
  pub write_fault_only : CountsWriteFault e → e.status ≡ 6
  -- 7: only if the arguments name a subcommand; nothing was written, or of a load the answers before one.
  pub no_memory : e.status ≡ 7 → NamesSome i.words × (PrintsWhole e [] ⊎ OverLoad i (λ l. EndsAtOne l e))
  -- Plain values of their forms are done or refused by their messages, if the sink didn't fail and there was memory.
  pub complete : (s : Subcommand) (values : List (List ℕ)) (task : Task)
      → IsPlainCall i.words s values → task_of s values ≡ Ok task → IsNoLoad task
      → ¬ SinkFailed e → (e.status ≡ 0) ⊎ (e.status ≡ 1) ⊎ (e.status ≡ 7)
  -- Valid requests over a good store are loaded, if no port failed and there was memory.
  pub load_complete : (values : List (List ℕ)) (uid : List ℕ) (requests : List Request)
      → IsPlainCall i.words subcommand.Load values → load_task values ≡ Ok (Load uid)
      → OffersRequests (load_inputs i uid) requests → OffersEngine (load_inputs i uid)
      → ¬ SinkFailed e → (e.status ≡ 0) ⊎ (e.status ≡ 7)
  -- The source of requests and the disks are as before if no load is asked for, whatever the status, and at 2 and 3.
  pub source : AsksNoLoad i.words ⊎ (e.status ≡ 2) ⊎ (e.status ≡ 3) → IsAsBefore i.request
  pub disks : AsksNoLoad i.words ⊎ (e.status ≡ 2) ⊎ (e.status ≡ 3) → IsAsBefore i.disks
  -- A load leaves the disks past the first as before, and at 4, 5, 8 and 9 the first.
  pub others : (uid : List ℕ) → AsksLoad i.words uid → LeavesOthers (load_inputs i uid) e
