-- What a command leaves unread, and what it did at 0, by the arguments that ask for it
use Rattle.std.specs.Prelude.{ℕ, List}
use Rattle.std.proofs.Common.{arith, subst}
use Rattle.program_edge.specs.Rows.{Row}
use Rattle.program_edge.specs.Inputs.{IsUnread, ReadsWhole}
use Rattle.program_edge.specs.Endings.{Ending, PrintsWhole}
use Rattle.bus_world.specs.StartAnswers.{DiskStates}
use Rattle.bus_commands.specs.declared.trial_words.TrialWords.{TrialWords}
use Rattle.bus_commands.specs.declared.words.Command.{Command}
use Rattle.bus_commands.specs.declared.words.Command.TheVariants.{World}
use Rattle.bus_commands.specs.declared.words.WorldCommand.TheVariants.{Trial}
use Rattle.bus_commands.specs.Words.{Asks}
use Rattle.bus_commands.specs.Tasks.{Task}
use Rattle.bus_commands.specs.Texts.{IsOutput}
use Rattle.bus_programs.specs.Inputs.{BusInputs}
use Rattle.bus_commands.specs.Inputs.{AsksOverBus, SetsTask}
use Rattle.bus_commands.specs.StartRows.{CommandDisks}
use Rattle.bus_commands.specs.Rows.{ComesOfInputs, ComesInRun}
use Rattle.bus_commands.specs.Table.{DoesAll}
use Rattle.bus_commands.proofs.Asking.{apart, asks_one, set_asks, no_trial}

-- ---- the bus file

set_unread : (i : BusInputs) (task : Task) → ¬ AsksOverBus i.words → SetsTask i task → IsUnread i.config
set_unread i task lacks set = grind arith

inputs_config_unread : (i : BusInputs) (row : Row) → ComesOfInputs i row → ¬ AsksOverBus i.words → IsUnread i.config
inputs_config_unread i row comes lacks = grind (arith, set_unread)

module _ {V : Type 0} where
  -- words that ask for no command with a bus file leave it unread
  pub row_config_unread : (i : BusInputs) (d : CommandDisks V) (row : Row) → ComesInRun i d row → ¬ AsksOverBus i.words → IsUnread i.config
  row_config_unread i d row comes lacks = grind (arith, inputs_config_unread)

-- ---- the lines

inputs_lines_unread : (i : BusInputs) (row : Row) (trial : TrialWords) → ComesOfInputs i row → Asks i.words (World (Trial trial)) → IsUnread i.script
inputs_lines_unread i row trial comes asks = grind (arith, no_trial, set_asks)

module _ {V : Type 0} where
  -- a trial leaves them unread
  pub row_lines_unread : (i : BusInputs) (d : CommandDisks V) (row : Row) (trial : TrialWords) → ComesInRun i d row → Asks i.words (World (Trial trial)) → IsUnread i.script
  row_lines_unread i d row trial comes asks = grind (arith, inputs_lines_unread, apart)

-- ---- what was done at 0

-- a command is asked for, and it did all
abbrev pub AskedIsDone : BusInputs → DiskStates → Ending → Type 0
AskedIsDone i d e = (asked : Command) × Asks i.words asked × DoesAll asked i d e

-- what was printed of lines is the answer of the command that sets them
pub answers_done : (i : BusInputs) (d : DiskStates) (e : Ending) (task : Task) (read text : List ℕ) → SetsTask i task → ReadsWhole i.script read → IsOutput task read text → PrintsWhole e text
    → AskedIsDone i d e
answers_done i d e task read text set whole prints well = grind arith

-- the command that is asked for is the one that did all
pub done_of : (i : BusInputs) (d : DiskStates) (e : Ending) (c : Command) → Asks i.words c → AskedIsDone i d e → DoesAll c i d e
done_of i d e c asks (asked, also, does) = subst (λ (x : Command). DoesAll x i d e) (asks_one i.words asked c also asks) does
