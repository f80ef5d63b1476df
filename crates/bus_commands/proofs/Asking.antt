-- Words ask for one command, and it sets one task
use Rattle.std.specs.Prelude.{◌≡◌, ℕ, ◌≤◌, ◌&&◌, nat_le, Bool, cond, List, [], ◌∷◌, get_or, Option, None, Some, codes}
use Rattle.std.specs.Str.Parse.{digits_value}
use Rattle.std.proofs.Common.{sym, ap, ◌∙◌, subst, arith}
use Rattle.text_lines.specs.Forms.{is_number, number_form}
use Rattle.bus_config.specs.Buses.{NamedBus}
use Rattle.bus_machine.specs.declared.events.Event.{Event}
use Rattle.bus_world.specs.declared.start.Start.{Start}
use Rattle.bus_programs.proofs.CallerLemmas.{same_bus}
use Rattle.bus_commands.specs.declared.trial_words.TrialWords.{TrialWords}
use Rattle.bus_commands.specs.TrialWords.{NamesTrial}
use Rattle.bus_commands.specs.declared.words.Command.{Command}
use Rattle.bus_commands.specs.declared.words.Command.TheVariants.{Lines, World}
use Rattle.bus_commands.specs.declared.words.LineCommand.TheVariants as lines
use Rattle.bus_commands.specs.declared.words.WorldCommand.{WorldCommand}
use Rattle.bus_commands.specs.declared.words.WorldCommand.TheVariants.{Replay, Trial}
use Rattle.bus_commands.specs.Words.{Asks, IsDefault, NamesCommand, NamesBusCommand, NamesCommandOfFour}
use Rattle.bus_commands.specs.Tasks.{Task, frame, judge, check, replay}
use Rattle.bus_programs.specs.Inputs.{BusInputs}
use Rattle.bus_commands.specs.Inputs.{NeedsBus, AsksOverBus, SetsTask, OffersTask, SetsWorld}
use Rattle.bus_commands.specs.Steps.{HasFewEvents}

-- ---- the number of events

in_range : (a : Bool) (value least most n : ℕ) → cond (a && nat_le least value && nat_le value most) (Some value) None ≡ Some n → (least ≤ n) × (n ≤ most)
in_range a value least most n h = (grind arith, grind arith)

number_within : (least most : ℕ) (word : List ℕ) (n : ℕ) → number_form least most word ≡ Some n → (least ≤ n) × (n ≤ most)
unfolding number_form
number_within least most word n h = in_range (is_number word) (digits_value 10 word) least most n h

-- words ask for a trial of 1 to 60,000 events
pub few_events : (words : List (List ℕ)) (c : WorldCommand) → Asks words (World c) → HasFewEvents c
few_events words (Replay start) asks = tt
few_events (word ∷ bus ∷ count ∷ seed ∷ []) (Trial trial) asks = number_within 1 60000 count trial.count asks.is_counted
few_events words c asks = absurd (omega arith)

-- ---- one command

same_number : (o : Option ℕ) (m n : ℕ) → o ≡ Some m → o ≡ Some n → m ≡ n
same_number o m n one other = cc

-- words name one trial
one_trial : (word count seed : List ℕ) (trial again : TrialWords) → NamesTrial word count seed trial → NamesTrial word count seed again → trial ≡ again
one_trial word count seed trial again one other =
    let counts : trial.count ≡ again.count = same_number (number_form 1 60000 count) trial.count again.count one.is_counted other.is_counted in
    let seeds : trial.seed ≡ again.seed = same_number (number_form 0 18446744073709551615 seed) trial.seed again.seed one.is_seeded other.is_seeded in
    λ i. record { count = counts i; seed = seeds i }

default_one : (c : Command) → IsDefault c → c ≡ Lines lines.Frame
default_one c is = grind arith

named_one : (word : List ℕ) (c d : Command) → NamesCommand word c → NamesCommand word d → c ≡ d
named_one word c d one other = grind arith

named_bus_one : (word : List ℕ) (c d : Command) → NamesBusCommand word c → NamesBusCommand word d → c ≡ d
named_bus_one word c d one other = grind arith

-- no word is `node` and `trial`
pub node_or_trial : {A : Type 0} (word : List ℕ) → word ≡ codes "node" → word ≡ codes "trial" → A
node_or_trial word node trial = absurd (let no : 110 ≡ 116 = ap (λ (l : List ℕ). get_or l 0 0) (sym node ∙ trial) in omega (arith, no))

named_four_one : (word third fourth : List ℕ) (c d : Command) → NamesCommandOfFour word third fourth c → NamesCommandOfFour word third fourth d → c ≡ d
named_four_one word third fourth c d one other = grind (arith, node_or_trial, one_trial)

-- words ask for one command
pub asks_one : (words : List (List ℕ)) (c d : Command) → Asks words c → Asks words d → c ≡ d
asks_one words c d one other = grind (arith, default_one, named_one, named_bus_one, named_four_one)

-- a command that reads no bus file isn't one that does
pub needs_bus : (words : List (List ℕ)) (c : Command) → Asks words c → AsksOverBus words → NeedsBus c
needs_bus words c asks over = subst NeedsBus (asks_one words over.0 c over.1 asks) over.2

-- ---- the command of a task

abbrev pub command_for : Task → Command
command_for frame = Lines lines.Frame
command_for judge = Lines lines.Judge
command_for (check bus) = Lines lines.Check
command_for (replay start bus) = World (Replay start)

pub set_asks : (i : BusInputs) (task : Task) → SetsTask i task → Asks i.words (command_for task)
set_asks i task set = grind arith

pub offered_asks : (i : BusInputs) (task : Task) → OffersTask i task → Asks i.words (command_for task)
offered_asks i task is = grind arith

pub apart : {A : Type 0} (words : List (List ℕ)) (c d : Command) → Asks words c → Asks words d → (c ≡ d → ⊥) → A
apart words c d one other differ = absurd (differ (asks_one words c d one other))

-- no task is a trial
pub no_trial : {A : Type 0} (words : List (List ℕ)) (task : Task) (trial : TrialWords) → Asks words (command_for task) → Asks words (World (Trial trial)) → A
no_trial words task trial one other = grind (arith, apart)

pub same_start : (one other : Start) → World (Replay one) ≡ World (Replay other) → one ≡ other
same_start one other is = cc

-- the task that is set is the one that is offered
pub same_task : (i : BusInputs) (set offered : Task) → SetsTask i set → OffersTask i offered → set ≡ offered
same_task i set offered sets tells = grind (arith, apart, same_bus, same_start, asks_one)

-- a replay that is set is a task
pub replay_task : (i : BusInputs) (start : Start) (bus : NamedBus) (events : List Event) → SetsWorld i (Replay start) bus events → SetsTask i (replay start bus)
replay_task i start bus events set = (set.asks, set.of_bus)
