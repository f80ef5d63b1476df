-- What arguments ask for and name, by how many they are
use Rattle.std.specs.Prelude.{◌≡◌, ℕ, List, [], ◌∷◌, Option, Some, None, option_map, IfSome, IfNone, codes}
use Rattle.std.proofs.Common.{arith, refl}
use Rattle.bus_world.specs.declared.start.Start.{Start}
use Rattle.bus_world.specs.declared.start.Start.TheVariants.{Format, Attach}
use Rattle.bus_commands.specs.declared.words.Command.{Command}
use Rattle.bus_commands.specs.declared.words.Command.TheVariants.{Lines, World}
use Rattle.bus_commands.specs.declared.words.LineCommand.TheVariants.{Frame}
use Rattle.bus_commands.specs.declared.words.WorldCommand.TheVariants.{Replay, Trial}
use Rattle.bus_commands.specs.declared.trial_words.TrialWords.{TrialWords}
use Rattle.bus_commands.specs.Words.{Asks, AsksNothing, AsksSomething, NamesConfig, NamesScript, NamesDisk}
use Rattle.bus_commands.specs.Words.{AreInput, IsTheWord, IsAsked}
use Rattle.bus_commands.proofs.Asking.{node_or_trial}

-- ---- malformed arguments

config_asks : (words : List (List ℕ)) (name : List ℕ) → NamesConfig words name → AsksSomething words
config_asks words name names = grind arith

script_asks : (words : List (List ℕ)) (name : List ℕ) → NamesScript words name → AsksSomething words
script_asks [] name names = (Lines Frame, tt)
script_asks (word ∷ file ∷ []) name names = names.0
script_asks (word ∷ bus ∷ file ∷ []) name names = names.0
script_asks (word ∷ bus ∷ file ∷ disk ∷ []) name names = (World (Replay Attach), names.0)
script_asks words name names = absurd (omega arith)

-- words that name a disk ask for `node`, which runs over it
pub names_node : (words : List (List ℕ)) (name : List ℕ) → NamesDisk words name → Asks words (World (Replay Attach))
names_node words name names = grind arith

-- they name nothing
pub nothing_asked : (words : List (List ℕ)) (command : Option Command) (config script disk : Option (List ℕ))
    → command ≡ None → config ≡ None → script ≡ None → disk ≡ None
    → AsksNothing words → IsAsked words command config script disk
nothing_asked words command config script disk no_command no_config no_script no_disk nothing =
    rw (no_command, no_config, no_script, no_disk) (record {
      asks = nothing;
      names_config = λ name names. let some = config_asks words name names in nothing some.0 some.1;
      names_script = λ name names. let some = script_asks words name names in nothing some.0 some.1;
      names_disk = λ name names. nothing (World (Replay Attach)) (names_node words name names);
    })

-- ---- a command

pub two_asked : (name file : List ℕ) (command : Command) → Asks (name ∷ file ∷ []) command
    → IsAsked (name ∷ file ∷ []) (Some command) None (Some file) None
two_asked name file command asks = record {
  asks = asks;
  names_config = λ word names. names;
  names_script = ((command, asks), refl);
  names_disk = λ word names. names;
}

-- the script's word, unless both words are standard input
pub beside_named : {W : Type 0} (text : W → List ℕ) (found : Option W) (bus file : List ℕ) (S : Type 0) → S
    → IfSome found (λ w. (text w ≡ file) × ¬ AreInput bus file) → IfNone found (AreInput bus file)
    → IsTheWord (λ name. S × (name ≡ file) × ¬ AreInput bus file) (option_map text found)
beside_named text (Some w) bus file S s some none = (s, some.0, some.1)
beside_named text None bus file S s some none = λ name names. names.2 none

pub three_asked : (name bus file : List ℕ) (command : Command) (script : Option (List ℕ))
    → Asks (name ∷ bus ∷ file ∷ []) command → IsTheWord (NamesScript (name ∷ bus ∷ file ∷ [])) script
    → IsAsked (name ∷ bus ∷ file ∷ []) (Some command) (Some bus) script None
three_asked name bus file command script asks names = record {
  asks = asks;
  names_config = ((command, asks), refl);
  names_script = names;
  names_disk = λ word no. no;
}

pub four_replay : (name bus third fourth : List ℕ) (start : Start) (script : Option (List ℕ))
    → Asks (name ∷ bus ∷ third ∷ fourth ∷ []) (World (Replay start))
    → (name ≡ codes "node" → IsTheWord (NamesScript (name ∷ bus ∷ third ∷ fourth ∷ [])) script)
    → IsAsked (name ∷ bus ∷ third ∷ fourth ∷ []) (Some (World (Replay start))) (Some bus) script (Some fourth)
four_replay name bus third fourth Format script asks names = absurd asks
four_replay name bus third fourth Attach script asks names = record {
  asks = asks;
  names_config = ((World (Replay Attach), asks), refl);
  names_script = names asks;
  names_disk = (asks, refl);
}

pub four_trial : (name bus third fourth : List ℕ) (trial : TrialWords)
    → Asks (name ∷ bus ∷ third ∷ fourth ∷ []) (World (Trial trial))
    → IsAsked (name ∷ bus ∷ third ∷ fourth ∷ []) (Some (World (Trial trial))) (Some bus) None None
four_trial name bus third fourth trial asks = record {
  asks = asks;
  names_config = ((World (Trial trial), asks), refl);
  names_script = λ word names. node_or_trial name names.0 asks.is_named;
  names_disk = λ word names. node_or_trial name names.0 asks.is_named;
}
