-- The arguments of the command line, and what they ask for.
use Rattle.std.specs.Prelude.{◌≡◌, ℕ, List, [], ◌∷◌, Option, Some, None, codes}
use Rattle.bus_world.specs.declared.start.Start.TheVariants.{Format, Attach}
use Rattle.bus_commands.specs.TrialWords.{NamesTrial}
use Rattle.bus_commands.specs.declared.words.Command.{Command}
use Rattle.bus_commands.specs.declared.words.Command.TheVariants.{Lines, World}
use Rattle.bus_commands.specs.declared.words.LineCommand.TheVariants.{Frame, Judge, Check}
use Rattle.bus_commands.specs.declared.words.WorldCommand.TheVariants.{Replay, Trial}

-- the first of two arguments asks for this command; the second names a file of lines
abbrev pub NamesCommand : List ℕ → Command → Type 0
NamesCommand word (Lines Frame) = word ≡ codes "frame"
NamesCommand word (Lines Judge) = word ≡ codes "judge"
NamesCommand word (Lines Check) = ⊥
NamesCommand word (World command) = ⊥

-- the first of three arguments asks for this command; the others name a bus file and a script
abbrev pub NamesBusCommand : List ℕ → Command → Type 0
NamesBusCommand word (Lines Frame) = ⊥
NamesBusCommand word (Lines Judge) = ⊥
NamesBusCommand word (Lines Check) = word ≡ codes "check"
NamesBusCommand word (World (Replay Format)) = word ≡ codes "replay"
NamesBusCommand word (World (Replay Attach)) = ⊥
NamesBusCommand word (World (Trial trial)) = ⊥

-- the first of four arguments asks for this command; the second names a bus file. The third is a number of events and
-- the fourth a seed, or they name a script and the file of a disk
abbrev pub NamesCommandOfFour : List ℕ → List ℕ → List ℕ → Command → Type 0
NamesCommandOfFour word third fourth (World (Trial trial)) = NamesTrial word third fourth trial
NamesCommandOfFour word third fourth (World (Replay Attach)) = word ≡ codes "node"
NamesCommandOfFour word third fourth (World (Replay Format)) = ⊥
NamesCommandOfFour word third fourth (Lines command) = ⊥

-- with no arguments it is `frame` over standard input
abbrev pub IsDefault : Command → Type 0
IsDefault (Lines Frame) = Unit {0}
IsDefault (Lines Judge) = ⊥
IsDefault (Lines Check) = ⊥
IsDefault (World command) = ⊥

-- the arguments ask for this command; arguments of another form ask for none
abbrev pub Asks : List (List ℕ) → Command → Type 0
Asks [] command = IsDefault command
Asks (word ∷ []) command = ⊥
Asks (word ∷ file ∷ []) command = NamesCommand word command
Asks (word ∷ bus ∷ file ∷ []) command = NamesBusCommand word command
Asks (word ∷ bus ∷ count ∷ seed ∷ []) command = NamesCommandOfFour word count seed command
Asks (word ∷ bus ∷ count ∷ seed ∷ more ∷ words) command = ⊥

-- the arguments are malformed
abbrev pub AsksNothing : List (List ℕ) → Type 0
AsksNothing words = (command : Command) → ¬ Asks words command

-- they ask for this command, or for none
abbrev pub AsksCommand : List (List ℕ) → Option Command → Type 0
AsksCommand words (Some command) = Asks words command
AsksCommand words None = AsksNothing words

-- the arguments are of a form
abbrev pub AsksSomething : List (List ℕ) → Type 0
AsksSomething words = (command : Command) × Asks words command

-- this word names the bus file, which only commands of three and of four words read
abbrev pub NamesConfig : List (List ℕ) → List ℕ → Type 0
NamesConfig [] name = ⊥
NamesConfig (word ∷ []) name = ⊥
NamesConfig (word ∷ file ∷ []) name = ⊥
NamesConfig (word ∷ bus ∷ file ∷ []) name = AsksSomething (word ∷ bus ∷ file ∷ []) × (name ≡ bus)
NamesConfig (word ∷ bus ∷ count ∷ seed ∷ []) name = AsksSomething (word ∷ bus ∷ count ∷ seed ∷ []) × (name ≡ bus)
NamesConfig (word ∷ bus ∷ count ∷ seed ∷ more ∷ words) name = ⊥

-- both words are `-`
abbrev pub AreInput : List ℕ → List ℕ → Type 0
AreInput bus file = (bus ≡ codes "-") × (file ≡ codes "-")

-- this word names the lines: `-`, standard input, with no arguments; a trial has none. If the bus file is standard
-- input already, `-` names nothing
abbrev pub NamesScript : List (List ℕ) → List ℕ → Type 0
NamesScript [] name = name ≡ codes "-"
NamesScript (word ∷ []) name = ⊥
NamesScript (word ∷ file ∷ []) name = AsksSomething (word ∷ file ∷ []) × (name ≡ file)
NamesScript (word ∷ bus ∷ file ∷ []) name = AsksSomething (word ∷ bus ∷ file ∷ []) × (name ≡ file) × ¬ AreInput bus file
NamesScript (word ∷ bus ∷ file ∷ disk ∷ []) name = (word ≡ codes "node") × (name ≡ file) × ¬ AreInput bus file
NamesScript (word ∷ bus ∷ file ∷ disk ∷ more ∷ words) name = ⊥

-- this word names the file of the disk on which a bus goes on
abbrev pub NamesDisk : List (List ℕ) → List ℕ → Type 0
NamesDisk [] name = ⊥
NamesDisk (word ∷ []) name = ⊥
NamesDisk (word ∷ bus ∷ []) name = ⊥
NamesDisk (word ∷ bus ∷ file ∷ []) name = ⊥
NamesDisk (word ∷ bus ∷ file ∷ disk ∷ []) name = (word ≡ codes "node") × (name ≡ disk)
NamesDisk (word ∷ bus ∷ file ∷ disk ∷ more ∷ words) name = ⊥

-- the argument for which this holds, or none, if there is no such one
abbrev pub IsTheWord : (List ℕ → Type 0) → Option (List ℕ) → Type 0
IsTheWord names None = (name : List ℕ) → ¬ names name
IsTheWord names (Some name) = names name

-- what these arguments ask for, and which of them name the bus file, the lines and a disk
pub record IsAsked (words : List (List ℕ)) (command : Option Command)
    (config script disk : Option (List ℕ)) : Type 0 where
  pub asks : AsksCommand words command
  pub names_config : IsTheWord (NamesConfig words) config
  pub names_script : IsTheWord (NamesScript words) script
  pub names_disk : IsTheWord (NamesDisk words) disk
