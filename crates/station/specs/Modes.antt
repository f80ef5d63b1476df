-- What station says of the mode of a store's file, on standard error
use Rattle.std.specs.Prelude.{◌≡◌, ◌⊎◌, ℕ, List, ◌∷◌, ◌++◌, codes, Option, None, Some}
use Rattle.bus_port.specs.Sink.{SinkState}
use Rattle.program_edge.specs.Told.{EndingTold}

-- the file of a store among the arguments: the third
abbrev pub store_word : List (List ℕ) → Option (List ℕ)
store_word (slots ∷ name ∷ file ∷ more) = Some file
store_word words = None

-- `station: others may read FILE`
abbrev pub open_mode_text : List ℕ → List ℕ
open_mode_text file = codes "station: others may read " ++ (file ++ codes "\n")

-- Nothing was written, or the line of the store's file, or a proper prefix of it if the sink failed. Which file the mode
-- is of, and what it is, isn't known.
abbrev pub TellsMode : List (List ℕ) → SinkState → SinkState → Type 0
TellsMode words before after =
    (after ≡ before) ⊎ ((file : List ℕ) × (status : ℕ) × (store_word words ≡ Some file)
    × EndingTold before after (open_mode_text file) 0 status)
