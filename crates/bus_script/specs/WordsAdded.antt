-- What writing a line adds word by word.
use Rattle.std.specs.Prelude.{◌≡◌, ℕ, List, ◌∷◌, ◌++◌}
use Rattle.std.specs.List.{flat_map}

-- a space, which is 32, and a word
abbrev pub behind_space : List ℕ → List ℕ
behind_space word = 32 ∷ word

-- these words were added, each after a space
abbrev pub AddsWords : List ℕ → List ℕ → List (List ℕ) → Type 0
AddsWords old new words = new ≡ old ++ flat_map behind_space words

-- one word was added
abbrev pub AddsWord : List ℕ → List ℕ → List ℕ → Type 0
AddsWord old new word = new ≡ old ++ 32 ∷ word
