-- Runs of a machine, each as one list of moments.
use Rattle.std.specs.Prelude.{◌≡◌, List, [], ◌∷◌, ◌++◌, map}

-- a command, its line, and the state after it
pub record Moment (C L S : Type 0) : Type 0 where
  pub command : C
  pub line : L
  pub after : S

abbrev pub commands_in : {C L S : Type 0} → List (Moment C L S) → List C
commands_in moments = map (λ m. m.command) moments

abbrev pub lines_in : {C L S : Type 0} → List (Moment C L S) → List L
lines_in moments = map (λ m. m.line) moments

-- from the state `start` these moments are steps, one after another, and the last leaves the state `now`
abbrev pub Run : {C L S : Type 0} → (S → C → L → S → Type 0) → S → List (Moment C L S) → S → Type 0
Run steps start [] now = now ≡ start
Run steps start (m ∷ ms) now = steps start m.command m.line m.after × Run steps m.after ms now

-- these moments as those of another machine
abbrev pub seen_as : {C L S D T : Type 0} → (C → D) → (S → T) → List (Moment C L S) → List (Moment D L T)
seen_as command state moments =
    map (λ m. record { command = command m.command; line = m.line; after = state m.after }) moments

-- the moments of another machine that these are made of, if each is made of those that `parts` gives
abbrev pub made_of : {C L S D K T : Type 0} → (S → Moment C L S → List (Moment D K T)) → S → List (Moment C L S)
    → List (Moment D K T)
made_of parts start [] = []
made_of parts start (m ∷ ms) = parts start m ++ made_of parts m.after ms
