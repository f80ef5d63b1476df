-- What driving a machine over commands leaves of it, and of what its lines are handed to.
use Rattle.std.specs.Prelude.{◌≡◌, ℕ, ◌+◌, List, [], ◌∷◌, ◌++◌, length, take, Result, Ok, Err, MatchResult}
use Rattle.machine_runs.specs.Run.{Moment, Run, commands_in, lines_in}

-- for some first of the commands, what was done is a run, one moment a command, and this holds of its moments
pub record FirstDone {C L S : Type 0} (steps : S → C → L → S → Type 0) (start now : S) (commands : List C)
    (Holds : List (Moment C L S) → Type 0) : Type 0 where
  pub moments : List (Moment C L S)
  pub run : Run steps start moments now
  pub first : commands_in moments ≡ take (length moments) commands
  pub holds : Holds moments

-- a consumer took up these lines one after another, numbered from `number` on
abbrev pub TakenUp : {L T E : Type 0} → (T → ℕ → L → T → Result (Unit {0}) E → Type 0) → ℕ → T → List L → T → Type 0
TakenUp takes number before [] after = after ≡ before
TakenUp {L} {T} takes number before (line ∷ lines) after =
    (mid : T) × takes before number line mid (Ok tt) × TakenUp takes (number + 1) mid lines after

-- a consumer took up the line of each moment but the last, and refused the line of the last, for this cause
pub record LastRefused {C L S T E : Type 0} (takes : T → ℕ → L → T → Result (Unit {0}) E → Type 0) (before after : T)
    (moments : List (Moment C L S)) (cause : E) : Type 0 where
  pub front : List (Moment C L S)
  pub last : Moment C L S
  pub all : moments ≡ front ++ last ∷ []
  pub mid : T
  pub taken : TakenUp takes 1 before (lines_in front) mid
  pub refused : takes mid (length moments) last.line after (Err cause)

-- the answer: all commands were done, and each line was taken up; or the last that was done is the one whose line was
-- refused
abbrev pub Consumed : {C L S T E : Type 0} → (T → ℕ → L → T → Result (Unit {0}) E → Type 0) → T → T → List C
    → Result (Unit {0}) E → List (Moment C L S) → Type 0
Consumed takes before after commands result moments =
    MatchResult result
    (λ _. (length moments ≡ length commands) × TakenUp takes 1 before (lines_in moments) after)
    (LastRefused takes before after moments)

-- the first commands were done as a run, up to the first whose line was refused, and the lines were handed on
abbrev pub Driven : {C L S T E : Type 0} → (S → C → L → S → Type 0) → (T → ℕ → L → T → Result (Unit {0}) E → Type 0) → S
    → S → T → T → List C → Result (Unit {0}) E → Type 0
Driven steps takes start now before after commands result =
    FirstDone steps start now commands (Consumed takes before after commands result)
