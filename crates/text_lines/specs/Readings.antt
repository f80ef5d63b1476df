-- What reading a text line by line gives: the list of what its lines mean, or the first fault.
use Rattle.std.specs.Prelude.{◌≡◌, ◌⊎◌, ℕ, ◌-◌, ◌==◌, ◌<◌, nat_le, if◌then◌else◌, List, [], ◌∷◌, ◌++◌, length, take}
use Rattle.std.specs.Prelude.{slice_index_or, Option, Some, Result, Ok, Err, Vec}
use Rattle.std.specs.List.{slice_get}
use Rattle.std.specs.Option.{ok_or}
use Rattle.std.specs.declared.alloc.Global.{Global}
use Rattle.text_lines.specs.declared.fault.Cause.{Cause}
use Rattle.text_lines.specs.declared.fault.Cause.TheVariants.{Count, Field, TooMany}
use Rattle.text_lines.specs.declared.fault.ScriptFault.{ScriptFault}
use Rattle.text_lines.specs.declared.fault.ScriptFault.TheVariants.{At, Memory}
use Rattle.text_lines.specs.declared.fault.LineFault.{LineFault}
use Rattle.text_lines.specs.declared.fault.LineFault.TheVariants.{Refused, OutOfMemory}
use Rattle.text_lines.specs.Lines.{TextLine, lines_of}

-- the number of a line, and why it is refused
pub record Fault : Type 0 where
  pub line : ℕ
  pub cause : Cause

-- the ? of these definitions: the second step, if the first gave a value
infixl 10 ◌>>=◌
abbrev pub ◌>>=◌ : {A B E : Type 0} → Result A E → (A → Result B E) → Result B E
Ok x >>= f = f x
Err e >>= f = Err e

-- word n of a line, counted from 1
abbrev pub nth_word : List (List ℕ) → ℕ → List ℕ
nth_word words n = slice_index_or words (n - 1) []

-- the value of word n, which is to be of a form
abbrev pub field : {A : Type 0} → ℕ → Option A → Result A Cause
field n value = ok_or value (Field n)

-- what the words of a line give, if there are n of them
abbrev pub with_count : {A : Type 0} → ℕ → List (List ℕ) → Result A Cause → Result A Cause
with_count n words meaning = if length words == n then meaning else Err Count

-- what a line gives, or the fault with the number of the line
abbrev pub at_line : {A : Type 0} → ℕ → Result A Cause → Result A Fault
at_line number (Ok x) = Ok x
at_line number (Err cause) = Err (record { line = number; cause = cause })

-- the most lines that a text may have if a program names no other number
abbrev pub most_lines : ℕ
most_lines = 65536

-- what a line gives after this number of others, if at most `most` are read
abbrev pub limited : {A : Type 0} → ℕ → ℕ → Result A Cause → Result A Cause
limited most before meaning = if nat_le most before then Err TooMany else meaning

-- the values that lines give in their order, after those that were given before, or the first fault
unfoldable pub read_from : {A : Type 0} → (List A → List (List ℕ) → Result A Cause) → ℕ → List A → List TextLine
    → Result (List A) Fault
read_from means most values [] = Ok values
read_from means most values (line ∷ lines) = do
  value ← at_line line.number (limited most (length values) (means values line.words))
  read_from means most (values ++ value ∷ []) lines

-- what a whole text gives, at most `most` lines of it. `means` says what the words of a line give after the values of
-- the lines before it
abbrev pub read_all : {A : Type 0} → (List A → List (List ℕ) → Result A Cause) → ℕ → List ℕ → Result (List A) Fault
read_all means most text = read_from means most [] (lines_of text)

-- an answer is what the definition says, the fault with its line and cause; out of memory is free
abbrev pub Gives : {A : Type 0} → Result (List A) Fault → Result (Vec A Global) ScriptFault → Type 0
Gives meaning (Ok v) = meaning ≡ Ok v.items
Gives meaning (Err (At line cause)) = meaning ≡ Err (record { line = line; cause = cause })
Gives meaning (Err Memory) = Unit {0}

-- the same of one line
abbrev pub GivesLine : {A : Type 0} → Result A Cause → Result A LineFault → Type 0
GivesLine meaning (Ok x) = meaning ≡ Ok x
GivesLine meaning (Err (Refused cause)) = meaning ≡ Err cause
GivesLine meaning (Err OutOfMemory) = Unit {0}

-- what a line of this number and these words adds to the values before it, or the fault that it is; out of memory is
-- free
abbrev pub ReadsOne : {A : Type 0} → (List A → List (List ℕ) → Result A Cause) → ℕ → ℕ → List (List ℕ) → List A → List A
    → Result (Unit {0}) ScriptFault → Type 0
ReadsOne {A} means most number words before after (Ok done) =
    (value : A) × (limited most (length before) (means before words) ≡ Ok value) × (after ≡ before ++ value ∷ [])
ReadsOne means most number words before after (Err (At line cause)) =
    (line ≡ number) × (limited most (length before) (means before words) ≡ Err cause)
ReadsOne means most number words before after (Err Memory) = Unit {0}

-- these are the values of the lines: as many, and each is what its line gives after the values before it
pub record AreValues {A : Type 0} (means : List A → List (List ℕ) → Result A Cause) (lines : List TextLine)
    (values : List A) : Type 0 where
  pub as_many : length values ≡ length lines
  pub each : (i : ℕ) (line : TextLine) (value : A) → slice_get lines i ≡ Some line → slice_get values i ≡ Some value
      → means (take i values) line.words ≡ Ok value

-- the fault is that of a line before which all lines give values: one that is too many after as many as are read, or
-- one after fewer that gives the cause
pub record IsFirstFault {A : Type 0} (means : List A → List (List ℕ) → Result A Cause) (most : ℕ)
    (lines : List TextLine) (fault : Fault) : Type 0 where
  pub before : List TextLine
  pub here : TextLine
  pub behind : List TextLine
  pub values : List A
  pub parts : lines ≡ before ++ here ∷ behind
  pub given : AreValues means before values
  pub number : fault.line ≡ here.number
  pub refused : ((length values ≡ most) × (fault.cause ≡ TooMany))
      ⊎ ((length values < most) × (means values here.words ≡ Err fault.cause))
