-- What words of a command line name
use Rattle.std.specs.Prelude.{◌≡◌, ℕ, Bool, true, false, if◌then◌else◌, List, [], ◌∷◌, ◌++◌, codes, bytes_eq}
use Rattle.std.specs.Prelude.{Option, Some, None, unwrap_or}
use Rattle.bus_port.specs.Source.{SourceState}
use Rattle.program_edge.specs.Inputs.{Reading}
use Rattle.program_edge.specs.declared.word_sources.WordSource.{WordSource}
use Rattle.program_edge.specs.declared.word_sources.WordSource.TheVariants.{Opened, Input, Missing}

-- a source that isn't there, and that counted these faults
abbrev pub missing_source : ℕ → SourceState
missing_source faults = record { told = None; taken = 0; faults = faults }

-- what is known of such a source is what is known of the one that it stands for
abbrev pub word_source : {O I : Type 0} → (O → SourceState) → (I → SourceState) → WordSource O I → SourceState
word_source opened input (Opened source) = opened source
word_source opened input (Input source) = input source
word_source opened input (Missing source) = missing_source source

-- whether what a word names is a source that isn't there
abbrev pub is_missing : {O I : Type 0} → WordSource O I → Bool
is_missing (Opened _) = false
is_missing (Input _) = false
is_missing (Missing _) = true

-- nothing came from it yet, and it counted no fault
abbrev pub IsFresh : SourceState → Type 0
IsFresh source = (source.taken ≡ 0) × (source.faults ≡ 0)

-- the arguments that were opened so far, the oldest first, and the input, until a word names it
pub record Openings : Type 0 where
  pub opened : List (List ℕ)
  pub input : Option SourceState

abbrev pub openings : List (List ℕ) → Option SourceState → Openings
openings opened input = record { opened = opened; input = input }

-- what is left after an argument: `-` takes the input, and any other argument is opened once
abbrev pub behind : Option (List ℕ) → Openings → Openings
behind None o = o
behind (Some word) o =
    if bytes_eq word (codes "-") then openings o.opened None else openings (o.opened ++ word ∷ []) o.input

-- The source that a word names: the input for `-`, if that is still there, and for any other word one that is opened by
-- it. If there is none, it is one that isn't there.
pub record IsNamed (opens : List ℕ → SourceState → Type 0) (o : Openings) (word : Option (List ℕ))
    (source : SourceState) : Type 0 where
  pub is_none : word ≡ None → source ≡ missing_source 0
  pub is_input : word ≡ Some (codes "-") → source ≡ unwrap_or o.input (missing_source 0)
  pub is_opened : (name : List ℕ) → word ≡ Some name → ¬ (name ≡ codes "-") → opens name source

-- the sources that two arguments name, opened one after the other
pub record AreNamed (opens : List ℕ → SourceState → Type 0) (o : Openings) (first second : Option (List ℕ))
    (at_first at_second : SourceState) : Type 0 where
  pub first_named : IsNamed opens o first at_first
  pub second_named : IsNamed opens (behind first o) second at_second

-- the word of a command line if there is one
abbrev pub only_word : List (List ℕ) → Option (List ℕ)
only_word (word ∷ []) = Some word
only_word words = None

-- the arguments of a command line if they are two
abbrev pub first_of_two : List (List ℕ) → Option (List ℕ)
first_of_two (first ∷ second ∷ []) = Some first
first_of_two words = None

abbrev pub second_of_two : List (List ℕ) → Option (List ℕ)
second_of_two (first ∷ second ∷ []) = Some second
second_of_two words = None

-- This was had over the source that a word names, which was left so. The word was opened once, and no other.
pub record OverNamed (opens : List ℕ → SourceState → Type 0) (before after : Openings) (word : Option (List ℕ))
    (left : SourceState) (Has : Reading → Type 0) : Type 0 where
  pub source : Reading
  pub named : IsNamed opens before word source.before
  pub opened_once : after ≡ behind word before
  pub left_is : source.after ≡ left
  pub has : Has source

-- This was had over the sources that two words name, which were left so. Each word was opened once, one after the other,
-- and no other.
pub record OverTwoNamed (opens : List ℕ → SourceState → Type 0) (before after : Openings) (first second : Option (List ℕ))
    (first_left second_left : SourceState) (Has : Reading → Reading → Type 0) : Type 0 where
  pub one : Reading
  pub other : Reading
  pub named : AreNamed opens before first second one.before other.before
  pub opened_once : after ≡ behind second (behind first before)
  pub one_left : one.after ≡ first_left
  pub other_left : other.after ≡ second_left
  pub has : Has one other
